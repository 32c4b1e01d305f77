use Rattle.std.proofs.Common.{refl}
use Rattle.destructors.proofs.laws.a_destructor_may_return_alone.Goals as goal

pub returns : goal.returns
returns c = λ x h v p fits. rw fits refl
