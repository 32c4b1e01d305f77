use Rattle.std.proofs.Common.{None}
use Rattle.tree_specs.proofs.Rules.TextLaws.{all-lawful}
use Rattle.tree_specs.proofs.laws.a_free_waits_for_each_of_its_inputs.Goals as goal

pub returns : goal.returns
returns c = λ n x p q is left a told e. ((all-lawful n).frees.free x p None).uses is a q told left e
