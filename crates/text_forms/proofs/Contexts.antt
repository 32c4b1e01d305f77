-- A call's fields in each version: those of the first one, and the context behind them where one is said.
use Rattle.std.proofs.Common.{◌≡◌, ◌++◌, refl}
use Rattle.tree_specs.specs.declared.call.Call.{Call}
use Rattle.tree_specs.specs.declared.call.Call.TheVariants.{Free}
use Rattle.tree_specs.specs.declared.schedule.Version.{Version}
use Rattle.tree_specs.specs.declared.schedule.Version.TheVariants.{One, Two}
use Rattle.tree_specs.specs.Calls.Spelling.{spelling}
use Rattle.text_forms.specs.Contexts.{said_context}

pub same_verb : (v : Version) (c : Call) → (spelling v c).verb ≡ (spelling One c).verb
same_verb v (Free x) = refl
same_verb v _ = refl

pub fields_said : (v : Version) (c : Call) → (spelling v c).fields ≡ (spelling One c).fields ++ said_context v c
fields_said One (Free x) = refl
fields_said One _ = refl
fields_said Two (Free x) = refl
fields_said Two _ = refl
