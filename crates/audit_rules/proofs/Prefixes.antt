-- A prefix of an orderly story is orderly.
use Rattle.std.proofs.Common.{List, ◌∷◌, ◌++◌, ap, ◌∙◌, append_assoc}
use Rattle.tree_specs.specs.Rules.Items.{Item}
use Rattle.tree_specs.specs.Promises.Orderly.{Orderly}

pub prefix_orderly : (items more : List Item) → Orderly (items ++ more) → Orderly items
prefix_orderly items more each = λ before t after e. each before t (after ++ more) (ap (λ (l : List Item). l ++ more) e ∙ append_assoc before (t ∷ after) more)
