-- The event contexts that there are: the first one, and a list of the others.
use Rattle.std.specs.Prelude.{Bool, ◌||◌, not, is_some, if◌then◌else◌, List, ◌∷◌}
use Rattle.std.specs.List.{find, filter}
use Rattle.tree_specs.specs.declared.object.Obj.{Obj}
use Rattle.tree_specs.specs.Words.Objects.{same, first_context}

-- the first one always is there
abbrev pub has_context : List Obj → Obj → Bool
has_context cs c = same first_context c || is_some (find (λ d. same d c) cs)

abbrev pub with_context : List Obj → Obj → List Obj
with_context cs c = if has_context cs c then cs else c ∷ cs

abbrev pub without_context : List Obj → Obj → List Obj
without_context cs c = filter (λ d. not (same d c)) cs
