-- The history of the times, which proofs alone read.
use Rattle.std.specs.Prelude.{List, [], ◌∷◌, fold}
use Rattle.tree_specs.specs.declared.object.Obj.{Obj}
use Rattle.tree_specs.specs.declared.due.Due.{Due}
use Rattle.tree_specs.specs.Events.Pending.{put_in, disarmed}
use Rattle.tree_specs.specs.Events.Contexts.{without_context}
use Rattle.timers.specs.declared.change.Change.{Change}
use Rattle.timers.specs.declared.change.Change.TheVariants.{Enters, Leaves, Opens, Closes}

-- the times after a change
abbrev pub changed : List Due → Change → List Due
changed ds (Enters d) = put_in d ds
changed ds (Leaves x) = disarmed ds x
changed ds (Opens c) = ds
changed ds (Closes c) = ds

-- the contexts after a change
abbrev pub recontexted : List Obj → Change → List Obj
recontexted cs (Enters d) = cs
recontexted cs (Leaves x) = cs
recontexted cs (Opens c) = c ∷ cs
recontexted cs (Closes c) = without_context cs c

abbrev pub dues_of : List (Change × Unit {0}) → List Due
dues_of changes = fold (λ ds e. changed ds e.0) [] changes

abbrev pub contexts_of : List (Change × Unit {0}) → List Obj
contexts_of changes = fold (λ cs e. recontexted cs e.0) [] changes
