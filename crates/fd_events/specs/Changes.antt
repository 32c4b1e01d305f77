-- The history of the rotation, which proofs alone read.
use Rattle.std.specs.Prelude.{List, [], ◌∷◌, ◌++◌, fold}
use Rattle.tree_specs.specs.declared.object.Obj.{Obj}
use Rattle.tree_specs.specs.declared.watch.Watch.{Watch}
use Rattle.tree_specs.specs.Events.Contexts.{without_context}
use Rattle.tree_specs.specs.Events.Rotation.{unwatched, rewatched, flagged, closing, turned_back}
use Rattle.fd_events.specs.declared.change.Change.{Change}
use Rattle.fd_events.specs.declared.change.Change.TheVariants.{Joins, Leaves, SetsFlags, SetsClosing, Turns, Loses, Opens, Closes}
use Rattle.fd_events.specs.Rotation.{lost_one}

-- how each event watches after a change
abbrev pub changed : List Watch → Change → List Watch
changed ws (Joins w) = ws ++ w ∷ []
changed ws (Leaves x) = unwatched ws x
changed ws (SetsFlags x flags) = rewatched (flagged flags) ws x
changed ws (SetsClosing x) = rewatched closing ws x
changed ws (Turns x) = turned_back ws x
changed ws (Loses x) = lost_one ws x
changed ws (Opens c) = ws
changed ws (Closes c) = ws

-- the contexts after a change
abbrev pub recontexted : List Obj → Change → List Obj
recontexted cs (Opens c) = c ∷ cs
recontexted cs (Closes c) = without_context cs c
recontexted cs change = cs

abbrev pub watches_of : List (Change × Unit {0}) → List Watch
watches_of changes = fold (λ ws e. changed ws e.0) [] changes

abbrev pub contexts_of : List (Change × Unit {0}) → List Obj
contexts_of changes = fold (λ cs e. recontexted cs e.0) [] changes
