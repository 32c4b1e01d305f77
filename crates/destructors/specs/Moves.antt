-- What the code calls a move, and what a move rests on.
use Rattle.std.specs.Prelude.{◌≡◌, Option, None, true, false}
use Rattle.step_machine.specs.Machine.{Move as Do}
use Rattle.tree_specs.specs.declared.object.Obj.{Obj}
use Rattle.tree_specs.specs.declared.object.Owner.{Owner}
use Rattle.tree_specs.specs.declared.object.Owner.TheVariants.{Of}
use Rattle.tree_specs.specs.declared.frame.FreeFrame.{FreeFrame}
use Rattle.tree_specs.specs.declared.frame.FreeFrame.TheVariants.{Unlinking, Releasing, Giving, Beginning, Hooked, Judged, Preparing, Draining, Prepared, Dooming, Leaving, Looping, FreeingChild, AfterChild, Ending}
use Rattle.tree_specs.specs.declared.frame.Purpose.TheVariants.{Removal, Emptying}
use Rattle.tree_specs.specs.declared.row.Mark.TheVariants as mark
use Rattle.tree_specs.specs.Tree.Pool.{Pool, is_row, is_below, owner_of, target_at, is_dying, set_mark}
use Rattle.tree_specs.specs.Tree.Heirs.{heir}
use Rattle.tree_specs.specs.Machine.FreeTable.{FreeMove}
use Rattle.tree_links.specs.Links.{MayPlace}
use Rattle.destructors.specs.declared.motion.Motion.{Motion}
use Rattle.destructors.specs.declared.motion.Motion.TheVariants.{Ends, Goes, Tells, Waits, Pushes}
use Rattle.destructors.specs.declared.motion.Outlook.{Outlook}
use Rattle.destructors.specs.declared.motion.Outlook.TheVariants.{Telling, Ending as Over, Going, Pushing}

abbrev pub move_of : Motion → Pool → FreeMove
move_of (Ends a) p = Do.Done a p
move_of (Goes f) p = Do.Go f p
move_of (Tells t f) p = Do.Emit t f p
move_of (Waits t f) p = Do.Wait t f p
move_of (Pushes g f) p = Do.Call g f p

-- what can be said of a move before it is made
abbrev pub outlook_of : FreeMove → Outlook
outlook_of (Do.Done a p) = Over a
outlook_of (Do.Go f p) = Going f
outlook_of (Do.Emit t f p) = Telling
outlook_of (Do.Wait t f p) = Telling
outlook_of (Do.Call g f p) = Pushing g f

-- an object that is live and may be changed
abbrev pub IsLiveRow : Pool → Obj → Type 0
IsLiveRow p x = (is_row p.rows x ≡ true) × (is_dying p.rows x ≡ false)

-- what a move that tells nothing does to the objects: one that is to be asked, or to be prepared, is marked so, and one that was
-- prepared is quiet again
abbrev pub entered : FreeFrame → FreeFrame → Pool → Pool
entered (Prepared x) next p = set_mark p x mark.Quiet
entered work (Hooked x h) p = set_mark p x mark.Asked
entered work (Preparing x) p = set_mark p x mark.Asked
entered work (Draining x) p = set_mark p x mark.Asked
entered work next p = p

abbrev pub MayEnter : FreeFrame → FreeFrame → Pool → Type 0
MayEnter (Prepared x) next p = IsLiveRow p x
MayEnter work (Hooked x h) p = IsLiveRow p x
MayEnter work (Preparing x) p = IsLiveRow p x
MayEnter work (Draining x) p = IsLiveRow p x
MayEnter work next p = Unit {0}

-- a child that is to be handed on may be put below its heir
abbrev pub MayHandOn : Pool → Obj → Obj → Option Owner → Type 0
MayHandOn p x c noted = is_below (owner_of p.rows c) (Of x) ≡ true → MayPlace p.rows c (heir p.rows x c noted)

-- what a move rests on
abbrev pub MoveRests : FreeFrame → Pool → Type 0
MoveRests (Unlinking o x) p = Unit {0}
MoveRests (Releasing x) p = Unit {0}
MoveRests (Giving x o) p = MayPlace p.rows x o
MoveRests (Beginning x) p = Unit {0}
MoveRests (Hooked x h) p = Unit {0}
MoveRests (Judged x h v) p = IsLiveRow p x
MoveRests (Preparing x) p = Unit {0}
MoveRests (Draining x) p = Unit {0}
MoveRests (Prepared x) p = IsLiveRow p x
MoveRests (Dooming x) p = Unit {0}
MoveRests (Leaving x h) p = IsLiveRow p x
MoveRests (Looping x (Removal h)) p = (is_dying p.rows x ≡ true) × (target_at p.rows x ≡ None)
MoveRests (Looping x Emptying) p = Unit {0}
MoveRests (FreeingChild x c noted purpose) p = Unit {0}
MoveRests (AfterChild x c noted purpose a) p = MayHandOn p x c noted
MoveRests (Ending a) p = Unit {0}
