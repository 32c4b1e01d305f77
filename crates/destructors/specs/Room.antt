-- The room for works that the open frees want, so that it can be taken before anything changes. An object that is asked, or prepared,
-- has its place in the work that waits for this, so that a free which begins meanwhile wants no more.
use Rattle.std.specs.Prelude.{ℕ, ◌+◌, nat_eq, List, [], ◌∷◌, length, if◌then◌else◌}
use Rattle.tree_specs.specs.declared.row.Row.{Row}
use Rattle.tree_specs.specs.declared.row.Mark.{Mark}
use Rattle.tree_specs.specs.declared.row.Mark.TheVariants.{Quiet, Asked, Busy, Doomed, Dying}
use Rattle.tree_specs.specs.declared.frame.FreeFrame.{FreeFrame}
use Rattle.tree_specs.specs.declared.frame.FreeFrame.TheVariants.{Hooked, Judged, Preparing, Draining, Prepared, Leaving, Looping, AfterChild}
use Rattle.tree_specs.specs.Tree.Inside.{total}

-- a row whose freeing has still to come wants one place
abbrev pub mark_places : Mark → ℕ
mark_places Quiet = 1
mark_places Busy = 1
mark_places Doomed = 1
mark_places Asked = 0
mark_places (Dying former) = 0

abbrev pub row_places : Row → ℕ
row_places r = mark_places r.mark

-- what the innermost work itself may put below another
abbrev pub work_places : FreeFrame → ℕ
work_places (Hooked x h) = 1
work_places (Judged x h v) = 1
work_places (Preparing x) = 1
work_places (Draining x) = 1
work_places (Prepared x) = 1
work_places (Leaving x h) = if nat_eq h 0 then 0 else 1
work_places (Looping x purpose) = 1
work_places (AfterChild x c noted purpose a) = 1
work_places f = 0

-- the works that may still come to stand, with those that stand below the innermost; with no free open, those of one that begins
abbrev pub wanted : List FreeFrame → List Row → ℕ
wanted [] rows = total row_places rows
wanted (f ∷ fs) rows = length fs + work_places f + total row_places rows
