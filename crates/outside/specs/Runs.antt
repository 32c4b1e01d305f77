-- What routines tell, and which acts those in memory give.
use Rattle.std.specs.Prelude.{List, [], ◌∷◌, Result, Ok, Err}
use Rattle.tree_specs.specs.declared.memory.Memory.{Memory}
use Rattle.tree_specs.specs.declared.moment.Moment.{Moment}
use Rattle.tree_specs.specs.declared.question.Act.{Act}
use Rattle.tree_specs.specs.declared.question.Act.TheVariants.{Ret}

-- a moment is told with its act; one at which no memory was found isn't told
abbrev pub answer_acts : Moment → Result Act Memory → List (Moment × Act)
answer_acts m (Ok act) = (m, act) ∷ []
answer_acts m (Err e) = []

-- the act that comes next, and the return of 0 where there is none
abbrev pub next_act : List Act → Act
next_act [] = Ret 0
next_act (act ∷ more) = act
