-- Worked examples: schedules with the first line of each that is refused, and why. A call that the host refuses is no such line.
use Rattle.std.specs.Prelude.{ℕ, List, [], ◌∷◌, Option, Some, None, codes}
use Rattle.tree_specs.specs.declared.schedule.Reason.{Reason}
use Rattle.tree_specs.specs.declared.schedule.Reason.TheVariants.{Form, NotAsked, Token}
use Rattle.tree_specs.specs.Texts.Schedule.{judge}
use Prim.Native.String.{String}

-- a schedule, and its first flaw
abbrev pub Judged : Type 0
Judged = String × Option (ℕ × Reason)

-- what the rules say of the schedule
abbrev pub judgement : Judged → Option (ℕ × Reason)
judgement judged = judge (codes judged.0)

-- what they are to say
abbrev pub flaw : Judged → Option (ℕ × Reason)
flaw judged = judged.1

abbrev pub flaws : List Judged
flaws =
    -- no bytes, and no LF at the end
    ("", Some (1, Form)) ∷
    ("tv schedule 1 pool\ncall new 0 0 a\ncall fre", Some (3, Form)) ∷
    -- a number that begins with 0
    ("tv schedule 1 pool\ncall new 0 01 a\n", Some (2, Form)) ∷
    -- a time that is too late, in a call and in an answer, and a timer with no routine
    ("tv schedule 1 pool\ncall timer 0 4611686018427387905 16 0\n", Some (2, Form)) ∷
    ("tv schedule 1 pool\ncall now\nclock 4611686018427387905\n", Some (3, Form)) ∷
    ("tv schedule 1 pool\ncall timer 0 7 0 0\n", Some (2, Form)) ∷
    -- descriptors that don't rise, and flags that aren't 1 to 3
    ("tv schedule 1 pool\ncall turn\nready 5:3 3:1\n", Some (3, Form)) ∷
    ("tv schedule 1 pool\ncall turn\nready 3:0\n", Some (3, Form)) ∷
    ("tv schedule 1 pool\ncall turn\nready 0:4\n", Some (3, Form)) ∷
    -- an answer to no question, and one with more bytes than were asked for
    ("tv schedule 1 pool\nclock 7\n", Some (2, NotAsked)) ∷
    ("tv schedule 1 pool\ncall read 0 2\ngot 616263\n", Some (3, NotAsked)) ∷
    -- bytes in upper case
    ("tv schedule 1 pool\ncall write 0 AB\n", Some (2, Form)) ∷
    -- a descriptor that is open
    ("tv schedule 1 pool\ncall accept 0\ntook 5\ncall accept 0\ntook 5\n", Some (5, Token)) ∷
    -- one field more
    ("tv schedule 1 pool\ncall pending 1\n", Some (2, Form)) ∷
    ("tv schedule 1 pool\ncall free 1\n", None) ∷
    -- no context, one in the first version, one that is made in it, and numbers that are none
    ("tv schedule 2 pool\ncall turn\n", Some (2, Form)) ∷
    ("tv schedule 1 pool\ncall turn 0\n", Some (2, Form)) ∷
    ("tv schedule 1 pool\ncall context 0\n", Some (2, Form)) ∷
    ("tv schedule 2 pool\ncall turn 18446744073709551616\n", Some (2, Form)) ∷
    ("tv schedule 2 pool\ncall timer 0 7 16 0 00\n", Some (2, Form)) ∷
    ("tv schedule 2 pool\ncall timer 0 7 16 0 0\ncall turn 0\n", None) ∷
    ("tv schedule 2 pool\ncall context 0\ncall turn 1\ncall turn 18446744073709551615\n", Some (4, NotAsked)) ∷
    -- another version
    ("tv schedule 3 pool\ncall free 1\n", Some (1, Form)) ∷
    []
