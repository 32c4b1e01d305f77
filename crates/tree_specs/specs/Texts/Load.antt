-- Large schedules, each made from a number, and what is printed of the transcript of one.
use Rattle.std.specs.Prelude.{ℕ, zero, suc, ◌+◌, ◌*◌, ◌/◌, ◌%◌, ◌==◌, nat_eq, nat_lt, Bool, if◌then◌else◌, List, [], ◌∷◌, ◌++◌, drop, flat_map, fold, count_by, codes}
use Rattle.std.specs.Fmt.{decimal}
use Rattle.std.specs.List.{starts_with}
use Rattle.tree_specs.specs.declared.object.Obj.{Obj}
use Rattle.tree_specs.specs.declared.object.Owner.{Owner}
use Rattle.tree_specs.specs.declared.object.Owner.TheVariants.{Root}
use Rattle.tree_specs.specs.declared.call.Call.{Call}
use Rattle.tree_specs.specs.declared.call.Call.TheVariants.{New, Free, Steal, Reference, Unlink, Count}
use Rattle.tree_specs.specs.declared.question.Input.TheVariants as inputs
use Rattle.tree_specs.specs.declared.schedule.Mode.TheVariants.{Pool}
use Rattle.tree_specs.specs.declared.schedule.Version.TheVariants.{One}
use Rattle.tree_specs.specs.Words.Objects.{numbered_owner}
use Rattle.tree_specs.specs.Texts.Text.{newline, input_text}
use Rattle.tree_specs.specs.Texts.Lines.{lines}
use Rattle.tree_specs.specs.Texts.Schedule.{header_text}

-- ---- draws

-- the state of the draws is below this
abbrev pub state_limit : ℕ
state_limit = 2147483648

-- the state before the first draw
abbrev pub seeded : ℕ → ℕ
seeded number = number % state_limit

-- a draw replaces the state
abbrev pub next_state : ℕ → ℕ
next_state x = (x * 1103515245 + 12345) % state_limit

-- and gives the new one divided by 65,536
abbrev pub drawn : ℕ → ℕ
drawn x = x / 65536

-- the first draws, so many, from this state on
abbrev pub draws : ℕ → ℕ → List ℕ
draws zero x = []
draws (suc k) x = drawn (next_state x) ∷ draws k (next_state x)

-- ---- calls

-- where a schedule stands between two calls
pub record Place : Type 0 where
  -- of the draws
  pub state : ℕ
  -- how many lines with `new` there are so far
  pub made : ℕ

-- the three draws that the next call takes
abbrev pub first_draw : Place → ℕ
first_draw p = drawn (next_state p.state)

abbrev pub second_draw : Place → ℕ
second_draw p = drawn (next_state (next_state p.state))

abbrev pub third_draw : Place → ℕ
third_draw p = drawn (next_state (next_state (next_state p.state)))

-- which of eight kinds the next call is
abbrev pub kind : Place → ℕ
kind p = first_draw p % 8

abbrev pub makes_object : Place → Bool
makes_object p = nat_lt (kind p) 4

-- an owner: the root, or a number that an object may have
abbrev pub owner_drawn : Place → Owner
owner_drawn p = numbered_owner (second_draw p % (p.made + 1))

-- an object that may be there
abbrev pub object_drawn : Place → Obj
object_drawn p = record { 0 = 1 + third_draw p % (p.made + 1) }

-- the next call
abbrev pub call_drawn : Place → Call
call_drawn p =
    if makes_object p then New (owner_drawn p) (third_draw p % 1000) (codes "n") else
    if kind p == 4 then Steal (owner_drawn p) (object_drawn p) else
    if kind p == 5 then Free (object_drawn p) else
    if kind p == 6 then Reference (owner_drawn p) (object_drawn p) else
    Unlink (owner_drawn p) (object_drawn p)

abbrev pub after_call : Place → Place
after_call p = record {
  state = next_state (next_state (next_state p.state));
  made = if makes_object p then p.made + 1 else p.made;
}

-- so many calls from this place on, and one that counts the objects
abbrev pub calls_from : ℕ → Place → List Call
calls_from zero p = Count Root ∷ []
calls_from (suc k) p = call_drawn p ∷ calls_from k (after_call p)

-- ---- schedules

abbrev pub first_place : ℕ → Place
first_place number = record { state = seeded number; made = 0 }

-- the calls of the schedule that is made from a number, with so many before the last
abbrev pub load_calls : ℕ → ℕ → List Call
load_calls number count = calls_from count (first_place number)

-- each call as its line
abbrev pub calls_text : List Call → List ℕ
calls_text calls = flat_map (λ c. input_text One (inputs.Call c)) calls

-- the schedule as bytes, in the first version: none of its calls says a context
abbrev pub load_schedule : ℕ → ℕ → List ℕ
load_schedule number count = header_text One Pool ++ newline ++ calls_text (load_calls number count)

-- ---- what is printed of a transcript

abbrev pub begins_with : List ℕ → List ℕ → Bool
begins_with front line = starts_with nat_eq line front

-- how many lines begin so
abbrev pub lines_with : List ℕ → List ℕ → ℕ
lines_with front transcript = count_by (λ line. begins_with front line.text) (lines transcript)

-- the last line that begins so
abbrev pub last_line_with : List ℕ → List ℕ → List ℕ
last_line_with front transcript = fold (λ last line. if begins_with front line.text then line.text else last) [] (lines transcript)

-- what the last reply has after `reply `
abbrev pub last_reply : List ℕ → List ℕ
last_reply transcript = drop 6 (last_line_with (codes "reply ") transcript)

-- a name and a value, as a line
abbrev pub named : List ℕ → List ℕ → List ℕ
named name value = name ++ value ++ newline

-- The five lines: how many calls were drawn, how many were refused, how many objects were freed and how many references
-- dropped, and how many objects are left, which is what the last call replies.
abbrev pub five_lines : ℕ → List ℕ → List ℕ
five_lines count transcript =
    named (codes "calls ") (decimal count)
    ++ named (codes "refused ") (decimal (lines_with (codes "reply no ") transcript))
    ++ named (codes "freed ") (decimal (lines_with (codes "freed ") transcript))
    ++ named (codes "dropped ") (decimal (lines_with (codes "unreferenced ") transcript))
    ++ named (codes "live ") (last_reply transcript)
