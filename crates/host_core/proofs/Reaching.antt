-- The answer to a question of the outside: what is still to do of it, and the reply that it is.
use Rattle.std.proofs.Common.{◌≡◌, ℕ, Bool, true, false, List, Option, Some, None, refl, sym, ◌∙◌, ap}
use Rattle.std.specs.Prelude.{◌&&◌, not, nat_le, length, is_none, if◌then◌else◌}
use Rattle.step_machine.specs.Machine.{Move as Do}
use Rattle.tree_specs.specs.declared.frame.Answer.TheVariants as answered
use Rattle.tree_specs.specs.declared.question.Ask.{Ask}
use Rattle.tree_specs.specs.declared.question.Ask.TheVariants as ask
use Rattle.tree_specs.specs.declared.question.Input.{Input}
use Rattle.tree_specs.specs.declared.question.Input.TheVariants as input
use Rattle.tree_specs.specs.declared.reply.Reply.{Reply}
use Rattle.tree_specs.specs.declared.reply.Reply.TheVariants as reply
use Rattle.tree_specs.specs.declared.frame.Frame.TheVariants as frame
use Rattle.tree_specs.specs.declared.frame.OutsideFrame.{OutsideFrame}
use Rattle.tree_specs.specs.declared.frame.OutsideFrame.TheVariants.{Reaching, Hearing}
use Rattle.tree_specs.specs.Tree.Pool.{Pool}
use Rattle.tree_specs.specs.Words.Octets.{is_octets}
use Rattle.tree_specs.specs.Words.Ranges.{is_sound, is_routine}
use Rattle.tree_specs.specs.Calls.Given.{Given}
use Rattle.tree_specs.specs.Calls.Given.Given.{Answers}
use Rattle.tree_specs.specs.Calls.Refusals.{is_open}
use Rattle.tree_specs.specs.Rules.Answers.{later, told_outside}
use Rattle.tree_specs.specs.Texts.Schedule.{unless_given, misfit}
use Rattle.tree_specs.specs.Machine.Table.{outside_step, outside_taken, hearing_one, opening_one}
use Rattle.host_core.specs.Moves.{reply_of}
use Rattle.host_core.specs.Callers.{remembers}
use Rattle.host_core.specs.Promises.{taken_in}
use Rattle.host_core.specs.Reaches.{outside_given_by, outside_given, IsOutside, IsShortAnswer, short_answer, pool_heard, remembered}

-- ---- which answer it takes

-- a descriptor that was accepted has a number in its range, and isn't open
opens : (a b : Bool) (fd : ℕ) → a ≡ true → (if b then Some fd else None) ≡ None → (if a && not b then Some (opening_one fd) else None) ≡ Some (opening_one fd)
opens a true fd e none = cc
opens a false fd e none = rw e refl

-- bytes that were read, and how many were written, have fitted
answers : (b : Bool) (r : Reply) → (let g : Option Given = if b then Some (Answers r) else None in unless_given g ≡ None) → (if b then Some (Answers r) else None) ≡ Some (Answers r)
answers true r m = refl
answers false r m = cc

read_given : (most : ℕ) (bytes : List ℕ) (fd : ℕ) → misfit (Some (ask.Read fd most)) (input.Got bytes) ≡ None → outside_given (ask.Read fd most) (input.Got bytes) ≡ Hearing (reply.Bytes bytes)
read_given most bytes fd m = ap (outside_given_by (ask.Read fd most)) (answers (is_octets bytes && nat_le (length bytes) most) (reply.Bytes bytes) m)

wrote_given : (bytes : List ℕ) (fd n : ℕ) → misfit (Some (ask.Write fd bytes)) (input.Wrote n) ≡ None → outside_given (ask.Write fd bytes) (input.Wrote n) ≡ Hearing (reply.Number n)
wrote_given bytes fd n m = ap (outside_given_by (ask.Write fd bytes)) (answers (nat_le 1 n && nat_le n (length bytes)) (reply.Number n) m)

-- what an answer that fits leaves to do
pub outside-answered : (q : Ask) (p : Pool) (i : Input) → IsOutside q → misfit (Some q) i ≡ None → is_sound i ≡ true → taken_in p i ≡ None → outside_taken (Reaching q) p i ≡ Some (frame.Outside (outside_given q i))
outside-answered ask.Clock p (input.Clock now) o m s none = rw s refl
outside-answered (ask.Accept listener) p (input.Took fd) o m s none = opens (is_routine fd) (is_open p fd) fd s none
outside-answered (ask.Accept listener) p input.Again o m s none = refl
outside-answered (ask.Accept listener) p input.Fault o m s none = refl
outside-answered (ask.Read fd most) p (input.Got bytes) o m s none =
    ap (told_outside p opening_one hearing_one) (answers (is_octets bytes && nat_le (length bytes) most) (reply.Bytes bytes) m) ∙ ap (λ (f : OutsideFrame). Some (frame.Outside f)) (sym (read_given most bytes fd m))
outside-answered (ask.Read fd most) p input.End o m s none = refl
outside-answered (ask.Read fd most) p input.Again o m s none = refl
outside-answered (ask.Read fd most) p input.Fault o m s none = refl
outside-answered (ask.Write fd bytes) p (input.Wrote n) o m s none =
    ap (told_outside p opening_one hearing_one) (answers (nat_le 1 n && nat_le n (length bytes)) (reply.Number n) m) ∙ ap (λ (f : OutsideFrame). Some (frame.Outside f)) (sym (wrote_given bytes fd n m))
outside-answered (ask.Write fd bytes) p input.Again o m s none = refl
outside-answered (ask.Write fd bytes) p input.Fault o m s none = refl
outside-answered ask.Quiet p i o m s none = absurd o
outside-answered (ask.Routine moment) p i o m s none = absurd o
outside-answered (ask.Wait limit) p i o m s none = absurd o
outside-answered _ p i o m s none = cc

-- ---- the reply that it is

-- an answer that takes no memory
pub heard-step : (q : Ask) (i : Input) (p : Pool) → IsShortAnswer i → misfit (Some q) i ≡ None → outside_step (outside_given q i) p ≡ Do.Done (answered.Heard (reply_of (short_answer i))) (pool_heard i p)
heard-step ask.Clock (input.Clock now) p short m = refl
heard-step (ask.Accept listener) (input.Took fd) p short m = refl
heard-step (ask.Accept listener) input.Again p short m = refl
heard-step (ask.Accept listener) input.Fault p short m = refl
heard-step (ask.Read fd most) input.End p short m = refl
heard-step (ask.Read fd most) input.Again p short m = refl
heard-step (ask.Read fd most) input.Fault p short m = refl
heard-step (ask.Write fd bytes) (input.Wrote n) p short m = ap (λ (f : OutsideFrame). outside_step f p) (wrote_given bytes fd n m)
heard-step (ask.Write fd bytes) input.Again p short m = refl
heard-step (ask.Write fd bytes) input.Fault p short m = refl
heard-step q (input.Call c) p short m = absurd short
heard-step q (input.Act a) p short m = absurd short
heard-step q (input.Ready wants) p short m = absurd short
heard-step q (input.Got bytes) p short m = absurd short
heard-step _ _ p short m = cc

-- bytes that were read
pub read-step : (q : Ask) (bytes : List ℕ) (p : Pool) → misfit (Some q) (input.Got bytes) ≡ None → outside_step (outside_given q (input.Got bytes)) p ≡ Do.Done (answered.Heard (reply.Bytes bytes)) p
read-step (ask.Read fd most) bytes p m = ap (λ (f : OutsideFrame). outside_step f p) (read_given most bytes fd m)
read-step _ bytes p m = cc

-- a routine has the copy that it remembers
pub kept : (q : Ask) (r : Reply) → remembers q (remembered q r) ≡ later q r
kept (ask.Routine moment) r = refl
kept ask.Quiet r = refl
kept ask.Clock r = refl
kept (ask.Wait limit) r = refl
kept (ask.Accept fd) r = refl
kept (ask.Read fd most) r = refl
kept (ask.Write fd bytes) r = refl

pub no-reason : {A : Type 0} (o : Option A) → is_none o ≡ true → o ≡ None
no-reason None e = refl
no-reason (Some x) e = cc
