-- An answer that suits its question is taken, where it is of no descriptor that is known to be open.
use Rattle.std.proofs.Common.{◌≡◌, ℕ, ◌<◌, Bool, true, false, Some, None, refl, sym, ◌∙◌, eq-eqb, arith}
use Rattle.std.specs.Prelude.{◌^◌, ◌&&◌, not, nat_lt, nat_le, List, [], ◌∷◌, length, if◌then◌else◌}
use Rattle.std.proofs.lemmas.Bool.Decides.{nat_tests}
use Rattle.tree_specs.specs.declared.reply.Reply.{Reply}
use Rattle.tree_specs.specs.declared.reply.Reply.TheVariants as reply
use Rattle.tree_specs.specs.declared.question.Act.TheVariants as act
use Rattle.tree_specs.specs.declared.question.Ask.{Ask}
use Rattle.tree_specs.specs.declared.question.Ask.TheVariants as ask
use Rattle.tree_specs.specs.declared.question.Input.{Input}
use Rattle.tree_specs.specs.declared.question.Input.TheVariants as input
use Rattle.tree_specs.specs.declared.frame.Frame.{Frame}
use Rattle.tree_specs.specs.declared.frame.Frame.TheVariants as frame
use Rattle.tree_specs.specs.declared.frame.CallFrame.TheVariants.{Asking}
use Rattle.tree_specs.specs.declared.frame.TurnFrame.TheVariants.{Timing, Polling}
use Rattle.tree_specs.specs.declared.frame.OutsideFrame.TheVariants.{Reaching}
use Rattle.tree_specs.specs.Calls.Refusals.{is_open}
use Rattle.tree_specs.specs.Calls.Given.Given.{Opens, Answers}
use Rattle.tree_specs.specs.Rules.Answers.{told_outside}
use Rattle.tree_specs.specs.Texts.Schedule.{unless_given}
use Rattle.tree_specs.specs.Tree.Pool.{Pool}
use Rattle.tree_specs.specs.Words.Octets.{is_octets}
use Rattle.tree_specs.specs.Words.Ranges.{is_sound_call, is_return, is_time, is_routine}
use Rattle.tree_specs.specs.Words.Wants.{is_wants}
use Rattle.tree_specs.specs.Machine.Profiles.{profile}
use Rattle.tree_specs.specs.Machine.Table.{taken, doing, returning, timed_turn, looked_turn, opening_one, hearing_one}
use Rattle.tree_specs.specs.Invariants.Consistent.{Server, server, IsBy, IsStacked}
use Rattle.tree_specs.specs.Invariants.Consistent.Server.{ByRun, ByTurn, ByRequest, ByFree}
use Rattle.tree_specs.proofs.Calls.Checks.{both-true}
use Rattle.tree_specs.proofs.Calls.Plans.{IsOutside}
use Rattle.tree_specs.proofs.Tree.Numbered.{by_test}
use Rattle.service_rules.specs.Exchanges.{Suits}
use Rattle.service_rules.proofs.Works.{IsWork, work-carries}
use Rattle.service_rules.proofs.OpenDescriptors.{AllKnown, known_with, Expects, carries-expects}

-- a descriptor that is accepted isn't known to be open
abbrev pub IsNew : (ℕ → Bool) → Input → Type 0
IsNew known (input.Took fd) = known fd ≡ false
IsNew known i = Unit {0}

-- it is taken, and what it leads to expects what is known then
abbrev pub Taken : (ℕ → Bool) → Frame → Pool → Input → Type 0
Taken known f p i = (g : Frame) × (taken f p i ≡ Some g) × Expects (known_with known i) p g

if-true : {A : Type 0} (b : Bool) (a : A) → b ≡ true → (if b then Some a else None) ≡ Some a
if-true b a t = rw t refl

-- ---- callers

abbrev pub IsOfCaller : Ask → Type 0
IsOfCaller ask.Quiet = Unit {0}
IsOfCaller (ask.Routine m) = Unit {0}
IsOfCaller q = ⊥

-- what stands on another work as a caller is a routine
pub caller : (q : Ask) (fs : List Frame) → IsStacked (frame.Call (Asking q)) fs → IsOfCaller q
caller q [] s = each q s
  where
    each : (q : Ask) → IsStacked (frame.Call (Asking q)) [] → IsOfCaller q
    each ask.Quiet s = tt
    each _ s = absurd s
caller q (g ∷ gs) s = each q (server (profile g).waits) s.0
  where
    each : (q : Ask) (w : Server) → IsBy w (frame.Call (Asking q)) → IsOfCaller q
    each (ask.Routine m) w b = tt
    each _ ByRun b = absurd b
    each _ ByTurn b = absurd b
    each _ ByRequest b = absurd b
    each _ ByFree b = absurd b

module _ (known : ℕ → Bool) (p : Pool) where
  caller-takes : (q : Ask) → IsOfCaller q → (i : Input) → Suits q i → Taken known (frame.Call (Asking q)) p i
  caller-takes ask.Quiet o (input.Call c) s = (doing ask.Quiet c, if-true (is_sound_call c) (doing ask.Quiet c) s.sound, tt)
  caller-takes (ask.Routine m) o (input.Act (act.Do c)) s = (doing (ask.Routine m) c, if-true (is_sound_call c) (doing (ask.Routine m) c) s.sound, tt)
  caller-takes (ask.Routine m) o (input.Act (act.Ret v)) s = (returning v, if-true (is_return v) (returning v) s.sound, tt)
  caller-takes ask.Quiet o _ s = let bad = s.fits in cc
  caller-takes (ask.Routine m) o _ s = let bad = s.fits in cc
  caller-takes _ o i s = absurd o

  pub asking-takes : (q : Ask) (fs : List Frame) → IsStacked (frame.Call (Asking q)) fs → (i : Input) → Suits q i → Taken known (frame.Call (Asking q)) p i
  asking-takes q fs s = caller-takes q (caller q fs s)

  -- ---- turns

  pub timing-takes : (again : Bool) (i : Input) → Suits ask.Clock i → Taken known (frame.Turn (Timing again)) p i
  timing-takes again (input.Clock now) s = (timed_turn again now, if-true (is_time now) (timed_turn again now) s.sound, tt)
  timing-takes again _ s = let bad = s.fits in cc

  pub polling-takes : (limit most : ℕ) → ((i : Input) (g : Frame) → taken (frame.Turn (Polling most)) p i ≡ Some g → IsWork g) → (i : Input) → Suits (ask.Wait limit) i → Taken known (frame.Turn (Polling most)) p i
  polling-takes limit most works (input.Ready wants) s =
      let g : Frame = looked_turn p wants in
      let e : taken (frame.Turn (Polling most)) p (input.Ready wants) ≡ Some g = if-true (is_wants wants) g s.sound in
      (g, e, carries-expects known p g (work-carries g (works (input.Ready wants) g e)))
  polling-takes limit most works _ s = let bad = s.fits in cc

  -- ---- the outside

  -- what isn't known to be open isn't
  closed : AllKnown known p.descriptors → (fd : ℕ) → is_routine fd ≡ true → known fd ≡ false → is_open p fd ≡ false
  closed all fd number new =
      let b = both-true (nat_lt 0 fd) (nat_lt fd (2 ^ 32)) number in
      let positive : 0 < fd = (let t : nat_lt 0 fd ≡ true = b.0 in grind (arith, nat_tests)) in
      by_test (is_open p fd) (λ t. let bad : true ≡ false = sym (all fd positive t) ∙ new in cc) (λ t. t)

  opens-new : (fd : ℕ) → is_routine fd ≡ true → is_open p fd ≡ false → told_outside p opening_one hearing_one (Some (Opens fd)) ≡ Some (opening_one fd)
  opens-new fd number closed = if-true (is_routine fd && not (is_open p fd)) (opening_one fd) (rw (number, closed) refl)

  -- so many bytes
  some-bytes : (b : Bool) (r : Reply) → unless_given (if b then Some (Answers r) else None) ≡ None → told_outside p opening_one hearing_one (if b then Some (Answers r) else None) ≡ Some (hearing_one r)
  some-bytes true r fits = refl
  some-bytes false r fits = cc

  pub reaching-takes : AllKnown known p.descriptors → (q : Ask) → IsOutside q → (i : Input) → Suits q i → IsNew known i → Taken known (frame.Outside (Reaching q)) p i
  reaching-takes all ask.Clock o (input.Clock now) s new = (hearing_one (reply.Number now), if-true (is_time now) (hearing_one (reply.Number now)) s.sound, tt)
  reaching-takes all (ask.Accept fd) o (input.Took accepted) s new = (opening_one accepted, opens-new accepted s.sound (closed all accepted s.sound new), rw (eq-eqb accepted accepted refl) refl)
  reaching-takes all (ask.Accept fd) o input.Again s new = (hearing_one reply.Again, refl, tt)
  reaching-takes all (ask.Accept fd) o input.Fault s new = (hearing_one reply.Fault, refl, tt)
  reaching-takes all (ask.Read fd most) o (input.Got bytes) s new = (hearing_one (reply.Bytes bytes), some-bytes (is_octets bytes && nat_le (length bytes) most) (reply.Bytes bytes) s.fits, tt)
  reaching-takes all (ask.Read fd most) o input.End s new = (hearing_one reply.End, refl, tt)
  reaching-takes all (ask.Read fd most) o input.Again s new = (hearing_one reply.Again, refl, tt)
  reaching-takes all (ask.Read fd most) o input.Fault s new = (hearing_one reply.Fault, refl, tt)
  reaching-takes all (ask.Write fd bytes) o (input.Wrote n) s new = (hearing_one (reply.Number n), some-bytes (nat_le 1 n && nat_le n (length bytes)) (reply.Number n) s.fits, tt)
  reaching-takes all (ask.Write fd bytes) o input.Again s new = (hearing_one reply.Again, refl, tt)
  reaching-takes all (ask.Write fd bytes) o input.Fault s new = (hearing_one reply.Fault, refl, tt)
  reaching-takes all ask.Quiet o i s new = absurd o
  reaching-takes all (ask.Routine m) o i s new = absurd o
  reaching-takes all (ask.Wait limit) o i s new = absurd o
  reaching-takes all _ o _ s new = let bad = s.fits in cc
