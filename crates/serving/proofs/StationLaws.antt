-- A station as a machine that is served.
use std.Path.{fun_ext}
use Rattle.std.proofs.Common.{◌≡◌, ℕ, Bool, true, false, List, [], ◌∷◌, Option, Some, None, Result, Ok, Err, OnOk, refl, sym, ◌∙◌, ap, subst}
use Rattle.std.specs.Option.{option_map}
use Rattle.std.specs.Prelude.{IfSome, IsTrue, nat_lt}
use Rattle.step_machine.specs.Open.{LastIs}
use Rattle.machine_driver.specs.Driver.{with_front}
use Rattle.machine_driver.proofs.Driving.{front-none}
use Rattle.tree_specs.specs.declared.event.Event.{Event}
use Rattle.tree_specs.specs.declared.memory.Memory.{Memory}
use Rattle.tree_specs.specs.declared.question.Ask.{Ask}
use Rattle.tree_specs.specs.declared.question.Ask.TheVariants as ask
use Rattle.tree_specs.specs.declared.question.Input.{Input}
use Rattle.tree_specs.specs.declared.question.Input.TheVariants as inputs
use Rattle.tree_specs.specs.Rules.Items.{IsQuestion}
use Rattle.tree_specs.specs.Machine.View.{question_of}
use Rattle.tree_specs.specs.Tree.Pool.{Pool}
use Rattle.tree_specs.specs.Calls.Refusals.{is_open}
use Rattle.tree_specs.proofs.Tree.Numbered.{by_test}
use Rattle.host_core.specs.Promises.{taken_by, taken_in}
use Rattle.service_rules.specs.Service.{first_of_outside}
use Rattle.service_rules.specs.Suiting.{none_open}
use Rattle.service_rules.specs.Stations.{IsAsked, NextLaw, StationView, TakesAnswer, asked_of, outside_question, question_now, still_to_come, strays_to_come, unborn, unless_own, watched_by, watched_to_come}
use Rattle.service_rules.specs.Stations as stations
use Rattle.service_rules.specs.Watching.{Shown, items_of}
use Rattle.service_rules.proofs.AnswersTaken.{answers-taken}
use Rattle.service_rules.proofs.ReadRanges.{reads-in-range}
use Rattle.service_rules.proofs.Showing.{items-to-come}
use Rattle.service_rules.proofs.Steps.{first-strays, first-watched}
use Rattle.serving.specs.Machines.{Asks, BeginsWith, Course, IsServable, IsThere, Nexts, SameCourse, Takes, is_for_outside, question_shown}
use Rattle.serving.specs.Stations.{IsBegun, service_course, station_course}
use Rattle.serving.proofs.SuitingLaws.{suits_fewer}

-- ---- what is asked

outside-asked : (asked : Option Ask) → IfSome (outside_question asked) (λ q. IsTrue (is_for_outside q))
outside-asked None = tt
outside-asked (Some ask.Quiet) = tt
outside-asked (Some (ask.Routine m)) = each (nat_lt m.routine first_of_outside)
  where
    each : (b : Bool) → IfSome (unless_own b (ask.Routine m)) (λ q. IsTrue (is_for_outside q))
    each true = tt
    each false = refl
outside-asked (Some ask.Clock) = refl
outside-asked (Some (ask.Wait limit)) = refl
outside-asked (Some (ask.Accept fd)) = refl
outside-asked (Some (ask.Read fd most)) = refl
outside-asked (Some (ask.Write fd bytes)) = refl

pub station_asks_outside : (v : StationView) → IfSome (asked_of v) (λ q. IsTrue (is_for_outside q))
station_asks_outside v = outside-asked (question_of v.host)

asked-is : (v : StationView) (a : IsAsked v) (q : Ask) → asked_of v ≡ Some q → a.question ≡ q
asked-is v a q e = let d : Some a.question ≡ Some q = sym a.open_now ∙ e in cc

station-asks : (v : StationView) → IsAsked v → Asks (asked_of v) (watched_by v) (station_course v)
station-asks v a = record {
  open_now = rw a.open_now refl;
  last = λ q e. subst (λ (z : Ask). watched_to_come v [] ≡ Some (question_shown z (watched_by v) ∷ [])) (asked-is v a q e) a.watched_last;
  begins = λ q e i is. let b = a.begins i is in
      subst (λ (z : Ask). BeginsWith (question_shown z (watched_by v)) (watched_to_come v (i ∷ is))) (asked-is v a q e) (record { rest = b.rest; begins = b.begins });
}

-- ---- what is told

station-same : (v w : StationView) → stations.Shows [] v w → SameCourse (station_course v) (station_course w)
station-same v w h = record { story = λ is. h.watched is ∙ front-none (watched_to_come w is); strays = h.strays }

pub station_nexts : (r : Result (Option Event) Memory) (v w : StationView) → NextLaw r v w → Nexts r (asked_of w) (watched_by w) (station_course v) (station_course w)
station_nexts (Ok (Some e)) v w h = record { story = h.watched; strays = h.strays }
station_nexts (Ok None) v w h = (station-asks w h.1, station-same v w h.0)
station_nexts (Err m) v w h = station-same v w h

-- ---- what is taken

-- something is shown where the items end with a question
ends-there : (shown : List Shown) → LastIs IsQuestion (items_of shown) → IsThere shown
ends-there [] h = absurd h
ends-there (s ∷ ss) h = tt

station-takes : (v w : StationView) (i : Input) → TakesAnswer v i w → Takes (asked_of v) (watched_by v) i (station_course v) (station_course w)
station-takes v w i t = record {
  goes_on = λ q e is. subst (λ (z : Ask). watched_to_come v (i ∷ is) ≡ with_front (question_shown z (watched_by v) ∷ []) (watched_to_come w is)) (asked-is v t.asked q e) (t.watched is);
  strays = t.strays;
  settles = t.settles;
  more = λ is shown e.
      ends-there shown (t.ends is (items_of shown) (sym (items-to-come w is) ∙ ap (option_map items_of) e));
}

pub station_takes : {E : Type 0} (r : Result (Unit {0}) E) (v w : StationView) (i : Input) → OnOk r (TakesAnswer v i w) → OnOk r (Takes (asked_of v) (watched_by v) i (station_course v) (station_course w))
station_takes (Ok done) v w i t = station-takes v w i t
station_takes (Err why) v w i t = tt

-- only a descriptor that was accepted is open already
taken_took : (q : Option Ask) (p : Pool) (i : Input) (fd : ℕ) → taken_by q p i ≡ Some fd → i ≡ inputs.Took fd
taken_took (Some (ask.Accept listener)) p i fd e = each i e
  where
    each : (i : Input) → taken_in p i ≡ Some fd → i ≡ inputs.Took fd
    each (inputs.Took n) e = by_test (is_open p n)
        (λ t. let h : Some n ≡ Some fd = rw t at e in ap inputs.Took (let k : n ≡ fd = cc in k))
        (λ t. let h : None ≡ Some fd = rw t at e in cc)
    each _ e = cc
taken_took _ p i fd e = cc

pub station_took : (v : StationView) (i : Input) (fd : ℕ) → taken_by (asked_of v) v.host.pool i ≡ Some fd → i ≡ inputs.Took fd
station_took v i fd e = taken_took (asked_of v) v.host.pool i fd e

-- ---- from the beginning

same-course : (b c : Course) → SameCourse b c → b ≡ c
same-course b c n =
    ap (λ (f : List Input → Option (List Shown)). let x : Course = record { story = f; strays = b.strays } in x) (fun_ext n.story)
    ∙ ap (λ (f : List Input → Bool). let x : Course = record { story = c.story; strays = f } in x) (fun_ext n.strays)

-- a service that was set up goes on as a service does from its beginning
pub begun_station : (v : StationView) → stations.Shows [] unborn v → IsBegun (station_course v)
begun_station v h = record {
  course =
      sym (same-course (station_course unborn) (station_course v) (station-same unborn v h))
      ∙ same-course (station_course unborn) service_course (record { story = first-watched; strays = first-strays });
}

-- and can be served, whatever is open already
pub begun_servable : (c : Course) → IsBegun c → (open_now : ℕ → Bool) → IsServable c open_now
begun_servable c b open_now = subst (λ (d : Course). IsServable d open_now) (sym b.course) (record {
  takes = suits_fewer service_course none_open open_now (λ fd none. cc) answers-taken;
  reads = λ is shown e. reads-in-range is shown e;
})
