-- Where serving stops: at a question, at its line, and after answers that were given before.
use Rattle.std.proofs.Common.{◌≡◌, ◌≢◌, ◌≤◌, ℕ, ◌+◌, List, [], ◌++◌, take, Option, Some, None, Result, Err, refl, sym, ap, ◌∙◌, length-append, arith}
use Rattle.std.specs.Prelude.{flat_map}
use Rattle.std.proofs.lemmas.List.{append_assoc}
use Rattle.std.specs.Io.KnownBytes.{Appends}
use Rattle.std.proofs.KnownBytes.{Appends-trans, Appends-nil}
use Rattle.tree_specs.specs.declared.schedule.Version.TheVariants.{Two}
use Rattle.tree_specs.specs.declared.question.Ask.{Ask}
use Rattle.tree_specs.specs.declared.question.Ask.TheVariants as ask
use Rattle.tree_specs.specs.declared.question.Input.{Input}
use Rattle.tree_specs.specs.declared.wants.Want.{Want}
use Rattle.tree_specs.specs.Texts.Text.{input_text}
use Rattle.outside.specs.LinkCalls.{LinkCall}
use Rattle.outside.specs.Tellings.{Tells}
use Rattle.outside.proofs.TellingLaws.{tells_same, tells_then}
use Rattle.serving.specs.declared.stop.Stop.{Stop}
use Rattle.serving.specs.declared.stop.Stop.TheVariants as stops
use Rattle.machine_driver.specs.Driver.{with_front}
use Rattle.machine_driver.proofs.Driving.{front-front, front-none}
use Rattle.service_rules.specs.Exchanges.{Suits}
use Rattle.serving.specs.Machines.{Course}
use Rattle.serving.specs.Exchanges.{exchanges_in, link_answer, clock_answer, routine_answer, link_part, clock_part, routine_part}
use Rattle.serving.specs.Serving.{Scene, Serves}
use Rattle.serving.specs.Stopping.{Begun, begun_link, begun_clock, begun_routines, begun_line, calls_for, Explains, FailsToAnswer, IsNext, IsOpen, Stops}
use Rattle.serving.specs.Stopping.Begun.{Nothing, FailedWait, Forgotten, Heard}
use Rattle.serving.proofs.ServingLaws.{flat-both, shows_then}

-- no answer was given, and this was begun at the question that is open
stops_at : (b : Begun) (why : Stop) (before after : Scene) → after.course ≡ before.course → IsNext b before.course → Explains b why →
    Tells before.link after.link (begun_link b) → Tells before.clock after.clock (begun_clock b) → Tells before.routines after.routines (begun_routines b) →
    (n : ℕ) → Appends before.out after.out (take n (begun_line b)) → Stops why 0 before after
stops_at b why before after same next reason l c r n o = record {
  given = [];
  done = [];
  shown = [];
  begun = b;
  many = omega arith;
  story = λ is. ap (λ (f : Course). f.story is) (sym same) ∙ sym (front-none (after.course.story is));
  follows = λ is. ap (λ (f : Course). exchanges_in (f.story is) is) (sym same) ∙ sym (front-none (exchanges_in (after.course.story is) is));
  next = rw same next;
  reason = reason;
  link = l;
  clock = c;
  routines = r;
  part = n;
  out = o;
}

-- memory ran out before a question was put
pub stops_here : (s : Scene) → Stops stops.Memory 0 s s
stops_here s = stops_at Nothing stops.Memory s s refl tt refl (tells_same s.link) (tells_same s.clock) (tells_same s.routines) 0 (Appends-nil s.out)

-- the question had no answer that could be kept
pub stops_asking : (why : Stop) (q : Ask) (wanted : List Want) (before after : Scene) → IsOpen q wanted before.course → after.course ≡ before.course →
    FailsToAnswer why q wanted before.link after.link →
    after.clock ≡ before.clock → Tells before.routines after.routines [] → after.out ≡ before.out → Stops why 0 before after
stops_asking why q wanted before after open_now same l c r o = each why q l open_now
  where
    clock : Tells before.clock after.clock []
    clock = rw c (tells_same before.clock)

    out : Appends before.out after.out []
    out = rw o (Appends-nil before.out)

    -- nothing was told of the question, or its answer is lost
    lost : (q : Ask) (i : Option Input) → Tells before.link after.link (calls_for (λ i. link_answer q wanted i) i) → IsOpen q wanted before.course → Stops stops.Memory 0 before after
    lost q None l open_now = stops_at Nothing stops.Memory before after same tt refl l clock r 0 out
    lost q (Some i) l open_now = stops_at (Forgotten q wanted i) stops.Memory before after same open_now refl l clock r 0 out

    failed : (q : Ask) → FailsToAnswer stops.Link q wanted before.link after.link → IsOpen q wanted before.course → Stops stops.Link 0 before after
    failed (ask.Wait limit) l open_now = stops_at (FailedWait wanted limit) stops.Link before after same open_now refl l clock r 0 out
    failed q l open_now = absurd l

    each : (why : Stop) (q : Ask) → FailsToAnswer why q wanted before.link after.link → IsOpen q wanted before.course → Stops why 0 before after
    each stops.Write q l open_now = absurd l
    each stops.Link q l open_now = failed q l open_now
    each stops.Memory q l open_now = lost q l.lost l.told open_now

-- the answer came, and the machine hasn't taken it
pub stops_hearing : (why : Stop) (q : Ask) (wanted : List Want) (i : Input) (before after : Scene) → IsOpen q wanted before.course → after.course ≡ before.course →
    why ≢ stops.Link → Suits q i →
    Tells before.link after.link (link_answer q wanted i) → Tells before.clock after.clock (clock_answer q i) → Tells before.routines after.routines (routine_answer q i) →
    (n : ℕ) → Appends before.out after.out (take n (input_text Two i)) → Stops why 0 before after
stops_hearing why q wanted i before after open_now same w s l c r n o = stops_at (Heard q wanted i) why before after same (open_now, s) w l c r n o

both : {A B : Type 0} (f : A → List B) (xs ys : List A) (zs : List B) → flat_map f (xs ++ ys) ++ zs ≡ flat_map f xs ++ (flat_map f ys ++ zs)
both f xs ys zs = rw (flat-both f xs ys) (append_assoc (flat_map f xs) (flat_map f ys) zs)

-- answers were given before
pub stops_later : (why : Stop) (m n most : ℕ) (a b c : Scene) → m + n ≤ most → Serves m a b → Stops why n b c → Stops why most a c
stops_later why m n most a b c few x y = record {
  given = x.given ++ y.given;
  done = x.done ++ y.done;
  shown = x.shown ++ y.shown;
  begun = y.begun;
  many = rw (length-append x.given y.given, x.many) (omega (arith, few, y.many));
  story = shows_then x.given y.given x.shown y.shown a.course b.course c.course x.story y.story;
  follows = λ is.
      ap (λ (js : List Input). exchanges_in (a.course.story js) js) (append_assoc x.given y.given is)
      ∙ x.follows (y.given ++ is)
      ∙ ap (with_front x.done) (y.follows is)
      ∙ front-front x.done y.done (exchanges_in (c.course.story is) is);
  next = y.next;
  reason = y.reason;
  link = rw (both link_part x.done y.done (begun_link y.begun)) (tells_then a.link b.link c.link (flat_map link_part x.done) (flat_map link_part y.done ++ begun_link y.begun) x.link y.link);
  clock = rw (both clock_part x.done y.done (begun_clock y.begun)) (tells_then a.clock b.clock c.clock (flat_map clock_part x.done) (flat_map clock_part y.done ++ begun_clock y.begun) x.clock y.clock);
  routines = rw (both routine_part x.done y.done (begun_routines y.begun)) (tells_then a.routines b.routines c.routines (flat_map routine_part x.done) (flat_map routine_part y.done ++ begun_routines y.begun) x.routines y.routines);
  part = y.part;
  out = rw (both (input_text Two) x.given y.given (take y.part (begun_line y.begun))) (Appends-trans a.out b.out c.out (flat_map (input_text Two) x.given) (flat_map (input_text Two) y.given ++ take y.part (begun_line y.begun)) x.out y.out);
}

-- there is no memory for an answer
pub forgets : {T : Type 0} (why : Stop) (q : Ask) (wanted : List Want) (i : Input) (old new : Option (List LinkCall)) →
    ◌≡◌ {A = Result T Stop} (Err why) (Err stops.Memory) → Tells old new (link_answer q wanted i) → FailsToAnswer why q wanted old new
forgets why q wanted i old new e told = let same : why ≡ stops.Memory = cc in rw same (record { lost = Some i; told = told })

-- what there is no memory for doesn't stop at the link
pub memory_not_link : {T : Type 0} (why : Stop) → ◌≡◌ {A = Result T Stop} (Err why) (Err stops.Memory) → why ≢ stops.Link
memory_not_link why e w = let same : why ≡ stops.Memory = cc in let wrong : stops.Link ≡ stops.Memory = sym w ∙ same in cc
