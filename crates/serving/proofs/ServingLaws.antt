-- Runs of the serving loop, one after another.
use Rattle.std.proofs.Common.{◌≡◌, ℕ, ◌+◌, false, true, subst, List, [], ◌∷◌, ◌++◌, Option, Some, None, refl, sym, ap, ◌∙◌, length-append, arith}
use Rattle.std.specs.Prelude.{flat_map}
use Rattle.std.proofs.lemmas.List.{append-nil, append_assoc}
use Rattle.std.proofs.lemmas.List.Folds.{list_all-append}
use Rattle.std.specs.Io.KnownBytes.{Appends}
use Rattle.std.proofs.KnownBytes.{Appends-trans, Appends-nil}
use Rattle.tree_specs.specs.declared.schedule.Version.TheVariants.{Two}
use Rattle.tree_specs.specs.declared.event.Event.{Event}
use Rattle.tree_specs.specs.declared.event.Event.TheVariants as events
use Rattle.tree_specs.specs.declared.moment.Moment.{Moment}
use Rattle.tree_specs.specs.declared.question.Ask.{Ask}
use Rattle.tree_specs.specs.declared.question.Act.{Act}
use Rattle.tree_specs.specs.declared.question.Input.{Input}
use Rattle.tree_specs.specs.declared.wants.Want.{Want}
use Rattle.tree_specs.specs.Texts.Text.{input_text}
use Rattle.outside.specs.declared.sink.Done.TheVariants as ends
use Rattle.outside.specs.LinkCalls.{LinkCall}
use Rattle.outside.specs.LinkCalls.LinkCall.{Listen}
use Rattle.outside.specs.Tellings.{Tells}
use Rattle.outside.proofs.TellingLaws.{tells_same, tells_then}
use Rattle.machine_driver.specs.Driver.{with_front}
use Rattle.machine_driver.specs.Driver.Kind.{Event as AnEvent}
use Rattle.machine_driver.proofs.Driving.{front-front, front-none}
use Rattle.service_rules.specs.Exchanges.{Exchange, Suits, closing, exchanges}
use Rattle.service_rules.specs.Exchanges.Exchange.{Answered}
use Rattle.service_rules.specs.Watching.{Shown}
use Rattle.service_records.specs.Records.{AllFit, has_ranges, record_header}
use Rattle.serving.specs.Exchanges.{exchanges_in, link_answer, clock_answer, routine_answer, link_part, clock_part, routine_part}
use Rattle.serving.specs.Machines.{Asks, Course, SameCourse, Takes, TellsNext, line_course, question_shown}
use Rattle.serving.specs.Serving.{Scene, Serves, Shows, ShowsOver, IsServed}
use Rattle.serving.proofs.FittingLaws.{answer_fits, event_fits, same_fits}

pub flat-both : {A B : Type 0} (f : A → List B) (xs ys : List A) → flat_map f (xs ++ ys) ≡ flat_map f xs ++ flat_map f ys
flat-both f [] ys = refl
flat-both f (x ∷ xs) ys = rw (flat-both f xs ys) (sym (append_assoc (f x) (flat_map f xs) (flat_map f ys)))

-- ---- a story that may not be there

-- the first exchanges of a story
pub event_first : (e : Event) (story : Option (List Shown)) (is : List Input) → exchanges_in (with_front (AnEvent e ∷ []) story) is ≡ with_front (closing e) (exchanges_in story is)
event_first e None is = refl
event_first e (Some shown) is = refl

pub answer_first : (q : Ask) (wanted : List Want) (i : Input) (story : Option (List Shown)) (is : List Input)
    → exchanges_in (with_front (question_shown q wanted ∷ []) story) (i ∷ is) ≡ with_front (Answered q wanted i ∷ []) (exchanges_in story is)
answer_first q wanted i None is = refl
answer_first q wanted i (Some shown) is = refl

-- what is shown over some answers, and then over more
pub shows_then : (given more : List Input) (first next : List Shown) (a b c : Course) → ShowsOver given first a b → ShowsOver more next b c → ShowsOver (given ++ more) (first ++ next) a c
shows_then given more first next a b c x y = λ is.
    ap (λ (js : List Input). a.story js) (append_assoc given more is)
    ∙ x (more ++ is)
    ∙ ap (with_front first) (y is)
    ∙ front-front first next (c.story is)

-- ---- events

pub shows_nothing : (course : Course) (told : Option (List LinkCall)) → Shows course course told told
shows_nothing course told = record {
  done = [];
  shown = [];
  story = λ is. sym (front-none (course.story is));
  follows = λ is. sym (front-none (exchanges_in (course.story is) is));
  fits = λ is fit. fit;
  link = tells_same told;
  clock = refl;
  routines = refl;
}

pub closing_tells_no_time : (e : Event) → (flat_map clock_part (closing e) ≡ []) × (flat_map routine_part (closing e) ≡ [])
closing_tells_no_time (events.Closed fd) = (refl, refl)
closing_tells_no_time e = (refl, refl)

-- one more event
pub shows_more : (a b c : Course) (k l m : Option (List LinkCall)) (e : Event) → Shows a b k l → TellsNext e b c → Tells l m (flat_map link_part (closing e)) → Shows a c k m
shows_more a b c k l m e s n t = record {
  done = s.done ++ closing e;
  shown = s.shown ++ AnEvent e ∷ [];
  story = shows_then [] [] s.shown (AnEvent e ∷ []) a b c s.story n.story;
  follows = λ is.
      s.follows is
      ∙ ap (λ (o : Option (List Shown)). with_front s.done (exchanges_in o is)) (n.story is)
      ∙ ap (with_front s.done) (event_first e (c.story is) is)
      ∙ front-front s.done (closing e) (exchanges_in (c.story is) is);
  fits = λ is fit. s.fits is (event_fits e b c n is fit);
  link = rw (flat-both link_part s.done (closing e)) (tells_then k l m (flat_map link_part s.done) (flat_map link_part (closing e)) s.link t);
  clock = rw (flat-both clock_part s.done (closing e), s.clock) ((closing_tells_no_time e).0);
  routines = rw (flat-both routine_part s.done (closing e), s.routines) ((closing_tells_no_time e).1);
}

-- the same story goes on
pub shows_same : (a b c : Course) (k l : Option (List LinkCall)) → Shows a b k l → SameCourse b c → Shows a c k l
shows_same a b c k l s n = record {
  done = s.done;
  shown = s.shown;
  story = λ is. s.story is ∙ ap (with_front s.shown) (n.story is);
  follows = λ is. s.follows is ∙ ap (λ (o : Option (List Shown)). with_front s.done (exchanges_in o is)) (n.story is);
  fits = λ is fit. s.fits is (same_fits b c n is fit);
  link = s.link;
  clock = s.clock;
  routines = s.routines;
}

-- ---- answers

pub serves_nothing : (s : Scene) → Serves 0 s s
serves_nothing s = record {
  given = [];
  done = [];
  shown = [];
  many = refl;
  story = λ is. sym (front-none (s.course.story is));
  follows = λ is. sym (front-none (exchanges_in (s.course.story is) is));
  fits = λ is fit. fit;
  sound = refl;
  link = tells_same s.link;
  clock = tells_same s.clock;
  routines = tells_same s.routines;
  out = Appends-nil s.out;
}

pub serves_then : (m n : ℕ) (a b c : Scene) → Serves m a b → Serves n b c → Serves (m + n) a c
serves_then m n a b c x y = record {
  given = x.given ++ y.given;
  done = x.done ++ y.done;
  shown = x.shown ++ y.shown;
  many = rw (length-append x.given y.given, x.many, y.many) refl;
  story = shows_then x.given y.given x.shown y.shown a.course b.course c.course x.story y.story;
  follows = λ is.
      ap (λ (js : List Input). exchanges_in (a.course.story js) js) (append_assoc x.given y.given is)
      ∙ x.follows (y.given ++ is)
      ∙ ap (with_front x.done) (y.follows is)
      ∙ front-front x.done y.done (exchanges_in (c.course.story is) is);
  fits = λ is fit. subst (AllFit (line_course a.course)) (sym (append_assoc x.given y.given is)) (x.fits (y.given ++ is) (y.fits is fit));
  sound = list_all-append has_ranges x.given y.given ∙ rw (x.sound, y.sound) refl;
  link = rw (flat-both link_part x.done y.done) (tells_then a.link b.link c.link (flat_map link_part x.done) (flat_map link_part y.done) x.link y.link);
  clock = rw (flat-both clock_part x.done y.done) (tells_then a.clock b.clock c.clock (flat_map clock_part x.done) (flat_map clock_part y.done) x.clock y.clock);
  routines = rw (flat-both routine_part x.done y.done) (tells_then a.routines b.routines c.routines (flat_map routine_part x.done) (flat_map routine_part y.done) x.routines y.routines);
  out = rw (flat-both (input_text Two) x.given y.given) (Appends-trans a.out b.out c.out (flat_map (input_text Two) x.given) (flat_map (input_text Two) y.given) x.out y.out);
}

-- events between two answers
pub serves_shown : (before after : Scene) → Shows before.course after.course before.link after.link → after.clock ≡ before.clock → after.routines ≡ before.routines → after.out ≡ before.out → Serves 0 before after
serves_shown before after s c r o = record {
  given = [];
  done = s.done;
  shown = s.shown;
  many = refl;
  story = s.story;
  follows = s.follows;
  fits = s.fits;
  sound = refl;
  link = s.link;
  clock = rw (c, s.clock) (tells_same before.clock);
  routines = rw (r, s.routines) (tells_same before.routines);
  out = rw o (Appends-nil before.out);
}

-- one answer
pub serves_one : (before after : Scene) (question : Option Ask) (q : Ask) (wanted : List Want) (i : Input) → question ≡ Some q →
    Asks question wanted before.course → Takes question wanted i before.course after.course → Suits q i → has_ranges i ≡ true →
    Tells before.link after.link (link_answer q wanted i) → Tells before.clock after.clock (clock_answer q i) → Tells before.routines after.routines (routine_answer q i) →
    Appends before.out after.out (input_text Two i) → Serves 1 before after
serves_one before after question q wanted i asked asks takes suits ranges l c r o = record {
  given = i ∷ [];
  done = Answered q wanted i ∷ [];
  shown = question_shown q wanted ∷ [];
  many = refl;
  story = takes.goes_on q asked;
  follows = λ is.
      ap (λ (o : Option (List Shown)). exchanges_in o (i ∷ is)) (takes.goes_on q asked is)
      ∙ answer_first q wanted i (after.course.story is) is;
  fits = λ is fit. answer_fits q wanted i before.course after.course (asks.last q asked) suits.fits (takes.goes_on q asked) takes.strays takes.settles takes.more is fit;
  sound = rw ranges refl;
  link = rw (append-nil (link_answer q wanted i)) l;
  clock = rw (append-nil (clock_answer q i)) c;
  routines = rw (append-nil (routine_answer q i)) r;
  out = rw (append-nil (input_text Two i)) o;
}

-- one answer more, and the events behind it
pub serves_round : (n : ℕ) (a b c d : Scene) → Serves n a b → Serves 1 b c → Serves 0 c d → Serves (n + 1) a d
serves_round n a b c d x y z =
    let same : (n + 1) + 0 ≡ n + 1 = omega arith in
    subst (λ (k : ℕ). Serves k a d) same (serves_then (n + 1) 0 a c d (serves_then n 1 a b c x y) z)

-- ---- a whole run

-- where a question is open and no answer comes there is nothing to do
nothing_left : (question : Option Ask) (wanted : List Want) (course : Course) → Asks question wanted course → exchanges_in (course.story []) [] ≡ Some []
nothing_left None wanted course a = absurd (let h : false ≡ true = a.open_now in cc)
nothing_left (Some q) wanted course a = rw (a.last q refl) refl

-- a story with these exchanges is there
there : (story : Option (List Shown)) (is : List Input) (done : List Exchange) → exchanges_in story is ≡ Some done → (shown : List Shown) × (story ≡ Some shown) × (exchanges shown is ≡ done)
there None is done e = cc
there (Some shown) is done e = (shown, refl, cc)

-- the link listens, the header is put, and the answers follow
pub served_whole : (path : List ℕ) (answers : ℕ) (before begun after : Scene) (question : Option Ask) (wanted : List Want) →
    begun.course ≡ before.course → Tells before.link begun.link (Listen path ends.Done ∷ []) → begun.clock ≡ before.clock → begun.routines ≡ before.routines →
    Appends before.out begun.out record_header → Serves answers begun after → Asks question wanted after.course → IsServed path answers before after
served_whole path answers before begun after question wanted e l c r o s a =
    let over : exchanges_in (before.course.story s.given) s.given ≡ Some s.done =
    ap (λ (f : Course). exchanges_in (f.story s.given) s.given) (sym e)
    ∙ ap (λ (is : List Input). exchanges_in (begun.course.story is) is) (sym (append-nil s.given))
    ∙ s.follows []
    ∙ ap (with_front s.done) (nothing_left question wanted after.course a)
    ∙ ap Some (append-nil s.done) in
    let t = there (before.course.story s.given) s.given s.done over in
    record {
      given = s.given;
      many = s.many;
      shown = t.0;
      story = t.1;
      fits = subst (λ (f : Course). AllFit (line_course f) s.given) e (subst (AllFit (line_course begun.course)) (append-nil s.given) (s.fits [] tt));
      sound = s.sound;
      link = rw t.2 (tells_then before.link begun.link after.link (Listen path ends.Done ∷ []) (flat_map link_part s.done) l s.link);
      clock = rw t.2 (subst (λ (t : Option (List ℕ)). Tells t after.clock (flat_map clock_part s.done)) c s.clock);
      routines = rw t.2 (subst (λ (t : Option (List (Moment × Act))). Tells t after.routines (flat_map routine_part s.done)) r s.routines);
      out = Appends-trans before.out begun.out after.out record_header (flat_map (input_text Two) s.given) o s.out;
    }
