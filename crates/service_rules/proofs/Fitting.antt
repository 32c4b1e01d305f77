-- The service's own answers fit, so that nothing doesn't fit where the outside answers nothing.
use Rattle.std.proofs.Common.{◌≡◌, ℕ, List, [], ◌∷◌, Option, Some, None, refl, ◌∙◌, ap, subst, inl, inr, Bool, true, false}
use Rattle.std.specs.Prelude.{nat_lt, if◌then◌else◌}
use Rattle.step_machine.specs.Machine.{Move, silent}
use Rattle.step_machine.specs.Machine.{Move as Do}
use Rattle.machine_driver.specs.Driver.{filled}
use Rattle.machine_driver.specs.Seen.{seen_move}
use Rattle.machine_driver.proofs.Fitting.{StraysBy, TakesOwn, KeepsBy, AnswersFit, Fits, own-answers-fit}
use Rattle.tree_specs.specs.declared.frame.Frame.{Frame}
use Rattle.tree_specs.specs.declared.frame.Answer.{Answer}
use Rattle.tree_specs.specs.declared.moment.Moment.{Moment}
use Rattle.tree_specs.specs.declared.question.Ask.{Ask}
use Rattle.tree_specs.specs.declared.question.Ask.TheVariants as ask
use Rattle.tree_specs.specs.declared.question.Input.{Input}
use Rattle.tree_specs.specs.Rules.Items.{Item}
use Rattle.tree_specs.specs.Rules.Items.Item.{Told, Asked}
use Rattle.tree_specs.specs.Rules.Answers.{heard as takes}
use Rattle.tree_specs.specs.Words.Ranges.{is_sound_call}
use Rattle.tree_specs.specs.Tree.Pool.{Pool}
use Rattle.tree_specs.specs.Machine.Table.{table, step, taken, resume, doing, returning}
use Rattle.tree_specs.specs.Machine.View.{View, strays_of}
use Rattle.tree_specs.specs.Invariants.Consistent.{IsConsistent}
use Rattle.tree_specs.proofs.Calls.Checks.{Heard, heard-leads}
use Rattle.tree_stories.specs.Sights.{Opening, seen_table, sights_of}
use Rattle.tree_stories.proofs.Outsides.{AsksOutside, LeadsOutside, IsAskedBy, IsOfNoCaller, outside-kept}
use Rattle.tree_stories.proofs.Stories.{at, IsWhole, tale, tells}
use Rattle.tree_stories.proofs.Strays.{unanswered, event-strays, question-strays, silent-strays}
use Rattle.service_rules.specs.Knowledge.{Knowledge, Setup}
use Rattle.service_rules.specs.Knowledge.Setup.{Nothing, Unwatched, Complete}
use Rattle.service_rules.specs.Routines.{Next, next_act}
use Rattle.service_rules.specs.Routines.Next.{Does, Returns}
use Rattle.service_rules.specs.Service.{station, own_of, at_rest, answer_of, done_if, own_if, first_of_outside}
use Rattle.service_rules.specs.Stations.{strays_with}

-- ---- its own answers fit

-- a frame that is led to by this answer
abbrev IsTaken : Ask → Input → Type 0
IsTaken q i = (g : Frame) × (takes q (doing q) returning i ≡ Some g)

quiet-fits : (s : Setup) (d : Knowledge) → IsTaken ask.Quiet (at_rest (record d { setup = s })).0
quiet-fits Nothing d = (_, refl)
quiet-fits Unwatched d = (_, refl)
quiet-fits Complete d = (_, refl)

next-fits : (m : Moment) (n : Next) → IsTaken (ask.Routine m) (answer_of n).0
next-fits m (Returns d) = (_, refl)
next-fits m (Does c t d) = each (is_sound_call c) refl
  where
    each : (b : Bool) → is_sound_call c ≡ b → IsTaken (ask.Routine m) (done_if b c t d).0
    each false e = (_, refl)
    each true e = (doing (ask.Routine m) c, ap (λ (b : Bool). if b then Some (doing (ask.Routine m) c) else None) e)

own-fits : (d : Knowledge) (o : Opening) (q : Ask) (a : Input × Knowledge) → own_of d o q ≡ Some a → IsTaken q a.0
own-fits d o ask.Quiet a e = let e' : at_rest d ≡ a = cc in subst (λ (z : Input × Knowledge). IsTaken ask.Quiet z.0) e' (quiet-fits d.setup d)
own-fits d o (ask.Routine m) a e = each (nat_lt m.routine first_of_outside) e
  where
    each : (b : Bool) → own_if b (next_act d o.pool m) ≡ Some a → IsTaken (ask.Routine m) a.0
    each true e = let k : answer_of (next_act d o.pool m) ≡ a = cc in subst (λ (z : Input × Knowledge). IsTaken (ask.Routine m) z.0) k (next-fits m (next_act d o.pool m))
    each false e = cc
own-fits d o _ a e = cc

-- and are given to callers alone
own-asked : (d : Knowledge) (o : Opening) (q : Ask) (a : Input × Knowledge) → own_of d o q ≡ Some a → IsOfNoCaller q → ⊥
own-asked d o ask.Quiet a e k = k
own-asked d o (ask.Routine m) a e k = k
own-asked d o _ a e k = cc

-- so each is taken, and leads to a call or to the end of a routine's run
pub own-taken : (d : Knowledge) (p : Pool) (q : Ask) (f : Frame) (r : Pool) → IsAskedBy (Asked q) f → (a : Input × Knowledge) → own_of d (record { ask = q; pool = p }) q ≡ Some a → (g : Frame) × (taken f r a.0 ≡ Some g) × Heard q g
own-taken d p q f r by a e = elim by [ inl is ↦ (fits.0, ap (λ (z : Frame). taken z r a.0) is ∙ fits.1, heard-leads q a.0 fits.0 fits.1) | inr other ↦ absurd (own-asked d opening q a e other) ]
  where
    opening : Opening
    opening = record { ask = q; pool = p }

    fits : (g : Frame) × (takes q (doing q) returning a.0 ≡ Some g)
    fits = own-fits d opening q a e

-- ---- so nothing doesn't fit

abbrev K : Frame → List Frame → Pool → Type 0
K f fs p = AsksOutside f

abbrev strays : Frame → List Frame → Pool → List Input → Bool
strays f fs p is = strays_of (at f fs p) is

strays-by : (v : View) (m : Move Frame Answer Pool Item) (fs : List Frame) → IsConsistent v → step v.innermost v.pool ≡ m → v.below ≡ fs → StraysBy seen_table station IsWhole tale K strays (strays_of v) (seen_move v.pool m) fs
strays-by v (Do.Done a p) [] h e d = tt
strays-by v (Do.Done a p) (g ∷ gs) h e d = λ is. silent-strays v (record { now = resume g a; below = gs; pool = p }) is h (ap (λ (m : Move Frame Answer Pool Item). silent table m v.below) e ∙ ap (silent table (Do.Done a p)) d)
strays-by v (Do.Go f p) fs h e d = λ is. silent-strays v (record { now = f; below = fs; pool = p }) is h (ap (λ (m : Move Frame Answer Pool Item). silent table m v.below) e ∙ ap (silent table (Do.Go f p)) d)
strays-by v (Do.Call g f p) fs h e d = λ is. silent-strays v (record { now = g; below = f ∷ fs; pool = p }) is h (ap (λ (m : Move Frame Answer Pool Item). silent table m v.below) e ∙ ap (silent table (Do.Call g f p)) d)
strays-by v (Do.Emit x f p) fs h e d = λ is. event-strays v x f p is h e ∙ ap (λ (z : List Frame). strays f z p is) d
strays-by v (Do.Wait x f p) fs h e d = λ i g t is. question-strays v x f g p i is h e t ∙ ap (λ (z : List Frame). strays g z p is) d

takes-own : (p : Pool) (q : Ask) (f : Frame) (r : Pool) → IsAskedBy (Asked q) f → TakesOwn seen_table station IsWhole tale K strays (record { item = Asked q; before = p }) f r
takes-own p q f r by d o a kind e = (y.0, y.1)
  where
    opening : Opening
    opening = record { ask = q; pool = p }

    same : opening ≡ o
    same = cc

    y : (g : Frame) × (taken f r a.0 ≡ Some g) × Heard q g
    y = own-taken d p q f r by a (ap (λ (z : Opening). own_of d z z.ask) same ∙ e)

keeps-by : (v : View) (m : Move Frame Answer Pool Item) (fs : List Frame) → LeadsOutside m fs → KeepsBy seen_table station IsWhole tale K strays (seen_move v.pool m) fs
keeps-by v (Do.Done a p) [] o = tt
keeps-by v (Do.Done a p) (g ∷ gs) o = o
keeps-by v (Do.Go f p) fs o = o
keeps-by v (Do.Call g f p) fs o = o
keeps-by v (Do.Emit (Told t) f p) fs o = (o.1, λ q k. cc)
keeps-by v (Do.Emit (Asked t) f p) fs o = absurd o.0
keeps-by v (Do.Wait (Told t) f p) fs o = absurd o.0
keeps-by v (Do.Wait (Asked t) f p) fs o = (o.1, takes-own v.pool t f p o.0, λ e k. cc)

fit : AnswersFit seen_table station IsWhole tale K strays
fit = record {
  none = λ f fs p. unanswered (at f fs p);
  goes = λ f fs p h. strays-by (at f fs p) (step f p) fs h refl refl;
  keeps = λ f fs p h k. keeps-by (at f fs p) (step f p) fs (outside-kept f fs p h k);
}

-- from any moment of a host on, whatever is known then
pub rest-fits : (n : ℕ) (d : Knowledge) (v : View) → IsConsistent v → AsksOutside v.innermost → strays_with v (filled station n d (sights_of v) []) ≡ false
rest-fits n d v whole asks = each (filled station n d (sights_of v) []) (own-answers-fit seen_table station IsWhole tale K strays tells fit n d v.innermost v.below v.pool whole asks)
  where
    each : (o : Option (List Input)) → Fits seen_table station IsWhole tale K strays tells fit (strays_of v) o → strays_with v o ≡ false
    each None h = refl
    each (Some is) h = h
