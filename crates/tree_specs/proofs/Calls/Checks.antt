-- What it means that no refusal applies, and that an input fits.
use Rattle.std.proofs.Common.{◌≡◌, ◌≢◌, ℕ, suc, zero, arith, List, [], ◌∷◌, ◌++◌, length, Option, Some, None, Bool, true, false, refl, sym, ◌∙◌, ap, subst, ◌⊎◌, inl, inr}
use Rattle.std.specs.Prelude.{◌+◌, ◌^◌, ◌&&◌, is_some, not, nat_lt, nat_le}
use Rattle.std.proofs.lemmas.Bool.{eqb-true}
use Rattle.std.proofs.lemmas.Bool.Decides.{nat_tests}
use Rattle.tree_specs.specs.declared.object.Obj.{Obj}
use Rattle.tree_specs.specs.declared.object.Owner.{Owner}
use Rattle.tree_specs.specs.declared.object.Owner.TheVariants.{Root, Of}
use Rattle.tree_specs.specs.declared.row.Row.{Row}
use Rattle.tree_specs.specs.declared.row.Mark.{Mark}
use Rattle.tree_specs.specs.declared.row.Mark.TheVariants.{Quiet, Dying}
use Rattle.tree_specs.specs.declared.call.Call.{Call}
use Rattle.tree_specs.specs.declared.reply.Reply.{Reply}
use Rattle.tree_specs.specs.declared.reply.Reply.TheVariants.{Number, Bytes, No}
use Rattle.tree_specs.specs.declared.reply.Refusal.{Refusal}
use Rattle.tree_specs.specs.declared.reply.Refusal.TheVariants.{Dying as IsDyingRefusal, WrongKind, NotParent, Loop, TooBig, Full, Spent, Nested}
use Rattle.tree_specs.specs.Words.Objects.{first_context, same, same_owner}
use Rattle.tree_specs.specs.declared.question.Ask.{Ask}
use Rattle.tree_specs.specs.declared.question.Ask.TheVariants as ask
use Rattle.tree_specs.specs.declared.question.Act.TheVariants as act
use Rattle.tree_specs.specs.declared.question.Input.{Input}
use Rattle.tree_specs.specs.declared.question.Input.TheVariants as input
use Rattle.tree_specs.specs.declared.frame.Frame.{Frame}
use Rattle.tree_specs.specs.Tree.Targets.{target_of, is_reference}
use Rattle.tree_specs.specs.Tree.Pool.{Pool, row_of, is_object_row, is_owner, is_below, owner_of, newest_ref_of, reaches, is_inside, is_usable_row, is_context_row}
use Rattle.tree_specs.specs.Tree.Reports.{count_refs}
use Rattle.tree_specs.specs.Calls.Given.{Given, given_to}
use Rattle.tree_specs.specs.Calls.Given.Given.{Calls, Returns, Tells, IsReady, Opens, Answers}
use Rattle.tree_specs.specs.declared.test.Test.{Test}
use Rattle.tree_specs.specs.Calls.Plans.{Change, Plan, plan, planned, replies, unless_refused, frees, handed, planned_at}
use Rattle.tree_specs.specs.Calls.Plans.Change.{Nothing, Place}
use Rattle.tree_specs.specs.Calls.Plans.Plan.{Does, Works}
use Rattle.tree_specs.specs.Calls.Refusals.{of_kind, context, Check, tests, refusals, refuse_if, refusal_of, refused, size_limit, row_limit, object_row, object, owner, room, apart, interested, given_by, is_running_mark, is_open, is_nested}
use Rattle.tree_specs.specs.declared.test.Test.TheVariants.{IsContext, IsSmall, IsObject, IsOwner, IsPlain, IsImmediate, IsDescriptor, IsRequest, IsReferable, IsOpen, IsUnwatched, HasRoom, HasNumber, IsInProgress, IsFinished, MayFail, Fits, MayGrow, IsNotDying, IsNotDoomed, IsNotRunning, IsNotInside, IsUnheld, IsUnreferenced, IsInterested, MayGive, IsQueue, IsMovable, IsNotGoing}
use Rattle.tree_specs.specs.Calls.Passed.{Interest, AsOwner, AsHolder, Gives, Itself, ItsRef, IsUsable, First, Stays, Passed, AllPassed}
use Rattle.tree_specs.specs.Invariants.Sound.{IsLive, MayBePlaced}
use Rattle.tree_specs.specs.Words.Ranges.{is_sound_call, is_return, is_routine, is_time}
use Rattle.tree_specs.specs.Words.Octets.{is_octets}
use Rattle.tree_specs.specs.Words.Wants.{is_wants}
use Rattle.tree_specs.specs.declared.wants.Want.{Want}
use Rattle.tree_specs.specs.Machine.Table.{doing, returning, opening_one, hearing_one}
use Rattle.tree_specs.specs.Rules.Answers.{heard, led, clocked, told_time, polled, told_ready, reached, told_outside}
use Rattle.tree_specs.specs.Invariants.Consistent.{IsOfRoutine}
use Rattle.tree_specs.proofs.Tree.Numbered.{by_test, same_owner-equal}

-- where no check of two applies, neither does
pub both-none : (first second : Check) → first ++ second ≡ [] → (first ≡ []) × (second ≡ [])
both-none [] second e = (refl, e)
both-none (why ∷ first) second e = cc

pub refuse_if-none : (b : Bool) (why : Refusal) → refuse_if b why ≡ [] → b ≡ false
refuse_if-none true why e = cc
refuse_if-none false why e = refl

pub not-false : (b : Bool) → not b ≡ false → b ≡ true
not-false true e = refl
not-false false e = cc

pub not-true : (b : Bool) → not b ≡ true → b ≡ false
not-true true e = cc
not-true false e = refl

pub both-true : (a b : Bool) → (a && b) ≡ true → (a ≡ true) × (b ≡ true)
both-true true b e = (refl, e)
both-true false b e = cc

-- no reference refers to nothing
refers-none : (o : Option Obj) → is_some o ≡ false → o ≡ None
refers-none None e = refl
refers-none (Some t) e = cc

-- ---- a test that isn't refused is passed

pub passes-object : (p : Pool) (x : Obj) → object p x ≡ [] → Passed p (IsObject x)
passes-object p x e = each (row_of p.rows x) refl e
  where
    each : (q : Option Row) → row_of p.rows x ≡ q → object_row x q ≡ [] → (r : Row) × (row_of p.rows x ≡ Some r) × (target_of r.kind ≡ None)
    each None h t = cc
    each (Some r) h t = (r, h, refers-none (target_of r.kind) (refuse_if-none (is_reference r.kind) (WrongKind x) t))

-- an owner that isn't refused is there
pub passes-owner : (p : Pool) (o : Owner) → owner p o ≡ [] → is_owner p.rows o ≡ true
passes-owner p Root e = refl
passes-owner p (Of x) e = each (row_of p.rows x) e
  where
    each : (q : Option Row) → object_row x q ≡ [] → is_object_row q ≡ true
    each None h = cc
    each (Some r) h = ap not (refuse_if-none (is_reference r.kind) (WrongKind x) h)

-- where there is room for so many rows and numbers
passes-room : (p : Pool) (k : ℕ) → room p k ≡ [] → Passed p (HasRoom k)
passes-room p k e =
    let full : Check = refuse_if (nat_lt row_limit (length p.rows + k)) (Full (length p.rows)) in
    let spent : Check = refuse_if (nat_le (2 ^ 64) (p.next + k)) Spent in
    let d : (full ≡ []) × (spent ≡ []) = both-none full spent e in
    let many : nat_lt row_limit (length p.rows + k) ≡ false = refuse_if-none _ (Full (length p.rows)) d.0 in
    let last : nat_le (2 ^ 64) (p.next + k) ≡ false = refuse_if-none _ Spent d.1 in
    (grind (arith, nat_tests), grind (arith, nat_tests))

-- an owner that isn't refused as one that has no reference has one
held-ref : {A : Type 0} (p : Pool) (o : Owner) (x : Obj) → ((r : Obj) → is_below (owner_of p.rows x) o ≡ false → newest_ref_of p.rows o x ≡ Some r → A)
    → is_below (owner_of p.rows x) o ≡ false → refuse_if (not (is_some (newest_ref_of p.rows o x))) (NotParent x o) ≡ [] → A
held-ref {A = A} p o x has t e = each (newest_ref_of p.rows o x) refl (not-false _ (refuse_if-none _ _ e))
  where
    each : (n : Option Obj) → newest_ref_of p.rows o x ≡ n → is_some n ≡ true → A
    each None n h = cc
    each (Some r) n h = has r t n

passes-interested : (p : Pool) (o : Owner) (x : Obj) → interested p o x ≡ [] → Interest p o x
passes-interested p o x e = by_test (is_below (owner_of p.rows x) o)
    (λ t. AsOwner t)
    (λ t. let g : refuse_if (not (is_some (newest_ref_of p.rows o x))) (NotParent x o) ≡ [] = rw t at e in held-ref p o x (λ r u n. AsHolder r u n) t g)

passes-given : (p : Pool) (from to : Owner) (x : Obj) → given_by p from to x ≡ [] → Gives p from to x
passes-given p from to x e = by_test (is_below (owner_of p.rows x) from)
    (λ t. let g : apart p x to ≡ [] = rw t at e in Itself t (refuse_if-none _ (Loop x to) g))
    (λ t. let g : refuse_if (not (is_some (newest_ref_of p.rows from x))) (NotParent x from) ≡ [] = rw t at e in held-ref p from x (λ r u n. ItsRef r u n) t g)

passes-context : (p : Pool) (c : Obj) → context p c ≡ [] → IsUsable p c
passes-context p c e = by_test (same c first_context)
    (λ t. First t)
    (λ t.
    let e' : object p c ++ (of_kind is_context_row p c ++ refuse_if (not (is_usable_row (row_of p.rows c))) (IsDyingRefusal c)) ≡ [] = rw t at e in
    let a = both-none (object p c) (of_kind is_context_row p c ++ refuse_if (not (is_usable_row (row_of p.rows c))) (IsDyingRefusal c)) e' in
    let b = both-none (of_kind is_context_row p c) (refuse_if (not (is_usable_row (row_of p.rows c))) (IsDyingRefusal c)) a.1 in
    Stays (not-false _ (refuse_if-none _ _ b.0)) (not-false _ (refuse_if-none _ _ b.1)))

pub passes : (p : Pool) (t : Test) → refusal_of p t ≡ [] → Passed p t
passes p (IsSmall size) e = let big : nat_le size_limit size ≡ false = refuse_if-none _ (TooBig size) e in grind (arith, nat_tests)
passes p (IsObject x) e = passes-object p x e
passes p (IsOwner o) e = passes-owner p o e
passes p (IsPlain x) e = not-false _ (refuse_if-none _ _ e)
passes p (IsImmediate x) e = not-false _ (refuse_if-none _ _ e)
passes p (IsDescriptor x) e = not-false _ (refuse_if-none _ _ e)
passes p (IsRequest x) e = not-false _ (refuse_if-none _ _ e)
passes p (IsQueue x) e = not-false _ (refuse_if-none _ _ e)
passes p (IsContext c) e = passes-context p c e
passes p (IsMovable x) e = not-true _ (not-false _ (refuse_if-none _ _ e))
passes p (IsReferable x) e = not-false _ (refuse_if-none _ _ e)
passes p (IsOpen fd) e = not-false _ (refuse_if-none _ _ e)
passes p (IsUnwatched fd) e = refuse_if-none _ _ e
passes p (HasRoom k) e = passes-room p k e
passes p HasNumber e = let big : nat_le (2 ^ 64) (p.next + 1) ≡ false = refuse_if-none _ Spent e in grind (arith, nat_tests)
passes p (IsInProgress x) e = e
passes p (IsFinished x) e = e
passes p (MayFail x error) e = e
passes p (Fits o wanted) e = e
passes p (MayGrow x size) e = e
passes p (IsNotDying x) e = refuse_if-none _ _ e
passes p (IsNotGoing x) e = refuse_if-none _ _ e
passes p (IsNotDoomed x) e = refuse_if-none _ _ e
passes p (IsNotRunning x) e = refuse_if-none _ _ e
passes p (IsNotInside x o) e = refuse_if-none _ _ e
passes p (IsUnheld x) e = refuse_if-none _ _ e
passes p (IsUnreferenced x) e = eqb-true (count_refs p.rows x) 0 (not-false _ (refuse_if-none _ _ e))
passes p (IsInterested o x) e = passes-interested p o x e
passes p (MayGive from to x) e = passes-given p from to x e

pub all-pass : (p : Pool) (ts : List Test) → refused p ts ≡ [] → AllPassed p ts
all-pass p [] e = tt
all-pass p (t ∷ []) e = (passes p t e, tt)
all-pass p (t ∷ u ∷ ts) e = let d = both-none (refusal_of p t) (refused p (u ∷ ts)) e in (passes p t d.0, all-pass p (u ∷ ts) d.1)

-- what holds of the plan of a call that passes its tests, and of a reply, holds of all that a call does
pub planned-by : (P : Plan → Type 0) (p : Pool) (c : Call) → (AllPassed p (tests c) → P (plan p c)) → ((r : Reply) → P (replies r)) → P (planned p c)
planned-by P p c passed refused = each (refusals p c) refl
  where
    each : (check : Check) → refusals p c ≡ check → P (unless_refused check (plan p c))
    each [] none = passed (all-pass p (tests c) none)
    each (why ∷ later) e = refused (No why)

-- what holds of the plan of a call, and of a nested turn's, holds where the call is given at any question
pub planned-at-by : (P : Plan → Type 0) (q : Ask) (p : Pool) (c : Call) → P (planned p c) → (is_nested q c ≡ true → P (replies (No Nested))) → P (planned_at q p c)
planned-at-by P q p c plan nested = by_test (is_nested q c) (λ t. rw t (nested t)) (λ t. rw t plan)

-- what a plan changes is all such
abbrev pub Makes : (Change → Type 0) → Plan → Type 0
Makes K (Does change notice r) = K change
Makes K (Works change errand x) = K change
Makes K plan = Unit {0}

-- what frees an object changes nothing
pub frees-makes : (K : Change → Type 0) (x : Obj) (r : Option Obj) → Makes K (frees r x)
frees-makes K x None = tt
frees-makes K x (Some r) = tt

-- what is given away is placed, where there is such
pub handed-makes : (K : Change → Type 0) (to : Owner) (o : Option Obj) → K Nothing → ((x : Obj) → o ≡ Some x → K (Place to x)) → K (handed to o)
handed-makes K to None none placed = none
handed-makes K to (Some x) none placed = placed x refl

-- ---- what tests say together

live-row : (p : Pool) (x : Obj) (r : Row) → row_of p.rows x ≡ Some r → Passed p (IsNotDying x) → IsLive r.mark
live-row p x r h dying = each r.mark refl
  where
    each : (m : Mark) → r.mark ≡ m → IsLive m
    each (Dying former) m = let bad : true ≡ false = rw (h, m) at dying in cc
    each _ m = tt

apart-owner : (p : Pool) (x : Obj) (o : Owner) → is_inside p.rows o (Of x) ≡ false → o ≢ Of x
apart-owner p x o f = λ same_as. (
    let t : same_owner o (Of x) ≡ true = same_owner-equal o (Of x) same_as in
    let t2 : reaches (length p.rows) p.rows (Some o) (Of x) ≡ true = first (length p.rows) t in
    let bad : true ≡ false = sym t2 ∙ f in cc)
  where
    first : (n : ℕ) → same_owner o (Of x) ≡ true → reaches n p.rows (Some o) (Of x) ≡ true
    first zero t = t
    first (suc n) t = rw t refl

pub may-place : (p : Pool) (o : Owner) (x : Obj) → Passed p (IsObject x) → Passed p (IsOwner o) → Passed p (IsNotDying x) → Passed p (IsNotInside x o) → MayBePlaced p o x
may-place p o x r own s a = record { row = r.0; is = r.1; live = live-row p x r.0 r.1 s; apart = apart-owner p x o a; there = own; outside = a }

-- nothing goes on with an object that neither runs nor dies
pub quiet-row : (p : Pool) (x : Obj) (r : Row) → row_of p.rows x ≡ Some r → Passed p (IsNotRunning x) → Passed p (IsNotDying x) → r.mark ≡ Quiet
quiet-row p x r e still dying = calm r.mark (rw e at still) (live-row p x r e dying)
  where
    calm : (m : Mark) → is_running_mark m ≡ false → IsLive m → m ≡ Quiet
    calm Quiet e l = refl
    calm (Dying former) e l = absurd l
    calm _ e l = cc

-- ---- what an input that fits leads to

-- a routine is over only where one was asked, and returns
pub given-return : (q : Ask) (i : Input) (v : ℕ) → given_to q i ≡ Some (Returns v) → (i ≡ input.Act (act.Ret v)) × IsOfRoutine q
given-return ask.Quiet (input.Call c) v e = cc
given-return (ask.Routine m) (input.Act (act.Do c)) v e = cc
given-return (ask.Routine m) (input.Act (act.Ret u)) v e = let e' : u ≡ v = cc in (ap (λ (z : ℕ). input.Act (act.Ret z)) e', tt)
given-return ask.Clock (input.Clock now) v e = cc
given-return (ask.Wait limit) (input.Ready wants) v e = cc
given-return (ask.Accept fd) (input.Took new) v e = cc
given-return (ask.Read fd most) (input.Got bytes) v e = absurd (by_test (is_octets bytes && nat_le (length bytes) most) (λ t. let bad : Some (Answers (Bytes bytes)) ≡ Some (Returns v) = rw t at e in cc) (λ t. let bad : None ≡ Some (Returns v) = rw t at e in cc))
given-return (ask.Write fd bytes) (input.Wrote n) v e = absurd (by_test (nat_le 1 n && nat_le n (length bytes)) (λ t. let bad : Some (Answers (Number n)) ≡ Some (Returns v) = rw t at e in cc) (λ t. let bad : None ≡ Some (Returns v) = rw t at e in cc))
given-return q i v e = cc

-- a call, or the end of a routine's run
pub heard-by : {A : Type 0} (q : Ask) (does : Call → A) (returns : ℕ → A) (i : Input) (a : A) → heard q does returns i ≡ Some a
    → ((c : Call) × (a ≡ does c)) ⊎ ((v : ℕ) × (i ≡ input.Act (act.Ret v)) × IsOfRoutine q × (a ≡ returns v))
heard-by {A = A} q does returns i a e = each (given_to q i) refl e
  where
    each : (g : Option Given) → given_to q i ≡ g → led does returns g ≡ Some a → ((c : Call) × (a ≡ does c)) ⊎ ((v : ℕ) × (i ≡ input.Act (act.Ret v)) × IsOfRoutine q × (a ≡ returns v))
    each None h e = cc
    each (Some (Calls c)) h e = by_test (is_sound_call c)
        (λ t. let e' : Some (does c) ≡ Some a = rw t at e in inl (c, cc))
        (λ t. let e' : None ≡ Some a = rw t at e in cc)
    each (Some (Returns v)) h e = by_test (is_return v)
        (λ t. let e' : Some (returns v) ≡ Some a = rw t at e in let g = given-return q i v h in inr (v, g.0, g.1, cc))
        (λ t. let e' : None ≡ Some a = rw t at e in cc)
    each (Some _) h e = cc

-- a time
pub clocked-by : {A : Type 0} (timed : ℕ → A) (i : Input) (a : A) → clocked timed i ≡ Some a → (now : ℕ) × (a ≡ timed now)
clocked-by {A = A} timed i a e = each (given_to ask.Clock i) e
  where
    each : (g : Option Given) → told_time timed g ≡ Some a → (now : ℕ) × (a ≡ timed now)
    each (Some (Tells now)) e = by_test (is_time now)
        (λ t. let e' : Some (timed now) ≡ Some a = rw t at e in (now, cc))
        (λ t. let e' : None ≡ Some a = rw t at e in cc)
    each _ e = cc

-- descriptors that are ready
pub polled-by : {A : Type 0} (limit : ℕ) (looked : List Want → A) (i : Input) (a : A) → polled limit looked i ≡ Some a → (wants : List Want) × (a ≡ looked wants)
polled-by {A = A} limit looked i a e = each (given_to (ask.Wait limit) i) e
  where
    each : (g : Option Given) → told_ready looked g ≡ Some a → (wants : List Want) × (a ≡ looked wants)
    each (Some (IsReady wants)) e = by_test (is_wants wants)
        (λ t. let e' : Some (looked wants) ≡ Some a = rw t at e in (wants, cc))
        (λ t. let e' : None ≡ Some a = rw t at e in cc)
    each _ e = cc

-- what the outside has answered: a descriptor that wasn't open, the time, or the reply itself
pub data Reaches {A : Type 0} (p : Pool) (q : Ask) (opens : ℕ → A) (hears : Reply → A) (i : Input) (a : A) : Type 0 where
  IsOpened : (fd : ℕ) → given_to q i ≡ Some (Opens fd) → is_routine fd ≡ true → is_open p fd ≡ false → a ≡ opens fd → Reaches p q opens hears i a
  IsTold : (now : ℕ) → given_to q i ≡ Some (Tells now) → is_time now ≡ true → a ≡ hears (Number now) → Reaches p q opens hears i a
  IsAnswered : (r : Reply) → given_to q i ≡ Some (Answers r) → a ≡ hears r → Reaches p q opens hears i a

pub reached-by : {A : Type 0} (p : Pool) (q : Ask) (opens : ℕ → A) (hears : Reply → A) (i : Input) (a : A) → reached p q opens hears i ≡ Some a → Reaches p q opens hears i a
reached-by {A = A} p q opens hears i a e = each (given_to q i) refl e
  where
    each : (g : Option Given) → given_to q i ≡ g → told_outside p opens hears g ≡ Some a → Reaches p q opens hears i a
    each (Some (Tells now)) h e = by_test (is_time now)
        (λ t. let e' : Some (hears (Number now)) ≡ Some a = rw t at e in IsTold now h t cc)
        (λ t. let e' : None ≡ Some a = rw t at e in cc)
    each (Some (Opens fd)) h e = by_test (is_routine fd && not (is_open p fd))
        (λ t. let e' : Some (opens fd) ≡ Some a = rw t at e in let b = both-true _ _ t in IsOpened fd h b.0 (not-true _ b.1) cc)
        (λ t. let e' : None ≡ Some a = rw t at e in cc)
    each (Some (Answers r)) h e = IsAnswered r h cc
    each _ h e = cc

pub data Reached (p : Pool) : Frame → Type 0 where
  -- a descriptor is to be open
  ReachedOpening : (fd : ℕ) → is_routine fd ≡ true → is_open p fd ≡ false → Reached p (opening_one fd)
  -- the reply is there
  ReachedHearing : (r : Reply) → Reached p (hearing_one r)

pub reached-leads : (p : Pool) (q : Ask) (i : Input) (g : Frame) → reached p q opening_one hearing_one i ≡ Some g → Reached p g
reached-leads p q i g e = each (reached-by p q opening_one hearing_one i g e)
  where
    each : Reaches p q opening_one hearing_one i g → Reached p g
    each (IsOpened fd given number closed is) = subst (Reached p) (sym is) (ReachedOpening fd number closed)
    each (IsTold now given time is) = subst (Reached p) (sym is) (ReachedHearing (Number now))
    each (IsAnswered r given is) = subst (Reached p) (sym is) (ReachedHearing r)

pub data Heard (q : Ask) : Frame → Type 0 where
  -- a call
  HeardCall : (c : Call) → Heard q (doing q c)
  -- the end of a routine's run
  HeardReturn : (v : ℕ) → IsOfRoutine q → Heard q (returning v)

pub heard-leads : (q : Ask) (i : Input) (g : Frame) → heard q (doing q) returning i ≡ Some g → Heard q g
heard-leads q i g e = elim (heard-by q (doing q) returning i g e) [
  | inl h ↦ subst (Heard q) (sym h.1) (HeardCall h.0)
  | inr h ↦ subst (Heard q) (sym h.3) (HeardReturn h.0 h.2)
]
