-- What the items told so far say of the objects and of the open works.
use Rattle.std.proofs.Common.{◌≡◌, ℕ, ◌≤◌, ◌<◌, List, [], ◌∷◌, ◌++◌, Option, Some, None, Bool, true, false, nat_eq, refl, sym, ◌∙◌, ap, subst, ◌⊎◌, inl, inr, arith}
use Rattle.std.specs.Prelude.{not, ◌||◌, ◌&&◌, nat_le}
use Rattle.std.specs.List.{list_any}
use Rattle.std.proofs.lemmas.Bool.Decides.{nat_tests}
use Rattle.std.proofs.lemmas.List.Folds.{list_any-append}
use Rattle.std.proofs.Math.Bool.{or-false}
use Rattle.tree_specs.specs.Machine.Profiles.{Phase, InLoop, Removing, loops, loop_removes, profile}
use Rattle.tree_specs.specs.declared.object.Obj.{Obj}
use Rattle.tree_specs.specs.declared.row.Row.{Row}
use Rattle.tree_specs.specs.declared.event.Event.TheVariants.{Accepted, Freed, Unreferenced, State}
use Rattle.tree_specs.specs.declared.request.Note.{Note}
use Rattle.tree_specs.specs.Events.Requests.{state_number, note_of}
use Rattle.tree_specs.proofs.Calls.Checks.{both-true}
use Rattle.tree_specs.specs.declared.frame.Frame.{Frame}
use Rattle.tree_specs.specs.declared.frame.Frame.TheVariants as frame
use Rattle.tree_specs.specs.declared.frame.CallFrame.TheVariants.{Awaiting, Turning, Requesting}
use Rattle.tree_specs.specs.declared.frame.FreeFrame.TheVariants.{Hooked, Judged, Preparing, Leaving, Looping, FreeingChild, Draining}
use Rattle.tree_specs.specs.declared.frame.Purpose.{Purpose}
use Rattle.tree_specs.specs.declared.frame.Purpose.TheVariants.{Removal, Emptying}
use Rattle.tree_specs.specs.Words.Objects.{same}
use Rattle.tree_specs.specs.Tree.Pool.{Pool, row_of}
use Rattle.tree_specs.specs.Rules.Items.{Item}
use Rattle.tree_specs.specs.Rules.Items.Item.{Told}
use Rattle.tree_specs.specs.Promises.Orderly.{accepts, frees, drops, has_state_from}
use Rattle.tree_specs.specs.Invariants.Sound.{IsLive, claim_by, claim, claims, IsWaiting, AllWait}
use Rattle.tree_specs.proofs.Tree.Numbered.{by_test, same-true, same-equal, same-false, same_or_not}
use Rattle.tree_specs.proofs.Promises.Later.{IsDying, IsPast, IsFrom, Later, live-not-dying}
use Rattle.tree_specs.proofs.Invariants.Changes.{not-zero}

-- it leaves its owner with the next step
abbrev pub IsLeaving : Frame → Obj → Type 0
IsLeaving (frame.Free (Leaving y h)) x = y ≡ x
IsLeaving f x = ⊥

-- the destructor that a free asked is the one that accepted
abbrev pub AsAccepted : List Item → Obj → ℕ → Type 0
AsAccepted items x h = list_any (accepts x) items ≡ not (nat_eq h 0)

abbrev pub AsRemoved : List Item → Option Removing → Type 0
AsRemoved items (Some r) = AsAccepted items r.object r.hook
AsRemoved items None = Unit {0}

abbrev pub Accounts : List Item → Frame → Type 0
Accounts items f = AsRemoved items (profile f).removes

abbrev pub AllAccount : List Item → List Frame → Type 0
AllAccount items [] = Unit {0}
AllAccount items (f ∷ fs) = Accounts items f × AllAccount items fs

pub record Past (items : List Item) (f : Frame) (fs : List Frame) (p : Pool) : Type 0 where
  -- what was told as freed is no more
  pub gone : (x : Obj) → list_any (frees x) items ≡ true → (x.0 < p.next) × (row_of p.rows x ≡ None)
  -- so is what was told as dropped
  pub dropped : (r : Obj) → list_any (drops r) items ≡ true → (r.0 < p.next) × (row_of p.rows r ≡ None)
  -- what has accepted is no more, is dying, or leaves its owner now
  pub spent : (x : Obj) → list_any (accepts x) items ≡ true → (x.0 < p.next) × (IsPast (row_of p.rows x) ⊎ IsLeaving f x)
  -- a request of which a state was told is in this state or a later one
  pub states : (x : Obj) (k : ℕ) → list_any (has_state_from k x) items ≡ true → (x.0 < p.next) × IsFrom k (note_of p.requests x)
  pub accounts : Accounts items f
  pub all_account : AllAccount items fs

-- ---- one more item

pub any-more : (q : Item → Bool) (items : List Item) (e : Item) → list_any q (items ++ e ∷ []) ≡ (list_any q items || q e)
any-more q items e = list_any-append q items (e ∷ []) ∙ ap (λ (b : Bool). list_any q items || b) (or-false (q e))

pub any-as-before : (q : Item → Bool) (items : List Item) (e : Item) → q e ≡ false → list_any q (items ++ e ∷ []) ≡ list_any q items
any-as-before q items e h = any-more q items e ∙ ap (λ (b : Bool). list_any q items || b) h ∙ or-false (list_any q items)

any-now : (q : Item → Bool) (items : List Item) (e : Item) → q e ≡ true → list_any q (items ++ e ∷ []) ≡ true
any-now q items e h = any-more q items e ∙ ap (λ (b : Bool). list_any q items || b) h ∙ or-true (list_any q items)
  where
    or-true : (b : Bool) → (b || true) ≡ true
    or-true true = refl
    or-true false = refl

-- ---- which object a work removes

abbrev RemovesBy : Option Removing → Obj → Type 0
RemovesBy (Some r) y = r.object ≡ y
RemovesBy None y = ⊥

abbrev Removes : Frame → Obj → Type 0
Removes f y = RemovesBy (profile f).removes y

abbrev AnyRemoves : List Frame → Obj → Type 0
AnyRemoves [] y = ⊥
AnyRemoves (f ∷ fs) y = Removes f y ⊎ AnyRemoves fs y

-- a work accounts for as much after an item that isn't its object's destructor accepting
removed-more : (items : List Item) (e : Item) (r : Option Removing) → ((y : Obj) → RemovesBy r y → accepts y e ≡ false) → AsRemoved items r → AsRemoved (items ++ e ∷ []) r
removed-more items e (Some r) other a = any-as-before (accepts r.object) items e (other r.object refl) ∙ a
removed-more items e None other a = tt

accounts-more : (items : List Item) (e : Item) (f : Frame) → ((y : Obj) → Removes f y → accepts y e ≡ false) → Accounts items f → Accounts (items ++ e ∷ []) f
accounts-more items e f other a = removed-more items e (profile f).removes other a

all-more : (items : List Item) (e : Item) (fs : List Frame) → ((y : Obj) → AnyRemoves fs y → accepts y e ≡ false) → AllAccount items fs → AllAccount (items ++ e ∷ []) fs
all-more items e [] other a = tt
all-more items e (f ∷ fs) other a = (accounts-more items e f (λ y r. other y (inl r)) a.0, all-more items e fs (λ y r. other y (inr r)) a.1)

-- an object of which no waiting work claims anything is removed by none
unclaimed : (x : Obj) (fs : List Frame) → AllWait fs → claims x fs ≡ [] → AnyRemoves fs x → ⊥
unclaimed x [] w e r = r
unclaimed x (f ∷ fs) w e r = elim r [
  | inl here ↦ claimed f w.0 here none
  | inr there ↦ unclaimed x fs w.1 (parts (claim x f) (claims x fs) e).1 there
]
  where
    parts : (l m : List Phase) → l ++ m ≡ [] → (l ≡ []) × (m ≡ [])
    parts [] m e = (refl, e)
    parts (a ∷ l) m e = cc

    none : claim x f ≡ []
    none = (parts (claim x f) (claims x fs) e).0

    looped : (y : Obj) (purpose : Purpose) → claim_by x (loops y purpose) ≡ [] → RemovesBy (loop_removes y purpose) x → ⊥
    looped y (Removal h) e r = let t : same y x ≡ true = same-equal y x r in let bad : InLoop ∷ [] ≡ [] = rw t at e in cc
    looped y Emptying e r = r

    -- what waits and removes an object is its loop
    claimed : (g : Frame) → IsWaiting g fs → Removes g x → claim x g ≡ [] → ⊥
    claimed (frame.Free (FreeingChild y c noted purpose)) w r e = looped y purpose e r
    claimed (frame.Call (Awaiting q y)) w r e = r
    claimed (frame.Call (Turning q)) w r e = r
    claimed (frame.Turn f) w r e = r
    claimed (frame.Request f) w r e = r
    claimed (frame.Call (Requesting q)) w r e = r
    claimed (frame.Free (Preparing y)) w r e = r
    claimed (frame.Free (Draining y)) w r e = r
    claimed (frame.Free (Hooked y h)) w r e = r
    claimed _ w r e = absurd w

-- ---- steps

-- a step that tells nothing
pub past-goes : (items : List Item) (f f' : Frame) (fs fs' : List Frame) (p q : Pool) → Past items f fs p → Later p q
    → ((x : Obj) → IsLeaving f x → IsPast (row_of q.rows x) ⊎ IsLeaving f' x) → Accounts items f' → AllAccount items fs' → Past items f' fs' q
past-goes items f f' fs fs' p q past later leaves a all = record {
  gone = λ x t. let g = past.gone x t in let l : x.0 < p.next = g.0 in (omega (arith, later.grows), later.none x l g.1);
  dropped = λ x t. let g = past.dropped x t in let l : x.0 < p.next = g.0 in (omega (arith, later.grows), later.none x l g.1);
  spent = λ x t. let s = past.spent x t in let l : x.0 < p.next = s.0 in (
    omega (arith, later.grows),
    elim s.1 [
      | inl gone ↦ inl (later.past x l gone)
      | inr now ↦ leaves x now
    ],
  );
  states = λ x k t. let g = past.states x k t in let l : x.0 < p.next = g.0 in (omega (arith, later.grows), later.states x k l g.1);
  accounts = a;
  all_account = all;
}

-- an item that ends nothing
pub past-tells : (items : List Item) (e : Item) (f : Frame) (fs : List Frame) (p : Pool) → ((x : Obj) → accepts x e ≡ false) → ((x : Obj) → frees x e ≡ false) → ((x : Obj) → drops x e ≡ false)
    → ((x : Obj) (k : ℕ) → has_state_from k x e ≡ false) → Past items f fs p → Past (items ++ e ∷ []) f fs p
past-tells items e f fs p a g d u past = record {
  gone = λ x t. past.gone x (sym (any-as-before (frees x) items e (g x)) ∙ t);
  dropped = λ x t. past.dropped x (sym (any-as-before (drops x) items e (d x)) ∙ t);
  spent = λ x t. past.spent x (sym (any-as-before (accepts x) items e (a x)) ∙ t);
  states = λ x k t. past.states x k (sym (any-as-before (has_state_from k x) items e (u x k)) ∙ t);
  accounts = accounts-more items e f (λ y r. a y) past.accounts;
  all_account = all-more items e fs (λ y r. a y) past.all_account;
}

-- a destructor accepts
pub past-accepts : (items : List Item) (x : Obj) (h v : ℕ) (fs : List Frame) (p q : Pool) → Past items (frame.Free (Judged x h v)) fs p → Later p q
    → x.0 < q.next → 0 < h → AllWait fs → claims x fs ≡ [] → Past (items ++ Told (Accepted x) ∷ []) (frame.Free (Leaving x h)) fs q
past-accepts items x h v fs p q past later l pos wait none =
    let e : Item = Told (Accepted x) in
    let self : same x x ≡ true = same-equal x x refl in
    record {
      dropped = λ y t. let g = past.dropped y (sym (any-as-before (drops y) items e refl) ∙ t) in let b : y.0 < p.next = g.0 in (omega (arith, later.grows), later.none y b g.1);
      gone = λ y t. let g = past.gone y (sym (any-as-before (frees y) items e refl) ∙ t) in let b : y.0 < p.next = g.0 in (omega (arith, later.grows), later.none y b g.1);
      spent = λ y t. elim (same_or_not x y) [
        | inl same_one ↦ (subst (λ (z : Obj). z.0 < q.next) same_one l, inr same_one)
        | inr other ↦ before y (sym (any-as-before (accepts y) items e (same-false x y other)) ∙ t)
      ];
      states = λ y k t. let g = past.states y k (sym (any-as-before (has_state_from k y) items e refl) ∙ t) in let b : y.0 < p.next = g.0 in (omega (arith, later.grows), later.states y k b g.1);
      accounts = any-now (accepts x) items e self ∙ sym (ap not (not-zero h pos));
      all_account = all-more items e fs (λ y r. same-false x y (λ same_one. unclaimed x fs wait none (subst (AnyRemoves fs) (sym same_one) r))) past.all_account;
    }
  where
    before : (y : Obj) → list_any (accepts y) items ≡ true → (y.0 < q.next) × (IsPast (row_of q.rows y) ⊎ (x ≡ y))
    before y t = let s = past.spent y t in let b : y.0 < p.next = s.0 in (
      omega (arith, later.grows),
      elim s.1 [
        | inl gone ↦ inl (later.past y b gone)
        | inr now ↦ absurd now
      ],
    )

-- an object is no more
pub past-frees : (items : List Item) (x : Obj) (h : ℕ) (f' : Frame) (fs : List Frame) (p q : Pool) → Past items (frame.Free (Looping x (Removal h))) fs p → Later p q
    → x.0 < q.next → row_of q.rows x ≡ None → Accounts (items ++ Told (Freed x h) ∷ []) f' → Past (items ++ Told (Freed x h) ∷ []) f' fs q
past-frees items x h f' fs p q past later l none a =
    let e : Item = Told (Freed x h) in
    record {
      gone = λ y t. elim (same_or_not x y) [
        | inl same_one ↦ subst (λ (z : Obj). (z.0 < q.next) × (row_of q.rows z ≡ None)) same_one (l, none)
        | inr other ↦ let g = past.gone y (sym (any-as-before (frees y) items e (same-false x y other)) ∙ t) in let b : y.0 < p.next = g.0 in (omega (arith, later.grows), later.none y b g.1)
      ];
      dropped = λ y t. let g = past.dropped y (sym (any-as-before (drops y) items e refl) ∙ t) in let b : y.0 < p.next = g.0 in (omega (arith, later.grows), later.none y b g.1);
      spent = λ y t. let s = past.spent y (sym (any-as-before (accepts y) items e refl) ∙ t) in let b : y.0 < p.next = s.0 in (
        omega (arith, later.grows),
        elim s.1 [
          | inl gone ↦ inl (later.past y b gone)
          | inr now ↦ absurd now
        ],
      );
      states = λ y k t. let g = past.states y k (sym (any-as-before (has_state_from k y) items e refl) ∙ t) in let b : y.0 < p.next = g.0 in (omega (arith, later.grows), later.states y k b g.1);
      accounts = a;
      all_account = all-more items e fs (λ y r. refl) past.all_account;
    }

-- a reference is dropped
pub past-drops : (items : List Item) (r t : Obj) (f f' : Frame) (fs : List Frame) (p q : Pool) → Past items f fs p → Later p q → r.0 < q.next → row_of q.rows r ≡ None
    → ((x : Obj) → IsLeaving f x → ⊥) → Accounts (items ++ Told (Unreferenced r t) ∷ []) f' → Past (items ++ Told (Unreferenced r t) ∷ []) f' fs q
past-drops items r t f f' fs p q past later l none stays a =
    let e : Item = Told (Unreferenced r t) in
    record {
      gone = λ y u. let g = past.gone y (sym (any-as-before (frees y) items e refl) ∙ u) in let b : y.0 < p.next = g.0 in (omega (arith, later.grows), later.none y b g.1);
      dropped = λ y u. elim (same_or_not r y) [
        | inl same_one ↦ subst (λ (z : Obj). (z.0 < q.next) × (row_of q.rows z ≡ None)) same_one (l, none)
        | inr other ↦ let g = past.dropped y (sym (any-as-before (drops y) items e (same-false r y other)) ∙ u) in let b : y.0 < p.next = g.0 in (omega (arith, later.grows), later.none y b g.1)
      ];
      spent = λ y u. let s = past.spent y (sym (any-as-before (accepts y) items e refl) ∙ u) in let b : y.0 < p.next = s.0 in (
        omega (arith, later.grows),
        elim s.1 [
          | inl gone ↦ inl (later.past y b gone)
          | inr now ↦ absurd (stays y now)
        ],
      );
      states = λ y k t. let g = past.states y k (sym (any-as-before (has_state_from k y) items e refl) ∙ t) in let b : y.0 < p.next = g.0 in (omega (arith, later.grows), later.states y k b g.1);
      accounts = a;
      all_account = all-more items e fs (λ y u. refl) past.all_account;
    }

-- a request goes to a state
pub past-state : (items : List Item) (x : Obj) (s : ℕ) (f f' : Frame) (fs : List Frame) (p q : Pool) → Past items f fs p → Later p q → x.0 < q.next → IsFrom s (note_of q.requests x)
    → ((y : Obj) → IsLeaving f y → ⊥) → Accounts (items ++ Told (State x s) ∷ []) f' → Past (items ++ Told (State x s) ∷ []) f' fs q
past-state items x s f f' fs p q past later l from stays a =
    let e : Item = Told (State x s) in
    record {
      gone = λ y u. let g = past.gone y (sym (any-as-before (frees y) items e refl) ∙ u) in let b : y.0 < p.next = g.0 in (omega (arith, later.grows), later.none y b g.1);
      dropped = λ y u. let g = past.dropped y (sym (any-as-before (drops y) items e refl) ∙ u) in let b : y.0 < p.next = g.0 in (omega (arith, later.grows), later.none y b g.1);
      spent = λ y u. let s = past.spent y (sym (any-as-before (accepts y) items e refl) ∙ u) in let b : y.0 < p.next = s.0 in (
        omega (arith, later.grows),
        elim s.1 [
          | inl gone ↦ inl (later.past y b gone)
          | inr now ↦ absurd (stays y now)
        ],
      );
      states = λ y k t. by_test (same x y && nat_le k s)
          (λ u. let c = both-true (same x y) (nat_le k s) u in now y k (same-true x y c.0) c.1)
          (λ u. let g = past.states y k (sym (any-as-before (has_state_from k y) items e u) ∙ t) in let b : y.0 < p.next = g.0 in (omega (arith, later.grows), later.states y k b g.1));
      accounts = a;
      all_account = all-more items e fs (λ y u. refl) past.all_account;
    }
  where
    least : (k : ℕ) → k ≤ s → (o : Option Note) → IsFrom s o → IsFrom k o
    least k m None h = tt
    least k m (Some n) h = let h' : s ≤ state_number n.state = h in omega arith

    now : (y : Obj) (k : ℕ) → x ≡ y → nat_le k s ≡ true → (y.0 < q.next) × IsFrom k (note_of q.requests y)
    now y k is le = let m : k ≤ s = grind (arith, nat_tests) in subst (λ (z : Obj). (z.0 < q.next) × IsFrom k (note_of q.requests z)) is (l, least k m (note_of q.requests x) from)

-- ---- what a live object tells

-- a row that is there was not freed
pub unfreed : (items : List Item) (f : Frame) (fs : List Frame) (p : Pool) (x : Obj) (r : Row) → Past items f fs p → row_of p.rows x ≡ Some r → list_any (frees x) items ≡ false
unfreed items f fs p x r past e = by_test (list_any (frees x) items)
    (λ t. let bad : Some r ≡ None = sym e ∙ (past.gone x t).1 in cc)
    (λ t. t)

-- the destructor of a row that is live, and doesn't leave its owner now, hasn't accepted
pub unaccepted : (items : List Item) (f : Frame) (fs : List Frame) (p : Pool) (x : Obj) (r : Row) → Past items f fs p → row_of p.rows x ≡ Some r → IsLive r.mark
    → (IsLeaving f x → ⊥) → list_any (accepts x) items ≡ false
unaccepted items f fs p x r past e live stays = by_test (list_any (accepts x) items)
    (λ t. elim (past.spent x t).1 [
      | inl gone ↦ let d : IsDying r.mark = rw e at gone in absurd (live-not-dying r.mark live d)
      | inr now ↦ absurd (stays now)
    ])
    (λ t. t)

-- a row that is there was not dropped
pub undropped : (items : List Item) (f : Frame) (fs : List Frame) (p : Pool) (x : Obj) (r : Row) → Past items f fs p → row_of p.rows x ≡ Some r → list_any (drops x) items ≡ false
undropped items f fs p x r past e = by_test (list_any (drops x) items)
    (λ t. let bad : Some r ≡ None = sym e ∙ (past.dropped x t).1 in cc)
    (λ t. t)
