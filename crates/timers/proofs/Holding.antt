-- Which objects are held, and which time is the first.
use Rattle.std.proofs.Common.{◌≡◌, ℕ, zero, suc, ◌<◌, ◌≤◌, ◌/◌, ◌-◌, get_or, List, [], ◌∷◌, length, slice_get, Option, Some, None, true, false, refl, sym, ◌∙◌, ap, arith}
use Rattle.std.proofs.lemmas.Bool.{eqb-true}
use Rattle.std.proofs.lemmas.Option.{slice_get_within, slice_get-get_or}
use Rattle.std.specs.Option.{option_map}
use Rattle.tree_specs.specs.declared.due.Due.{Due}
use Rattle.tree_specs.specs.declared.object.Obj.{Obj}
use Rattle.tree_specs.specs.Words.Objects.{same}
use Rattle.tree_specs.specs.Events.Pending.{is_armed, comes_before}
use Rattle.tree_specs.proofs.Tree.Numbered.{by_test}
use Rattle.timers.specs.Timetable.{NoneBefore, AreOnce}
use Rattle.timers.specs.Heaped.{sorted, Told, object_of, is_early, IsChild, IsHeap, Places}
use Rattle.timers.proofs.Comes.{not-itself, none-both}
use Rattle.timers.proofs.Sorted.{first-sorted, length-sorted}

-- ---- objects

pub armed-at : (ds : List Due) (i : ℕ) (d : Due) (x : Obj) → slice_get ds i ≡ Some d → same d.object x ≡ true → is_armed ds x ≡ true
armed-at [] i d x e s = cc
armed-at (f ∷ fs) zero d x e s = let fd : f ≡ d = cc in let t : same f.object x ≡ true = ap (λ (g : Due). same g.object x) fd ∙ s in rw t refl
armed-at (f ∷ fs) (suc i) d x e s = by_test (same f.object x) (λ t. rw t refl) (λ t. rw t (armed-at fs i d x e s))

absent-from : (ds : List Due) (x : Obj) → ((k : ℕ) (e : Due) → slice_get ds k ≡ Some e → same e.object x ≡ false) → is_armed ds x ≡ false
absent-from [] x h = refl
absent-from (d ∷ ds) x h = let t = h zero d refl in rw t (absent-from ds x (λ k e f. h (suc k) e f))

once-from : (ds : List Due) → ((i j : ℕ) (d e : Due) → slice_get ds i ≡ Some d → slice_get ds j ≡ Some e → d.object.0 ≡ e.object.0 → i ≡ j) → AreOnce ds
once-from [] h = tt
once-from (d ∷ ds) h = (
  absent-from ds d.object (λ k e f. by_test (same e.object d.object)
      (λ t. let bad : zero ≡ suc k = h zero (suc k) d e refl f (sym (eqb-true e.object.0 d.object.0 t)) in absurd (omega (arith, bad)))
      (λ t. t)),
  once-from ds (λ i j e f p q o. let s : suc i ≡ suc j = h (suc i) (suc j) e f p q o in omega (arith, s)),
)

module _ (ds : List Due) (P : ℕ → Option ℕ) (k : Places (slice_get ds) P) where
  pub once-placed : AreOnce ds
  once-placed = once-from ds (λ i j d e p q o. let t : Some i ≡ Some j = sym (k.there i d p) ∙ ap P o ∙ k.there j e q in cc)

  pub unplaced : (x : Obj) → P x.0 ≡ None → is_armed ds x ≡ false
  unplaced x n = absent-from ds x (λ i e f. by_test (same e.object x)
      (λ t. let bad : Some i ≡ None = sym (k.there i e f) ∙ ap P (eqb-true e.object.0 x.0 t) ∙ n in cc)
      (λ t. t))

  -- the time of a place
  pub due-at : (x i : ℕ) → P x ≡ Some i → (d : Due) × (slice_get ds i ≡ Some d) × (d.object.0 ≡ x)
  due-at x i e = go (slice_get ds i) refl (k.back x i e)
    where
      go : (o : Option Due) → slice_get ds i ≡ o → option_map object_of o ≡ Some x → (d : Due) × (slice_get ds i ≡ Some d) × (d.object.0 ≡ x)
      go None u h = cc
      go (Some d) u h = (d, u, cc)

-- ---- the first

halves : (j : ℕ) → IsChild (j / 2) (suc j)
halves j = (omega arith, omega arith)

top-none : (ds : List Due) → IsHeap (slice_get ds) → (n k : ℕ) → k ≤ n → (d r : Due) → slice_get ds k ≡ Some d → slice_get ds 0 ≡ Some r → comes_before d r ≡ false
top-none ds h n zero l d r e f = let s : Some d ≡ Some r = sym e ∙ f in let dr : d ≡ r = cc in ap (λ (g : Due). comes_before d g) (sym dr) ∙ not-itself d
top-none ds h zero (suc j) l d r e f = absurd (omega (arith, l))
top-none ds h (suc n) (suc j) l d r e f =
    let p = j / 2 in
    let inside = slice_get_within ds (suc j) d e in
    let within : p < length ds = omega (arith, inside) in
    let b = get_at within in
    none-both r b.0 d (top-none ds h n p (omega (arith, l)) b.0 r b.1 f) ((λ i. is_early (sym e i) (sym b.1 i)) ∙ h p (suc j) (halves j))
  where
    get_at : {p : ℕ} → p < length ds → (b : Due) × (slice_get ds p ≡ Some b)
    get_at {p} w = (get_or ds p d, slice_get-get_or ds p d w)

none-all : (r : Due) (ds : List Due) → ((k : ℕ) (d : Due) → slice_get ds k ≡ Some d → comes_before d r ≡ false) → NoneBefore r ds
none-all r [] h = tt
none-all r (d ∷ ds) h = (h zero d refl, none-all r ds (λ k e f. h (suc k) e f))

pub top-first : (N : ℕ → Option Due) (ds : List Due) (r : Due) → IsHeap (slice_get ds) → Told N ds → slice_get ds 0 ≡ Some r → slice_get (sorted ds) 0 ≡ Some r
top-first N [] r h t e = cc
top-first N (d ∷ ds) r h t e = first-sorted N d ds t (none-all d ds (λ k f g. top-none (d ∷ ds) h (suc k) (suc k) (omega arith) f d g refl)) ∙ e

pub sorted-none : (ds : List Due) → sorted ds ≡ [] → ds ≡ []
sorted-none [] e = refl
sorted-none (d ∷ ds) e = let l = length-sorted (d ∷ ds) in let n : length (sorted (d ∷ ds)) ≡ 0 = ap length e in absurd (omega (arith, l, n))

-- the first of the heap is the first of all
pub top-same : (N : ℕ → Option Due) (ds : List Due) → IsHeap (slice_get ds) → Told N ds → slice_get ds 0 ≡ slice_get (sorted ds) 0
top-same N [] h t = refl
top-same N (d ∷ ds) h t = sym (top-first N (d ∷ ds) d h t refl)

-- ---- the last place

pub last-none : (ds : List Due) → slice_get ds (length ds - 1) ≡ None → ds ≡ []
last-none [] e = refl
last-none (d ∷ ds) e = let bad : Some (get_or (d ∷ ds) (length (d ∷ ds) - 1) d) ≡ None = sym (slice_get-get_or (d ∷ ds) (length (d ∷ ds) - 1) d (omega arith)) ∙ e in cc
