-- What is counted on the way up from an owner is what it is inside of.
use Rattle.std.proofs.Common.{◌≡◌, ℕ, zero, suc, ◌-◌, ◌<◌, ◌≤◌, List, [], ◌∷◌, length, map, Option, Some, None, true, false, ◌||◌, refl, sym, ◌∙◌, ap, arith}
use Rattle.std.specs.Prelude.{is_some}
use Rattle.std.specs.Option.{option_map}
use Rattle.tree_specs.specs.declared.object.Obj.{Obj}
use Rattle.tree_specs.specs.declared.object.Owner.{Owner}
use Rattle.tree_specs.specs.declared.object.Owner.TheVariants.{Root, Of}
use Rattle.tree_specs.specs.declared.row.Row.{Row}
use Rattle.tree_specs.specs.Words.Objects.{same}
use Rattle.tree_specs.specs.Tree.Forest.{ends, Rooted}
use Rattle.tree_specs.specs.Tree.Pool.{owner_of, is_inside}
use Rattle.tree_specs.proofs.Tree.Numbered.{by_test, same-true, same-equal, same-false}
use Rattle.tree_specs.proofs.Tree.Ancestry.{reach-root, inside-owner, no_way_back}
use Rattle.tree_specs.proofs.Tree.Attached.{inside-lone}
use Rattle.memory_limits.specs.declared.change.Change.{Change}
use Rattle.memory_limits.specs.declared.limited.Limited.{Limited}
use Rattle.memory_limits.specs.Limits.{counts, counts_at, found, nearest_in, nearest_limited}

-- what the objects count after a way up of at most n owners
abbrev pub climbed : ℕ → Change → List Row → Option Owner → List Limited → List Limited
climbed n change rs None ls = ls
climbed zero change rs (Some o) ls = ls
climbed (suc n) change rs (Some Root) ls = ls
climbed (suc n) change rs (Some (Of x)) ls = climbed n change rs (owner_of rs x) (map (counts_at change x) ls)

abbrev counts_by : Change → List Row → Option Owner → Limited → Limited
counts_by change rs None l = l
counts_by change rs (Some o) l = counts change rs o l

-- ---- one object

-- nothing that has a limit is the root
root-counts : (change : Change) (rs : List Row) (l : Limited) → counts change rs Root l ≡ l
root-counts change rs l = let out : is_inside rs Root (Of l.object) ≡ false = reach-root rs (length rs) (Of l.object) in rw out refl

then-counts : (change : Change) (rs : List Row) (x : Obj) (l : Limited) → ends (suc (length rs)) rs (Some (Of x)) ≡ true → (p : Option Owner) → owner_of rs x ≡ p → counts_by change rs p (counts_at change x l) ≡ counts change rs (Of x) l
then-counts change rs x l h None e = let lone = inside-lone rs x (Of l.object) e in by_test (same x l.object) (λ t. rw (lone, t) refl) (λ t. rw (lone, t) refl)
then-counts change rs x l h (Some o) e =
    let on : is_inside rs (Of x) (Of l.object) ≡ (same x l.object || is_inside rs o (Of l.object)) = inside-owner rs x o (Of l.object) e in
    by_test (same x l.object)
    (λ t. let is : x ≡ l.object = same-true x l.object t in
    let back : is_inside rs o (Of x) ≡ false = rw e at (no_way_back rs (length rs) (suc (length rs)) (Of x) h) in
    let out : is_inside rs o (Of l.object) ≡ false = sym (ap (λ (y : Obj). is_inside rs o (Of y)) is) ∙ back in
    rw (on, t, out) refl)
    (λ t. rw (on, t) refl)

-- ---- all of them

mapped-same : (f : Limited → Limited) → ((l : Limited) → f l ≡ l) → (ls : List Limited) → map f ls ≡ ls
mapped-same f h [] = refl
mapped-same f h (l ∷ ls) = ap (λ (k : Limited). k ∷ map f ls) (h l) ∙ ap (λ (ks : List Limited). l ∷ ks) (mapped-same f h ls)

mapped-then : (f g k : Limited → Limited) → ((l : Limited) → g (f l) ≡ k l) → (ls : List Limited) → map g (map f ls) ≡ map k ls
mapped-then f g k h [] = refl
mapped-then f g k h (l ∷ ls) = ap (λ (m : Limited). m ∷ map g (map f ls)) (h l) ∙ ap (λ (ms : List Limited). k l ∷ ms) (mapped-then f g k h ls)

climbs : (n : ℕ) (change : Change) (rs : List Row) (o : Option Owner) (ls : List Limited) → Rooted rs → ends n rs o ≡ true → climbed n change rs o ls ≡ map (counts_by change rs o) ls
climbs n change rs None ls r e = sym (mapped-same (counts_by change rs None) (λ l. refl) ls)
climbs zero change rs (Some o) ls r e = cc
climbs (suc n) change rs (Some Root) ls r e = sym (mapped-same (counts change rs Root) (root-counts change rs) ls)
climbs (suc n) change rs (Some (Of x)) ls r e =
    climbs n change rs (owner_of rs x) (map (counts_at change x) ls) r e
    ∙ mapped-then (counts_at change x) (counts_by change rs (owner_of rs x)) (counts change rs (Of x)) (λ l. then-counts change rs x l (r (Of x)) (owner_of rs x) refl) ls

pub climbs-all : (change : Change) (rs : List Row) (o : Owner) (ls : List Limited) → Rooted rs → climbed (suc (length rs)) change rs (Some o) ls ≡ map (counts change rs o) ls
climbs-all change rs o ls r = climbs (suc (length rs)) change rs (Some o) ls r (r o)

-- ---- where the way ends

pub at-root : (n : ℕ) (change : Change) (rs : List Row) (o : Owner) (ls : List Limited) → ((x : Obj) → o ≡ Of x → ⊥) → climbed n change rs (Some o) ls ≡ ls
at-root zero change rs o ls not = refl
at-root (suc n) change rs Root ls not = refl
at-root (suc n) change rs (Of x) ls not = absurd (not x refl)

pub no-steps : (n : ℕ) (change : Change) (rs : List Row) (o : Owner) (ls : List Limited) → n ≤ 0 → climbed n change rs (Some o) ls ≡ ls
no-steps zero change rs o ls e = refl
no-steps (suc n) change rs o ls e = absurd (omega (arith, e))

pub no-owner : (n : ℕ) (change : Change) (rs : List Row) (x : Obj) (ls : List Limited) → 0 < n → owner_of rs x ≡ None → climbed n change rs (Some (Of x)) ls ≡ map (counts_at change x) ls
no-owner zero change rs x ls more none = absurd (omega (arith, more))
no-owner (suc n) change rs x ls more none = ap (λ (p : Option Owner). climbed n change rs p (map (counts_at change x) ls)) none ∙ ended n
  where
    ended : (n : ℕ) → climbed n change rs None (map (counts_at change x) ls) ≡ map (counts_at change x) ls
    ended zero = refl
    ended (suc n) = refl

-- ---- the nearest with a limit

-- who has no limit counts nothing
pub not-found : (change : Change) (x : Obj) (ls : List Limited) → is_some (found ls x) ≡ false → map (counts_at change x) ls ≡ ls
not-found change x [] n = refl
not-found change x (l ∷ ls) n = by_test (same l.object x)
    (λ t. let bad : true ≡ false = rw t at n in cc)
    (λ t. let n' : is_some (found ls x) ≡ false = rw t at n in
    let apart : same x l.object ≡ false = same-false x l.object (λ q. let u : same l.object x ≡ true = same-equal l.object x (sym q) in let bad : true ≡ false = sym u ∙ t in cc) in
    let kept : counts_at change x l ≡ l = rw apart refl in
    ap (λ (k : Limited). k ∷ map (counts_at change x) ls) kept ∙ ap (λ (ks : List Limited). l ∷ ks) (not-found change x ls n'))

nearest-by : (n : ℕ) (change : Change) (rs : List Row) (o : Option Owner) (ls : List Limited) → Rooted rs → ends n rs o ≡ true → (p : Option Obj) → nearest_in n ls rs o ≡ p → map (counts_by change rs (option_map Of p)) ls ≡ map (counts_by change rs o) ls
nearest-by n change rs None ls r e p is = ap (λ (q : Option Obj). map (counts_by change rs (option_map Of q)) ls) (sym is)
nearest-by zero change rs (Some o) ls r e p is = cc
nearest-by (suc n) change rs (Some Root) ls r e p is =
    ap (λ (q : Option Obj). map (counts_by change rs (option_map Of q)) ls) (sym is)
    ∙ mapped-same (λ l. l) (λ l. refl) ls ∙ sym (mapped-same (counts change rs Root) (root-counts change rs) ls)
nearest-by (suc n) change rs (Some (Of x)) ls r e p is = by_test (is_some (found ls x))
    (λ t. let here : Some x ≡ p = rw t at is in ap (λ (q : Option Obj). map (counts_by change rs (option_map Of q)) ls) (sym here))
    (λ t. let above : nearest_in n ls rs (owner_of rs x) ≡ p = rw t at is in
    nearest-by n change rs (owner_of rs x) ls r e p above
    ∙ ap (map (counts_by change rs (owner_of rs x))) (sym (not-found change x ls t))
    ∙ mapped-then (counts_at change x) (counts_by change rs (owner_of rs x)) (counts change rs (Of x)) (λ l. then-counts change rs x l (r (Of x)) (owner_of rs x) refl) ls)

-- where the nearest has a limit, all count that an owner is inside of; and where none has one, nothing is counted
pub nearest-counts : (change : Change) (rs : List Row) (o : Owner) (x : Obj) (ls : List Limited) → Rooted rs → nearest_limited ls rs o ≡ Some x → map (counts change rs (Of x)) ls ≡ map (counts change rs o) ls
nearest-counts change rs o x ls r is = nearest-by (suc (length rs)) change rs (Some o) ls r (r o) (Some x) is

pub none-counts : (change : Change) (rs : List Row) (o : Owner) (ls : List Limited) → Rooted rs → nearest_limited ls rs o ≡ None → map (counts change rs o) ls ≡ ls
none-counts change rs o ls r is = sym (nearest-by (suc (length rs)) change rs (Some o) ls r (r o) None is) ∙ mapped-same (λ l. l) (λ l. refl) ls

-- ---- one step up to the nearest

pub is_some-map : {A B : Type 0} (f : A → B) (o : Option A) → is_some (option_map f o) ≡ is_some o
is_some-map f None = refl
is_some-map f (Some a) = refl

pub nearest-root : (n : ℕ) (ls : List Limited) (rs : List Row) (o : Owner) → ((x : Obj) → o ≡ Of x → ⊥) → nearest_in n ls rs (Some o) ≡ None
nearest-root n ls rs Root not = refl
nearest-root n ls rs (Of x) not = absurd (not x refl)

pub nearest-end : (n : ℕ) (ls : List Limited) (rs : List Row) (o : Owner) → n ≤ 0 → nearest_in n ls rs (Some o) ≡ None
nearest-end zero ls rs Root e = refl
nearest-end zero ls rs (Of x) e = refl
nearest-end (suc n) ls rs o e = absurd (omega (arith, e))

pub nearest-here : (n : ℕ) (ls : List Limited) (rs : List Row) (x : Obj) → 0 < n → is_some (found ls x) ≡ true → nearest_in n ls rs (Some (Of x)) ≡ Some x
nearest-here zero ls rs x more t = absurd (omega (arith, more))
nearest-here (suc n) ls rs x more t = rw t refl

pub nearest-above : (n : ℕ) (ls : List Limited) (rs : List Row) (x : Obj) → 0 < n → is_some (found ls x) ≡ false → nearest_in n ls rs (Some (Of x)) ≡ nearest_in (n - 1) ls rs (owner_of rs x)
nearest-above zero ls rs x more t = absurd (omega (arith, more))
nearest-above (suc n) ls rs x more t = let m : suc n - 1 ≡ n = omega arith in rw (m, t) refl
