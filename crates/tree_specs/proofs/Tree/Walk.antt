-- A weight over all that is inside an owner is the weight over a walk from it.
use Rattle.std.proofs.Common.{◌≡◌, ℕ, zero, suc, ◌+◌, List, [], ◌∷◌, ◌++◌, length, flat_map, Option, Some, None, true, false, if◌then◌else◌, refl, sym, ◌∙◌, ap, arith}
use Rattle.tree_specs.specs.declared.object.Obj.{Obj}
use Rattle.tree_specs.specs.declared.object.Owner.{Owner}
use Rattle.tree_specs.specs.declared.object.Owner.TheVariants.{Root, Of}
use Rattle.tree_specs.specs.declared.row.Row.{Row}
use Rattle.tree_specs.specs.Words.Objects.{same, same_owner}
use Rattle.tree_specs.specs.Tree.Pool.{row_of, is_below, kids, owner_in, owner_of, next_owner, reaches, is_inside}
use Rattle.tree_specs.specs.Tree.Inside.{total}
use Rattle.tree_specs.specs.Tree.Forest.{Distinct}
use Rattle.tree_specs.specs.Tree.Forest.{Rooted}
use Rattle.tree_specs.specs.Tree.Walks.{walked, weight_in, weight_at, own, total_of}
use Rattle.tree_specs.proofs.Tree.Numbered.{by_test, same-true, same-equal, same-false, same_owner-true}
use Rattle.tree_specs.proofs.Tree.Ancestry.{no_way_back}

-- a row of the list is what its number finds
row-apart : (s : Row) (rs : List Row) (r : Row) → row_of rs s.serial ≡ None → row_of rs r.serial ≡ Some r → same s.serial r.serial ≡ false
row-apart s rs r d e = same-false _ _ (λ q. let w : row_of rs r.serial ≡ None = ap (row_of rs) (sym q) ∙ d in let bad : Some r ≡ None = sym e ∙ w in cc)

-- weights that are the same of each row have the same total
pub total-same : (g h : Row → ℕ) (rs : List Row) → Distinct rs → ((r : Row) → row_of rs r.serial ≡ Some r → g r ≡ h r) → total g rs ≡ total h rs
total-same g h [] d k = refl
total-same g h (s ∷ rs) d k =
    let here : same s.serial s.serial ≡ true = same-equal _ _ refl in
    let e : g s ≡ h s = k s (rw here refl) in
    let ih = total-same g h rs d.1 (λ r q. let u = row-apart s rs r d.0 q in k r (rw u q)) in
    omega (arith, e, ih)

total-plus : (g h : Row → ℕ) (rs : List Row) → total (λ r. g r + h r) rs ≡ total g rs + total h rs
total-plus g h [] = refl
total-plus g h (r ∷ rs) = let ih = total-plus g h rs in omega (arith, ih)

total-none : (rs : List Row) → total (λ r. 0) rs ≡ 0
total-none [] = refl
total-none (r ∷ rs) = let ih = total-none rs in omega (arith, ih)

-- ---- totals over lists of objects

total_of-append : (h : Obj → ℕ) (xs ys : List Obj) → total_of h (xs ++ ys) ≡ total_of h xs + total_of h ys
total_of-append h [] ys = omega arith
total_of-append h (x ∷ xs) ys = let ih = total_of-append h xs ys in omega (arith, ih)

total_of-flat_map : (h : Obj → ℕ) (f : Obj → List Obj) (xs : List Obj) → total_of h (flat_map f xs) ≡ total_of (λ x. total_of h (f x)) xs
total_of-flat_map h f [] = refl
total_of-flat_map h f (x ∷ xs) = let ih = total_of-flat_map h f xs in let e = total_of-append h (f x) (flat_map f xs) in omega (arith, e, ih)

total_of-plus : (f h : Obj → ℕ) (xs : List Obj) → total_of (λ x. f x + h x) xs ≡ total_of f xs + total_of h xs
total_of-plus f h [] = refl
total_of-plus f h (x ∷ xs) = let ih = total_of-plus f h xs in omega (arith, ih)

total_of-same : (f h : Obj → ℕ) (xs : List Obj) → ((x : Obj) → f x ≡ h x) → total_of f xs ≡ total_of h xs
total_of-same f h [] k = refl
total_of-same f h (x ∷ xs) k = let ih = total_of-same f h xs k in let e = k x in omega (arith, ih, e)

total_of-none : (xs : List Obj) → total_of (λ x. 0) xs ≡ 0
total_of-none [] = refl
total_of-none (x ∷ xs) = let ih = total_of-none xs in omega (arith, ih)

-- first over the objects, or first over the rows
total_of-total : (w : Obj → Row → ℕ) (xs : List Obj) (rs : List Row) → total_of (λ x. total (w x) rs) xs ≡ total (λ r. total_of (λ x. w x r) xs) rs
total_of-total w [] rs = sym (total-none rs)
total_of-total w (x ∷ xs) rs = let ih = total_of-total w xs rs in let e = total-plus (w x) (λ r. total_of (λ y. w y r) xs) rs in omega (arith, ih, e)

-- ---- the objects below an owner

-- the owner of what o names is p exactly where o is one of its children
kids-next : (w : ℕ) (rs : List Row) (o p : Owner) → Distinct rs
    → total_of (λ x. if same_owner o (Of x) then w else 0) (kids rs p) ≡ (if is_below (next_owner rs o) p then w else 0)
kids-next w rs Root p d = total_of-none (kids rs p)
kids-next w [] (Of y) p d = refl
kids-next w (s ∷ rs) (Of y) p d = let ih = kids-next w rs (Of y) p d.1 in by_test (same s.serial y)
    (λ t. let e : s.serial ≡ y = same-true s.serial y t in
    let u : same y s.serial ≡ true = same-equal _ _ (sym e) in
    let gone : row_of rs y ≡ None = ap (row_of rs) (sym e) ∙ d.0 in
    let none : total_of (λ x. if same_owner (Of y) (Of x) then w else 0) (kids rs p) ≡ 0 = rw gone at ih in
    by_test (is_below s.owner p) (λ v. rw (t, v, u) (omega (arith, none))) (λ v. rw (t, v) none))
    (λ t. let u : same y s.serial ≡ false = same-false _ _ (λ q. let v : same s.serial y ≡ true = same-equal _ _ (sym q) in
    let bad : true ≡ false = sym v ∙ t in cc) in
    by_test (is_below s.owner p) (λ v. rw (t, v, u) (omega (arith, ih))) (λ v. rw (t, v) ih))

kids-total : (h : Obj → ℕ) (rs : List Row) (p : Owner) → total_of h (kids rs p) ≡ total (λ r. if is_below r.owner p then h r.serial else 0) rs
kids-total h [] p = refl
kids-total h (s ∷ rs) p = let ih = kids-total h rs p in by_test (is_below s.owner p)
    (λ t. rw t (omega (arith, ih)))
    (λ t. rw t (omega (arith, ih)))

-- the weights of the children
kids-weight : (g : Row → ℕ) (rs : List Row) (p : Owner) → Distinct rs
    → total_of (weight_at g rs) (kids rs p) ≡ total (λ r. if is_below r.owner p then g r else 0) rs
kids-weight g rs p d = kids-total (weight_at g rs) rs p
    ∙ total-same _ _ rs d (λ r q. ap (λ (o : Option Row). if is_below r.owner p then weight_in g o else 0) q)

-- ---- how often a way comes to an owner

-- the weight w each time that one is at p, at the first n owners of a way
abbrev met : ℕ → List Row → ℕ → Option Owner → Owner → ℕ
met zero rs w o p = 0
met (suc n) rs w None p = 0
met (suc n) rs w (Some o) p = (if same_owner o p then w else 0) + met n rs w (next_owner rs o) p

-- one owner more: at p, or on the way at one of its children
met-kids : (n : ℕ) (rs : List Row) (w : ℕ) (o : Option Owner) (p : Owner) → Distinct rs
    → met (suc n) rs w o p ≡ (if is_below o p then w else 0) + total_of (λ x. met n rs w o (Of x)) (kids rs p)
met-kids zero rs w None p d = let e = total_of-none (kids rs p) in omega (arith, e)
met-kids zero rs w (Some o) p d = let e = total_of-none (kids rs p) in omega (arith, e)
met-kids (suc n) rs w None p d = let e = total_of-none (kids rs p) in omega (arith, e)
met-kids (suc n) rs w (Some o) p d =
    let ih = met-kids n rs w (next_owner rs o) p d in
    let e1 = kids-next w rs o p d in
    let e2 = total_of-plus (λ x. if same_owner o (Of x) then w else 0) (λ x. met n rs w (next_owner rs o) (Of x)) (kids rs p) in
    omega (arith, ih, e1, e2)

-- on a way that ends one comes to p once or never
met-once : (n : ℕ) (rs : List Row) (w : ℕ) (o : Option Owner) (p : Owner) → Rooted rs
    → met (suc n) rs w o p ≡ (if reaches n rs o p then w else 0)
met-once n rs w None p rooted = refl
met-once zero rs w (Some o) p rooted = omega arith
met-once (suc n) rs w (Some o) p rooted = let ih = met-once n rs w (next_owner rs o) p rooted in by_test (same_owner o p)
    (λ t. let e : o ≡ p = same_owner-true o p t in
    let gone : reaches n rs (next_owner rs o) p ≡ false = rw (← e) (no_way_back rs n (suc (length rs)) o (rooted o)) in
    let none : met (suc n) rs w (next_owner rs o) p ≡ 0 = rw gone at ih in
    rw t (omega (arith, none)))
    (λ t. rw t (omega (arith, ih)))

-- ---- the walk

walk-met : (n : ℕ) (g : Row → ℕ) (rs : List Row) (p : Owner) → Distinct rs
    → total_of (weight_at g rs) (walked n rs (kids rs p)) ≡ total (λ r. met n rs (g r) r.owner p) rs
walk-met zero g rs p d = sym (total-none rs)
walk-met (suc n) g rs p d =
    let f : Obj → List Obj = λ x. x ∷ walked n rs (kids rs (Of x)) in
    let below : Obj → ℕ = λ x. total (λ r. met n rs (g r) r.owner (Of x)) rs in
    let e1 : total_of (weight_at g rs) (walked (suc n) rs (kids rs p)) ≡ total_of (λ x. total_of (weight_at g rs) (f x)) (kids rs p)
    = total_of-flat_map (weight_at g rs) f (kids rs p) in
    let e2 : total_of (λ x. total_of (weight_at g rs) (f x)) (kids rs p) ≡ total_of (λ x. weight_at g rs x + below x) (kids rs p)
    = total_of-same _ _ (kids rs p) (λ x. let ih = walk-met n g rs (Of x) d in omega (arith, ih)) in
    let e3 = total_of-plus (weight_at g rs) below (kids rs p) in
    let e4 = kids-weight g rs p d in
    let e5 = total_of-total (λ x r. met n rs (g r) r.owner (Of x)) (kids rs p) rs in
    let e6 = total-plus (λ r. if is_below r.owner p then g r else 0) (λ r. total_of (λ x. met n rs (g r) r.owner (Of x)) (kids rs p)) rs in
    let e7 : total (λ r. met (suc n) rs (g r) r.owner p) rs
    ≡ total (λ r. (if is_below r.owner p then g r else 0) + total_of (λ x. met n rs (g r) r.owner (Of x)) (kids rs p)) rs
    = total-same _ _ rs d (λ r q. met-kids n rs (g r) r.owner p d) in
    omega (arith, e1, e2, e3, e4, e5, e6, e7)

own-weight : (g : Row → ℕ) (rs : List Row) (p : Owner) → Distinct rs → total (λ r. if same_owner (Of r.serial) p then g r else 0) rs ≡ own g rs p
own-weight g rs Root d = total-none rs
own-weight g [] (Of x) d = refl
own-weight g (s ∷ rs) (Of x) d = let ih = own-weight g rs (Of x) d.1 in by_test (same s.serial x)
    (λ t. let gone : row_of rs x ≡ None = ap (row_of rs) (sym (same-true s.serial x t)) ∙ d.0 in
    let none : total (λ r. if same_owner (Of r.serial) (Of x) then g r else 0) rs ≡ 0 = rw gone at ih in rw t (omega (arith, none)))
    (λ t. rw t (omega (arith, ih)))

-- a weight over all rows inside an owner is that of its own row and that of a walk over what is below it
pub inside-walked : (g : Row → ℕ) (rs : List Row) (p : Owner) → Distinct rs → Rooted rs
    → total (λ r. if is_inside rs (Of r.serial) p then g r else 0) rs ≡ own g rs p + total_of (weight_at g rs) (walked (length rs) rs (kids rs p))
inside-walked g rs p d rooted =
    let each : (r : Row) → row_of rs r.serial ≡ Some r → (if is_inside rs (Of r.serial) p then g r else 0)
    ≡ (if same_owner (Of r.serial) p then g r else 0) + met (length rs) rs (g r) r.owner p
    = λ r q. let e : owner_of rs r.serial ≡ r.owner = ap owner_in q in
    let once : met (suc (length rs)) rs (g r) (Some (Of r.serial)) p ≡ (if is_inside rs (Of r.serial) p then g r else 0)
    = met-once (length rs) rs (g r) (Some (Of r.serial)) p rooted in
    let e' : met (length rs) rs (g r) (owner_of rs r.serial) p ≡ met (length rs) rs (g r) r.owner p
    = ap (λ o. met (length rs) rs (g r) o p) e in
    omega (arith, once, e') in
    let e1 = total-same (λ r. if is_inside rs (Of r.serial) p then g r else 0)
    (λ r. (if same_owner (Of r.serial) p then g r else 0) + met (length rs) rs (g r) r.owner p) rs d each in
    let e2 = total-plus (λ r. if same_owner (Of r.serial) p then g r else 0) (λ r. met (length rs) rs (g r) r.owner p) rs in
    let e3 = own-weight g rs p d in
    let e4 = walk-met (length rs) g rs p d in
    omega (arith, e1, e2, e3, e4)
