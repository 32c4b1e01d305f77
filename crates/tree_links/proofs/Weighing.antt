-- The sums over what is inside an owner are sums over a walk.
use Rattle.std.proofs.Common.{◌≡◌, ℕ, zero, suc, ◌+◌, ◌*◌, ◌^◌, ◌<◌, ◌≤◌, List, [], ◌∷◌, length, map, Bool, false, Option, None, Some, is_some, if◌then◌else◌, refl, sym, ap, arith}
use Rattle.std.specs.List.{flat_map, sum_by}
use Rattle.std.proofs.lemmas.List.{append-nil}
use Rattle.std.proofs.lemmas.List.Recursion.{is_sum_by}
use Rattle.std.proofs.lemmas.List.Sums.{sum_by-cons, sum_by-append}
use Rattle.std.specs.Fn.{Called}
use Rattle.std.specs.Iterator.{YieldsFirst}
use Rattle.std.specs.Iterator.Adapters.{map_source, map_callee}
use Rattle.std.specs.declared.iter.Map.{Map}
use Rattle.std.proofs.lemmas.Iterator.{YieldsList, maps, YieldsList-from_map}
use Rattle.std.proofs.lemmas.Iterator.Consumers.{YieldsList-from_first}
use denote.Param.Members.{Mut}
use Rattle.tree_specs.specs.declared.object.Obj.{Obj}
use Rattle.tree_specs.specs.declared.object.Owner.{Owner}
use Rattle.tree_specs.specs.declared.object.Owner.TheVariants.{Root, Of}
use Rattle.tree_specs.specs.declared.row.Row.{Row}
use Rattle.tree_specs.specs.Calls.Refusals.{size_limit}
use Rattle.tree_specs.specs.Tree.Pool.{kids, first_kid, is_inside}
use Rattle.tree_specs.specs.Tree.Inside.{total, count_inside}
use Rattle.tree_specs.specs.Tree.Sums.{overhead, charge, sum_inside}
use Rattle.tree_specs.specs.Tree.Targets.{is_reference}
use Rattle.tree_specs.specs.Tree.Walks.{walked, weight_at, own, own_row, total_of}
use Rattle.linked_lanes.proofs.Lanes.{not_both}
use Rattle.tree_specs.proofs.Tree.Numbered.{by_test}
use Rattle.tree_specs.proofs.Tree.Walk.{total-same, inside-walked}
use Rattle.tree_links.specs.Links.{AllFit, IsTree}
use Rattle.tree_links.proofs.Trees.{fit-row}
use Rattle.tree_links.specs.declared.walk.Place.{Place}
use Rattle.tree_links.specs.Walk.{at_depth, placed, ahead, walk_from}
use Rattle.tree_links.proofs.Walking.{no-down}
use Rattle.tree_links.specs.declared.sums.Weight.{Weight}
use Rattle.tree_links.specs.declared.sums.Weight.TheVariants.{Size, Number, Charge}
use Rattle.tree_links.specs.Weights.{sized, counted, weighed, weight_of, inside_weight}

-- ---- weights along a walk

flat-weight : (f : Place → ℕ) (h : Obj → ℕ) (places : Obj → List Place) (objects : Obj → List Obj) → ((x : Obj) → sum_by f (places x) ≡ sum_by h (objects x)) → (xs : List Obj)
    → sum_by f (flat_map places xs) ≡ sum_by h (flat_map objects xs)
flat-weight f h places objects k [] = refl
flat-weight f h places objects k (x ∷ xs) =
    let ih = flat-weight f h places objects k xs in
    omega (arith, ih, k x, sum_by-append f (places x) (flat_map places xs), sum_by-append h (objects x) (flat_map objects xs))

placed-weight : (n d : ℕ) (g : Row → ℕ) (rs : List Row) (xs : List Obj) → sum_by (weight_of g rs) (placed n rs d xs) ≡ sum_by (weight_at g rs) (walked n rs xs)
placed-weight zero d g rs xs = refl
placed-weight (suc n) d g rs xs = flat-weight (weight_of g rs) (weight_at g rs) (λ x. at_depth d x ∷ placed n rs (suc d) (kids rs (Of x))) (λ x. x ∷ walked n rs (kids rs (Of x)))
    (λ x. let ih = placed-weight n (suc d) g rs (kids rs (Of x)) in
    omega (arith, ih, sum_by-cons (weight_of g rs) (at_depth d x) (placed n rs (suc d) (kids rs (Of x))), sum_by-cons (weight_at g rs) x (walked n rs (kids rs (Of x)))))
    xs

-- the weight along the walk from an owner
pub whole-weight : (g : Row → ℕ) (rs : List Row) (next : ℕ) (from : Owner) → IsTree rs next
    → sum_by (weight_of g rs) (walk_from rs from) ≡ inside_weight g rs from
whole-weight g rs next from t =
    let place : Place = record { owner = from; depth = 0 } in
    let e0 = sum_by-cons (weight_of g rs) place (ahead rs place) in
    let e1 = ap (sum_by (weight_of g rs)) (append-nil (placed (length rs) rs 1 (kids rs from))) in
    let e2 = placed-weight (length rs) 1 g rs (kids rs from) in
    let e3 = is_sum_by (total_of (weight_at g rs)) (weight_at g rs) refl (λ x xs. refl) (walked (length rs) rs (kids rs from)) in
    let e5 = inside-walked g rs from t.forest.distinct t.forest.rooted in
    omega (arith, e0, e1, e2, e3, e5)

-- what is inside an owner with no children weighs what it weighs by itself
pub leaf-weight : (g : Row → ℕ) (rs : List Row) (next : ℕ) (from : Owner) (kid : Option Obj) → IsTree rs next → kid ≡ first_kid rs from → is_some kid ≡ false
    → own g rs from ≡ inside_weight g rs from
leaf-weight g rs next from None t e h =
    let place : Place = record { owner = from; depth = 0 } in
    let alone : sum_by (weight_of g rs) (ahead rs place) ≡ 0 = ap (sum_by (weight_of g rs)) (no-down rs place (sym e)) in
    let whole = whole-weight g rs next from t in
    let first = sum_by-cons (weight_of g rs) place (ahead rs place) in
    omega (arith, alone, whole, first)
leaf-weight g rs next from (Some k) t e h = not_both refl h

pub count-weight : (rs : List Row) (next : ℕ) (from : Owner) → IsTree rs next → inside_weight counted rs from ≡ count_inside rs from
count-weight rs next from t = total-same _ _ rs t.forest.distinct (λ r e. by_test (is_inside rs (Of r.serial) from) (λ q. rw q refl) (λ q. rw q refl))

-- ---- the sums fit

-- the weight of each row that fits is small
abbrev pub IsSmall : (Row → ℕ) → Type 0
IsSmall g = (r : Row) → r.size < size_limit → g r ≤ size_limit + overhead

sized-small : IsSmall sized
sized-small r l = omega (arith, l)

charge-small : IsSmall charge
charge-small r l = by_test (is_reference r.kind) (λ t. rw t (omega arith)) (λ t. rw t (omega (arith, l)))

counted-small : IsSmall counted
counted-small r l = by_test (is_reference r.kind) (λ t. rw t (omega arith)) (λ t. rw t (omega arith))

pub weighed-small : (w : Weight) → IsSmall (weighed w)
weighed-small Size = sized-small
weighed-small Number = counted-small
weighed-small Charge = charge-small

weights-bound : (g : Row → ℕ) (b : Row → Bool) (next : ℕ) (rs : List Row) → IsSmall g → AllFit next rs → total (λ r. if b r then g r else 0) rs ≤ length rs * (size_limit + overhead)
weights-bound g b next [] small f = omega arith
weights-bound g b next (r ∷ rs) small f =
    let ih = weights-bound g b next rs small f.2 in
    by_test (b r) (λ t. rw t (omega (arith, ih, small r f.1))) (λ t. rw t (omega (arith, ih)))

pub weight-fits : (g : Row → ℕ) (rs : List Row) (next : ℕ) (from : Owner) → IsSmall g → IsTree rs next → sum_by (weight_of g rs) (walk_from rs from) < 2 ^ 64
weight-fits g rs next from small t =
    let b = weights-bound g (λ r. is_inside rs (Of r.serial) from) next rs small t.fit in
    let e = whole-weight g rs next from t in
    omega (arith, e, b, t.few)

-- what is inside an owner counts less than numbers go
pub sum-small : (rs : List Row) (next : ℕ) (from : Owner) → IsTree rs next → sum_inside rs from < 2 ^ 64
sum-small rs next from t = let b = weights-bound charge (λ r. is_inside rs (Of r.serial) from) next rs charge-small t.fit in omega (arith, b, t.few)

-- ---- what a chain of iterators gives that weighs each place of a walk

pub weights : {F : Type 0} {s : Map (List Place) F} {f : F} (call : Mut F (Place × Unit {0}) ℕ) (g : Row → ℕ) (rs : List Row) (from : Owner) → map_source s ≡ walk_from rs from → map_callee s ≡ f
    → ((place : Place) (r : ℕ) (q : F) → Called call f (place, tt) r q → (q ≡ f) × (r ≡ weight_of g rs place)) → YieldsList (maps (YieldsFirst (λ w. w)) call) (λ r. r) s (map (weight_of g rs) (walk_from rs from))
weights call g rs from source closure calls = YieldsList-from_map call (weight_of g rs) (YieldsList-from_first (λ p. p) (λ w. w) (walk_from rs from) source) closure calls

-- the size of an owner's own row
pub own-size : (rs : List Row) (next : ℕ) (from : Owner) (r : Row) → AllFit next rs → own_row rs from ≡ Some r → r.size < size_limit
own-size rs next Root r fit e = cc
own-size rs next (Of x) r fit e = (fit-row next rs x r fit e).1
