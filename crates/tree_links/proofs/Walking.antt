-- A walk goes down to the first child, else on to the next child of the nearest owner that has one.
use Rattle.std.proofs.Common.{◌≡◌, ℕ, zero, suc, ◌+◌, ◌-◌, ◌<◌, ◌≤◌, List, [], ◌∷◌, ◌++◌, length, Option, Some, None, true, false, refl, sym, ◌∙◌, ap, subst, slice_get, arith}
use Rattle.std.proofs.lemmas.List.{append_assoc}
use Rattle.tree_specs.specs.declared.object.Obj.{Obj}
use Rattle.tree_specs.specs.declared.object.Owner.{Owner}
use Rattle.tree_specs.specs.declared.object.Owner.TheVariants.{Of}
use Rattle.tree_specs.specs.declared.row.Row.{Row}
use Rattle.tree_specs.specs.Words.Objects.{same}
use Rattle.tree_specs.specs.Tree.Pool.{owner_of, next_owner, is_below, kids, first_kid, behind, kid_behind, next_kid}
use Rattle.tree_specs.specs.Tree.Forest.{Distinct, ends, Rooted}
use Rattle.tree_specs.proofs.Tree.Numbered.{by_test, same-true, same_owner-equal}
use Rattle.tree_specs.proofs.Tree.Kids.{first_kid-kids, kids-split}
use Rattle.tree_links.specs.Links.{IsTree}
use Rattle.tree_links.specs.declared.walk.Place.{Place}
use Rattle.tree_links.specs.Walk.{at_depth, placed, later_in, later, left, ahead, from_here, IsDeep}

-- ---- children

-- these objects have this owner
abbrev pub EachOwned : List Row → Owner → List Obj → Type 0
EachOwned rs p [] = Unit {0}
EachOwned rs p (x ∷ xs) = (owner_of rs x ≡ Some p) × EachOwned rs p xs

owned-after : (rs : List Row) (p : Owner) (before xs : List Obj) → Distinct rs → kids rs p ≡ before ++ xs → EachOwned rs p xs
owned-after rs p before [] d e = tt
owned-after rs p before (x ∷ xs) d e =
    let s = kids-split rs p x before xs d e in
    (s.owned, owned-after rs p (before ++ x ∷ []) xs d (e ∙ sym (append_assoc before (x ∷ []) xs)))

pub kids-owned : (rs : List Row) (p : Owner) → Distinct rs → EachOwned rs p (kids rs p)
kids-owned rs p d = owned-after rs p [] (kids rs p) d refl

-- an object stands among the children of its owner, before those behind its row
record Found (rs : List Row) (p : Owner) (x : Obj) : Type 0 where
  before : List Obj
  split : kids rs p ≡ before ++ x ∷ kids (behind rs x) p

kid-found : (rs : List Row) (p : Owner) (x : Obj) → owner_of rs x ≡ Some p → Found rs p x
kid-found [] p x e = cc
kid-found (s ∷ rs) p x e = by_test (same s.serial x)
    (λ t. let e' : s.owner ≡ Some p = rw t at e in
    let b : is_below s.owner p ≡ true = rw e' (same_owner-equal p p refl) in
    record { before = []; split = rw (b, t) (ap (λ (y : Obj). y ∷ kids rs p) (same-true s.serial x t)) })
    (λ t. let e' : owner_of rs x ≡ Some p = rw t at e in
    let f = kid-found rs p x e' in
    by_test (is_below s.owner p)
    (λ b. record { before = s.serial ∷ f.before; split = rw (b, t) (ap (λ (l : List Obj). s.serial ∷ l) f.split) })
    (λ b. record { before = f.before; split = rw (b, t) f.split }))

-- a list that begins with an object
record Begins (xs : List Obj) (y : Obj) : Type 0 where
  others : List Obj
  split : xs ≡ y ∷ others

begins : (xs : List Obj) (y : Obj) → slice_get xs 0 ≡ Some y → Begins xs y
begins [] y e = cc
begins (x ∷ xs) y e = let q : x ≡ y = cc in record { others = xs; split = ap (λ (z : Obj). z ∷ xs) q }

none-there : (xs : List Obj) → slice_get xs 0 ≡ None → xs ≡ []
none-there [] e = refl
none-there (x ∷ xs) e = cc

first-kid : (rs : List Row) (p : Owner) (y : Obj) → first_kid rs p ≡ Some y → Begins (kids rs p) y
first-kid rs p y e = begins (kids rs p) y (sym (first_kid-kids rs p) ∙ e)

no-kid : (rs : List Row) (p : Owner) → first_kid rs p ≡ None → kids rs p ≡ []
no-kid rs p e = none-there (kids rs p) (sym (first_kid-kids rs p) ∙ e)

-- ---- no bound on the depth bites

apart : (rs : List Row) (d m : ℕ) (o : Option Owner) → ends d rs o ≡ false → ends m rs o ≡ true → d < m
apart rs d m None f t = cc
apart rs zero zero (Some o) f t = cc
apart rs zero (suc m) (Some o) f t = omega arith
apart rs (suc d) zero (Some o) f t = cc
apart rs (suc d) (suc m) (Some o) f t = let ih = apart rs d m (next_owner rs o) f t in omega (arith, ih)

-- an owner is at most as deep as there are rows
pub deep-bound : (rs : List Row) (next : ℕ) (place : Place) → IsTree rs next → IsDeep rs (Some place) → place.depth ≤ length rs
deep-bound rs next place t deep = let h = apart rs place.depth (suc (length rs)) (Some place.owner) deep (t.forest.rooted place.owner) in omega (arith, h)

kid-deep : (rs : List Row) (h : ℕ) (p : Owner) (x : Obj) → owner_of rs x ≡ Some p → ends h rs (Some p) ≡ false → ends (suc h) rs (Some (Of x)) ≡ false
kid-deep rs h p x e f = ap (ends h rs) e ∙ f

too-deep : (rs : List Row) (h : ℕ) (p : Owner) (xs : List Obj) → Rooted rs → ends h rs (Some p) ≡ false → length rs ≤ h → EachOwned rs p xs → xs ≡ []
too-deep rs h p [] rooted f l o = refl
too-deep rs h p (x ∷ xs) rooted f l o =
    let b = apart rs (suc h) (suc (length rs)) (Some (Of x)) (kid-deep rs h p x o.0 f) (rooted (Of x)) in absurd (omega (arith, b, l))

placed-none : (n : ℕ) (rs : List Row) (d : ℕ) → placed n rs d [] ≡ []
placed-none zero rs d = refl
placed-none (suc n) rs d = refl

each-placed : (n m : ℕ) (rs : List Row) (d : ℕ) (p : Owner) (xs : List Obj) → EachOwned rs p xs
    → ((x : Obj) → owner_of rs x ≡ Some p → placed n rs (suc d) (kids rs (Of x)) ≡ placed m rs (suc d) (kids rs (Of x)))
    → placed (suc n) rs d xs ≡ placed (suc m) rs d xs
each-placed n m rs d p [] o k = refl
each-placed n m rs d p (x ∷ xs) o k =
    ap (λ (l : List Place). (at_depth d x ∷ l) ++ placed (suc n) rs d xs) (k x o.0)
    ∙ ap (λ (l : List Place). (at_depth d x ∷ placed m rs (suc d) (kids rs (Of x))) ++ l) (each-placed n m rs d p xs o.1 k)

-- below an owner that has h others above it, two bounds that are both enough give the same
enough : (n m h : ℕ) (rs : List Row) (d : ℕ) (p : Owner) → Distinct rs → Rooted rs → ends h rs (Some p) ≡ false → length rs ≤ n + h → length rs ≤ m + h
    → placed n rs d (kids rs p) ≡ placed m rs d (kids rs p)
enough zero m h rs d p distinct rooted f l k =
    let e : kids rs p ≡ [] = too-deep rs h p (kids rs p) rooted f (omega (arith, l)) (kids-owned rs p distinct) in
    rw e (sym (placed-none m rs d))
enough (suc n) zero h rs d p distinct rooted f l k =
    let e : kids rs p ≡ [] = too-deep rs h p (kids rs p) rooted f (omega (arith, k)) (kids-owned rs p distinct) in
    rw e refl
enough (suc n) (suc m) h rs d p distinct rooted f l k = each-placed n m rs d p (kids rs p) (kids-owned rs p distinct)
    (λ x e. enough n m (suc h) rs (suc d) (Of x) distinct rooted (kid-deep rs h p x e f) (omega (arith, l)) (omega (arith, k)))

one-more : (rs : List Row) (d : ℕ) (p : Owner) → Distinct rs → Rooted rs → placed (length rs) rs d (kids rs p) ≡ placed (suc (length rs)) rs d (kids rs p)
one-more rs d p distinct rooted = enough (length rs) (suc (length rs)) zero rs d p distinct rooted refl (omega arith) (omega arith)

-- ---- one step of a walk

-- children of one owner, and then what is left above it
among : (rs : List Row) (d : ℕ) (p : Owner) (y : Obj) (before others : List Obj) → Distinct rs → kids rs p ≡ before ++ y ∷ others
    → placed (suc (length rs)) rs (suc d) (y ∷ others) ++ left d rs (Some p) ≡ at_depth (suc d) y ∷ ahead rs (at_depth (suc d) y)
among rs d p y before others distinct e =
    let s = kids-split rs p y before others distinct e in
    let below : List Place = placed (length rs) rs (suc (suc d)) (kids rs (Of y)) in
    let l : later rs (Of y) ≡ others = ap (later_in rs y) s.owned ∙ s.behind in
    let r : left (suc d) rs (Some (Of y)) ≡ placed (suc (length rs)) rs (suc d) others ++ left d rs (Some p)
    = ap (λ (zs : List Obj). placed (suc (length rs)) rs (suc d) zs ++ left d rs (owner_of rs y)) l
    ∙ ap (λ (o : Option Owner). placed (suc (length rs)) rs (suc d) others ++ left d rs o) s.owned in
    append_assoc (at_depth (suc d) y ∷ below) (placed (suc (length rs)) rs (suc d) others) (left d rs (Some p))
    ∙ ap (λ (ps : List Place). at_depth (suc d) y ∷ (below ++ ps)) (sym r)

-- down to the first child
down : (rs : List Row) (d : ℕ) (p : Owner) (y : Obj) → Distinct rs → Rooted rs → first_kid rs p ≡ Some y
    → ahead rs (record { owner = p; depth = d }) ≡ from_here rs (Some (at_depth (suc d) y))
down rs d p y distinct rooted e =
    let b = first-kid rs p y e in
    ap (λ (ps : List Place). ps ++ left d rs (Some p)) (one-more rs (suc d) p distinct rooted)
    ∙ ap (λ (xs : List Obj). placed (suc (length rs)) rs (suc d) xs ++ left d rs (Some p)) b.split
    ∙ among rs d p y [] b.others distinct b.split

pub down-place : (rs : List Row) (next : ℕ) (place : Place) (y : Obj) → IsTree rs next → first_kid rs place.owner ≡ Some y
    → ahead rs place ≡ from_here rs (Some (at_depth (place.depth + 1) y))
down-place rs next place y t e =
    let q : suc place.depth ≡ place.depth + 1 = omega arith in
    subst (λ (d : ℕ). ahead rs place ≡ from_here rs (Some (at_depth d y))) q (down rs place.depth place.owner y t.forest.distinct t.forest.rooted e)

pub down-deep : (rs : List Row) (next : ℕ) (place : Place) (y : Obj) → IsTree rs next → first_kid rs place.owner ≡ Some y → IsDeep rs (Some place)
    → IsDeep rs (Some (at_depth (place.depth + 1) y))
down-deep rs next place y t e deep =
    let b = first-kid rs place.owner y e in
    let s = kids-split rs place.owner y [] b.others t.forest.distinct b.split in
    let q : suc place.depth ≡ place.depth + 1 = omega arith in
    subst (λ (d : ℕ). ends d rs (Some (Of y)) ≡ false) q (kid-deep rs place.depth place.owner y s.owned deep)

-- where there is no child
pub no-down : (rs : List Row) (place : Place) → first_kid rs place.owner ≡ None → ahead rs place ≡ left place.depth rs (Some place.owner)
no-down rs place e =
    ap (λ (xs : List Obj). placed (length rs) rs (suc place.depth) xs ++ left place.depth rs (Some place.owner)) (no-kid rs place.owner e)
    ∙ ap (λ (ps : List Place). ps ++ left place.depth rs (Some place.owner)) (placed-none (length rs) rs (suc place.depth))

-- on to the next child
pub record OnTo (rs : List Row) (d : ℕ) (x y : Obj) : Type 0 where
  pub left : left d rs (Some (Of x)) ≡ from_here rs (Some (at_depth d y))
  pub deep : ends d rs (Some (Of y)) ≡ ends d rs (Some (Of x))

on : (rs : List Row) (d : ℕ) (x y : Obj) → Distinct rs → next_kid rs x ≡ Some y → OnTo rs (suc d) x y
on rs d x y distinct e = go (owner_of rs x) refl
  where
    go : (o : Option Owner) → owner_of rs x ≡ o → OnTo rs (suc d) x y
    go None q = let bad : Option.None ≡ Some y = sym (ap (kid_behind rs x) q) ∙ e in cc
    go (Some p) q =
        let first : first_kid (behind rs x) p ≡ Some y = sym (ap (kid_behind rs x) q) ∙ e in
        let b = first-kid (behind rs x) p y first in
        let f = kid-found rs p x q in
        let split : kids rs p ≡ (f.before ++ x ∷ []) ++ y ∷ b.others
        = f.split ∙ ap (λ (xs : List Obj). f.before ++ x ∷ xs) b.split ∙ sym (append_assoc f.before (x ∷ []) (y ∷ b.others)) in
        let s = kids-split rs p y (f.before ++ x ∷ []) b.others distinct split in
        let l : later rs (Of x) ≡ y ∷ b.others = ap (later_in rs x) q ∙ b.split in
        record {
          left = ap (λ (zs : List Obj). placed (suc (length rs)) rs (suc d) zs ++ left d rs (owner_of rs x)) l
              ∙ ap (λ (o : Option Owner). placed (suc (length rs)) rs (suc d) (y ∷ b.others) ++ left d rs o) q
              ∙ among rs d p y (f.before ++ x ∷ []) b.others distinct split;
          deep = ap (ends d rs) s.owned ∙ sym (ap (ends d rs) q);
        }

pub on-place : (rs : List Row) (next : ℕ) (d : ℕ) (o : Owner) (x y : Obj) (whole : List Place) → IsTree rs next → 0 < d → o ≡ Of x → Some y ≡ next_kid rs x → whole ≡ left d rs (Some o)
    → whole ≡ from_here rs (Some (at_depth d y))
on-place rs next zero o x y whole t l q e w = absurd (omega arith)
on-place rs next (suc d) o x y whole t l q e w =
    w ∙ ap (λ (p : Owner). left (suc d) rs (Some p)) q ∙ (on rs d x y t.forest.distinct (sym e)).left

pub on-deep : (rs : List Row) (next : ℕ) (d : ℕ) (o : Owner) (x y : Obj) → IsTree rs next → 0 < d → o ≡ Of x → Some y ≡ next_kid rs x → ends d rs (Some o) ≡ false
    → ends d rs (Some (Of y)) ≡ false
on-deep rs next zero o x y t l q e f = absurd (omega arith)
on-deep rs next (suc d) o x y t l q e f = (on rs d x y t.forest.distinct (sym e)).deep ∙ ap (λ (p : Owner). ends (suc d) rs (Some p)) (sym q) ∙ f

-- up to the owner
no-next : (rs : List Row) (x : Obj) (o : Owner) → next_kid rs x ≡ None → owner_of rs x ≡ Some o → later rs (Of x) ≡ []
no-next rs x o e q = ap (later_in rs x) q ∙ no-kid (behind rs x) o (sym (ap (kid_behind rs x) q) ∙ e)

pub up-place : (rs : List Row) (d : ℕ) (o p : Owner) (x : Obj) (whole : List Place) → 0 < d → o ≡ Of x → None ≡ next_kid rs x → Some p ≡ owner_of rs x → whole ≡ left d rs (Some o)
    → whole ≡ left (d - 1) rs (Some p)
up-place rs zero o p x whole l q e w h = absurd (omega arith)
up-place rs (suc d) o p x whole l q e w h =
    let k : suc d - 1 ≡ d = omega arith in
    h ∙ ap (λ (z : Owner). left (suc d) rs (Some z)) q
    ∙ ap (λ (zs : List Obj). placed (suc (length rs)) rs (suc d) zs ++ left d rs (owner_of rs x)) (no-next rs x p (sym e) (sym w))
    ∙ ap (left d rs) (sym w)
    ∙ ap (λ (n : ℕ). left n rs (Some p)) (sym k)

pub up-deep : (rs : List Row) (d : ℕ) (o p : Owner) (x : Obj) → 0 < d → o ≡ Of x → Some p ≡ owner_of rs x → ends d rs (Some o) ≡ false → ends (d - 1) rs (Some p) ≡ false
up-deep rs zero o p x l q w f = absurd (omega arith)
up-deep rs (suc d) o p x l q w f =
    let k : suc d - 1 ≡ d = omega arith in
    ap (λ (n : ℕ). ends n rs (Some p)) k ∙ ap (ends d rs) w ∙ ap (λ (z : Owner). ends (suc d) rs (Some z)) (sym q) ∙ f
