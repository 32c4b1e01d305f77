-- What keeps that all owners are there, and that from owner to owner one comes to an end.
use Rattle.std.proofs.Common.{◌≡◌, ◌≢◌, ℕ, zero, suc, ◌+◌, List, [], ◌∷◌, length, Option, Some, None, true, false, not, refl, sym, ◌∙◌, ap, inl, inr, arith}
use Rattle.std.proofs.Math.Bool.{or-true}
use Rattle.tree_specs.specs.declared.object.Obj.{Obj}
use Rattle.tree_specs.specs.declared.object.Owner.{Owner}
use Rattle.tree_specs.specs.declared.object.Owner.TheVariants.{Root, Of}
use Rattle.tree_specs.specs.declared.row.Row.{Row}
use Rattle.tree_specs.specs.declared.kind.Kind.{Kind}
use Rattle.tree_specs.specs.Words.Objects.{same, same_owner}
use Rattle.tree_specs.specs.Tree.Targets.{is_reference}
use Rattle.tree_specs.specs.Tree.Pool.{Pool, row_of, is_object_row, is_object, is_owner, is_below, first_kid, owner_in, owner_of, next_owner, reaches, is_inside, without, changed, new_row, left_row, place}
use Rattle.tree_specs.specs.Tree.Forest.{Distinct, ends, Rooted, IsThere, OwnersAre, AllOwned, IsForest}
use Rattle.tree_specs.proofs.Tree.Numbered.{by_test, same-true, same-equal, same-false, same_or_not, same_owner-true}
use Rattle.tree_specs.proofs.Tree.Rows.{row_of-serial, row_of-changed-other, row_of-changed-same, row_of-changed-none, row_of-without-other, row_of-without-same, Distinct-without, Distinct-changed}
-- ---- a test that may hold of more objects with each step settles within as many steps as there are rows
use Rattle.tree_specs.proofs.Tree.Ancestry.{ends-more, ends-bound, reaches-inside}

-- ---- what keeps that all owners are there

-- the owner of a row is there
pub is_there-owner : (rs qs : List Row) (x : Obj) → OwnersAre rs qs → IsThere rs (owner_of qs x)
is_there-owner rs [] x h = tt
is_there-owner rs (r ∷ qs) x h = by_test (same r.serial x) (λ t. rw t h.0) (λ t. let ih = is_there-owner rs qs x h.1 in rw t ih)

-- from a row one comes only to rows and to the root
pub reaches-is_owner : (rs : List Row) (n : ℕ) (o : Option Owner) (y : Owner) → AllOwned rs → IsThere rs o → reaches n rs o y ≡ true → is_owner rs y ≡ true
reaches-is_owner rs n None y a h r = cc
reaches-is_owner rs zero (Some o) y a h r = let e : o ≡ y = same_owner-true o y r in rw e at h
reaches-is_owner rs (suc n) (Some o) y a h r = by_test (same_owner o y)
    (λ t. let e : o ≡ y = same_owner-true o y t in rw e at h)
    (λ t. let r' : reaches n rs (next_owner rs o) y ≡ true = rw t at r in reaches-is_owner rs n (next_owner rs o) y a (there o) r') where
      there : (o : Owner) → IsThere rs (next_owner rs o)
      there Root = tt
      there (Of x) = is_there-owner rs rs x a

is_there-more : (rs qs : List Row) (o : Option Owner) → ((y : Obj) → is_object rs y ≡ true → is_object qs y ≡ true) → IsThere rs o → IsThere qs o
is_there-more rs qs None k h = tt
is_there-more rs qs (Some Root) k h = refl
is_there-more rs qs (Some (Of y)) k h = k y h

owners-more : (rs rs' qs : List Row) → ((y : Obj) → is_object rs y ≡ true → is_object rs' y ≡ true) → OwnersAre rs qs → OwnersAre rs' qs
owners-more rs rs' [] k h = tt
owners-more rs rs' (r ∷ qs) k h = (is_there-more rs rs' r.owner k h.0, owners-more rs rs' qs k h.1)

owners-without : (rs qs : List Row) (x : Obj) → OwnersAre rs qs → OwnersAre rs (without qs x)
owners-without rs [] x h = tt
owners-without rs (r ∷ qs) x h = by_test (same r.serial x) (λ t. rw t h.1) (λ t. rw t (h.0, owners-without rs qs x h.1))

owners-changed : (f : Row → Row) (rs qs : List Row) (x : Obj) → ((r : Row) → IsThere rs r.owner → IsThere rs (f r).owner)
    → OwnersAre rs qs → OwnersAre rs (changed f qs x)
owners-changed f rs [] x k h = tt
owners-changed f rs (r ∷ qs) x k h = by_test (same r.serial x)
    (λ t. rw t (k r h.0, h.1))
    (λ t. rw t (h.0, owners-changed f rs qs x k h.1))

-- a row in front of all others
is_object-front : (r : Row) (rs : List Row) (y : Obj) → (r.serial ≡ y → is_object rs y ≡ true → not (is_reference r.kind) ≡ true) → is_object rs y ≡ true → is_object (r ∷ rs) y ≡ true
is_object-front r rs y same_kind h = by_test (same r.serial y) (λ t. rw t (same_kind (same-true r.serial y t) h)) (λ t. rw t h)

is_object-changed : (f : Row → Row) (rs : List Row) (x y : Obj) → ((r : Row) → (f r).serial ≡ r.serial) → ((r : Row) → (f r).kind ≡ r.kind) → is_object rs y ≡ true
    → is_object (changed f rs x) y ≡ true
is_object-changed f [] x y k kinds h = cc
is_object-changed f (s ∷ rs) x y k kinds h = by_test (same s.serial y)
    (λ u. let u2 : same (f s).serial y ≡ true = ap (λ q. same q y) (k s) ∙ u in
    let h' : not (is_reference s.kind) ≡ true = rw u at h in by_test (same s.serial x)
    (λ t. rw (t, u2, kinds s) h')
    (λ t. rw (t, u) h'))
    (λ u. let u2 : same (f s).serial y ≡ false = ap (λ q. same q y) (k s) ∙ u in
    let h' : is_object rs y ≡ true = rw u at h in by_test (same s.serial x)
    (λ t. rw (t, u2) h')
    (λ t. let ih : is_object (changed f rs x) y ≡ true = is_object-changed f rs x y k kinds h' in rw (t, u) ih))

-- a new object whose owner is there
pub AllOwned-new : (rs : List Row) (s : Obj) (kind : Kind) (o : Owner) (size : ℕ) (name : List ℕ) → AllOwned rs → row_of rs s ≡ None → is_owner rs o ≡ true
    → AllOwned (new_row s kind o size name ∷ rs)
AllOwned-new rs s kind o size name a none h =
    let r : Row = new_row s kind o size name in
    let more : (y : Obj) → is_object rs y ≡ true → is_object (r ∷ rs) y ≡ true = λ y k. is_object-front r rs y
    (λ e is. let gone : row_of rs y ≡ None = ap (row_of rs) (sym e) ∙ none in let bad : false ≡ true = rw gone at is in cc) k in
    (is_there-more rs (r ∷ rs) (Some o) more h, owners-more rs (r ∷ rs) rs more a)

-- an object is put below an owner that is there
pub AllOwned-placed : (p : Pool) (o : Owner) (x : Obj) (r : Row) → AllOwned p.rows → row_of p.rows x ≡ Some r → is_owner p.rows o ≡ true
    → AllOwned (place p o x).rows
AllOwned-placed p o x r a e h = let s : Row = record r { owner = Some o } in
    let rs : List Row = s ∷ without p.rows x in
    let more : (y : Obj) → is_object p.rows y ≡ true → is_object rs y ≡ true = λ y k. elim (same_or_not x y) [
      | inl q ↦
          let t : same r.serial y ≡ true = same-equal _ _ (row_of-serial p.rows x r e ∙ q) in
          let is : row_of p.rows y ≡ Some r = ap (row_of p.rows) (sym q) ∙ e in
          rw t (rw is at k)
      | inr q ↦
          let u : same r.serial y ≡ false = same-false r.serial y (λ z. q (sym (row_of-serial p.rows x r e) ∙ z)) in
          rw u (ap is_object_row (row_of-without-other p.rows x y q) ∙ k)
    ] in
    rw e (is_there-more p.rows rs (Some o) more h, owners-more p.rows rs (without p.rows x) more (owners-without p.rows p.rows x a))

-- a row is changed, and keeps its owner
pub AllOwned-changed : (f : Row → Row) (rs : List Row) (x : Obj) → ((r : Row) → (f r).serial ≡ r.serial) → ((r : Row) → (f r).kind ≡ r.kind) → ((r : Row) → (f r).owner ≡ r.owner)
    → AllOwned rs → AllOwned (changed f rs x)
AllOwned-changed f rs x k kinds same_owners a = let rs' : List Row = changed f rs x in
    owners-changed f rs' rs x (λ r h. rw (same_owners r) h) (owners-more rs rs' rs (λ y h. is_object-changed f rs x y k kinds h) a)

-- an object leaves its owner
pub AllOwned-left : (rs : List Row) (x : Obj) → AllOwned rs → AllOwned (changed left_row rs x)
AllOwned-left rs x a = let rs' : List Row = changed left_row rs x in
    owners-changed left_row rs' rs x (λ r h. tt) (owners-more rs rs' rs (λ y h. is_object-changed left_row rs x y (λ r. refl) (λ r. refl) h) a)

owners-no_kid : (rs qs : List Row) (x : Obj) → first_kid qs (Of x) ≡ None → OwnersAre rs qs → OwnersAre (without rs x) qs
owners-no_kid rs [] x e h = tt
owners-no_kid rs (r ∷ qs) x e h = by_test (is_below r.owner (Of x))
    (λ t. let bad : Some r.serial ≡ None = rw t at e in cc)
    (λ t. let e' : first_kid qs (Of x) ≡ None = rw t at e in (there r.owner t h.0, owners-no_kid rs qs x e' h.1)) where
      there : (o : Option Owner) → is_below o (Of x) ≡ false → IsThere rs o → IsThere (without rs x) o
      there None t k = tt
      there (Some Root) t k = refl
      there (Some (Of y)) t k = let ne : x ≢ y = λ q. let u : same y x ≡ true = same-equal y x (sym q) in let bad : true ≡ false = sym u ∙ t in cc in
          ap is_object_row (row_of-without-other rs x y ne) ∙ k

-- a row without a child is taken out
pub AllOwned-without : (rs : List Row) (x : Obj) → AllOwned rs → first_kid rs (Of x) ≡ None → AllOwned (without rs x)
AllOwned-without rs x a e = owners-without (without rs x) rs x (owners-no_kid rs rs x e a)

-- ---- what keeps that all ways end

-- where there are no rows
pub Rooted-none : Rooted []
Rooted-none Root = refl
Rooted-none (Of x) = refl

-- a way whose objects have the same owners in other rows ends in those too
ends-same : (rs rs' : List Row) (k : ℕ) (o : Option Owner)
    → ((n : ℕ) (y : Obj) → reaches n rs o (Of y) ≡ true → owner_of rs' y ≡ owner_of rs y) → ends k rs o ≡ true → ends k rs' o ≡ true
ends-same rs rs' k None same_owners h = refl
ends-same rs rs' zero (Some o) same_owners h = cc
ends-same rs rs' (suc k) (Some Root) same_owners h = refl
ends-same rs rs' (suc k) (Some (Of y)) same_owners h =
    let e : owner_of rs' y ≡ owner_of rs y = same_owners zero y (same-equal y y refl) in
    let ih : ends k rs' (owner_of rs y) ≡ true = ends-same rs rs' k (owner_of rs y) (λ n z r. same_owners (suc n) z (rw r (or-true (same y z)))) h in
    ap (ends k rs') e ∙ ih

-- all owners but that of one object are the same
abbrev pub SameBut : List Row → List Row → Obj → Type 0
SameBut rs rs' x = (y : Obj) → x ≢ y → owner_of rs' y ≡ owner_of rs y

ends-through : (rs rs' : List Row) (x : Obj) → SameBut rs rs' x → (j : ℕ) → ends j rs' (Some (Of x)) ≡ true
    → (k : ℕ) (o : Option Owner) → ends k rs o ≡ true → ends (k + j) rs' o ≡ true
ends-through rs rs' x but j last k None h = refl
ends-through rs rs' x but j last zero (Some o) h = cc
ends-through rs rs' x but j last (suc k) (Some Root) h = ends-more rs' (suc zero) (suc k + j) (Some Root) refl (omega arith)
ends-through rs rs' x but j last (suc k) (Some (Of y)) h = elim (same_or_not x y) [
  | inl e ↦ let last' : ends j rs' (Some (Of y)) ≡ true = rw e at last in ends-more rs' j (suc k + j) (Some (Of y)) last' (omega arith)
  | inr ne ↦ let e : suc k + j ≡ suc (k + j) = omega arith in
      let ih : ends (k + j) rs' (owner_of rs y) ≡ true = ends-through rs rs' x but j last k (owner_of rs y) h in
      let w : owner_of rs' y ≡ owner_of rs y = but y ne in rw e (ap (ends (k + j) rs') w ∙ ih)
]

Rooted-but : (rs rs' : List Row) (x : Obj) → SameBut rs rs' x → Rooted rs → (j : ℕ) → ends j rs' (Some (Of x)) ≡ true → Rooted rs'
Rooted-but rs rs' x but rooted j last o =
    ends-bound rs' (suc (length rs) + j) o (ends-through rs rs' x but j last (suc (length rs)) (Some o) (rooted o))

Rooted-freed : (rs rs' : List Row) (x : Obj) → SameBut rs rs' x → Rooted rs → owner_of rs' x ≡ None → Rooted rs'
Rooted-freed rs rs' x but rooted e = Rooted-but rs rs' x but rooted (suc zero) (ap (ends zero rs') e)

-- an object gets an owner that is not inside it
pub Rooted-below : (rs rs' : List Row) (x : Obj) (o : Owner) → SameBut rs rs' x → Rooted rs → owner_of rs' x ≡ Some o → is_inside rs o (Of x) ≡ false
    → Rooted rs'
Rooted-below rs rs' x o but rooted e out =
    let apart : (n : ℕ) (y : Obj) → reaches n rs (Some o) (Of y) ≡ true → x ≢ y = λ n y r q.
    let r' : reaches n rs (Some o) (Of x) ≡ true = rw q r in
    let bad : true ≡ false = sym (reaches-inside rs n o (Of x) r') ∙ out in cc in
    let last : ends (suc (length rs)) rs' (Some o) ≡ true = ends-same rs rs' (suc (length rs)) (Some o) (λ n y r. but y (apart n y r)) (rooted o) in
    Rooted-but rs rs' x but rooted (suc (suc (length rs))) (ap (ends (suc (length rs)) rs') e ∙ last)

-- a new object whose owner is there
pub Rooted-new : (rs : List Row) (s : Obj) (kind : Kind) (o : Owner) (size : ℕ) (name : List ℕ) → Rooted rs → AllOwned rs
    → row_of rs s ≡ None → is_owner rs o ≡ true → Rooted (new_row s kind o size name ∷ rs)
Rooted-new rs s kind o size name rooted a e h = let r : Row = new_row s kind o size name in
    let there : same s s ≡ true = same-equal s s refl in
    let out : is_inside rs o (Of s) ≡ false = by_test (is_inside rs o (Of s))
    (λ t. let row : is_object rs s ≡ true = reaches-is_owner rs (length rs) (Some o) (Of s) a h t in
    let bad : false ≡ true = ap is_object_row (sym e) ∙ row in cc)
    (λ t. t) in
    Rooted-below rs (r ∷ rs) s o (λ y ne. let u : same s y ≡ false = same-false s y ne in rw u refl) rooted (rw there refl) out

-- an object is put below an owner that is not inside it
pub Rooted-placed : (p : Pool) (o : Owner) (x : Obj) (r : Row) → Rooted p.rows → row_of p.rows x ≡ Some r → is_inside p.rows o (Of x) ≡ false
    → Rooted (place p o x).rows
Rooted-placed p o x r rooted e out = let s : Row = record r { owner = Some o } in
    let is : r.serial ≡ x = row_of-serial p.rows x r e in
    let there : same r.serial x ≡ true = same-equal _ _ is in
    let but : SameBut p.rows (s ∷ without p.rows x) x = λ y ne.
    let u : same r.serial y ≡ false = same-false _ _ (λ q. ne (sym is ∙ q)) in
    let w : row_of (without p.rows x) y ≡ row_of p.rows y = row_of-without-other p.rows x y ne in rw (u, w) refl in
    rw e (Rooted-below p.rows (s ∷ without p.rows x) x o but rooted (rw there refl) out)

owner_of-changed : (f : Row → Row) (rs : List Row) (x y : Obj) → ((r : Row) → (f r).serial ≡ r.serial) → ((r : Row) → (f r).owner ≡ r.owner)
    → owner_of (changed f rs x) y ≡ owner_of rs y
owner_of-changed f [] x y k same_owners = refl
owner_of-changed f (s ∷ rs) x y k same_owners = by_test (same s.serial x)
    (λ t. let u : same (f s).serial y ≡ same s.serial y = ap (λ q. same q y) (k s) in by_test (same s.serial y)
    (λ v. let u2 : same (f s).serial y ≡ true = u ∙ v in rw (t, u2, v) (same_owners s))
    (λ v. let u2 : same (f s).serial y ≡ false = u ∙ v in rw (t, u2, v) refl))
    (λ t. let ih = owner_of-changed f rs x y k same_owners in by_test (same s.serial y)
    (λ v. rw (t, v) refl)
    (λ v. rw (t, v) ih))

-- a row is changed, and keeps its owner
pub Rooted-changed : (f : Row → Row) (rs : List Row) (x : Obj) → ((r : Row) → (f r).serial ≡ r.serial) → ((r : Row) → (f r).owner ≡ r.owner)
    → Rooted rs → Rooted (changed f rs x)
Rooted-changed f rs x k same_owners rooted o = let rs' : List Row = changed f rs x in
    ends-bound rs' (suc (length rs)) o
    (ends-same rs rs' (suc (length rs)) (Some o) (λ n y r. owner_of-changed f rs x y k same_owners) (rooted o))

owner_of-left : (rs : List Row) (x : Obj) → owner_of (changed left_row rs x) x ≡ None
owner_of-left rs x = go (row_of rs x) refl where
  go : (q : Option Row) → row_of rs x ≡ q → owner_of (changed left_row rs x) x ≡ None
  go None e = ap owner_in (row_of-changed-none left_row rs x x (λ r. refl) e)
  go (Some r) e = ap owner_in (row_of-changed-same left_row rs x r (λ q. refl) e)

-- an object leaves its owner
pub Rooted-left : (rs : List Row) (x : Obj) → Rooted rs → Rooted (changed left_row rs x)
Rooted-left rs x rooted = Rooted-freed rs (changed left_row rs x) x
    (λ y ne. ap owner_in (row_of-changed-other left_row rs x y (λ r. refl) ne)) rooted (owner_of-left rs x)

-- a row is taken out
pub Rooted-without : (rs : List Row) (x : Obj) → Distinct rs → Rooted rs → Rooted (without rs x)
Rooted-without rs x d rooted = Rooted-freed rs (without rs x) x
    (λ y ne. ap owner_in (row_of-without-other rs x y ne)) rooted (ap owner_in (row_of-without-same rs x d))

-- ---- what keeps that the rows are a forest

pub forest-none : IsForest []
forest-none = record { distinct = tt; owned = tt; rooted = Rooted-none }

-- a new object whose owner is there
pub forest-new : (rs : List Row) (s : Obj) (kind : Kind) (o : Owner) (size : ℕ) (name : List ℕ) → IsForest rs → row_of rs s ≡ None → is_owner rs o ≡ true
    → IsForest (new_row s kind o size name ∷ rs)
forest-new rs s kind o size name f none owner = record {
  distinct = (none, f.distinct);
  owned = AllOwned-new rs s kind o size name f.owned none owner;
  rooted = Rooted-new rs s kind o size name f.rooted f.owned none owner;
}

-- an object is put below an owner that is there and is not inside it
pub forest-placed : (p : Pool) (o : Owner) (x : Obj) (r : Row) → IsForest p.rows → row_of p.rows x ≡ Some r → is_owner p.rows o ≡ true → is_inside p.rows o (Of x) ≡ false
    → IsForest (place p o x).rows
forest-placed p o x r f e owner apart = record {
  distinct = rw e (ap (row_of (without p.rows x)) (row_of-serial p.rows x r e) ∙ row_of-without-same p.rows x f.distinct, Distinct-without p.rows x f.distinct);
  owned = AllOwned-placed p o x r f.owned e owner;
  rooted = Rooted-placed p o x r f.rooted e apart;
}

-- a change that leaves the number and the owner
pub record KeepsPlace (f : Row → Row) : Type 0 where
  pub serial : (r : Row) → (f r).serial ≡ r.serial
  pub kind : (r : Row) → (f r).kind ≡ r.kind
  pub owner : (r : Row) → (f r).owner ≡ r.owner

-- a row is changed, and keeps its place
pub forest-changed : (g : Row → Row) (rs : List Row) (x : Obj) → KeepsPlace g → IsForest rs → IsForest (changed g rs x)
forest-changed g rs x k f = record {
  distinct = Distinct-changed g rs x k.serial f.distinct;
  owned = AllOwned-changed g rs x k.serial k.kind k.owner f.owned;
  rooted = Rooted-changed g rs x k.serial k.owner f.rooted;
}

-- an object leaves its owner
pub forest-left : (rs : List Row) (x : Obj) → IsForest rs → IsForest (changed left_row rs x)
forest-left rs x f = record {
  distinct = Distinct-changed left_row rs x (λ r. refl) f.distinct;
  owned = AllOwned-left rs x f.owned;
  rooted = Rooted-left rs x f.rooted;
}

-- an object without children is taken out
pub forest-without : (rs : List Row) (x : Obj) → IsForest rs → first_kid rs (Of x) ≡ None → IsForest (without rs x)
forest-without rs x f alone = record {
  distinct = Distinct-without rs x f.distinct;
  owned = AllOwned-without rs x f.owned alone;
  rooted = Rooted-without rs x f.distinct f.rooted;
}
