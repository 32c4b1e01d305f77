-- What a change of the packed ends of one lane leaves of the lanes that they tell.
use Rattle.std.proofs.Common.{◌≡◌, ℕ, Bool, true, false, cond, nat_eq, List, [], ◌∷◌, Option, Some, None, is_some, IsSomeAnd, MatchOption, refl, sym, ap, ◌∙◌}
use Rattle.std.specs.Option.{option_map}
use Rattle.std.specs.Ordering.{nat_cmp, eq_by_cmp}
use Rattle.std.specs.FinMap as map
use Rattle.std.specs.FinMap.{get-empty, get-entries}
use Rattle.std.specs.FinMap.Entries.{find}
use Rattle.pool_arena.specs.Arena.{with_entry}
use Rattle.pool_arena.proofs.Keeps.{by_test, ties, get-with_entry, same_pairs}
use Rattle.linked_lanes.specs.declared.lane.Extent.{Extent}
use Rattle.lane_ends.specs.declared.packed.Packed.{Packed}
use Rattle.lane_ends.specs.Packing.{told, told_by, lanes_told}

abbrev Pairs : Type 0
Pairs = map.FinMap nat_cmp Packed

-- ---- one lane is looked up

get-told_by : (es : List (ℕ × Packed)) (q : ℕ) → map.get (told_by es) q ≡ option_map told (find nat_cmp q es)
get-told_by [] q = get-empty nat_cmp q
get-told_by (e ∷ es) q =
    let ih = get-told_by es q in
    get-with_entry (told_by es) e.0 (Some (told e.1)) q ∙ by_test (nat_eq e.0 q)
    (λ t. let u : eq_by_cmp nat_cmp q e.0 ≡ true = ties q e.0 ∙ t in rw (t, u) refl)
    (λ t. let u : eq_by_cmp nat_cmp q e.0 ≡ false = ties q e.0 ∙ t in rw (t, u) ih)

pub get-told : (m : Pairs) (q : ℕ) → map.get (lanes_told m) q ≡ option_map told (map.get m q)
get-told m q = get-told_by (map.entries m) q ∙ ap (option_map told) (sym (get-entries m q))

pub mapped-told : (o : Option Packed) (r : Option Extent) → MatchOption o (r ≡ None) (λ p. IsSomeAnd r (λ e. e ≡ told p)) → r ≡ option_map told o
mapped-told None r h = h
mapped-told (Some p) None h = absurd h
mapped-told (Some p) (Some e) h = ap Some h

pub there-told : (m : Pairs) (q : ℕ) → is_some (map.get m q) ≡ is_some (map.get (lanes_told m) q)
there-told m q = go (map.get m q) ∙ sym (ap is_some (get-told m q))
  where
    go : (o : Option Packed) → is_some o ≡ is_some (option_map told o)
    go None = refl
    go (Some p) = refl

pub vacant-told : (m : Pairs) (q : ℕ) → map.get (lanes_told m) q ≡ None → map.get m q ≡ None
vacant-told m q none = go (map.get m q) (sym (get-told m q) ∙ none)
  where
    go : (o : Option Packed) → option_map told o ≡ None → o ≡ None
    go None e = refl
    go (Some p) e = cc

-- ---- one lane changes

pub empty-told : (m : Pairs) → m ≡ map.empty → lanes_told m ≡ map.empty
empty-told m e = same_pairs _ _ (λ q.
    get-told m q ∙ ap (λ (n : Pairs). option_map told (map.get n q)) e ∙ ap (option_map told) (get-empty nat_cmp q) ∙ sym (get-empty nat_cmp q))

module _ (m m' : Pairs) (k : ℕ) where
  changed-told : (o : Option Packed) → m' ≡ with_entry m k o → lanes_told m' ≡ with_entry (lanes_told m) k (option_map told o)
  changed-told o changed = same_pairs _ _ (λ q.
      get-told m' q ∙ ap (option_map told) (ap (λ (n : Pairs). map.get n q) changed ∙ get-with_entry m k o q) ∙ go (nat_eq k q) (map.get m q)
      ∙ sym (get-with_entry (lanes_told m) k (option_map told o) q ∙ ap (cond (nat_eq k q) (option_map told o)) (get-told m q)))
    where
      go : (b : Bool) (g : Option Packed) → option_map told (cond b o g) ≡ cond b (option_map told o) (option_map told g)
      go true g = refl
      go false g = refl

  pub set-told : (p : Packed) (e : Extent) → m' ≡ map.insert m k p → told p ≡ e → lanes_told m' ≡ map.insert (lanes_told m) k e
  set-told p e set is = changed-told (Some p) set ∙ ap (map.insert (lanes_told m) k) is

  pub removed-told : m' ≡ map.remove m k → lanes_told m' ≡ map.remove (lanes_told m) k
  removed-told removed = changed-told None removed
