-- What a map keeps, listed with one part of each value.
use Rattle.std.proofs.Common.{◌≡◌, ℕ, Bool, true, false, cond, ◌&&◌, List, [], ◌∷◌, length, map as each, Option, Some, refl, sym, ap, subst, ◌∙◌, T}
use Rattle.std.specs.Option.{option_map}
use Rattle.std.specs.Ordering.{nat_cmp, eq_by_cmp, is_lt}
use Rattle.std.proofs.lemmas.List.{length-map}
use Rattle.std.proofs.lemmas.Cmp.{nat_cmp_total}
use Rattle.std.specs.FinMap as map
use Rattle.std.specs.FinMap.{nat_cmp-IsAntisymmetric, get-entries, len-entries, entries_sorted}
use Rattle.std.specs.FinMap.Entries.{find, is_sorted, below_all, same_entries}
use Rattle.request_queue.specs.Linked.{listed}

module _ {V W : Type 0} (f : V → W) where
  found-each : (es : List (ℕ × V)) (q : ℕ) → find nat_cmp q (each (λ e. (e.0, f e.1)) es) ≡ option_map f (find nat_cmp q es)
  found-each [] q = refl
  found-each (e ∷ es) q = ap (cond (eq_by_cmp nat_cmp q e.0) (Some (f e.1))) (found-each es q) ∙ pulled (eq_by_cmp nat_cmp q e.0) (find nat_cmp q es)
    where
      pulled : (b : Bool) (o : Option V) → cond b (Some (f e.1)) (option_map f o) ≡ option_map f (cond b (Some e.1) o)
      pulled true o = refl
      pulled false o = refl

  below-each : (x : ℕ) (es : List (ℕ × V)) → below_all nat_cmp x (each (λ e. (e.0, f e.1)) es) ≡ below_all nat_cmp x es
  below-each x [] = refl
  below-each x (e ∷ es) = ap (λ b. is_lt (nat_cmp x e.0) && b) (below-each x es)

  sorted-each : (es : List (ℕ × V)) → is_sorted nat_cmp (each (λ e. (e.0, f e.1)) es) ≡ is_sorted nat_cmp es
  sorted-each [] = refl
  sorted-each (e ∷ es) = λ i. below-each e.0 es i && sorted-each es i

  module _ (m : map.FinMap nat_cmp V) where
    pub found-listed : (q : ℕ) → find nat_cmp q (listed f m) ≡ option_map f (map.get m q)
    found-listed q = found-each (map.entries m) q ∙ ap (option_map f) (sym (get-entries m q))

    pub sorted-listed : T (is_sorted nat_cmp (listed f m))
    sorted-listed = subst T (sym (sorted-each (map.entries m))) (entries_sorted m)

    -- a list in order is told by what is found in it
    pub same-listed : (es : List (ℕ × W)) → T (is_sorted nat_cmp es) → ((q : ℕ) → find nat_cmp q es ≡ option_map f (map.get m q)) → listed f m ≡ es
    same-listed es sorted look = same_entries nat_cmp nat_cmp_total nat_cmp-IsAntisymmetric (listed f m) es sorted-listed sorted (λ q. found-listed q ∙ sym (look q))

    pub many-listed : map.len m ≡ length (listed f m)
    many-listed = len-entries m ∙ sym (length-map (map.entries m) (λ e. (e.0, f e.1)))
