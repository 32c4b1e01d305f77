-- What a contract sees of an arena: a finite map, and how many more pairs fit with no allocation.
use Rattle.std.specs.Prelude.{◌≡◌, ℕ, ◌-◌, min, List, [], ◌∷◌, Option, Some, None, IsSome, refl}
use Rattle.std.specs.Coded.{Coded, code_by, coded×, coded_ℕ}
use Rattle.std.specs.Ordering.{nat_cmp}
use Rattle.std.specs.FinMap as map
use Rattle.slab.specs.Slab.{Slab, get as slot_get, slab_len}
use Rattle.pool_arena.specs.declared.places.Places.{Places}
use Rattle.pool_arena.specs.Places.{IsSound, slots_of, spare as room}

pub record Held (T : Type 0) : Type 0 where
  pub pairs : map.FinMap nat_cmp T
  pub spare : ℕ

abbrev pub held_code : {T : Type 0} → Coded T → Coded (Held T)
held_code {T} code =
    code_by (map.FinMap nat_cmp T × ℕ) (coded× (map.code coded_ℕ code) coded_ℕ)
    (λ s. (s.pairs, s.spare)) (λ p. record { pairs = p.0; spare = p.1 }) (λ _. refl)

module _ {T : Type 0} where
  abbrev pub get : Held T → ℕ → Option T
  get a k = map.get a.pairs k

  -- with w as the value at k
  abbrev pub with_value : Held T → ℕ → T → Held T
  with_value a k w = record a { pairs = map.insert a.pairs k w }

  -- the map with this at the key, or with the key gone
  abbrev pub with_entry : map.FinMap nat_cmp T → ℕ → Option T → map.FinMap nat_cmp T
  with_entry m k None = map.remove m k
  with_entry m k (Some v) = map.insert m k v

  -- the values of the slots of these keys
  abbrev pub pairs_of : List (ℕ × ℕ) → Slab T → map.FinMap nat_cmp T
  pairs_of [] s = map.empty
  pairs_of (e ∷ es) s = with_entry (pairs_of es s) e.0 (slot_get s e.1)

  abbrev pub held : Places → Slab T → Held T
  held p s = record { pairs = pairs_of (map.entries (slots_of p)) s; spare = min (s.capacity - slab_len s) (room p) }

  -- each slot of a key has a value, no two keys have one slot, and no other slot has a value
  pub record AreTied (slots : map.FinMap nat_cmp ℕ) (s : Slab T) : Type 0 where
    pub filled : (k i : ℕ) → map.get slots k ≡ Some i → IsSome (slot_get s i)
    pub apart : (k l i : ℕ) → map.get slots k ≡ Some i → map.get slots l ≡ Some i → k ≡ l
    pub counted : map.len (pairs_of (map.entries slots) s) ≡ slab_len s

  pub record IsKept (p : Places) (s : Slab T) : Type 0 where
    pub places : IsSound p
    pub tied : AreTied (slots_of p) s
