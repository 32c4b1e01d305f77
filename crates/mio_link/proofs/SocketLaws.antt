-- What is ready of what is wanted, and which descriptors are open after one was closed.
use Rattle.std.proofs.Common.{◌≡◌, ◌==◌, ◌≤◌, ◌-◌, ◌∙◌, ℕ, not, ◌&&◌, nat_le, None, is_some, ap, arith}
use Rattle.std.specs.Prelude.{bit_and}
use Rattle.std.specs.Int.Bits.{and_self}
use Rattle.std.proofs.lemmas.Nat.{and_comm, and_assoc}
use Rattle.std.proofs.lemmas.Bool.Decides.{nat_tests}
use Rattle.slab.specs.Slab.{Slab, get, Updates}

-- all of what is ready and wanted is wanted
pub part_wanted : (ready wanted : ℕ) → bit_and wanted (bit_and ready wanted) ≡ bit_and ready wanted
part_wanted ready wanted = and_comm wanted (bit_and ready wanted) ∙ and_assoc wanted ready wanted ∙ ap (bit_and ready) (and_self wanted)

pub key_closed : {T : Type 0} (old new : Slab T) (fd : ℕ) → 1 ≤ fd → Updates old new (fd - 1) None → (d : ℕ) →
    (nat_le 1 d && is_some (get new (d - 1))) ≡ (not (d == fd) && (nat_le 1 d && is_some (get old (d - 1))))
key_closed old new fd positive updates d =
    let gone = updates.changed in
    let others = updates.others (d - 1) in
    grind (arith, nat_tests)

-- the listener's descriptor counts for none
pub listener_closed : {T : Type 0} (s : Slab T) (d : ℕ) → (nat_le 1 d && is_some (get s (d - 1))) ≡ (not (d == 0) && (nat_le 1 d && is_some (get s (d - 1))))
listener_closed s d = grind (arith, nat_tests)
