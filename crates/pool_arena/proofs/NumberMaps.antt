-- What is kept under numbers, listed from the map that keeps it.
use Rattle.std.proofs.Common.{◌≡◌, ℕ, not, [], length}
use Rattle.std.specs.List.{filter}
use Rattle.std.specs.Ordering.{nat_cmp, eq_by_cmp}
use Rattle.std.specs.Cmp.{nat_cmp_total}
use Rattle.std.specs.FinMap as map
use Rattle.std.specs.FinMap.{FinMap, entries-insert, get-entries, len-entries}
use Rattle.std.specs.FinMap.Entries.{find, put}
use Rattle.pool_arena.proofs.Entries.{entries-removed, entries-empty}

pub none_listed : {V : Type 0} (m : FinMap nat_cmp V) → m ≡ map.empty → map.entries m ≡ []
none_listed m e = entries-empty m e

pub put_listed : {V : Type 0} (m : FinMap nat_cmp V) (n : ℕ) (v : V) → map.entries (map.insert m n v) ≡ put nat_cmp n v (map.entries m)
put_listed m n v = entries-insert nat_cmp_total m n v

pub removed_listed : {V : Type 0} (m : FinMap nat_cmp V) (n : ℕ) → map.entries (map.remove m n) ≡ filter (λ e. not (eq_by_cmp nat_cmp n e.0)) (map.entries m)
removed_listed m n = entries-removed m n

pub found_listed : {V : Type 0} (m : FinMap nat_cmp V) (n : ℕ) → map.get m n ≡ find nat_cmp n (map.entries m)
found_listed m n = get-entries m n

pub many_listed : {V : Type 0} (m : FinMap nat_cmp V) → map.len m ≡ length (map.entries m)
many_listed m = len-entries m
