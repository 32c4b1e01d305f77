-- A number that is above those of all entries, where it is the next one's and where that one has come.
use Rattle.std.proofs.Common.{◌≡◌, ℕ, ◌+◌, ◌<◌, List, [], ◌∷◌, sym, arith}
use Rattle.std.specs.Ordering.{nat_cmp}
use Rattle.std.specs.declared.cmp.Ordering.TheVariants.{Greater}
use Rattle.std.specs.Cmp.{nat_cmp_is}
use Rattle.std.specs.FinMap.Entries.{put}
use Rattle.tree_specs.specs.declared.object.Obj.{Obj}
use Rattle.tree_specs.specs.declared.queue.QueueEntry.{QueueEntry}
use Rattle.request_queue.specs.Register.{IsAbove}
use Rattle.request_queue.specs.Linked.{numbered}

pub above-next : (es : List (ℕ × QueueEntry)) (x : Obj) → IsAbove x es → IsAbove (numbered (x.0 + 1)) es
above-next [] x h = tt
above-next (e ∷ es) x h = let l : e.0 < x.0 = h.0 in (omega (arith, l), above-next es x h.1)

pub above-put : (es : List (ℕ × QueueEntry)) (x : Obj) (v : QueueEntry) → IsAbove x es → IsAbove (numbered (x.0 + 1)) (put nat_cmp x.0 v es)
above-put [] x v h = (omega arith, tt)
above-put (e ∷ es) x v h =
    let l : e.0 < x.0 = h.0 in
    let later : Greater ≡ nat_cmp x.0 e.0 = nat_cmp_is x.0 e.0 Greater l in
    rw (sym later) (omega (arith, l), above-put es x v h.1)
