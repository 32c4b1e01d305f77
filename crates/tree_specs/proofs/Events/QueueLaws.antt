-- What is kept of queues, where an entry is put in or taken out: the entries that a queue has.
use Rattle.std.proofs.Common.{◌≡◌, ℕ, Bool, true, false, List, [], ◌∷◌, is_some, refl}
use Rattle.std.specs.declared.cmp.Ordering.{Ordering}
use Rattle.std.specs.declared.cmp.Ordering.TheVariants.{Less, Equal, Greater}
use Rattle.std.specs.Ordering.{nat_cmp}
use Rattle.std.specs.List.{filter}
use Rattle.std.specs.FinMap.Entries.{put}
use Rattle.tree_specs.specs.declared.object.Obj.{Obj}
use Rattle.tree_specs.specs.declared.queue.QueueEntry.{QueueEntry}
use Rattle.tree_specs.specs.Words.Objects.{same}
use Rattle.tree_specs.specs.Events.Queues.{head_in}
use Rattle.tree_specs.proofs.Tree.Numbered.{by_test}

-- one fewer
pub has-without : (keeps : ℕ × QueueEntry → Bool) (es : List (ℕ × QueueEntry)) (q : Obj) → is_some (head_in (filter keeps es) q) ≡ true → is_some (head_in es q) ≡ true
has-without keeps [] q h = cc
has-without keeps (e ∷ es) q h = by_test (same e.1.queue q)
    (λ t. rw t refl)
    (λ t. rw t (by_test (keeps e)
    (λ k. has-without keeps es q (let h' : is_some (head_in (e ∷ filter keeps es) q) ≡ true = rw k at h in rw t at h'))
    (λ k. has-without keeps es q (rw k at h))))

-- one more, in its own queue
pub has-with : (es : List (ℕ × QueueEntry)) (x : ℕ) (entry : QueueEntry) (q : Obj) → same entry.queue q ≡ false → is_some (head_in (put nat_cmp x entry es) q) ≡ true → is_some (head_in es q) ≡ true
has-with [] x entry q other h = let h' : false ≡ true = rw other at h in cc
has-with (e ∷ es) x entry q other h = each (nat_cmp x e.0) refl (has-with es x entry q other)
  where
    each : (o : Ordering) → nat_cmp x e.0 ≡ o → (is_some (head_in (put nat_cmp x entry es) q) ≡ true → is_some (head_in es q) ≡ true) → is_some (head_in (e ∷ es) q) ≡ true
    each Less k more = let h' : is_some (head_in (e ∷ es) q) ≡ true = rw (k, other) at h in h'
    each Equal k more = let h' : is_some (head_in es q) ≡ true = rw (k, other) at h in by_test (same e.1.queue q) (λ t. rw t refl) (λ t. rw t h')
    each Greater k more = by_test (same e.1.queue q) (λ t. rw t refl) (λ t. rw t (more (rw (k, t) at h)))
