-- Times whose numbers are those of their objects.
use Rattle.std.proofs.Common.{◌≡◌, ℕ, List, [], ◌∷◌, false, nat_eq, refl, ◌∙◌, ap}
use Rattle.tree_specs.specs.declared.due.Due.{Due}
use Rattle.tree_specs.specs.declared.object.Obj.{Obj}
use Rattle.tree_specs.specs.Words.Objects.{same}
use Rattle.tree_specs.specs.Events.Pending.{disarmed, is_numbered, comes_before, put_in, armed}
use Rattle.tree_specs.proofs.Tree.Numbered.{by_test}
use Rattle.timers.specs.Timetable.{AreByObject}

pub by-object-without : (ds : List Due) (x : Obj) → AreByObject ds → AreByObject (disarmed ds x)
by-object-without [] x a = tt
by-object-without (d ∷ ds) x a = by_test (same d.object x) (λ t. rw t (by-object-without ds x a.1)) (λ t. rw t (a.0, by-object-without ds x a.1))

by-object-put : (d : Due) (ds : List Due) → d.number ≡ d.object.0 → AreByObject ds → AreByObject (put_in d ds)
by-object-put d [] h a = (h, tt)
by-object-put d (e ∷ es) h a = by_test (comes_before d e) (λ t. rw t (h, a)) (λ t. rw t (a.0, by-object-put d es h a.1))

pub by-object-armed : (ds : List Due) (x : Obj) (time : ℕ) (c : Obj) → AreByObject ds → AreByObject (armed ds x time x.0 c)
by-object-armed ds x time c a = by-object-put (record { time = time; number = x.0; object = x; context = c }) (disarmed ds x) refl (by-object-without ds x a)

-- no other object has this one's number
pub free-by-object : (ds : List Due) (x : Obj) → AreByObject ds → is_numbered (disarmed ds x) x.0 ≡ false
free-by-object [] x a = refl
free-by-object (d ∷ ds) x a = by_test (same d.object x)
    (λ t. rw t (free-by-object ds x a.1))
    (λ t. let n : nat_eq d.number x.0 ≡ false = ap (λ k. nat_eq k x.0) a.0 ∙ t in rw t (rw n (free-by-object ds x a.1)))
