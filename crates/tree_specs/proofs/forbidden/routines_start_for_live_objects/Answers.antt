use Rattle.std.proofs.Common.{◌≡◌, true, false, [], ◌∷◌, Some, None, refl, sym, ◌∙◌}
use Rattle.std.specs.declared.cmp.Ordering.{Ordering}
use Rattle.std.specs.declared.cmp.Ordering.TheVariants.{Less, Equal, Greater}
use Rattle.std.specs.Ordering.{nat_cmp}
use Rattle.tree_specs.specs.declared.object.Obj.{Obj}
use Rattle.tree_specs.specs.declared.event.Event.TheVariants.{Fired, Accepted}
use Rattle.tree_specs.specs.Promises.BadStories.{one_object, one_timer, one_stopped, seen}
use Rattle.tree_specs.specs.declared.row.Mark.TheVariants as mark
use Rattle.tree_specs.specs.Tree.Pool.{Pool, row_of, empty, set_mark}
use Rattle.tree_specs.specs.Promises.Grounded.{Grounded, may_fire_row, is_asked}
use Rattle.tree_specs.specs.declared.moment.What.{What}
use Rattle.tree_specs.specs.declared.moment.What.TheVariants as what
use Rattle.tree_specs.specs.Promises.BadStories.{a, b, asks_a, told}
use Rattle.tree_specs.specs.Events.Queues.{runs}
use Rattle.tree_specs.proofs.forbidden.routines_start_for_live_objects.Goals as goal

-- no queue runs here
stopped : (q : Obj) → runs one_stopped.queues q ≡ false
stopped q = each (nat_cmp q.0 1) refl
  where
    each : (o : Ordering) → nat_cmp q.0 1 ≡ o → runs one_stopped.queues q ≡ false
    each Less e = rw e refl
    each Equal e = rw e refl
    each Greater e = rw e refl

pub returns : goal.returns
returns c is = (fired (empty 1) what.Timer refl, (fired one_timer what.Timer refl, (fired (set_mark one_timer a mark.Busy) what.Descriptor refl, (fired one_object what.Callback refl, (turn, (unasked, (accepted one_object refl, (accepted (set_mark one_object a mark.Busy) refl, tt))))))))
  where
    -- for an object in such a pool no such routine starts
    fired : (p : Pool) (w : What) → may_fire_row w (row_of p.rows a) ≡ false → Grounded (seen p (told (Fired w a 16)) ∷ []) is → ⊥
    fired p w none g = let bad : false ≡ true = sym none ∙ (g.each [] (seen p (told (Fired w a 16))) [] refl).started.0 in cc

    turn : Grounded (seen one_stopped (told (Fired what.Trigger b 16)) ∷ []) is → ⊥
    turn g =
        let t = (g.each [] (seen one_stopped (told (Fired what.Trigger b 16))) [] refl).started.1 in
        let e : None ≡ Some t.first = rw (stopped t.queue) at t.next in cc

    unasked : Grounded (seen (set_mark one_object a mark.Asked) (told (Accepted a)) ∷ []) is → ⊥
    unasked g = (g.each [] (seen (set_mark one_object a mark.Asked) (told (Accepted a))) [] refl).started.1

    -- the destructor of an object that isn't asked in such a pool doesn't accept
    accepted : (p : Pool) → is_asked p a ≡ false → Grounded (seen p asks_a ∷ seen p (told (Accepted a)) ∷ []) is → ⊥
    accepted p none g = let bad : false ≡ true = sym none ∙ (g.each (seen p asks_a ∷ []) (seen p (told (Accepted a))) [] refl).started.0 in cc
