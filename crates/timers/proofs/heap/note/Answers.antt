use Rattle.std.proofs.Common.{sym, ap, ◌∙◌}
use Rattle.std.specs.Option.{option_copied_mut}
use Rattle.pool_arena.proofs.Steps.{mapped-at, len-old}
use Rattle.timers.specs.Heaps.{moved_to}
use Rattle.timers.proofs.Noting.{noted-place, noted-nothing}
use Rattle.timers.proofs.heap.note.Goals as goal

pub returns-in-Some-clause-noted : goal.returns-in-Some-clause-noted
returns-in-Some-clause-noted c =
    noted-place _ _ c.args.x c.args.at
    (λ q. mapped-at c.args.places.now c.args.x (moved_to c.args.at) c.in-Some.place.now c.in-Some.ensures.value q)
    (len-old c.args.places.now.pairs c.args.x _ c.in-Some.place.now c.in-Some.ensures.value)

pub returns-in_default-clause-noted : goal.returns-in_default-clause-noted
returns-in_default-clause-noted c = noted-nothing _ c.args.x c.args.at (sym c.get_mut.ensures.value ∙ ap option_copied_mut c.in_default.is)
