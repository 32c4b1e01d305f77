use Rattle.std.proofs.Common.{◌≡◌, is_some, refl}
use Rattle.timers.specs.Heaps.{items_of, IsEntered}
use Rattle.timers.proofs.Written.{written, written-beside}
use Rattle.timers.proofs.heaps.enter_other.Goals as goal

pub returns-in-Some-clause-entered : goal.returns-in-Some-clause-entered
returns-in-Some-clause-entered c =
    written _ c.args.due.context.0 c.enter.new.dues (λ o u. IsEntered c.args.due (items_of o) (items_of u) c.args.places.now.pairs c.enter.new.places.pairs)
    c.in-Some.dues.now c.in-Some.ensures.value c.enter.ensures

pub returns-in-Some-clause-open : goal.returns-in-Some-clause-open
returns-in-Some-clause-open c = written _ c.args.due.context.0 c.enter.new.dues (λ o u. is_some u ≡ is_some o) c.in-Some.dues.now c.in-Some.ensures.value refl

pub returns-in-Some-clause-beside : goal.returns-in-Some-clause-beside
returns-in-Some-clause-beside c = written-beside _ c.args.due.context.0 c.enter.new.dues
