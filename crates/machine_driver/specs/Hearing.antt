-- The story of a driver that answers no question itself: as many answers come as the outside gives.
use Rattle.std.specs.Prelude.{◌≡◌, suc, length, None}
use Rattle.machine_driver.specs.Driver.{Driver, Story, driven, items_or_none}

-- it answers nothing itself
abbrev pub Listens : {D T E Q I J U : Type 0} → Driver D T E Q I J U → Type 0
Listens {D = D} {Q = Q} driver = (d : D) (q : Q) → driver.own d q ≡ None

-- so its story needs no bound
abbrev pub heard_story : {D T E Q I J U : Type 0} → Driver D T E Q I J U → D → Story I T → Story J U
heard_story driver d s js = items_or_none (driven driver (suc (length js)) d s js)
