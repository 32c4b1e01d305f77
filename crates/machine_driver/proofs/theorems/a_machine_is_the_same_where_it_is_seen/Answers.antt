use Rattle.machine_driver.proofs.SeenLaws.{seen-walk, noted-seen}
use Rattle.machine_driver.proofs.theorems.a_machine_is_the_same_where_it_is_seen.Goals as goal

pub returns-clause-items : goal.returns-clause-items
returns-clause-items c s = λ t n f fs p is. seen-walk t n f fs p is

pub returns-clause-scenes : goal.returns-clause-scenes
returns-clause-scenes c s = λ notes t n w p is. noted-seen notes t n w p is
