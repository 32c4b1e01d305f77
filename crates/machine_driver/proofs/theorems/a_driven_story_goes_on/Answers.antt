use Rattle.std.proofs.Common.{refl}
use Rattle.machine_driver.proofs.Driving.{begins-some}
use Rattle.machine_driver.proofs.Allowing.{event-allowed, own-allowed, passed-allowed, open-allowed}
use Rattle.machine_driver.proofs.theorems.a_driven_story_goes_on.Goals as goal

pub returns-clause-event : goal.returns-clause-event
returns-clause-event c s = λ driver more d s next left t e k b js. event-allowed driver more d s next left t e k b js

pub returns-clause-own : goal.returns-clause-own
returns-clause-own c s = λ driver more d after s next left t q i k begins own b js. own-allowed driver more d s next left t q i after k (begins-some s t begins) own b js

pub returns-clause-passed : goal.returns-clause-passed
returns-clause-passed c s = λ driver less d after s next left t q j i k begins own heard b js. passed-allowed driver _ d s next left less t q j i after refl k (begins-some s t begins) own heard b js

pub returns-clause-asked : goal.returns-clause-asked
returns-clause-asked c s = λ driver more d s left t q k begins own. open-allowed driver more d s left t q k (begins-some s t begins) own
