use Rattle.machine_driver.proofs.Driving.{begins-some}
use Rattle.machine_driver.proofs.Listening.{heard-event, heard-passed, heard-replied, heard-open}
use Rattle.machine_driver.proofs.theorems.a_driver_that_listens_goes_on.Goals as goal

pub returns-clause-event : goal.returns-clause-event
returns-clause-event c s = λ driver d s next t e listens k b js. heard-event driver listens d s next t e k b js

pub returns-clause-passed : goal.returns-clause-passed
returns-clause-passed c s = λ driver d after s next t q j i listens k begins heard b js. heard-passed driver listens d s next t q j i after k (begins-some s t begins) heard b js

pub returns-clause-replied : goal.returns-clause-replied
returns-clause-replied c s = λ driver d after s t q j us listens k begins heard js. heard-replied driver listens d s t q j us after k (begins-some s t begins) heard js

pub returns-clause-asked : goal.returns-clause-asked
returns-clause-asked c s = λ driver d s t q listens k begins. heard-open driver listens d s t q k (begins-some s t begins)
