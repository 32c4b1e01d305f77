use Rattle.machine_driver.proofs.Logging.{driven-logged, after-logged}
use Rattle.machine_driver.proofs.theorems.a_log_changes_nothing.Goals as goal

pub returns-clause-story : goal.returns-clause-story
returns-clause-story c s = λ log driver n d l s js. driven-logged log driver n d l s js

pub returns-clause-knowledge : goal.returns-clause-knowledge
returns-clause-knowledge c s = λ log driver ts d l js. after-logged log driver ts d l js
