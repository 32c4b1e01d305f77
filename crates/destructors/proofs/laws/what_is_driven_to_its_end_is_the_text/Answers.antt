use Rattle.destructors.proofs.TextRuns.{free-as_text, unlink-as_text, children-as_text}
use Rattle.destructors.proofs.laws.what_is_driven_to_its_end_is_the_text.Goals as goal

pub returns-clause-free : goal.returns-clause-free
returns-clause-free c = λ x below p q s is told a waits notes queues object unheld started drives. free-as_text x below p q s is told a waits notes queues object unheld started drives

pub returns-clause-unlink : goal.returns-clause-unlink
returns-clause-unlink c = λ o x below p q s is told a waits notes queues live object started drives. unlink-as_text o x below p q s is told a waits notes queues live object started drives

pub returns-clause-kids : goal.returns-clause-kids
returns-clause-kids c = λ x below p q s is told a waits notes queues started drives. children-as_text x below p q s is told a waits notes queues started drives
