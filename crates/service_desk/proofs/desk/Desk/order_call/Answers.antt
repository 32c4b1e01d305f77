use Rattle.service_desk.proofs.Fronting.{orders-served}
use Rattle.service_desk.proofs.desk.Desk.order_call.Goals as goal

pub returns-clause-does : goal.returns-clause-does
returns-clause-does c = orders-served c.args.session c.args.self.now.knowledge c.args.order c.call_of.result c.fulfilling_of-at.result c.fulfilling_of-at.ensures c.call_of.ensures.call
