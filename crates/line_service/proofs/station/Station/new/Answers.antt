use Rattle.std.proofs.Common.{refl}
use Rattle.line_service.proofs.Doing.{begun}
use Rattle.line_service.proofs.station.Station.new.Goals as goal

pub returns-in-Ok : goal.returns-in-Ok
returns-in-Ok c =
    begun c.in_ok-host.host c.set_service_up.new.host c.new-in-Ok.result.knowledge c.new-in-Ok.result.due 4194302 c.in_ok-host.ensures.begins c.in_ok-host.ensures.waits c.in-Ok.ensures c.new-in-Ok.ensures.knowledge c.new-in-Ok.ensures.due refl
