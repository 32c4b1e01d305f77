use Rattle.serving.proofs.DoormanLaws.{door_servable}
use Rattle.serving.proofs.tests.serves_a_doorman.Goals as goal

pub serve-requires : goal.serve-requires
serve-requires c = door_servable c.new-machine.result.waits c.new-machine.result.due _
