use Rattle.timers.specs.Heaped.{places_left}
use Rattle.timers.proofs.heap.+sift.Given as goal

abbrev pub decreases-sift : goal.decreases-sift
decreases-sift l = places_left l.way l.at
