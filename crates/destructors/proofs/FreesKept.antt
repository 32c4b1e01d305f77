-- Each step of a free keeps what is sound, whatever is kept of queues.
use Rattle.std.proofs.Common.{ℕ, List, refl}
use Rattle.tree_specs.specs.declared.frame.Frame.{Frame}
use Rattle.tree_specs.specs.declared.frame.Frame.TheVariants as frame
use Rattle.tree_specs.specs.declared.frame.FreeFrame.{FreeFrame}
use Rattle.tree_specs.specs.declared.frame.FreeFrame.TheVariants.{Unlinking, Releasing, Giving, Beginning, Hooked, Judged, Preparing, Draining, Prepared, Dooming, Leaving, Looping, AfterChild, Ending}
use Rattle.tree_specs.specs.declared.frame.Answer.TheVariants.{Freed}
use Rattle.tree_specs.specs.declared.free_step.FreeReply.TheVariants.{Ok}
use Rattle.tree_specs.specs.Tree.Pool.{Pool}
use Rattle.tree_specs.specs.Machine.Table.{step}
use Rattle.tree_specs.specs.Invariants.Sound.{Sound}
use Rattle.tree_specs.proofs.Invariants.Changes.{placed-sound}
use Rattle.tree_specs.proofs.Invariants.KeptFrees.{KeptBy, beginning, dooming, ended, hooked, judged, leaving, looping, still-there, tried}
use Rattle.tree_specs.proofs.Invariants.KeptGivings.{releasing, unlinking}
use Rattle.tree_specs.proofs.Invariants.KeptRequests.{preparing, draining, prepared}

pub free-kept : (f : FreeFrame) (fs : List Frame) (p : Pool) (k : ℕ) → Sound (frame.Free f) fs p → KeptBy (step (frame.Free f) p) fs k
free-kept (Unlinking o x) fs p k s = unlinking o x fs p k s
free-kept (Releasing x) fs p k s = releasing x fs p k s
free-kept (Giving x o) fs p k s = placed-sound (frame.Free (Giving x o)) (frame.Free (Ending Ok)) o x fs p s s.rests (λ y. refl) (tt, tt)
free-kept (Beginning x) fs p k s = beginning x fs p k s
free-kept (Hooked x h) fs p k s = hooked x h fs p k s
free-kept (Judged x h v) fs p k s = judged x h v fs p k s
free-kept (Preparing x) fs p k s = preparing x fs p k s
free-kept (Draining x) fs p k s = draining x fs p k s
free-kept (Prepared x) fs p k s = prepared x fs p k s
free-kept (Dooming x) fs p k s = dooming x fs p k s
free-kept (Leaving x h) fs p k s = leaving x h fs p k s
free-kept (Looping x purpose) fs p k s = looping x purpose fs p k s
free-kept (AfterChild x c noted purpose a) fs p k s = tried x c noted purpose a fs p k s
free-kept (Ending a) fs p k s = ended (Freed a) (frame.Free (Ending a)) fs p k s (λ x. refl) (λ x c n b gs e. still-there a x c n p s.rests.0)
-- a work that waits is not the innermost
free-kept _ fs p k s = absurd s.rests
