use Rattle.tree_links.specs.Links.{pool_of}
use Rattle.destructors.proofs.Begins.{may-unlink}
use Rattle.destructors.proofs.engine.FreeEngine.begin_unlink.Goals as goal

pub begin-requires-clause-first : goal.begin-requires-clause-first
begin-requires-clause-first c = may-unlink c.args.owner c.args.x (pool_of c.args.tree.now) c.requires.live c.requires.object
