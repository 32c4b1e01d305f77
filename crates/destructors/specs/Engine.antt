-- What an engine and the tree keep of the open frees.
use Rattle.std.specs.Prelude.{◌≡◌, ◌+◌, ◌≤◌, true, List, [], ◌∷◌, length, Option, Some, None, ◌⊎◌}
use Rattle.tree_specs.specs.declared.frame.FreeFrame.{FreeFrame}
use Rattle.tree_specs.specs.declared.frame.FreeFrame.TheVariants.{Hooked, Preparing, Draining, Ending}
use Rattle.tree_specs.specs.declared.free_step.FreeReply.{FreeReply}
use Rattle.tree_links.specs.Links.{Links, pool_of}
use Rattle.destructors.specs.Frees.{before, frees_of, awaits_run, moves, speaking, Begins}
use Rattle.destructors.specs.Changes.{SameRows}
use Rattle.references.specs.Pairs.{Pairs}
use Rattle.references.specs.Rows.{AreRefsOf}
use Rattle.destructors.specs.Works.{AtWork, IsAtWork, AreAwaiting}
use Rattle.destructors.specs.Room.{wanted}

-- the innermost free waits for its destructor
abbrev pub IsAsked : Option FreeFrame → Type 0
IsAsked (Some (Hooked x h)) = Unit {0}
IsAsked _ = ⊥

-- or until its request was received, or its queue has no entries
abbrev pub IsPreparing : Option FreeFrame → Type 0
IsPreparing (Some (Preparing x)) = Unit {0}
IsPreparing (Some (Draining x)) = Unit {0}
IsPreparing _ = ⊥

-- the answer of a free that is over
abbrev pub ended_with : Option FreeFrame → Option FreeReply
ended_with (Some (Ending answer)) = Some answer
ended_with _ = None

-- where the engine has no work, none waits in the tree
abbrev pub AreKept : Option FreeFrame → Links → Type 0
AreKept None tree = tree.frees ≡ []
AreKept (Some f) tree = Unit {0}

-- there is room for all works that may come to stand
abbrev pub HasRoom : Option FreeFrame → Links → Type 0
HasRoom innermost tree = wanted (before innermost tree.frees) tree.rows ≤ length tree.frees + tree.room

-- and so there is once a free has begun with this work
abbrev pub HasRoomFor : FreeFrame → Option FreeFrame → Links → Type 0
HasRoomFor work innermost tree = wanted (work ∷ before innermost tree.frees) tree.rows ≤ length tree.frees + tree.room

-- no free is open, or one is at work, or it waits for no free
abbrev pub MayMove : Option FreeFrame → Links → Type 0
MayMove None tree = tree.frees ≡ []
MayMove (Some f) tree = AtWork (f ∷ tree.frees) (pool_of tree) ⊎ (awaits_run f ≡ true)

-- the next move of a work tells nothing, and leads to this work; or it speaks, and nothing is done
abbrev pub MovesQuietly : FreeFrame → Links → Option FreeFrame → Links → Type 0
MovesQuietly work tree None tree' = (speaking (frees_of (Some work) tree) ≡ true) × (tree' ≡ tree)
MovesQuietly work tree (Some next) tree' = moves (work ∷ tree.frees) (pool_of tree) ≡ (None, frees_of (Some next) tree')

-- no free is open, and none of the objects is asked or dying
pub record IsAtRest (tree : Links) (pairs : Pairs) : Type 0 where
  pub alone : tree.frees ≡ []
  pub waiting : AreAwaiting [] (pool_of tree)
  pub refs : AreRefsOf pairs.pairs tree.rows

pub record IsBetweenCalls (innermost : Option FreeFrame) (tree : Links) : Type 0 where
  pub moves : MayMove innermost tree
  pub room : HasRoom innermost tree

-- The innermost free is at work, and tells or asks something with its next step.
pub record IsFreeing (innermost : Option FreeFrame) (tree : Links) (pairs : Pairs) : Type 0 where
  pub refs : AreRefsOf pairs.pairs tree.rows
  pub at_work : IsAtWork (frees_of innermost tree)
  pub settled : speaking (frees_of innermost tree) ≡ true
  pub kept : AreKept innermost tree
  pub room : HasRoom innermost tree

-- a free has begun, or goes on, with these works, and has come to what it tells or asks first
pub record HasBegun (works : List FreeFrame) (tree : Links) (pairs : Pairs) (innermost' : Option FreeFrame) (tree' : Links) (pairs' : Pairs) : Type 0 where
  pub begins : Begins works (pool_of tree) (frees_of innermost' tree')
  pub at_work : IsAtWork (frees_of innermost' tree')
  pub kept : AreKept innermost' tree'
  pub room : HasRoom innermost' tree'
  pub spare : tree.spare ≤ tree'.spare
  pub refs : AreRefsOf pairs'.pairs tree'.rows
  pub places : pairs.spare ≤ pairs'.spare
  -- the rows are the same in all but marks and destructors
  pub same : SameRows tree.rows tree'.rows
