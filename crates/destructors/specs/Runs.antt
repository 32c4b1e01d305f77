-- A free from a moment to its end, as whoever drives the engine sees it: what the steps tell and ask, and how he answers.
use Rattle.std.specs.Prelude.{◌≡◌, ℕ, List, [], ◌∷◌, ◌++◌, Option, Some, None}
use Rattle.step_machine.specs.Machine.{Outcome, run}
use Rattle.step_machine.specs.Machine.Outcome.{Ended}
use Rattle.tree_specs.specs.declared.frame.Answer.{Answer}
use Rattle.tree_specs.specs.declared.frame.FreeFrame.{FreeFrame}
use Rattle.tree_specs.specs.declared.frame.FreeFrame.TheVariants.{Hooked, Preparing, Draining}
use Rattle.tree_specs.specs.declared.free_step.FreeReply.{FreeReply}
use Rattle.tree_specs.specs.declared.free_step.FreeStep.{FreeStep}
use Rattle.tree_specs.specs.declared.free_step.FreeStep.TheVariants.{Ask, Prepare, Drain, Done}
use Rattle.tree_specs.specs.declared.event.Event.{Event}
use Rattle.tree_specs.specs.declared.object.Obj.{Obj}
use Rattle.tree_specs.specs.declared.watch.Watch.{Watch}
use Rattle.tree_specs.specs.declared.question.Input.{Input}
use Rattle.tree_specs.specs.Tree.Pool.{Pool}
use Rattle.tree_specs.specs.Rules.Items.{Item}
use Rattle.tree_specs.specs.Rules.Items.Item.{Told}
use Rattle.tree_specs.specs.Rules.Sequence.{Scene}
use Rattle.tree_specs.specs.Rules.Story.{items}
use Rattle.tree_specs.specs.Machine.Table.{table, event_of, run_for, freeing_resume}
use Rattle.destructors.specs.Frees.{OpenFrees, Steps}

-- a step that neither asks nor ends the free
abbrev pub IsNews : FreeStep → Type 0
IsNews (Ask x) = ⊥
IsNews (Prepare x) = ⊥
IsNews (Drain x) = ⊥
IsNews (Done a) = ⊥
IsNews _ = Unit {0}

-- a step that asks for what the free then waits for
abbrev pub AsksFor : FreeStep → FreeFrame → Type 0
AsksFor (Ask x) (Hooked y h) = x ≡ y
AsksFor (Prepare x) (Preparing y) = x ≡ y
AsksFor (Drain x) (Draining y) = x ≡ y
AsksFor t f = ⊥

abbrev pub listed : Option Event → List Item
listed None = []
listed (Some e) = Told e ∷ []

-- what a host tells of a step, by what was watched before it
abbrev pub told_of : List Watch → FreeStep → List Item
told_of ring told = listed (event_of ring told)

-- what a free waits for, over these inputs, in so many turns: the run of a destructor, that a request is received, or that the
-- entries of a queue are freed. Calls may be done meanwhile.
abbrev pub run_of : ℕ → FreeFrame → Pool → List Input → Outcome Answer Pool Input Item
run_of n f p is = run table n (run_for f) p is

-- the run of an object's destructor
abbrev pub hook_run : ℕ → Obj → ℕ → Pool → List Input → Outcome Answer Pool Input Item
hook_run n x h p is = run_of n (Hooked x h) p is

-- it is over with this answer, over a pool that it has left
abbrev pub gone_on : Answer → FreeFrame → List FreeFrame → Pool → OpenFrees
gone_on b f fs p = record { works = freeing_resume f b ∷ fs; pool = p }

-- From these open frees on the steps come to Done with this answer and pool. The inputs are what is answered in the runs that the
-- frees wait for, and the items what the steps tell and what is told and asked in these runs.
pub data Drives : OpenFrees → List Input → List Item → FreeReply → Pool → Type 0 where
  Over : (s t : OpenFrees) (a : FreeReply) → Steps s (Done a) t → Drives s [] [] a t.pool
  Tells : (s t : OpenFrees) (told : FreeStep) (is : List Input) (more : List Item) (a : FreeReply) (q : Pool)
      → IsNews told → Steps s told t → Drives t is more a q → Drives s is (told_of s.pool.ring told ++ more) a q
  Runs : (s t : OpenFrees) (asked : FreeStep) (f : FreeFrame) (fs : List FreeFrame) (n : ℕ) (b : Answer) (p : Pool) (us is : List Input) (ran more : List Item) (a : FreeReply) (q : Pool)
      → Steps s asked t → AsksFor asked f → t.works ≡ f ∷ fs → run_of n f t.pool us ≡ Ended b p ran []
      → Drives (gone_on b f fs p) is more a q → Drives s (us ++ is) (ran ++ more) a q

-- the rules' text answers this, leaves this pool and tells these items, and has taken all inputs
abbrev pub EndsAs : {A : Type 0} → Outcome A Pool Input Scene → A → Pool → List Item → Type 0
EndsAs text a q told = (scenes : List Scene) × (text ≡ Ended a q scenes []) × (items scenes ≡ told)
