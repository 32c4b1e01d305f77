-- What a refusal says of the objects, and what it leaves of them.
use Rattle.std.specs.Prelude.{◌≡◌, ◌⊎◌, ℕ, List, [], ◌∷◌, ◌++◌, Option, Some, None, true}
use Rattle.step_machine.specs.Machine.Outcome.{Ended}
use Rattle.tree_specs.specs.declared.object.Obj.{Obj}
use Rattle.tree_specs.specs.declared.row.Row.{Row}
use Rattle.tree_specs.specs.declared.row.Mark.{Mark}
use Rattle.tree_specs.specs.declared.row.Mark.TheVariants as mark
use Rattle.tree_specs.specs.declared.call.Call.{Call}
use Rattle.tree_specs.specs.declared.call.Call.TheVariants.{Free, Unlink}
use Rattle.tree_specs.specs.declared.reply.Reply.{Reply}
use Rattle.tree_specs.specs.declared.reply.Reply.TheVariants.{No}
use Rattle.tree_specs.specs.declared.reply.Refusal.{Refusal}
use Rattle.tree_specs.specs.declared.reply.Refusal.TheVariants.{Running as IsRunning}
use Rattle.tree_specs.specs.declared.event.Event.TheVariants.{Refused as HasRefused, Unreferenced, Closed}
use Rattle.tree_specs.specs.declared.question.Ask.TheVariants.{Quiet, Routine}
use Rattle.tree_specs.specs.declared.question.Input.{Input}
use Rattle.tree_specs.specs.declared.free_step.FreeReply.{FreeReply}
use Rattle.tree_specs.specs.declared.free_step.FreeReply.TheVariants.{Ok, Held, Running, Refused}
use Rattle.tree_specs.specs.Tree.Pool.{Pool, row_of, remove, set_mark, doom}
use Rattle.tree_specs.specs.Tree.Forest.{Distinct}
use Rattle.tree_specs.specs.Events.Rotation.{closes_with}
use Rattle.tree_specs.specs.Calls.Refusals.{is_running}
use Rattle.tree_specs.specs.Calls.Plans.{planned}
use Rattle.tree_specs.specs.Rules.Items.{Item}
use Rattle.tree_specs.specs.Rules.Items.Item.{Told}
use Rattle.tree_specs.specs.Rules.Sequence.{Work, Scene}
use Rattle.tree_specs.specs.Rules.Answers.{hook_moment, freed_reply}
use Rattle.tree_specs.specs.Rules.Story.{free, unlink, children, asked, taking, reaching, finishing, notifying, receiving, cancelling}
use Rattle.tree_specs.specs.Rules.Pieces.{effect, turned, work_by}

-- a call, be it the host's own or an act, with its reply; a turn is the host's own
abbrev pub called : ℕ → Call → Work Reply
called n c p is = effect (free n) (unlink n) (children n) (reaching n) (turned Quiet (taking n)) (work_by (finishing n) (notifying n) (receiving n) (cancelling n)) (planned p c) p is

-- ---- running

-- these frees answer that an object runs only where it ran when they began
abbrev pub SayOnlyWhatRan : (Obj → Work FreeReply) → Type 0
SayOnlyWhatRan frees = (x : Obj) (p q : Pool) (is left : List Input) (told : List Scene) → Distinct p.rows → frees x p is ≡ Ended Running q told left → is_running p x ≡ true

-- these calls are refused as running only where the object ran when they began
abbrev pub RefuseOnlyWhatRan : (Call → Work Reply) → Type 0
RefuseOnlyWhatRan calls = (c : Call) (x : Obj) (p q : Pool) (is left : List Input) (told : List Scene) → Distinct p.rows → calls c p is ≡ Ended (No (IsRunning x)) q told left → is_running p x ≡ true

-- ---- what is left

-- nothing was done, told or asked
pub record Untouched (p q : Pool) (is left : List Input) (told : List Scene) : Type 0 where
  pub pool : q ≡ p
  pub told_none : told ≡ []
  pub asked_none : left ≡ is

-- the pool without a reference that is told as dropped
abbrev pub dropped_by : Item → Pool → Pool
dropped_by (Told (Unreferenced r target)) p = remove p r
dropped_by item p = p

abbrev pub without_dropped : List Scene → Pool → Pool
without_dropped [] p = p
without_dropped (s ∷ told) p = without_dropped told (dropped_by s.item p)

abbrev pub DropsOf : Obj → Item → Type 0
DropsOf x (Told (Unreferenced r target)) = target ≡ x
DropsOf x item = ⊥

abbrev pub AllDropsOf : Obj → List Scene → Type 0
AllDropsOf x [] = Unit {0}
AllDropsOf x (s ∷ told) = DropsOf x s.item × AllDropsOf x told

-- references to an object were dropped, and nothing else was done
pub record OnlyDropped (x : Obj) (p q : Pool) (told : List Scene) : Type 0 where
  pub drops : AllDropsOf x told
  pub pool : q ≡ without_dropped told p

-- an object whose handler runs is to be freed after it, and waits for nothing any more
abbrev pub doomed_by : Mark → Obj → Pool → Pool
doomed_by mark.Busy x p = doom p x
doomed_by m x p = p

abbrev pub doomed_at : Option Row → Obj → Pool → Pool
doomed_at None x p = p
doomed_at (Some r) x p = doomed_by r.mark x p

abbrev pub doomed : Obj → Pool → Pool
doomed x p = doomed_at (row_of p.rows x) x p

-- a descriptor that is closed with it is told as closed
abbrev pub told_closed : Option ℕ → Pool → List Scene
told_closed None p = []
told_closed (Some fd) p = record { item = Told (Closed fd); before = p; about = None } ∷ []

abbrev pub closed_by : Mark → Obj → Pool → List Scene
closed_by mark.Busy x p = told_closed (closes_with p.ring x) p
closed_by m x p = []

abbrev pub closed_at : Option Row → Obj → Pool → List Scene
closed_at None x p = []
closed_at (Some r) x p = closed_by r.mark x p

-- references were dropped, and an object whose handler runs is doomed
pub record OnlyDoomed (x : Obj) (p q : Pool) (told : List Scene) : Type 0 where
  pub dropped : List Scene
  pub over : Pool
  pub drops : OnlyDropped x p over dropped
  pub told_is : told ≡ dropped ++ closed_at (row_of over.rows x) x over
  pub pool : q ≡ doomed x over

abbrev pub told_refusal : Obj → ℕ → Pool → Scene
told_refusal x v p = record { item = Told (HasRefused x v); before = p; about = None }

-- the object's destructor ran and returned a number; what it did stays done, and the object is quiet again
pub record AfterItsRun (x : Obj) (v : ℕ) (p q : Pool) (is left : List Input) (told : List Scene) : Type 0 where
  pub dropped : List Scene
  pub ran : List Scene
  pub start : Pool
  pub over : Pool
  pub turns : ℕ
  pub hook : ℕ
  pub drops : OnlyDropped x p start dropped
  pub run : asked turns (Routine (hook_moment x hook)) (set_mark start x mark.Asked) is ≡ Ended v over ran left
  pub pool : q ≡ set_mark over x mark.Quiet
  pub told_is : told ≡ dropped ++ ran ++ told_refusal x v over ∷ []

-- what a free leaves that doesn't free the object
abbrev pub LeftByFree : Obj → FreeReply → Pool → Pool → List Input → List Input → List Scene → Type 0
LeftByFree x Ok p q is left told = Unit {0}
LeftByFree x Held p q is left told = OnlyDropped x p q told × (left ≡ is)
LeftByFree x Running p q is left told = OnlyDoomed x p q told × (left ≡ is)
LeftByFree x (Refused v) p q is left told = AfterItsRun x v p q is left told

-- a free that the call did answers so
abbrev pub LeftByItsFree : Obj → Refusal → Pool → Pool → List Input → List Input → List Scene → Type 0
LeftByItsFree x why p q is left told = (a : FreeReply) × (freed_reply x a ≡ No why) × LeftByFree x a p q is left told

-- what a refused call leaves: all as it was, but for what a free did before it was refused
abbrev pub LeftByRefused : Call → Refusal → Pool → Pool → List Input → List Input → List Scene → Type 0
LeftByRefused (Free x) why p q is left told = Untouched p q is left told ⊎ LeftByItsFree x why p q is left told
LeftByRefused (Unlink o x) why p q is left told = Untouched p q is left told ⊎ LeftByItsFree x why p q is left told
LeftByRefused c why p q is left told = Untouched p q is left told

-- these calls change nothing where they are refused
abbrev pub RefusedChangeNothing : (Call → Work Reply) → Type 0
RefusedChangeNothing calls = (c : Call) (why : Refusal) (p q : Pool) (is left : List Input) (told : List Scene) → calls c p is ≡ Ended (No why) q told left → LeftByRefused c why p q is left told
