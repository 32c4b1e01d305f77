-- When a list of events and questions is orderly, whoever tells it: each item fits what stands before it.
use Rattle.std.specs.Prelude.{◌≡◌, ℕ, ◌≤◌, ◌<◌, nat_eq, nat_le, Bool, true, false, ◌&&◌, ◌||◌, not, List}
use Rattle.std.specs.List.{list_any}
use Rattle.step_machine.specs.History.{EachFits}
use Rattle.step_machine.specs.Open.{LastIs}
use Rattle.tree_specs.specs.declared.object.Obj.{Obj}
use Rattle.tree_specs.specs.declared.object.Owner.TheVariants.{Of}
use Rattle.tree_specs.specs.declared.moment.What.{What}
use Rattle.tree_specs.specs.declared.moment.What.TheVariants.{Hook}
use Rattle.tree_specs.specs.declared.question.Ask.TheVariants.{Routine}
use Rattle.tree_specs.specs.declared.reply.Reply.TheVariants.{No}
use Rattle.tree_specs.specs.declared.reply.Refusal.TheVariants.{Refused as RefusedBy}
use Rattle.tree_specs.specs.declared.event.Event.TheVariants.{Replied, Fired, Accepted, Refused, Moved, Warned, Freed, Unreferenced, State}
use Rattle.tree_specs.specs.Words.Objects.{same, same_owner}
use Rattle.tree_specs.specs.Rules.Items.{Item}
use Rattle.tree_specs.specs.Rules.Items.Item.{Told, Asked}

-- ---- what an item says of an object

abbrev pub is_hook : What → Bool
is_hook Hook = true
is_hook what = false

-- its destructor is asked
abbrev pub asks_hook : Obj → Item → Bool
asks_hook x (Asked (Routine m)) = is_hook m.what && same m.object x
asks_hook x item = false

-- its destructor has accepted
abbrev pub accepts : Obj → Item → Bool
accepts x (Told (Accepted y)) = same y x
accepts x item = false

abbrev pub refuses : Obj → Item → Bool
refuses x (Told (Refused y v)) = same y x
refuses x item = false

-- it is no more
abbrev pub frees : Obj → Item → Bool
frees x (Told (Freed y h)) = same y x
frees x item = false

-- a reference is no more
abbrev pub drops : Obj → Item → Bool
drops reference (Told (Unreferenced r target)) = same r reference
drops reference item = false

-- a request is in this state or a later one
abbrev pub has_state_from : ℕ → Obj → Item → Bool
has_state_from k x (Told (State y s)) = same y x && nat_le k s
has_state_from k x item = false

-- its destructor is asked, or has returned
abbrev pub judges : Obj → Item → Bool
judges x item = asks_hook x item || (accepts x item || refuses x item)

-- a routine runs for it, it goes to another owner, or is one, or is the target of a reference, or its state is told
abbrev pub uses : Obj → Item → Bool
uses x (Told (Fired what y routine)) = same y x
uses x (Told (Moved y owner)) = same y x || same_owner owner (Of x)
uses x (Told (Warned y)) = same y x
uses x (Told (State y s)) = same y x
uses x (Told (Unreferenced reference target)) = same target x
uses x item = judges x item

-- ---- the rules

-- a freed object is told once, with a destructor exactly where one has accepted
abbrev pub FreedOnce : List Item → Item → Type 0
FreedOnce before (Told (Freed x h)) = (list_any (frees x) before ≡ false) × (list_any (accepts x) before ≡ not (nat_eq h 0))
FreedOnce before item = Unit {0}

-- no reference is dropped twice
abbrev pub DroppedOnce : List Item → Item → Type 0
DroppedOnce before (Told (Unreferenced reference target)) = list_any (drops reference) before ≡ false
DroppedOnce before item = Unit {0}

-- a call is refused for a destructor's number right after this was told
abbrev pub RefusedJustNow : List Item → Item → Type 0
RefusedJustNow before (Told (Replied (No (RefusedBy x v)))) = LastIs (λ item. item ≡ Told (Refused x v)) before
RefusedJustNow before item = Unit {0}

-- a request goes once to one of the states 2 to 5, and then once to 6
abbrev pub StatesGoUp : List Item → Item → Type 0
StatesGoUp before (Told (State x s)) = (2 ≤ s) × (s ≤ 6) × (list_any (has_state_from 6 x) before ≡ false) × (s < 6 → list_any (has_state_from 2 x) before ≡ false)
StatesGoUp before item = Unit {0}

pub record Fits (before : List Item) (item : Item) : Type 0 where
  -- a destructor accepts at most once, and then neither is asked again nor refuses
  pub accepts_once : (x : Obj) → judges x item ≡ true → list_any (accepts x) before ≡ false
  pub freed_once : FreedOnce before item
  -- no routine starts for an object that is no more, no destructor of it is asked, and nothing is put below it
  pub after_the_end : (x : Obj) → uses x item ≡ true → list_any (frees x) before ≡ false
  pub dropped_once : DroppedOnce before item
  pub refused_just_now : RefusedJustNow before item
  pub states_go_up : StatesGoUp before item

abbrev pub Orderly : List Item → Type 0
Orderly items = EachFits Fits items
