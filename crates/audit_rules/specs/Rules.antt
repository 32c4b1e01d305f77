-- The rules of an orderly story by their numbers, each as a test of an item and of the items before it.
use Rattle.std.specs.Prelude.{ℕ, Bool, true, false, ◌&&◌, ◌||◌, not, nat_eq, nat_lt, if◌then◌else◌, List, [], ◌∷◌, Option, Some, None}
use Rattle.std.specs.List.{list_any}
use Rattle.tree_specs.specs.declared.object.Obj.{Obj}
use Rattle.tree_specs.specs.declared.object.Owner.{Owner}
use Rattle.tree_specs.specs.declared.object.Owner.TheVariants.{Root, Of}
use Rattle.tree_specs.specs.declared.question.Ask.TheVariants.{Routine}
use Rattle.tree_specs.specs.declared.reply.Reply.TheVariants.{No}
use Rattle.tree_specs.specs.declared.reply.Refusal.TheVariants.{Refused as RefusedBy}
use Rattle.tree_specs.specs.declared.event.Event.TheVariants.{Replied, Fired, Accepted, Refused, Moved, Warned, Freed, Unreferenced, State}
use Rattle.tree_specs.specs.Words.Objects.{same}
use Rattle.tree_specs.specs.Rules.Items.{Item}
use Rattle.tree_specs.specs.Rules.Items.Item.{Told, Asked}
use Rattle.tree_specs.specs.Promises.Orderly.{is_hook, accepts, frees, drops, has_state_from}

-- ---- the objects of an item

-- the object whose destructor is asked, or has returned
abbrev pub judged_by : Item → List Obj
judged_by (Asked (Routine m)) = if is_hook m.what then m.object ∷ [] else []
judged_by (Told (Accepted x)) = x ∷ []
judged_by (Told (Refused x v)) = x ∷ []
judged_by item = []

-- an owner that isn't the root
abbrev pub owned_by : Owner → List Obj
owned_by Root = []
owned_by (Of x) = x ∷ []

-- the objects that are to be there still: a routine runs for them, they go to another owner or are one, they are warned of, their
-- state is told, they are the target of a reference, or their destructor is asked or has returned
abbrev pub used_by : Item → List Obj
used_by (Told (Fired what x routine)) = x ∷ []
used_by (Told (Moved x owner)) = x ∷ owned_by owner
used_by (Told (Warned x)) = x ∷ []
used_by (Told (State x s)) = x ∷ []
used_by (Told (Unreferenced reference target)) = target ∷ []
used_by item = judged_by item

-- ---- what was told before

-- its destructor has accepted
abbrev pub has_accepted : List Item → Obj → Bool
has_accepted before x = list_any (accepts x) before

-- it is no more
abbrev pub is_freed : List Item → Obj → Bool
is_freed before x = list_any (frees x) before

-- the reference is no more
abbrev pub is_dropped : List Item → Obj → Bool
is_dropped before reference = list_any (drops reference) before

-- the request is over
abbrev pub is_over : List Item → Obj → Bool
is_over before x = list_any (has_state_from 2 x) before

-- what came of the request was taken
abbrev pub is_received : List Item → Obj → Bool
is_received before x = list_any (has_state_from 6 x) before

-- a destructor of this object has returned this number
abbrev pub refuses_with : Obj → ℕ → Item → Bool
refuses_with x v (Told (Refused y w)) = same y x && nat_eq w v
refuses_with x v item = false

-- the last item is such
abbrev pub ends_with : (Item → Bool) → List Item → Bool
ends_with test [] = false
ends_with test (item ∷ []) = test item
ends_with test (item ∷ next ∷ rest) = ends_with test (next ∷ rest)

-- ---- the rules

-- 1: a destructor accepts at most once, and then neither is asked again nor refuses
abbrev pub is_judged_again : List Item → Item → Bool
is_judged_again before item = list_any (has_accepted before) (judged_by item)

-- a destructor stands with what is freed exactly where one has accepted; 0 is none
abbrev pub has_wrong_hook : Bool → ℕ → Bool
has_wrong_hook true hook = nat_eq hook 0
has_wrong_hook false hook = not (nat_eq hook 0)

-- 2: an object is freed once, with the destructor that has accepted
abbrev pub is_freed_wrongly : List Item → Item → Bool
is_freed_wrongly before (Told (Freed x hook)) = is_freed before x || has_wrong_hook (has_accepted before x) hook
is_freed_wrongly before item = false

abbrev pub is_dropped_twice : List Item → Item → Bool
is_dropped_twice before (Told (Unreferenced reference target)) = is_dropped before reference
is_dropped_twice before item = false

-- 3: nothing is told or asked of an object that is no more, and no reference is dropped twice
abbrev pub comes_after_the_end : List Item → Item → Bool
comes_after_the_end before item = list_any (is_freed before) (used_by item) || is_dropped_twice before item

-- 4: a call is refused for a destructor's number right after this was told
abbrev pub is_refused_for_nothing : List Item → Item → Bool
is_refused_for_nothing before (Told (Replied (No (RefusedBy x v)))) = not (ends_with (refuses_with x v) before)
is_refused_for_nothing before item = false

abbrev pub is_no_state : ℕ → Bool
is_no_state s = nat_lt s 2 || nat_lt 6 s

-- 5: a request goes once to one of the states 2 to 5, and then once to 6
abbrev pub has_wrong_state : List Item → Item → Bool
has_wrong_state before (Told (State x s)) = is_no_state s || (is_received before x || (nat_lt s 6 && is_over before x))
has_wrong_state before item = false

-- the least number of a rule that the item breaks
abbrev pub broken : List Item → Item → Option ℕ
broken before item =
    if is_judged_again before item then Some 1 else
    if is_freed_wrongly before item then Some 2 else
    if comes_after_the_end before item then Some 3 else
    if is_refused_for_nothing before item then Some 4 else
    if has_wrong_state before item then Some 5 else None
