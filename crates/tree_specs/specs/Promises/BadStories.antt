-- Stories that break one rule each, of orderly lists of items and of grounded stories.
use Rattle.std.specs.Prelude.{ℕ, false, List, [], ◌∷◌, map, Some, None}
use Rattle.tree_specs.specs.declared.object.Obj.{Obj}
use Rattle.tree_specs.specs.declared.object.Owner.TheVariants.{Root, Of}
use Rattle.tree_specs.specs.declared.kind.Kind.TheVariants as kind
use Rattle.tree_specs.specs.declared.row.Mark.TheVariants as mark
use Rattle.tree_specs.specs.declared.moment.What.TheVariants as what
use Rattle.tree_specs.specs.declared.call.Call.TheVariants.{Free, Unlink, Unhook}
use Rattle.tree_specs.specs.declared.question.Ask.TheVariants.{Routine}
use Rattle.tree_specs.specs.declared.question.Act.TheVariants.{Do, Ret}
use Rattle.tree_specs.specs.declared.question.Input.{Input}
use Rattle.tree_specs.specs.declared.question.Input.TheVariants.{Act}
use Rattle.tree_specs.specs.declared.reply.Reply.{Reply}
use Rattle.tree_specs.specs.declared.reply.Reply.TheVariants.{Ok, No}
use Rattle.tree_specs.specs.declared.reply.Refusal.TheVariants.{NoSuch, Held, Running, Refused as RefusedBy}
use Rattle.tree_specs.specs.declared.event.Event.{Event}
use Rattle.tree_specs.specs.declared.event.Event.TheVariants.{Replied, Fired, Accepted, Refused, Moved, Warned, Freed, Unreferenced, State}
use Rattle.tree_specs.specs.Tree.Pool.{Pool, empty, add, set_mark, add_request, add_queue, add_entry, run_queue}
use Rattle.tree_specs.specs.Rules.Items.{Item}
use Rattle.tree_specs.specs.Rules.Items.Item.{Told, Asked}
use Rattle.tree_specs.specs.Rules.Sequence.{Scene}
use Rattle.tree_specs.specs.Rules.Answers.{hook_moment}

-- none of them is so
abbrev pub NoneOf : {A : Type 0} → (A → Type 0) → List A → Type 0
NoneOf Q [] = Unit {0}
NoneOf Q (x ∷ xs) = (Q x → ⊥) × NoneOf Q xs

-- two objects, and a reference
abbrev pub a : Obj
a = record { 0 = 1 }

abbrev pub b : Obj
b = record { 0 = 2 }

abbrev pub r : Obj
r = record { 0 = 3 }

-- the destructor of the first one is asked
abbrev pub asks_a : Item
asks_a = Asked (Routine (hook_moment a 16))

abbrev pub told : Event → Item
told e = Told e

-- ---- a destructor accepts once

abbrev pub accepted_twice : List Item
accepted_twice = told (Accepted a) ∷ told (Accepted a) ∷ []

abbrev pub asked_after_it_accepted : List Item
asked_after_it_accepted = told (Accepted a) ∷ asks_a ∷ []

abbrev pub refused_after_it_accepted : List Item
refused_after_it_accepted = told (Accepted a) ∷ told (Refused a 1) ∷ []

-- ---- an object is freed once, with the destructor that accepted

abbrev pub freed_twice : List Item
freed_twice = told (Freed a 0) ∷ told (Freed a 0) ∷ []

abbrev pub freed_unaccepted : List Item
freed_unaccepted = told (Freed a 16) ∷ []

abbrev pub freed_without_its_destructor : List Item
freed_without_its_destructor = told (Accepted a) ∷ told (Freed a 0) ∷ []

-- ---- nothing starts for a freed object

-- what uses the first object: a routine of it, a question to its destructor and what this answers, a move of it and one to
-- it, a warning, a state, and a reference to it that is dropped
abbrev pub uses_of_a : List Item
uses_of_a =
    told (Fired what.Timer a 16) ∷ asks_a ∷ told (Accepted a) ∷ told (Refused a 1) ∷ told (Moved a Root) ∷ told (Moved b (Of a)) ∷ told (Warned a) ∷ told (State a 2) ∷ told (Unreferenced r a) ∷ []

abbrev pub used_after_the_end : List (List Item)
used_after_the_end = map (λ item. told (Freed a 0) ∷ item ∷ []) uses_of_a

abbrev pub dropped_twice : List Item
dropped_twice = told (Unreferenced r a) ∷ told (Unreferenced r a) ∷ []

-- ---- a call is refused for a destructor's number right after this was told

-- it wasn't told, something was told since, and another number was told
abbrev pub refused_without_it : List (List Item)
refused_without_it =
    (told (Replied (No (RefusedBy a 1))) ∷ [])
    ∷ (told (Refused a 1) ∷ told (Freed b 0) ∷ told (Replied (No (RefusedBy a 1))) ∷ [])
    ∷ (told (Refused a 1) ∷ told (Replied (No (RefusedBy a 2))) ∷ [])
    ∷ []

-- ---- the states of a request go up

-- a state that is too low, and one that is too high; finished twice, received twice, and finished after it was received
abbrev pub states_out_of_order : List (List Item)
states_out_of_order =
    (told (State a 1) ∷ [])
    ∷ (told (State a 7) ∷ [])
    ∷ (told (State a 2) ∷ told (State a 3) ∷ [])
    ∷ (told (State a 6) ∷ told (State a 6) ∷ [])
    ∷ (told (State a 6) ∷ told (State a 2) ∷ [])
    ∷ []

-- ---- stories over pools

-- the first object, which nothing is going on with
abbrev pub one_object : Pool
one_object = add (empty 1) kind.Plain Root 0 (97 ∷ [])

-- with two references to it
abbrev pub two_references : Pool
two_references = add (add one_object (kind.Reference a) Root 0 (97 ∷ [])) (kind.Reference a) Root 0 (97 ∷ [])

-- a timer
abbrev pub one_timer : Pool
one_timer = add (empty 1) kind.Timer Root 0 (97 ∷ [])

-- a free of it is answered so over this pool
abbrev pub answered : Pool → Reply → Scene
answered p reply = record { item = told (Replied reply); before = p; about = Some (record { call = Free a; start = p }) }

-- the root's interest in it is taken away, and this is answered so over this pool
abbrev pub unlinked : Pool → Reply → Scene
unlinked p reply = record { item = told (Replied reply); before = p; about = Some (record { call = Unlink Root a; start = p }) }

abbrev pub seen : Pool → Item → Scene
seen p item = record { item = item; before = p; about = None }

-- ---- a free of a live object is answered

abbrev pub called_missing : List Scene
called_missing = answered one_object (No (NoSuch 1)) ∷ []

abbrev pub called_by_another_number : List Scene
called_by_another_number = answered one_object (No (Running b)) ∷ []

abbrev pub unlinked_missing : List Scene
unlinked_missing = unlinked one_object (No (NoSuch 1)) ∷ []

-- ---- a reply has its call

abbrev pub replied_to_no_call : List Scene
replied_to_no_call = seen one_object (told (Replied Ok)) ∷ []

-- ---- held exactly where there are references

abbrev pub held_without_references : List Scene
held_without_references = answered one_object (No (Held a)) ∷ []

abbrev pub freed_though_held : List Scene
freed_though_held = answered two_references Ok ∷ []

abbrev pub unlinked_held : List Scene
unlinked_held = unlinked two_references (No (Held a)) ∷ []

-- ---- refused for a cause

abbrev pub running_though_quiet : List Scene
running_though_quiet = answered one_object (No (Running a)) ∷ []

abbrev pub refused_unheard : List Scene
refused_unheard = answered one_object (No (RefusedBy a 1)) ∷ []

abbrev pub unlinked_running_though_quiet : List Scene
unlinked_running_though_quiet = unlinked one_object (No (Running a)) ∷ []

abbrev pub unlinked_refused_unheard : List Scene
unlinked_refused_unheard = unlinked one_object (No (RefusedBy a 1)) ∷ []

-- ---- routines start for live objects

-- a queue that doesn't run, and an entry in it of the second object, a request
abbrev pub one_stopped : Pool
one_stopped = run_queue (add_entry (add_request (add_queue (empty 1) Root (97 ∷ [])) Root 0 (97 ∷ [])) a b (record { routine = 16; user = 0; context = record { 0 = 0 } })) a false

-- a routine runs for no object, for a timer that is quiet, as that of another kind, for a plain object as for a request, and for
-- an entry whose turn it isn't; a destructor accepts unasked, while its object is quiet, and while this is busy
abbrev pub badly_started : List (List Scene)
badly_started =
    (seen (empty 1) (told (Fired what.Timer a 16)) ∷ [])
    ∷ (seen one_timer (told (Fired what.Timer a 16)) ∷ [])
    ∷ (seen (set_mark one_timer a mark.Busy) (told (Fired what.Descriptor a 16)) ∷ [])
    ∷ (seen one_object (told (Fired what.Callback a 16)) ∷ [])
    ∷ (seen one_stopped (told (Fired what.Trigger b 16)) ∷ [])
    ∷ (seen (set_mark one_object a mark.Asked) (told (Accepted a)) ∷ [])
    ∷ (seen one_object asks_a ∷ seen one_object (told (Accepted a)) ∷ [])
    ∷ (seen (set_mark one_object a mark.Busy) asks_a ∷ seen (set_mark one_object a mark.Busy) (told (Accepted a)) ∷ [])
    ∷ []

-- ---- a destructor accepts right after it has returned 0

-- what a destructor does next: it returns a number, or does a call
abbrev pub returns : ℕ → Input
returns v = Act (Ret v)

abbrev pub calls : Input
calls = Act (Do (Unhook a))

-- over the inputs of a destructor that returns another number, or doesn't return at all
abbrev pub asked_and_accepted : List Scene
asked_and_accepted = seen (set_mark one_object a mark.Asked) asks_a ∷ seen (set_mark one_object a mark.Asked) (told (Accepted a)) ∷ []
