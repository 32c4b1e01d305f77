-- Worked examples, each a table of the lines of a schedule and of what they give, up to the next question.
use Rattle.std.specs.Prelude.{List, [], ◌∷◌, ◌++◌}
use Rattle.tree_specs.specs.Examples.Exchanges.{Example}
use Rattle.tree_specs.specs.Examples.Events.{events}
use Rattle.tree_specs.specs.Examples.Descriptors.{descriptors}
use Rattle.tree_specs.specs.Examples.Requests.{requests}
use Rattle.tree_specs.specs.Examples.Queues.{queues}

-- ---- objects and owners

-- a schedule of no lines but the header
abbrev pub nothing : Example
nothing = []

-- the children of an object are freed newest first, and it can't be freed again
abbrev pub newest_first : Example
newest_first =
    ("call new 0 0 a", "reply 1") ∷
    ("call new 1 10 b", "reply 2") ∷
    ("call new 1 20 c", "reply 3") ∷
    ("call new 1 30 d", "reply 4") ∷
    ("call free 1", "freed 4 0\nfreed 3 0\nfreed 2 0\nfreed 1 0\nreply ok") ∷
    ("call free 1", "reply no 1 1") ∷
    []

-- a report, sums over what is inside an owner, and children that are freed without it
abbrev pub reported : Example
reported =
    ("call new 0 5 a", "reply 1") ∷
    ("call new 1 6 b", "reply 2") ∷
    ("call new 0 0 c", "reply 3") ∷
    ("call report 0", "row 0 0 root 0 0 0 null_context\nrow 1 3 plain 0 0 0 c\nrow 1 1 plain 5 0 0 a\nrow 2 2 plain 6 0 0 b\nreply rows 4") ∷
    ("call total 0", "reply 11") ∷
    ("call count 1", "reply 2") ∷
    ("call freekids 1", "freed 2 0\nreply ok") ∷
    ("call rename 1 z", "reply ok") ∷
    ("call report 1", "row 0 1 plain 5 0 0 z\nreply rows 1") ∷
    ("call move 3 1", "reply 1") ∷
    ("call reparent 0 3 1", "reply no 6 1 0") ∷
    ("call parent 1", "reply 3") ∷
    []

-- objects never go into what is inside them, and are freed where they came to be
abbrev pub kept_apart : Example
kept_apart =
    ("call new 0 0 a", "reply 1") ∷
    ("call new 1 0 b", "reply 2") ∷
    ("call new 1 0 c", "reply 3") ∷
    ("call steal 2 1", "reply no 7 1 2") ∷
    ("call steal 1 1", "reply no 7 1 1") ∷
    ("call steal 1 2", "reply ok") ∷
    ("call free 1", "freed 2 0\nfreed 3 0\nfreed 1 0\nreply ok") ∷
    []

-- objects go from owner to owner, as talloc_move and talloc_reparent give them
abbrev pub given : Example
given =
    ("call new 0 5 a", "reply 1") ∷
    ("call new 1 6 b", "reply 2") ∷
    ("call new 0 0 c", "reply 3") ∷
    ("call rename 1 z", "reply ok") ∷
    ("call move 3 1", "reply 1") ∷
    ("call reparent 0 3 1", "reply no 6 1 0") ∷
    ("call parent 1", "reply 3") ∷
    ("call reparent 3 0 1", "reply ok") ∷
    ("call parent 1", "reply 0") ∷
    []

-- ---- destructors that refuse, and those that act

-- a destructor that refuses keeps its object
abbrev pub kept : Example
kept =
    ("call new 0 0 a", "reply 1") ∷
    ("call hook 1 16", "reply ok") ∷
    ("call free 1", "ask hook 1 16 0 0 0 0") ∷
    ("ret 1", "refused 1 1\nreply no 5 1 1") ∷
    ("call unhook 1", "reply ok") ∷
    ("call free 1", "freed 1 0\nreply ok") ∷
    []

-- a child whose destructor refuses goes to the former owner of the object that is freed
abbrev pub handed_on : Example
handed_on =
    ("call new 0 0 g", "reply 1") ∷
    ("call new 1 0 p", "reply 2") ∷
    ("call new 2 0 a", "reply 3") ∷
    ("call new 2 0 b", "reply 4") ∷
    ("call new 2 0 c", "reply 5") ∷
    ("call hook 4 16", "reply ok") ∷
    ("call free 2", "freed 5 0\nask hook 4 16 0 0 0 0") ∷
    ("ret 1", "refused 4 1\nmoved 4 1\nfreed 3 0\nfreed 2 0\nreply ok") ∷
    ("call parent 4", "reply 1") ∷
    []

-- it is asked again at each outer object
abbrev pub asked_again : Example
asked_again =
    ("call new 0 0 g", "reply 1") ∷
    ("call new 1 0 p", "reply 2") ∷
    ("call new 2 0 c", "reply 3") ∷
    ("call hook 3 16", "reply ok") ∷
    ("call free 1", "ask hook 3 16 0 0 0 0") ∷
    ("ret 1", "refused 3 1\nmoved 3 1\nfreed 2 0\nask hook 3 16 0 0 0 0") ∷
    ("ret 2", "refused 3 2\nmoved 3 0\nfreed 1 0\nreply ok") ∷
    ("call parent 3", "reply 0") ∷
    []

-- a destructor frees the owner of its object, and accepts
abbrev pub owner_freed : Example
owner_freed =
    ("call new 0 0 p", "reply 1") ∷
    ("call new 1 0 c", "reply 2") ∷
    ("call hook 2 16", "reply ok") ∷
    ("call free 2", "ask hook 2 16 0 0 0 0") ∷
    ("act free 1", "moved 2 0\nfreed 1 0\nreply ok\nask hook 2 16 0 0 0 1") ∷
    ("ret 0", "accepted 2\nfreed 2 16\nreply ok") ∷
    []

-- a destructor frees the owner of its object, and refuses
abbrev pub owner_freed_and_refused : Example
owner_freed_and_refused =
    ("call new 0 0 p", "reply 1") ∷
    ("call new 1 0 c", "reply 2") ∷
    ("call hook 2 16", "reply ok") ∷
    ("call free 2", "ask hook 2 16 0 0 0 0") ∷
    ("act free 1", "moved 2 0\nfreed 1 0\nreply ok\nask hook 2 16 0 0 0 1") ∷
    ("ret 3", "refused 2 3\nreply no 5 2 3") ∷
    ("call parent 2", "reply 0") ∷
    []

-- a destructor moves its object elsewhere, and refuses
abbrev pub moved_itself : Example
moved_itself =
    ("call new 0 0 p", "reply 1") ∷
    ("call new 0 0 q", "reply 2") ∷
    ("call new 1 0 c", "reply 3") ∷
    ("call hook 3 16", "reply ok") ∷
    ("call free 1", "ask hook 3 16 0 0 0 0") ∷
    ("act steal 2 3", "reply ok\nask hook 3 16 0 0 0 1") ∷
    ("ret 1", "refused 3 1\nfreed 1 0\nreply ok") ∷
    ("call parent 3", "reply 2") ∷
    []

-- a destructor gives its object another one, which is asked the next time
abbrev pub replaced_itself : Example
replaced_itself =
    ("call new 0 0 a", "reply 1") ∷
    ("call hook 1 16", "reply ok") ∷
    ("call free 1", "ask hook 1 16 0 0 0 0") ∷
    ("act hook 1 17", "reply ok\nask hook 1 16 0 0 0 1") ∷
    ("ret 1", "refused 1 1\nreply no 5 1 1") ∷
    ("call free 1", "ask hook 1 17 0 0 0 0") ∷
    ("act hook 1 18", "reply ok\nask hook 1 17 0 0 0 1") ∷
    ("ret 0", "accepted 1\nfreed 1 17\nreply ok") ∷
    []

-- calls on an object whose children are being freed
abbrev pub calls_on_the_dying : Example
calls_on_the_dying =
    ("call new 0 0 p", "reply 1") ∷
    ("call new 1 0 a", "reply 2") ∷
    ("call new 1 0 b", "reply 3") ∷
    ("call hook 3 16", "reply ok") ∷
    ("call free 1", "ask hook 3 16 0 0 0 0") ∷
    ("act free 2", "freed 2 0\nreply ok\nask hook 3 16 0 0 0 1") ∷
    ("act parent 1", "reply no 8 1\nask hook 3 16 0 0 0 2") ∷
    ("act hook 1 16", "reply no 8 1\nask hook 3 16 0 0 0 3") ∷
    ("act new 1 0 c", "reply 4\nask hook 3 16 0 0 0 4") ∷
    ("ret 9", "refused 3 9\nmoved 3 0\nfreed 4 0\nfreed 1 0\nreply ok") ∷
    []

-- two destructors that free each other's object
abbrev pub each_other : Example
each_other =
    ("call new 0 0 a", "reply 1") ∷
    ("call new 0 0 b", "reply 2") ∷
    ("call hook 1 16", "reply ok") ∷
    ("call hook 2 17", "reply ok") ∷
    ("call free 1", "ask hook 1 16 0 0 0 0") ∷
    ("act free 2", "ask hook 2 17 0 0 0 0") ∷
    ("act free 1", "reply no 3 1\nask hook 2 17 0 0 0 1") ∷
    ("act steal 2 1", "reply ok\nask hook 2 17 0 0 0 2") ∷
    ("ret 0", "accepted 2\nmoved 1 0\nfreed 2 17\nreply ok\nask hook 1 16 0 0 0 1") ∷
    ("ret 0", "accepted 1\nfreed 1 16\nreply ok") ∷
    []

-- an heir that has come to stand inside the child
abbrev pub heir_inside : Example
heir_inside =
    ("call new 0 0 g", "reply 1") ∷
    ("call new 1 0 p", "reply 2") ∷
    ("call new 2 0 c", "reply 3") ∷
    ("call hook 3 16", "reply ok") ∷
    ("call free 2", "ask hook 3 16 0 0 0 0") ∷
    ("act steal 3 1", "reply ok\nask hook 3 16 0 0 0 1") ∷
    ("ret 1", "refused 3 1\nmoved 3 0\nfreed 2 0\nreply ok") ∷
    ("call parent 1", "reply 3") ∷
    []

-- ---- references (talloc_reference)

-- what has references is held, but for an object of the root with one
abbrev pub held : Example
held =
    ("call new 0 0 a", "reply 1") ∷
    ("call new 0 0 x", "reply 2") ∷
    ("call reference 1 2", "reply 3") ∷
    ("call free 2", "unreferenced 3 2\nmoved 2 1\nreply ok") ∷
    ("call reference 0 2", "reply 4") ∷
    ("call free 2", "reply no 4 2") ∷
    ("call steal 0 2", "warned 2\nreply ok") ∷
    ("call reference 1 2", "reply 5") ∷
    ("call free 2", "reply no 4 2") ∷
    []

-- a reference from inside keeps nothing, and what is referred to goes to the owner of a reference
abbrev pub from_inside : Example
from_inside =
    ("call new 0 0 g", "reply 1") ∷
    ("call new 1 0 x", "reply 2") ∷
    ("call new 2 0 d", "reply 3") ∷
    ("call reference 3 2", "reply 4") ∷
    ("call free 1", "unreferenced 4 2\nfreed 3 0\nfreed 2 0\nfreed 1 0\nreply ok") ∷
    ("call new 0 0 x", "reply 5") ∷
    ("call new 5 0 d", "reply 6") ∷
    ("call new 0 0 o", "reply 7") ∷
    ("call reference 7 5", "reply 8") ∷
    ("call reference 6 5", "reply 9") ∷
    ("call unlink 0 5", "unreferenced 9 5\nunreferenced 8 5\nmoved 5 7\nreply ok") ∷
    []

-- references in reports and sums, and what is given away with them
abbrev pub given_away : Example
given_away =
    ("call new 0 5 a", "reply 1") ∷
    ("call new 1 6 b", "reply 2") ∷
    ("call new 0 0 c", "reply 3") ∷
    ("call reference 3 2", "reply 4") ∷
    ("call report 0", "row 0 0 root 0 0 0 null_context\nrow 1 3 plain 0 0 0 c\nrow 2 4 reference 0 0 2 reference\nrow 1 1 plain 5 0 0 a\nrow 2 2 plain 6 1 0 b\nreply rows 5") ∷
    ("call total 0", "reply 11") ∷
    ("call count 0", "reply 3") ∷
    ("call sum 0", "reply 299") ∷
    ("call reparent 3 1 2", "reply ok") ∷
    ("call reparent 3 1 2", "reply no 6 2 3") ∷
    ("call reparent 1 3 2", "reply ok") ∷
    ("call move 0 2", "warned 2\nreply 2") ∷
    ("call freekids 1", "unreferenced 4 2\nreply ok") ∷
    []

-- ---- limits (talloc_set_memlimit)

-- what is below an object with a limit counts no more than it, wherever it came from; a steal isn't refused
abbrev pub bounded : Example
bounded =
    ("call new 0 0 a", "reply 1") ∷
    ("call limit 1 300", "reply ok") ∷
    ("call new 1 108 b", "reply 2") ∷
    ("call new 1 0 c", "reply no 9 1 300 96 300") ∷
    ("call free 2", "freed 2 0\nreply ok") ∷
    ("call new 1 109 b", "reply no 9 1 96 205 300") ∷
    ("call new 0 500 d", "reply 3") ∷
    ("call steal 1 3", "reply ok") ∷
    ("call sum 1", "reply 692") ∷
    ("call limit 3 1000000", "reply ok") ∷
    ("call new 3 0 f", "reply no 9 1 692 96 300") ∷
    ("call steal 0 3", "reply ok") ∷
    ("call sum 1", "reply 96") ∷
    ("call new 0 268435456 z", "reply no 14 268435456") ∷
    ("call new 0 268435455 z", "reply 4") ∷
    []

-- an object grows up to its limit, and up to what the program has
abbrev pub resized : Example
resized =
    ("call new 0 10 a", "reply 1") ∷
    ("call resize 1 20", "reply ok") ∷
    ("call limit 1 116", "reply ok") ∷
    ("call resize 1 21", "reply no 9 1 116 1 116") ∷
    ("call resize 1 0", "reply ok") ∷
    ("call sum 1", "reply 96") ∷
    ("call resize 1 268435456", "reply no 14 268435456") ∷
    ("call reference 0 1", "reply 2") ∷
    ("call resize 1 5", "reply no 4 1") ∷
    []

abbrev pub examples : List Example
examples =
    nothing ∷ newest_first ∷ reported ∷ kept_apart ∷ given
    ∷ kept ∷ handed_on ∷ asked_again ∷ owner_freed ∷ owner_freed_and_refused ∷ moved_itself ∷ replaced_itself ∷ calls_on_the_dying ∷ each_other ∷ heir_inside
    ∷ held ∷ from_inside ∷ given_away
    ∷ bounded ∷ resized
    ∷ events ++ descriptors ++ requests ++ queues
