-- Worked examples of contexts, each a table of the lines of a schedule of version 2 and of what they give.
use Rattle.std.specs.Prelude.{List, [], ◌∷◌}
use Rattle.tree_specs.specs.Examples.Exchanges.{Example}

-- a turn is of one context; a context that is freed in its own turn goes after it
abbrev pub freed_in_its_turn : Example
freed_in_its_turn =
    ("call context 0", "reply 1") ∷
    ("call timer 0 0 16 5 1", "reply 2") ∷
    ("call timer 0 0 17 6 0", "reply 3") ∷
    ("call turn 1", "fired timer 2 16\nask timer 2 16 5 0 0 0") ∷
    ("act turn 0", "reply no 15\nask timer 2 16 5 0 0 1") ∷
    ("act free 1", "reply no 3 1\nask timer 2 16 5 0 0 2") ∷
    ("act timer 0 0 16 5 1", "reply no 8 1\nask timer 2 16 5 0 0 3") ∷
    ("ret 0", "freed 2 0\nfreed 1 0\nreply 1") ∷
    ("call turn 1", "reply no 1 1") ∷
    ("call pending 0", "reply 1") ∷
    []

-- what was to come in a context comes no more once this is freed
abbrev pub lost : Example
lost =
    ("call context 0", "reply 1") ∷
    ("call immediate 0", "reply 2") ∷
    ("call schedule 2 16 0 1", "reply ok") ∷
    ("call accept 0", "ask accept 0") ∷
    ("took 5", "reply 5") ∷
    ("call fd 0 5 1 16 0 1", "reply 3") ∷
    ("call autoclose 3", "reply ok") ∷
    ("call free 1", "freed 1 0\nreply ok") ∷
    ("call turn 0", "ask wait 30000000") ∷
    ("ready 5:1", "reply 0") ∷
    ("call fd 0 5 1 16 0 0", "reply no 12 5") ∷
    ("call free 3", "closed 5\nfreed 3 0\nreply ok") ∷
    ("call schedule 2 16 0 0", "reply ok") ∷
    ("call pending 0", "reply 1") ∷
    []

-- A request times out, is notified and posted in a context. Where this is no more when it is notified, nothing runs.
abbrev pub requests_in_contexts : Example
requests_in_contexts =
    ("call context 0", "reply 1") ∷
    ("call req 0 0 a", "reply 2") ∷
    ("call callback 2 16 5", "reply ok") ∷
    ("call defer 2 1", "reply ok") ∷
    ("call endtime 2 7 1", "reply ok") ∷
    ("call pending 1", "reply 1") ∷
    ("call turn 1", "ask clock") ∷
    ("clock 7", "state 2 4\nreply 1") ∷
    ("call pending 1", "reply 1") ∷
    ("call turn 0", "ask wait 30000000") ∷
    ("ready", "reply 0") ∷
    ("call turn 1", "fired callback 2 16\nask callback 2 16 5 0 0 0") ∷
    ("act turn 9", "reply no 15\nask callback 2 16 5 0 0 1") ∷
    ("ret 0", "reply 1") ∷
    ("call defer 2 1", "reply ok") ∷
    ("call post 2 0", "reply ok") ∷
    ("call free 1", "freed 1 0\nreply ok") ∷
    ("call defer 2 1", "reply no 1 1") ∷
    ("call turn 0", "reply 1") ∷
    ("call pending 0", "reply 0") ∷
    ("call post 2 0", "reply ok") ∷
    ("call turn 0", "fired callback 2 16\nask callback 2 16 5 0 0 0") ∷
    ("ret 0", "reply 1") ∷
    []

-- a queue comes in the context of its first entry, and nowhere where this is no more
abbrev pub queues_in_contexts : Example
queues_in_contexts =
    ("call context 0", "reply 1") ∷
    ("call queue 0 q", "reply 2") ∷
    ("call req 0 0 a", "reply 3") ∷
    ("call enqueue 2 3 16 7 1", "reply 5") ∷
    ("call enqueue 2 3 17 8 0", "reply 6") ∷
    ("call pending 0", "reply 0") ∷
    ("call pending 1", "reply 1") ∷
    ("call free 1", "freed 1 0\nreply ok") ∷
    ("call enqueue 2 3 18 9 1", "reply no 1 1") ∷
    ("call stop 2", "reply ok") ∷
    ("call start 2", "reply ok") ∷
    ("call pending 0", "reply 0") ∷
    ("call free 5", "freed 5 0\nreply ok") ∷
    ("call pending 0", "reply 1") ∷
    ("call turn 0", "fired trigger 3 17\nask trigger 3 17 8 0 0 0") ∷
    ("ret 0", "reply 1") ∷
    []

abbrev pub contexts : List Example
contexts = freed_in_its_turn ∷ lost ∷ requests_in_contexts ∷ queues_in_contexts ∷ []
