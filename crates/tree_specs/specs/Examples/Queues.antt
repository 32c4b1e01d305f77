-- Worked examples of queues, each a table of the lines of a schedule and of what they give, up to the next question.
use Rattle.std.specs.Prelude.{List, [], ◌∷◌}
use Rattle.tree_specs.specs.Examples.Exchanges.{Example}

-- two requests wait for their turn, one of them is freed, the queue is stopped and started, and is freed with its entries
abbrev pub queued : Example
queued =
    ("call queue 0 q", "reply 1") ∷
    ("call req 0 0 a", "reply 2") ∷
    ("call req 0 0 b", "reply 4") ∷
    ("call enqueue 1 2 16 7", "reply 6") ∷
    ("call enqueue 1 4 16 8", "reply 7") ∷
    ("call turn", "fired trigger 2 16\nask trigger 2 16 7 0 0 0") ∷
    ("ret 0", "reply 1") ∷
    ("call free 2", "state 2 6\nfreed 3 0\nfreed 6 0\nfreed 2 0\nreply ok") ∷
    ("call stop 1", "reply ok") ∷
    ("call turn", "reply 1") ∷
    ("call start 1", "reply ok") ∷
    ("call turn", "fired trigger 4 16\nask trigger 4 16 8 0 0 0") ∷
    ("ret 0", "reply 1") ∷
    ("call enqueue 1 4 16 9", "reply 8") ∷
    ("call enqueue 1 4 16 10", "reply 9") ∷
    ("call free 1", "freed 7 0\nfreed 8 0\nfreed 9 0\nfreed 1 0\nreply ok") ∷
    ("call progress 4", "reply 1") ∷
    []

-- a queue that is stopped has no turn, and an entry stays below its request
abbrev pub stopped : Example
stopped =
    ("call queue 0 q", "reply 1") ∷
    ("call length 1", "reply 0") ∷
    ("call enqueue 1 1 16 0", "reply no 2 1") ∷
    ("call stop 1", "reply ok") ∷
    ("call running 1", "reply 0") ∷
    ("call req 0 0 a", "reply 2") ∷
    ("call enqueue 1 2 16 0", "reply 4") ∷
    ("call steal 0 4", "reply no 2 4") ∷
    ("call pending", "reply 0") ∷
    []

-- a queue comes soon once, where it is started and where its first entry goes; an entry is triggered once, and not while the
-- queue doesn't run
abbrev pub started : Example
started =
    ("call queue 0 q", "reply 1") ∷
    ("call running 1", "reply 1") ∷
    ("call req 0 0 a", "reply 2") ∷
    ("call req 0 0 b", "reply 4") ∷
    ("call stop 1", "reply ok") ∷
    ("call enqueue 1 2 16 7", "reply 6") ∷
    ("call enqueue 1 4 17 8", "reply 7") ∷
    ("call pending", "reply 0") ∷
    ("call start 1", "reply ok") ∷
    ("call start 1", "reply ok") ∷
    ("call pending", "reply 1") ∷
    ("call stop 1", "reply ok") ∷
    ("call turn", "reply 1") ∷
    ("call pending", "reply 0") ∷
    ("call start 1", "reply ok") ∷
    ("call turn", "fired trigger 2 16\nask trigger 2 16 7 0 0 0") ∷
    ("act stop 1", "reply ok\nask trigger 2 16 7 0 0 1") ∷
    ("act start 1", "reply ok\nask trigger 2 16 7 0 0 2") ∷
    ("act pending", "reply 0\nask trigger 2 16 7 0 0 3") ∷
    ("act free 2", "state 2 6\nfreed 3 0\nfreed 6 0\nfreed 2 0\nreply ok\nask trigger 2 16 7 0 0 4") ∷
    ("act pending", "reply 1\nask trigger 2 16 7 0 0 5") ∷
    ("ret 0", "reply 1") ∷
    ("call turn", "fired trigger 4 17\nask trigger 4 17 8 0 0 0") ∷
    ("act free 1", "freed 7 0\nfreed 1 0\nreply ok\nask trigger 4 17 8 0 0 1") ∷
    ("ret 0", "reply 1") ∷
    ("call length 1", "reply no 1 1") ∷
    []

-- while the entries of a queue are freed it doesn't run, and is neither started nor added to; it is freed after them
abbrev pub drained : Example
drained =
    ("call queue 0 q", "reply 1") ∷
    ("call req 0 0 a", "reply 2") ∷
    ("call enqueue 1 2 16 0", "reply 4") ∷
    ("call enqueue 1 2 17 0", "reply 5") ∷
    ("call new 4 0 d", "reply 6") ∷
    ("call hook 6 18", "reply ok") ∷
    ("call length 1", "reply 2") ∷
    ("call free 1", "ask hook 6 18 0 0 0 0") ∷
    ("act enqueue 1 2 16 0", "reply no 8 1\nask hook 6 18 0 0 0 1") ∷
    ("act start 1", "reply no 8 1\nask hook 6 18 0 0 0 2") ∷
    ("act stop 1", "reply no 8 1\nask hook 6 18 0 0 0 3") ∷
    ("act length 1", "reply 1\nask hook 6 18 0 0 0 4") ∷
    ("act running 1", "reply 0\nask hook 6 18 0 0 0 5") ∷
    ("act free 1", "reply no 3 1\nask hook 6 18 0 0 0 6") ∷
    ("ret 1", "refused 6 1\nmoved 6 2\nfreed 4 0\nfreed 5 0\nfreed 1 0\nreply ok") ∷
    ("call count 2", "reply 3") ∷
    []

-- an entry can't be given away or referred to, but it can be freed and unlinked
abbrev pub kept : Example
kept =
    ("call queue 0 q", "reply 1") ∷
    ("call req 0 0 a", "reply 2") ∷
    ("call enqueue 2 2 16 0", "reply no 2 2") ∷
    ("call enqueue 9 2 16 0", "reply no 1 9") ∷
    ("call enqueue 1 9 16 0", "reply no 1 9") ∷
    ("call limit 2 287", "reply ok") ∷
    ("call enqueue 1 2 16 0", "reply no 9 2 192 96 287") ∷
    ("call limit 2 0", "reply ok") ∷
    ("call enqueue 1 2 16 0", "reply 4") ∷
    ("call enqueue 1 2 16 0", "reply 5") ∷
    ("call move 0 4", "reply no 2 4") ∷
    ("call reparent 2 0 4", "reply no 2 4") ∷
    ("call reference 0 4", "reply no 2 4") ∷
    ("call reference 0 1", "reply no 2 1") ∷
    ("call hook 1 16", "reply no 2 1") ∷
    ("call start 2", "reply no 2 2") ∷
    ("call free 4", "freed 4 0\nreply ok") ∷
    ("call unlink 2 5", "freed 5 0\nreply ok") ∷
    ("call length 1", "reply 0") ∷
    ("call report 0", "row 0 0 root 0 0 0 null_context\nrow 1 2 request 0 0 0 req\nrow 2 3 plain 0 0 0 a\nrow 1 1 queue 0 0 0 q\nreply rows 4") ∷
    []

abbrev pub queues : List Example
queues =
    queued ∷ stopped ∷ started ∷ drained ∷ kept ∷ []
