-- Worked examples of events on descriptors, each a table of the lines of a schedule and of what they give, up to the next
-- question.
use Rattle.std.specs.Prelude.{List, [], ◌∷◌}
use Rattle.tree_specs.specs.Examples.Exchanges.{Example}

-- what has come is looked at last the next time, and a descriptor may be closed with its event
abbrev pub watched : Example
watched =
    ("call accept 0", "ask accept 0") ∷
    ("took 5", "reply 5") ∷
    ("call accept 0", "ask accept 0") ∷
    ("took 6", "reply 6") ∷
    ("call fd 0 5 1 16 0", "reply 1") ∷
    ("call fd 0 6 1 17 0", "reply 2") ∷
    ("call turn", "ask wait 30000000") ∷
    ("ready 5:2", "reply 0") ∷
    ("call turn", "ask wait 30000000") ∷
    ("ready 5:3 6:1", "fired fd 1 16\nask fd 1 16 0 0 1 0") ∷
    ("ret 0", "reply 1") ∷
    ("call turn", "ask wait 30000000") ∷
    ("ready 5:1 6:1", "fired fd 2 17\nask fd 2 17 0 0 1 0") ∷
    ("act free 1", "freed 1 0\nreply ok\nask fd 2 17 0 0 1 1") ∷
    ("ret 0", "reply 1") ∷
    ("call turn", "ask wait 30000000") ∷
    ("ready", "reply 0") ∷
    ("call autoclose 2", "reply ok") ∷
    ("call free 2", "closed 6\nfreed 2 0\nreply ok") ∷
    ("call fd 0 6 1 16 0", "reply no 1 6") ∷
    ("call fd 0 5 1 16 0", "reply 3") ∷
    ("call fd 0 5 2 16 0", "reply no 12 5") ∷
    []

-- a descriptor is accepted, read, written and closed
abbrev pub asked : Example
asked =
    ("call read 9 5", "reply no 1 9") ∷
    ("call accept 0", "ask accept 0") ∷
    ("again", "reply again") ∷
    ("call accept 0", "ask accept 0") ∷
    ("took 9", "reply 9") ∷
    ("call read 9 2", "ask read 9 2") ∷
    ("got 6162", "reply got 6162") ∷
    ("call write 9 6162", "ask write 9 6162") ∷
    ("wrote 1", "reply 1") ∷
    ("call fd 0 9 1 16 0", "reply 1") ∷
    ("call getflags 1", "reply 1") ∷
    ("call close 9", "reply no 12 9") ∷
    ("call free 1", "freed 1 0\nreply ok") ∷
    ("call close 9", "closed 9\nreply ok") ∷
    ("call close 9", "reply no 1 9") ∷
    []

-- an event that its own handler frees closes its descriptor at once, and once
abbrev pub closed_once : Example
closed_once =
    ("call accept 0", "ask accept 0") ∷
    ("took 5", "reply 5") ∷
    ("call fd 0 5 1 16 0", "reply 1") ∷
    ("call autoclose 1", "reply ok") ∷
    ("call turn", "ask wait 30000000") ∷
    ("ready 5:1", "fired fd 1 16\nask fd 1 16 0 0 1 0") ∷
    ("act free 1", "closed 5\nreply no 3 1\nask fd 1 16 0 0 1 1") ∷
    ("act flags 1 2", "reply no 8 1\nask fd 1 16 0 0 1 2") ∷
    ("act fd 0 5 1 16 0", "reply no 1 5\nask fd 1 16 0 0 1 3") ∷
    ("ret 0", "freed 1 0\nreply 1") ∷
    ("call close 5", "reply no 1 5") ∷
    []

-- without auto close its descriptor stays open, and another event may watch it meanwhile
abbrev pub left_open : Example
left_open =
    ("call fd 0 0 3 16 7", "reply 1") ∷
    ("call flags 1 2", "reply ok") ∷
    ("call turn", "ask wait 30000000") ∷
    ("ready 0:1", "reply 0") ∷
    ("call turn", "ask wait 30000000") ∷
    ("ready 0:3", "fired fd 1 16\nask fd 1 16 7 0 2 0") ∷
    ("act free 1", "reply no 3 1\nask fd 1 16 7 0 2 1") ∷
    ("act fd 0 0 1 17 0", "reply 2\nask fd 1 16 7 0 2 2") ∷
    ("ret 0", "freed 1 0\nreply 1") ∷
    ("call pending", "reply 1") ∷
    ("call free 2", "freed 2 0\nreply ok") ∷
    ("call close 0", "closed 0\nreply ok") ∷
    ("call accept 0", "reply no 1 0") ∷
    []

-- a routine may ask the outside too, and what it can't do is the reply
abbrev pub asked_within : Example
asked_within =
    ("call write 0 00ff", "ask write 0 00ff") ∷
    ("fault", "reply fault") ∷
    ("call read 0 65536", "ask read 0 65536") ∷
    ("end", "reply end") ∷
    ("call new 0 0 a", "reply 1") ∷
    ("call hook 1 16", "reply ok") ∷
    ("call free 1", "ask hook 1 16 0 0 0 0") ∷
    ("act read 0 1", "ask read 0 1") ∷
    ("again", "reply again\nask hook 1 16 0 0 0 1") ∷
    ("ret 0", "accepted 1\nfreed 1 16\nreply ok") ∷
    []

abbrev pub descriptors : List Example
descriptors = watched ∷ asked ∷ closed_once ∷ left_open ∷ asked_within ∷ []
