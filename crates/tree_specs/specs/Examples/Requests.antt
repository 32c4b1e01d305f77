-- Worked examples of requests, each a table of the lines of a schedule and of what they give, up to the next question.
use Rattle.std.specs.Prelude.{List, [], ◌∷◌}
use Rattle.tree_specs.specs.Examples.Exchanges.{Example}

-- a request that is posted, one that fails and is notified later, one that is freed in its own cleanup, and one that times out
abbrev pub finished : Example
finished =
    ("call req 0 8 st", "reply 1") ∷
    ("call done 1", "state 1 2\nreply ok") ∷
    ("call done 1", "reply no 13 1 2") ∷
    ("call callback 1 16 5", "reply ok") ∷
    ("call post 1", "reply ok") ∷
    ("call iserror 1", "reply 0") ∷
    ("call turn", "fired callback 1 16\nask callback 1 16 5 0 0 0") ∷
    ("act received 1", "state 1 6\nfreed 2 0\nreply ok\nask callback 1 16 5 0 0 1") ∷
    ("ret 0", "reply 1") ∷
    ("call req 0 0 st", "reply 3") ∷
    ("call error 3 0", "reply 0") ∷
    ("call cleanup 3 17", "reply ok") ∷
    ("call callback 3 16 0", "reply ok") ∷
    ("call defer 3", "reply ok") ∷
    ("call error 3 77", "state 3 3\nfired cleanup 3 17\nask cleanup 3 17 3 0 0 0") ∷
    ("ret 0", "reply 1") ∷
    ("call iserror 3", "reply 3 77") ∷
    ("call turn", "fired callback 3 16\nask callback 3 16 0 0 0 0") ∷
    ("ret 0", "reply 1") ∷
    ("call req 0 0 st", "reply 5") ∷
    ("call cleanup 5 17", "reply ok") ∷
    ("call callback 5 16 0", "reply ok") ∷
    ("call done 5", "state 5 2\nfired cleanup 5 17\nask cleanup 5 17 2 0 0 0") ∷
    ("act free 5", "state 5 6\nfired cleanup 5 17\nask cleanup 5 17 6 0 0 0") ∷
    ("ret 0", "freed 6 0\nfreed 5 0\nreply ok\nask cleanup 5 17 2 0 0 1") ∷
    ("ret 0", "reply ok") ∷
    ("call req 0 0 st", "reply 7") ∷
    ("call endtime 7 10", "reply ok") ∷
    ("call turn", "ask clock") ∷
    ("clock 10", "state 7 4\nreply 1") ∷
    ("call new 0 0 x", "reply 10") ∷
    []

-- a request that its routine cancels, that there is no memory for, and that is received
abbrev pub cancelled : Example
cancelled =
    ("call req 0 0 st", "reply 1") ∷
    ("call cancel 1", "reply 0") ∷
    ("call setcancel 1 18", "reply ok") ∷
    ("call cancel 1", "fired cancel 1 18\nask cancel 1 18 0 0 0 0") ∷
    ("ret 1", "reply 1") ∷
    ("call oom 1", "state 1 5\nreply ok") ∷
    ("call iserror 1", "reply 5 0") ∷
    ("call endtime 1 5", "reply no 13 1 5") ∷
    ("call progress 1", "reply 0") ∷
    ("call received 1", "state 1 6\nfreed 2 0\nreply ok") ∷
    ("call post 1", "reply no 13 1 6") ∷
    ("call cancel 1", "reply 0") ∷
    []

-- a request is refused where it is too big, where a limit has no room for it and its object, and as the wrong kind; and one in
-- progress can't be posted
abbrev pub refused : Example
refused =
    ("call req 0 268435456 st", "reply no 14 268435456") ∷
    ("call req 9 0 st", "reply no 1 9") ∷
    ("call new 0 0 a", "reply 1") ∷
    ("call limit 1 295", "reply ok") ∷
    ("call req 1 8 st", "reply no 9 1 96 200 295") ∷
    ("call limit 1 296", "reply ok") ∷
    ("call req 1 8 st", "reply 2") ∷
    ("call done 1", "reply no 2 1") ∷
    ("call done 9", "reply no 1 9") ∷
    ("call post 2", "reply no 13 2 1") ∷
    ("call progress 2", "reply 1") ∷
    ("call iserror 2", "reply 1 0") ∷
    ("call error 2 0", "reply 0") ∷
    ("call oom 2", "state 2 5\nreply ok") ∷
    ("call error 2 0", "reply 0") ∷
    ("call error 2 7", "reply no 13 2 5") ∷
    ("call hook 2 16", "reply no 2 2") ∷
    ("call reference 0 2", "reply 4") ∷
    ("call report 2", "row 0 2 request 0 1 0 req\nrow 1 3 plain 8 0 0 st\nreply rows 2") ∷
    ("call free 2", "reply no 4 2") ∷
    ("call unlink 0 2", "unreferenced 4 2\nreply ok") ∷
    ("call free 2", "state 2 6\nfreed 3 0\nfreed 2 0\nreply ok") ∷
    []

-- a request that its own callback frees
abbrev pub freed_by_its_callback : Example
freed_by_its_callback =
    ("call req 0 0 st", "reply 1") ∷
    ("call callback 1 16 3", "reply ok") ∷
    ("call cleanup 1 17", "reply ok") ∷
    ("call endtime 1 5", "reply ok") ∷
    ("call pending", "reply 1") ∷
    ("call done 1", "state 1 2\nfired cleanup 1 17\nask cleanup 1 17 2 0 0 0") ∷
    ("act pending", "reply 0\nask cleanup 1 17 2 0 0 1") ∷
    ("ret 0", "fired callback 1 16\nask callback 1 16 3 0 0 0") ∷
    ("act free 1", "state 1 6\nfired cleanup 1 17\nask cleanup 1 17 6 0 0 0") ∷
    ("act free 1", "reply no 3 1\nask cleanup 1 17 6 0 0 1") ∷
    ("act reference 0 1", "reply no 3 1\nask cleanup 1 17 6 0 0 2") ∷
    ("act received 1", "reply ok\nask cleanup 1 17 6 0 0 3") ∷
    ("act callback 1 18 0", "reply ok\nask cleanup 1 17 6 0 0 4") ∷
    ("ret 0", "freed 2 0\nfreed 1 0\nreply ok\nask callback 1 16 3 0 0 1") ∷
    ("ret 0", "reply ok") ∷
    []

-- and one that its own cleanup frees where it was received there before: it is notified no more
abbrev pub freed_by_its_cleanup : Example
freed_by_its_cleanup =
    ("call req 0 0 st", "reply 1") ∷
    ("call callback 1 16 3", "reply ok") ∷
    ("call cleanup 1 17", "reply ok") ∷
    ("call done 1", "state 1 2\nfired cleanup 1 17\nask cleanup 1 17 2 0 0 0") ∷
    ("act cleanup 1 0", "reply ok\nask cleanup 1 17 2 0 0 1") ∷
    ("act received 1", "state 1 6\nfreed 2 0\nreply ok\nask cleanup 1 17 2 0 0 2") ∷
    ("act free 1", "freed 1 0\nreply ok\nask cleanup 1 17 2 0 0 3") ∷
    ("ret 0", "reply ok") ∷
    []

-- one that is received within a finish is notified by this all the same, as long as it is there
abbrev pub received_by_its_cleanup : Example
received_by_its_cleanup =
    ("call req 0 0 st", "reply 1") ∷
    ("call callback 1 16 3", "reply ok") ∷
    ("call defer 1", "reply ok") ∷
    ("call cleanup 1 17", "reply ok") ∷
    ("call done 1", "state 1 2\nfired cleanup 1 17\nask cleanup 1 17 2 0 0 0") ∷
    ("act received 1", "state 1 6\nfired cleanup 1 17\nask cleanup 1 17 6 0 0 0") ∷
    ("ret 0", "freed 2 0\nreply ok\nask cleanup 1 17 2 0 0 1") ∷
    ("ret 0", "reply ok") ∷
    ("call pending", "reply 1") ∷
    ("call turn", "fired callback 1 16\nask callback 1 16 3 0 0 0") ∷
    ("ret 0", "reply 1") ∷
    []

-- and one that its own routine for this frees where it is to be cancelled
abbrev pub freed_by_its_cancelling : Example
freed_by_its_cancelling =
    ("call req 0 0 st", "reply 1") ∷
    ("call setcancel 1 18", "reply ok") ∷
    ("call cancel 1", "fired cancel 1 18\nask cancel 1 18 0 0 0 0") ∷
    ("act done 1", "state 1 2\nreply ok\nask cancel 1 18 0 0 0 1") ∷
    ("act free 1", "state 1 6\nfreed 2 0\nfreed 1 0\nreply ok\nask cancel 1 18 0 0 0 2") ∷
    ("ret 0", "reply 0") ∷
    ("call cancel 1", "reply no 1 1") ∷
    []

-- a request is received once: neither a second call nor its freeing does so again, and this holds in its cleanup too
abbrev pub received_once : Example
received_once =
    ("call req 0 0 st", "reply 1") ∷
    ("call received 1", "state 1 6\nfreed 2 0\nreply ok") ∷
    ("call received 1", "reply ok") ∷
    ("call free 1", "freed 1 0\nreply ok") ∷
    ("call req 0 0 st", "reply 3") ∷
    ("call cleanup 3 17", "reply ok") ∷
    ("call received 3", "state 3 6\nfired cleanup 3 17\nask cleanup 3 17 6 0 0 0") ∷
    ("act free 3", "freed 4 0\nfreed 3 0\nreply ok\nask cleanup 3 17 6 0 0 1") ∷
    ("ret 0", "reply ok") ∷
    []

-- the object of a request is freed as by a call: one that is held stays, and one with a destructor is asked
abbrev pub released : Example
released =
    ("call req 0 0 st", "reply 1") ∷
    ("call reference 0 2", "reply 3") ∷
    ("call done 1", "state 1 2\nreply ok") ∷
    ("call received 1", "state 1 6\nreply ok") ∷
    ("call count 1", "reply 2") ∷
    ("call req 0 0 st", "reply 4") ∷
    ("call hook 5 16", "reply ok") ∷
    ("call received 4", "state 4 6\nask hook 5 16 0 0 0 0") ∷
    ("ret 7", "refused 5 7\nreply ok") ∷
    []

-- a callback that is deferred comes once more where its request is posted
abbrev pub posted : Example
posted =
    ("call req 0 0 st", "reply 1") ∷
    ("call callback 1 16 0", "reply ok") ∷
    ("call done 1", "state 1 2\nfired callback 1 16\nask callback 1 16 0 0 0 0") ∷
    ("ret 0", "reply ok") ∷
    ("call defer 1", "reply ok") ∷
    ("call post 1", "reply ok") ∷
    ("call turn", "reply 1") ∷
    ("call pending", "reply 1") ∷
    ("call callback 1 0 0", "reply ok") ∷
    ("call turn", "reply 1") ∷
    ("call pending", "reply 0") ∷
    []

abbrev pub requests : List Example
requests =
    finished ∷ cancelled ∷ refused ∷ freed_by_its_callback ∷ freed_by_its_cleanup ∷ received_by_its_cleanup ∷ freed_by_its_cancelling
    ∷ received_once ∷ released ∷ posted ∷ []
