-- Worked examples of events, each a table of the lines of a schedule and of what they give, up to the next question.
use Rattle.std.specs.Prelude.{List, [], ◌∷◌}
use Rattle.tree_specs.specs.Examples.Exchanges.{Example}

-- ---- what waits

-- a request's timer and its immediate wait for their turn
abbrev pub waiting : Example
waiting =
    ("call new 0 0 request", "reply 1") ∷
    ("call timer 1 30000000 16 0", "reply 2") ∷
    ("call immediate 1", "reply 3") ∷
    ("call pending", "reply 1") ∷
    ("call schedule 3 17 5", "reply ok") ∷
    ("call schedule 3 17 6", "reply ok") ∷
    ("call pending", "reply 2") ∷
    ("call unschedule 3", "reply ok") ∷
    ("call unschedule 3", "reply ok") ∷
    ("call pending", "reply 1") ∷
    ("call schedule 3 17 0", "reply ok") ∷
    ("call schedule 3 0 0", "reply ok") ∷
    ("call pending", "reply 1") ∷
    ("call schedule 2 17 0", "reply no 2 2") ∷
    ("call unschedule 4", "reply no 1 4") ∷
    ("call report 1", "row 0 1 plain 0 0 0 request\nrow 1 3 immediate 0 0 0 immediate\nrow 1 2 timer 0 0 0 timer\nreply rows 3") ∷
    []

-- what is freed waits no more, and what goes to another owner still does
abbrev pub disarmed : Example
disarmed =
    ("call new 0 0 request", "reply 1") ∷
    ("call timer 1 7 16 0", "reply 2") ∷
    ("call timer 1 4611686018427387904 16 0", "reply 3") ∷
    ("call immediate 2", "reply 4") ∷
    ("call schedule 4 17 0", "reply ok") ∷
    ("call pending", "reply 3") ∷
    ("call steal 0 3", "reply ok") ∷
    ("call free 1", "freed 4 0\nfreed 2 0\nfreed 1 0\nreply ok") ∷
    ("call pending", "reply 1") ∷
    ("call free 3", "freed 3 0\nreply ok") ∷
    ("call pending", "reply 0") ∷
    []

-- an event counts against a limit as an object of no size does
abbrev pub counted : Example
counted =
    ("call new 0 0 request", "reply 1") ∷
    ("call limit 1 200", "reply ok") ∷
    ("call timer 1 0 16 0", "reply 2") ∷
    ("call immediate 1", "reply no 9 1 192 96 200") ∷
    ("call timer 5 0 16 0", "reply no 1 5") ∷
    ("call pending", "reply 1") ∷
    []

-- a dying event isn't scheduled
abbrev pub late : Example
late =
    ("call immediate 0", "reply 1") ∷
    ("call new 1 0 child", "reply 2") ∷
    ("call hook 2 16", "reply ok") ∷
    ("call schedule 1 17 0", "reply ok") ∷
    ("call free 1", "ask hook 2 16 0 0 0 0") ∷
    ("act pending", "reply 0\nask hook 2 16 0 0 0 1") ∷
    ("act schedule 1 17 0", "reply no 8 1\nask hook 2 16 0 0 0 2") ∷
    ("act unschedule 1", "reply no 8 1\nask hook 2 16 0 0 0 3") ∷
    ("ret 0", "accepted 2\nfreed 2 16\nfreed 1 0\nreply ok") ∷
    []

-- ---- the turn of the event loop

-- a timer at time 0 comes without a look at the clock, and every other one when the clock has come to it
abbrev pub timed : Example
timed =
    ("call timer 0 100 16 1", "reply 1") ∷
    ("call timer 0 100 17 2", "reply 2") ∷
    ("call timer 0 0 18 3", "reply 3") ∷
    ("call turn", "fired timer 3 18\nask timer 3 18 3 0 0 0") ∷
    ("ret 0", "freed 3 0\nreply 1") ∷
    ("call turn", "ask clock") ∷
    ("clock 99", "ask wait 1") ∷
    ("ready", "ask clock") ∷
    ("clock 100", "fired timer 1 16\nask timer 1 16 1 100 0 0") ∷
    ("ret 0", "freed 1 0\nreply 1") ∷
    ("call turn", "ask clock") ∷
    ("clock 50", "ask wait 50") ∷
    ("ready", "ask clock") ∷
    ("clock 99", "reply 0") ∷
    ("call turn", "ask clock") ∷
    ("clock 100", "fired timer 2 17\nask timer 2 17 2 100 0 0") ∷
    ("ret 5", "freed 2 0\nreply 1") ∷
    []

-- a timer outlives the owner that its handler frees, and can't be freed while its handler runs
abbrev pub freed_meanwhile : Example
freed_meanwhile =
    ("call new 0 0 p", "reply 1") ∷
    ("call timer 1 0 16 0", "reply 2") ∷
    ("call turn", "fired timer 2 16\nask timer 2 16 0 0 0 0") ∷
    ("act free 1", "moved 2 0\nfreed 1 0\nreply ok\nask timer 2 16 0 0 0 1") ∷
    ("act free 2", "reply no 3 2\nask timer 2 16 0 0 0 2") ∷
    ("ret 0", "freed 2 0\nreply 1") ∷
    []

-- immediates come in the order in which they were scheduled last
abbrev pub soon : Example
soon =
    ("call immediate 0", "reply 1") ∷
    ("call immediate 0", "reply 2") ∷
    ("call schedule 1 16 7", "reply ok") ∷
    ("call schedule 2 17 8", "reply ok") ∷
    ("call schedule 1 16 9", "reply ok") ∷
    ("call turn", "fired immediate 2 17\nask immediate 2 17 8 0 0 0") ∷
    ("act schedule 2 17 10", "reply ok\nask immediate 2 17 8 0 0 1") ∷
    ("ret 0", "reply 1") ∷
    ("call turn", "fired immediate 1 16\nask immediate 1 16 9 0 0 0") ∷
    ("ret 0", "reply 1") ∷
    ("call unschedule 2", "reply ok") ∷
    ("call pending", "reply 0") ∷
    []

-- an immediate that is freed while its handler runs goes after it, comes no more, and isn't scheduled
abbrev pub doomed : Example
doomed =
    ("call immediate 0", "reply 1") ∷
    ("call schedule 1 16 0", "reply ok") ∷
    ("call turn", "fired immediate 1 16\nask immediate 1 16 0 0 0 0") ∷
    ("act schedule 1 16 0", "reply ok\nask immediate 1 16 0 0 0 1") ∷
    ("act pending", "reply 1\nask immediate 1 16 0 0 0 2") ∷
    ("act free 1", "reply no 3 1\nask immediate 1 16 0 0 0 3") ∷
    ("act pending", "reply 0\nask immediate 1 16 0 0 0 4") ∷
    ("act schedule 1 16 0", "reply no 8 1\nask immediate 1 16 0 0 0 5") ∷
    ("ret 0", "freed 1 0\nreply 1") ∷
    []

-- while a destructor runs its object stays as it is, as do the references of the one that dies, and no turn is taken
abbrev pub nested : Example
nested =
    ("call new 0 0 a", "reply 1") ∷
    ("call new 0 0 b", "reply 2") ∷
    ("call reference 1 2", "reply 3") ∷
    ("call new 1 0 c", "reply 4") ∷
    ("call hook 4 16", "reply ok") ∷
    ("call free 3", "reply no 2 3") ∷
    ("call unlink 2 1", "reply no 6 1 2") ∷
    ("call free 1", "ask hook 4 16 0 0 0 0") ∷
    ("act steal 0 1", "reply no 8 1\nask hook 4 16 0 0 0 1") ∷
    ("act free 1", "reply ok\nask hook 4 16 0 0 0 2") ∷
    ("act reference 0 4", "reply no 3 4\nask hook 4 16 0 0 0 3") ∷
    ("act turn", "reply no 15\nask hook 4 16 0 0 0 4") ∷
    ("act new 1 0 d", "reply 5\nask hook 4 16 0 0 0 5") ∷
    ("ret 0", "accepted 4\nfreed 4 16\nfreed 5 0\nunreferenced 3 2\nfreed 1 0\nreply ok") ∷
    []

-- the time is asked for, and a timer may be as late as there are times
abbrev pub told_time : Example
told_time =
    ("call now", "ask clock") ∷
    ("clock 7", "reply 7") ∷
    ("call timer 0 4611686018427387904 16 0", "reply 1") ∷
    ("call pending", "reply 1") ∷
    ("call free 1", "freed 1 0\nreply ok") ∷
    ("call pending", "reply 0") ∷
    []

-- with no event that waits there is a wait of 30 seconds, and what is ready is nobody's
abbrev pub idle : Example
idle =
    ("call turn", "ask wait 30000000") ∷
    ("ready", "reply 0") ∷
    ("call turn", "ask wait 30000000") ∷
    ("ready 3:1 5:3", "reply 0") ∷
    ("call timer 0 9 16 0", "reply 1") ∷
    ("call turn", "ask clock") ∷
    ("clock 2", "ask wait 7") ∷
    ("ready 3:2", "reply 0") ∷
    []

abbrev pub events : List Example
events =
    waiting ∷ disarmed ∷ counted ∷ late ∷ timed ∷ freed_meanwhile ∷ soon ∷ doomed ∷ nested ∷ told_time ∷ idle ∷ []
