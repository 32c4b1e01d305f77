-- Worked examples: the lines of transcripts, and what is to be said of each whole text.
use Rattle.std.specs.Prelude.{List, [], ◌∷◌, ◌++◌, codes}
use Rattle.tree_specs.specs.Texts.Text.{header}
use Rattle.audit_rules.specs.Flaws.{Verdict, verdict}
use Rattle.audit_rules.specs.Flaws.Verdict.{Orderly, Broken}
use Prim.Native.String.{String}

-- the lines behind the header, which is line 1, and what is to be said
abbrev pub Audited : Type 0
Audited = String × Verdict

-- what the rules say of the lines behind the header
abbrev pub said_of : Audited → Verdict
said_of audited = verdict (header ++ codes audited.0)

-- what they are to say
abbrev pub wanted_of : Audited → Verdict
wanted_of audited = audited.1

-- ---- no line has a flaw

abbrev pub orderly : List Audited
orderly =
    ("end quiet\n", Orderly 2) ∷
    -- a destructor accepts and stands with what is freed, or refuses and so does the call
    ("ask hook 4 16 0 0 0 0\naccepted 4\nfreed 4 16\nreply ok\nend quiet\n", Orderly 6) ∷
    ("ask hook 4 16 0 0 0 0\nrefused 4 1\nreply no 5 4 1\nend quiet\n", Orderly 5) ∷
    -- a reference is told to be dropped after it was freed
    ("freed 5 0\nunreferenced 5 4\nmoved 4 0\nend quiet\n", Orderly 5) ∷
    ("state 1 2\nfired callback 1 16\nstate 1 6\nfreed 1 0\nend quiet\n", Orderly 6) ∷
    -- reports of a row and of none, and replies of other forms
    ("row 0 0 root 0 0 0 null_context\nreply rows 1\nreply rows 0\nend quiet\n", Orderly 5) ∷
    -- one of a context, which is freed after its turn
    ("row 0 1 context 0 0 0 tevent\nreply rows 1\nfired timer 2 16\nask timer 2 16 5 0 0 0\nreply no 3 1\nask timer 2 16 5 0 0 1\nfreed 2 0\nfreed 1 0\nreply 1\nend quiet\n", Orderly 11) ∷
    ("reply 7\nreply 7 8\nreply again\nreply fault\nreply end\nreply no 9 4 1 2 3\nreply got 0aff\nend quiet\n", Orderly 9) ∷
    -- other questions, and other ends
    ("ask clock\nask wait 5\nask accept 0\nask read 5 4096\nask write 5 00\nend timer 4 16 1 2 0 0\n", Orderly 7) ∷
    ("warned 4\nclosed 5\nend write 5 00\n", Orderly 4) ∷
    []

-- ---- a rule is broken

abbrev pub broken_rules : List Audited
broken_rules =
    -- a destructor that has accepted is asked again, accepts again and refuses
    ("accepted 4\nask hook 4 16 0 0 0 0\nend quiet\n", Broken 3 1) ∷
    ("accepted 4\naccepted 4\nend quiet\n", Broken 3 1) ∷
    ("accepted 4\nrefused 4 1\nend quiet\n", Broken 3 1) ∷
    ("accepted 4\nend hook 4 16 0 0 0 0\n", Broken 3 1) ∷
    -- an object is freed with a destructor that hasn't accepted, without one that has, and twice
    ("freed 1 16\nend quiet\n", Broken 2 2) ∷
    ("accepted 4\nfreed 4 0\nend quiet\n", Broken 3 2) ∷
    ("freed 4 0\nfreed 4 0\nend quiet\n", Broken 3 2) ∷
    -- a freed object is told or asked of
    ("accepted 4\nfreed 4 16\nfired timer 4 16\nend quiet\n", Broken 4 3) ∷
    ("freed 4 0\naccepted 4\nend quiet\n", Broken 3 3) ∷
    ("freed 4 0\nrefused 4 1\nend quiet\n", Broken 3 3) ∷
    ("freed 4 0\nmoved 4 5\nend quiet\n", Broken 3 3) ∷
    ("freed 4 0\nmoved 5 4\nend quiet\n", Broken 3 3) ∷
    ("freed 4 0\nwarned 4\nend quiet\n", Broken 3 3) ∷
    ("freed 4 0\nstate 4 2\nend quiet\n", Broken 3 3) ∷
    ("freed 4 0\nunreferenced 5 4\nend quiet\n", Broken 3 3) ∷
    ("freed 4 0\nend hook 4 16 0 0 0 0\n", Broken 3 3) ∷
    -- a reference is dropped twice
    ("unreferenced 5 4\nunreferenced 5 6\nend quiet\n", Broken 3 3) ∷
    -- a call is refused for a number that no destructor has returned, for another number, and not right after it
    ("reply no 5 2 3\nend quiet\n", Broken 2 4) ∷
    ("refused 2 4\nreply no 5 2 3\nend quiet\n", Broken 3 4) ∷
    ("refused 2 3\nclosed 5\nreply no 5 2 3\nend quiet\n", Broken 4 4) ∷
    -- a request is over twice, is received twice, is over after it was received, and is in a state that isn't told
    ("state 1 2\nstate 1 4\nend quiet\n", Broken 3 5) ∷
    ("state 1 6\nstate 1 6\nend quiet\n", Broken 3 5) ∷
    ("state 1 6\nstate 1 2\nend quiet\n", Broken 3 5) ∷
    ("state 1 1\nend quiet\n", Broken 2 5) ∷
    ("state 1 7\nend quiet\n", Broken 2 5) ∷
    -- the least rule of one item, and the first line
    ("accepted 4\nfreed 4 16\naccepted 4\nend quiet\n", Broken 4 1) ∷
    ("freed 4 0\nstate 4 7\nend quiet\n", Broken 3 3) ∷
    ("state 1 7\nfreed 1 16\nreply 01\n", Broken 2 5) ∷
    []

-- ---- no transcript has these first lines

abbrev pub formless_lines : List Audited
formless_lines =
    -- a line is missing, is one too many, and has no LF
    ("", Broken 2 0) ∷
    ("reply ok\n", Broken 3 0) ∷
    ("end quiet\nreply ok\n", Broken 3 0) ∷
    ("end quiet", Broken 2 0) ∷
    -- a report whose reply has another number, and one without its reply
    ("row 0 0 root 0 0 0 null_context\nreply rows 2\n", Broken 3 0) ∷
    ("row 0 0 root 0 0 0 null_context\nend quiet\n", Broken 3 0) ∷
    ("row 0 0 root 0 0 0 null_context\nfreed 1 16\n", Broken 3 0) ∷
    -- a value has one spelling, and the range of its type
    ("reply got 0AFF\nend quiet\n", Broken 2 0) ∷
    ("reply 01\nend quiet\n", Broken 2 0) ∷
    ("reply 18446744073709551616\nend quiet\n", Broken 2 0) ∷
    ("freed 1 4294967296\nend quiet\n", Broken 2 0) ∷
    -- one space stands between two words
    ("reply  ok\nend quiet\n", Broken 2 0) ∷
    ("reply ok \nend quiet\n", Broken 2 0) ∷
    -- Quiet has no line where it was answered
    ("ask quiet\nend quiet\n", Broken 2 0) ∷
    []
