-- The one text of calls, events, questions and transcripts.
use Rattle.std.specs.Prelude.{ℕ, List, [], ◌∷◌, ◌++◌, length, flat_map, Option, Some, None, codes}
use Rattle.std.specs.Fmt.{decimal}
use Rattle.std.specs.Option.{option_map}
use Rattle.hex.specs.Hex.{encode_lower}
use Rattle.tree_specs.specs.declared.call.Call.{Call}
use Rattle.tree_specs.specs.declared.reply.Refusal.{Refusal}
use Rattle.tree_specs.specs.declared.reply.Refusal.TheVariants.{NoSuch, WrongKind, Running, Held, Refused, NotParent, Loop, Dying, OverLimit, Full, Spent, InUse, BadState, TooBig, Nested}
use Rattle.tree_specs.specs.declared.reply.Reply.{Reply}
use Rattle.tree_specs.specs.declared.reply.Reply.TheVariants as replies
use Rattle.tree_specs.specs.declared.event.Event.{Event}
use Rattle.tree_specs.specs.declared.event.Event.TheVariants as events
use Rattle.tree_specs.specs.declared.moment.What.{What}
use Rattle.tree_specs.specs.declared.moment.What.TheVariants as whats
use Rattle.tree_specs.specs.declared.report.RowKind.{RowKind}
use Rattle.tree_specs.specs.declared.report.RowKind.TheVariants as row_kinds
use Rattle.tree_specs.specs.declared.report.ReportRow.{ReportRow}
use Rattle.tree_specs.specs.declared.question.Ask.{Ask}
use Rattle.tree_specs.specs.declared.question.Ask.TheVariants as asks
use Rattle.tree_specs.specs.declared.question.Act.TheVariants as acts
use Rattle.tree_specs.specs.declared.question.Input.{Input}
use Rattle.tree_specs.specs.declared.question.Input.TheVariants as inputs
use Rattle.tree_specs.specs.declared.wants.Want.{Want}
use Rattle.tree_specs.specs.declared.schedule.Version.{Version}
use Rattle.tree_specs.specs.Words.Objects.{owner_number}
use Rattle.tree_specs.specs.Calls.Spelling.{Field, spelling}
use Rattle.tree_specs.specs.Calls.Spelling.Field.{AnOwner, AnObject, ANumeral, AName, SomeBytes, TheContext}
use Rattle.tree_specs.specs.Rules.Items.{Item}
use Rattle.tree_specs.specs.Rules.Items.Item.{Told, Asked}

abbrev pub newline : List ℕ
newline = 10 ∷ []

abbrev pub field_text : Field → List ℕ
field_text (AnOwner o) = decimal (owner_number o)
field_text (AnObject x) = decimal x.0
field_text (ANumeral kind n) = decimal n
field_text (AName name) = name
field_text (SomeBytes bytes) = encode_lower bytes
field_text (TheContext c) = decimal c.0

-- the verb and the fields, with single spaces between them
unfoldable pub call_text : Version → Call → List ℕ
call_text v c = (spelling v c).verb ++ flat_map (λ f. codes " " ++ field_text f) (spelling v c).fields

-- a descriptor and its flags, with a space before them
abbrev pub want_text : Want → List ℕ
want_text w = codes " " ++ decimal w.fd ++ codes ":" ++ decimal w.flags

abbrev pub wants_text : List Want → List ℕ
wants_text ws = flat_map (λ w. want_text w) ws

-- an input as its line
unfoldable pub input_text : Version → Input → List ℕ
input_text v (inputs.Call c) = codes "call " ++ call_text v c ++ newline
input_text v (inputs.Act (acts.Do c)) = codes "act " ++ call_text v c ++ newline
input_text v (inputs.Act (acts.Ret value)) = codes "ret " ++ decimal value ++ newline
input_text v (inputs.Clock now) = codes "clock " ++ decimal now ++ newline
input_text v (inputs.Ready wants) = codes "ready" ++ wants_text wants ++ newline
input_text v (inputs.Took fd) = codes "took " ++ decimal fd ++ newline
input_text v inputs.Again = codes "again\n"
input_text v inputs.Fault = codes "fault\n"
input_text v (inputs.Got bytes) = codes "got " ++ encode_lower bytes ++ newline
input_text v inputs.End = codes "end\n"
input_text v (inputs.Wrote n) = codes "wrote " ++ decimal n ++ newline

-- ---- events

-- each number, with a space before it
abbrev pub numbers_text : List ℕ → List ℕ
numbers_text ns = flat_map (λ n. codes " " ++ decimal n) ns

-- a refusal's number and what it carries
unfoldable pub refusal_numbers : Refusal → List ℕ
refusal_numbers (NoSuch n) = 1 ∷ n ∷ []
refusal_numbers (WrongKind x) = 2 ∷ x.0 ∷ []
refusal_numbers (Running x) = 3 ∷ x.0 ∷ []
refusal_numbers (Held x) = 4 ∷ x.0 ∷ []
refusal_numbers (Refused x answer) = 5 ∷ x.0 ∷ answer ∷ []
refusal_numbers (NotParent x owner) = 6 ∷ x.0 ∷ owner_number owner ∷ []
refusal_numbers (Loop x owner) = 7 ∷ x.0 ∷ owner_number owner ∷ []
refusal_numbers (Dying x) = 8 ∷ x.0 ∷ []
refusal_numbers (OverLimit x sum wanted limit) = 9 ∷ x.0 ∷ sum ∷ wanted ∷ limit ∷ []
refusal_numbers (Full n) = 10 ∷ n ∷ []
refusal_numbers Spent = 11 ∷ []
refusal_numbers (InUse descriptor) = 12 ∷ descriptor ∷ []
refusal_numbers (BadState x state) = 13 ∷ x.0 ∷ state ∷ []
refusal_numbers (TooBig n) = 14 ∷ n ∷ []
refusal_numbers Nested = 15 ∷ []

unfoldable pub row_kind_text : RowKind → List ℕ
row_kind_text row_kinds.Root = codes "root"
row_kind_text row_kinds.Plain = codes "plain"
row_kind_text row_kinds.Reference = codes "reference"
row_kind_text row_kinds.Timer = codes "timer"
row_kind_text row_kinds.Immediate = codes "immediate"
row_kind_text row_kinds.Fd = codes "fd"
row_kind_text row_kinds.Request = codes "request"
row_kind_text row_kinds.Queue = codes "queue"
row_kind_text row_kinds.Entry = codes "entry"
row_kind_text row_kinds.Context = codes "context"

-- a row of a report, as its line
unfoldable pub row_text : ReportRow → List ℕ
row_text r =
    codes "row" ++ numbers_text (r.depth ∷ r.id ∷ []) ++ codes " " ++ row_kind_text r.kind
    ++ numbers_text (r.size ∷ r.refs ∷ r.target ∷ []) ++ codes " " ++ r.name ++ newline

abbrev pub rows_text : List ReportRow → List ℕ
rows_text rows = flat_map (λ r. row_text r) rows

-- a reply as its line, after the lines of a report's rows
unfoldable pub reply_text : Reply → List ℕ
reply_text replies.Ok = codes "reply ok\n"
reply_text (replies.Number n) = codes "reply" ++ numbers_text (n ∷ []) ++ newline
reply_text (replies.Pair a b) = codes "reply" ++ numbers_text (a ∷ b ∷ []) ++ newline
reply_text (replies.Rows rows) = rows_text rows ++ codes "reply rows" ++ numbers_text (length rows ∷ []) ++ newline
reply_text (replies.Bytes bytes) = codes "reply got " ++ encode_lower bytes ++ newline
reply_text replies.Again = codes "reply again\n"
reply_text replies.Fault = codes "reply fault\n"
reply_text replies.End = codes "reply end\n"
reply_text (replies.No why) = codes "reply no" ++ numbers_text (refusal_numbers why) ++ newline

unfoldable pub what_text : What → List ℕ
what_text whats.Hook = codes "hook"
what_text whats.Timer = codes "timer"
what_text whats.Immediate = codes "immediate"
what_text whats.Descriptor = codes "fd"
what_text whats.Callback = codes "callback"
what_text whats.Cleanup = codes "cleanup"
what_text whats.Cancel = codes "cancel"
what_text whats.Trigger = codes "trigger"

-- an event as its line
unfoldable pub event_text : Event → List ℕ
event_text (events.Replied reply) = reply_text reply
event_text (events.Fired what x routine) = codes "fired " ++ what_text what ++ numbers_text (x.0 ∷ routine ∷ []) ++ newline
event_text (events.Accepted x) = codes "accepted" ++ numbers_text (x.0 ∷ []) ++ newline
event_text (events.Refused x answer) = codes "refused" ++ numbers_text (x.0 ∷ answer ∷ []) ++ newline
event_text (events.Moved x owner) = codes "moved" ++ numbers_text (x.0 ∷ owner_number owner ∷ []) ++ newline
event_text (events.Warned x) = codes "warned" ++ numbers_text (x.0 ∷ []) ++ newline
event_text (events.Freed x hook) = codes "freed" ++ numbers_text (x.0 ∷ hook ∷ []) ++ newline
event_text (events.Unreferenced reference target) = codes "unreferenced" ++ numbers_text (reference.0 ∷ target.0 ∷ []) ++ newline
event_text (events.Closed descriptor) = codes "closed" ++ numbers_text (descriptor ∷ []) ++ newline
event_text (events.State x state) = codes "state" ++ numbers_text (x.0 ∷ state ∷ []) ++ newline

-- ---- questions

unfoldable pub ask_text : Ask → List ℕ
ask_text asks.Quiet = codes "quiet"
ask_text (asks.Routine m) = what_text m.what ++ numbers_text (m.object.0 ∷ m.routine ∷ m.user ∷ m.now ∷ m.flags ∷ m.step ∷ [])
ask_text asks.Clock = codes "clock"
ask_text (asks.Wait limit) = codes "wait" ++ numbers_text (limit ∷ [])
ask_text (asks.Accept descriptor) = codes "accept" ++ numbers_text (descriptor ∷ [])
ask_text (asks.Read descriptor most) = codes "read" ++ numbers_text (descriptor ∷ most ∷ [])
ask_text (asks.Write descriptor bytes) = codes "write" ++ numbers_text (descriptor ∷ []) ++ codes " " ++ encode_lower bytes

abbrev pub asked_text : Ask → List ℕ
asked_text q = codes "ask " ++ ask_text q ++ newline

-- a question that was answered, as its line; Quiet has none
unfoldable pub answered_text : Ask → List ℕ
answered_text asks.Quiet = []
answered_text (asks.Routine m) = asked_text (asks.Routine m)
answered_text asks.Clock = asked_text asks.Clock
answered_text (asks.Wait limit) = asked_text (asks.Wait limit)
answered_text (asks.Accept descriptor) = asked_text (asks.Accept descriptor)
answered_text (asks.Read descriptor most) = asked_text (asks.Read descriptor most)
answered_text (asks.Write descriptor bytes) = asked_text (asks.Write descriptor bytes)

-- ---- transcripts

-- an item that is not the last
unfoldable pub item_text : Item → List ℕ
item_text (Told e) = event_text e
item_text (Asked q) = answered_text q

-- the question that is open at the end, as its line
unfoldable pub end_text : Ask → List ℕ
end_text q = codes "end " ++ ask_text q ++ newline

abbrev pub last_text : Item → Option (List ℕ)
last_text (Told e) = None
last_text (Asked q) = Some (end_text q)

-- the lines of items, of which the last is a question
unfoldable pub body_text : List Item → Option (List ℕ)
body_text [] = None
body_text (i ∷ []) = last_text i
body_text (i ∷ j ∷ rest) = option_map (λ text. item_text i ++ text) (body_text (j ∷ rest))

abbrev pub header : List ℕ
header = codes "tv transcript 1\n"

-- the transcript of a list of items; no other list than one whose last item is a question has one
abbrev pub transcript : List Item → Option (List ℕ)
transcript items = option_map (λ text. header ++ text) (body_text items)
