-- The lines of a transcript after the first: what each says, the words that spell it, and how it is read back.
use Rattle.std.specs.Prelude.{ℕ, Bool, true, false, ◌&&◌, if◌then◌else◌, List, [], ◌∷◌, map, Option, Some, None, codes}
use Rattle.std.specs.List.{list_all, join_with_byte}
use Rattle.std.specs.Str.{bytes_eq}
use Rattle.tree_specs.specs.declared.schedule.Version.TheVariants.{Two}
use Rattle.tree_specs.specs.declared.object.Obj.{Obj}
use Rattle.tree_specs.specs.declared.object.Owner.{Owner}
use Rattle.tree_specs.specs.declared.reply.Refusal.{Refusal}
use Rattle.tree_specs.specs.declared.reply.Refusal.TheVariants.{NoSuch, WrongKind, Running, Held, Refused, NotParent, Loop, Dying, OverLimit, Full, Spent, InUse, BadState, TooBig, Nested}
use Rattle.tree_specs.specs.declared.reply.Reply.{Reply}
use Rattle.tree_specs.specs.declared.reply.Reply.TheVariants as replies
use Rattle.tree_specs.specs.declared.event.Event.{Event}
use Rattle.tree_specs.specs.declared.event.Event.TheVariants as events
use Rattle.tree_specs.specs.declared.moment.What.{What}
use Rattle.tree_specs.specs.declared.moment.What.TheVariants as whats
use Rattle.tree_specs.specs.declared.moment.Moment.{Moment}
use Rattle.tree_specs.specs.declared.report.RowKind.{RowKind}
use Rattle.tree_specs.specs.declared.report.RowKind.TheVariants as row_kinds
use Rattle.tree_specs.specs.declared.report.ReportRow.{ReportRow}
use Rattle.tree_specs.specs.declared.question.Ask.{Ask}
use Rattle.tree_specs.specs.declared.question.Ask.TheVariants as asks
use Rattle.tree_specs.specs.Calls.Spelling.{Numeral, Field}
use Rattle.tree_specs.specs.Calls.Spelling.Numeral.{Number, Number32}
use Rattle.tree_specs.specs.Calls.Spelling.Field.{AnOwner, AnObject, ANumeral, AName, SomeBytes}
use Rattle.tree_specs.specs.Words.Ranges.{is_sound_field}
use Rattle.tree_specs.specs.Texts.Text.{field_text, what_text, row_kind_text}
use Rattle.tree_specs.specs.Texts.Grammar.{◌>>=◌, numeral_of, owner_of, object_of, name_of, octets_of, words, last_field, with_field}
use Rattle.text_forms.specs.Bytes.{field_has_bytes}

-- what a line is
pub data Line : Type 0 where
  -- a row of a report
  Row : ReportRow → Line
  -- the reply that ends a report of so many rows
  Rows : ℕ → Line
  -- another event
  Tells : Event → Line
  -- a question that was answered
  Asks : Ask → Line
  -- the question that is open at the end
  Ends : Ask → Line

-- ---- reading

-- what may come next on a line
pub data Form : Type 0 where
  -- no line goes on so
  Fails : Form
  -- nothing more
  Done : Line → Form
  -- where the next word is this one, the line goes on by the first form, and otherwise by the second, which reads that word
  IfWord : List ℕ → Form → Form → Form
  -- nothing more, or more
  MayEnd : Line → Form → Form
  TakesNumeral : Numeral → (ℕ → Form) → Form
  TakesObject : (Obj → Form) → Form
  TakesOwner : (Owner → Form) → Form
  EndsInName : (List ℕ → Line) → Form
  -- bytes in hexadecimal
  EndsInBytes : (List ℕ → Line) → Form

-- the line of this form that the words spell
abbrev pub read : Form → List (List ℕ) → Option Line
read Fails ws = None
read (Done line) [] = Some line
read (Done line) (w ∷ ws) = None
read (IfWord word next other) [] = None
read (IfWord word next other) (w ∷ ws) = if bytes_eq w word then read next ws else read other (w ∷ ws)
read (MayEnd line next) [] = Some line
read (MayEnd line next) (w ∷ ws) = read next (w ∷ ws)
read (TakesNumeral kind next) ws = with_field (numeral_of kind) ws (λ n more. read (next n) more)
read (TakesObject next) ws = with_field object_of ws (λ x more. read (next x) more)
read (TakesOwner next) ws = with_field owner_of ws (λ owner more. read (next owner) more)
read (EndsInName line) ws = do
  name ← last_field (name_of Two) ws
  Some (line name.0)
read (EndsInBytes line) ws = do
  bytes ← last_field octets_of ws
  Some (line bytes.0)

-- ---- the forms

abbrev pub a_number : (ℕ → Form) → Form
a_number next = TakesNumeral Number next

-- one below 2^32: a routine, a descriptor, what a routine returns
abbrev pub a_small_number : (ℕ → Form) → Form
a_small_number next = TakesNumeral Number32 next

abbrev pub told : Event → Form
told e = Done (Tells e)

abbrev pub replied : Reply → Form
replied reply = told (events.Replied reply)

abbrev pub refused : Refusal → Form
refused why = replied (replies.No why)

-- what a routine runs for, or something else
abbrev pub a_what : (What → Form) → Form → Form
a_what next other =
    IfWord (codes "hook") (next whats.Hook)
    (IfWord (codes "timer") (next whats.Timer)
    (IfWord (codes "immediate") (next whats.Immediate)
    (IfWord (codes "fd") (next whats.Descriptor)
    (IfWord (codes "callback") (next whats.Callback)
    (IfWord (codes "cleanup") (next whats.Cleanup)
    (IfWord (codes "cancel") (next whats.Cancel)
    (IfWord (codes "trigger") (next whats.Trigger) other)))))))

abbrev pub a_row_kind : (RowKind → Form) → Form
a_row_kind next =
    IfWord (codes "root") (next row_kinds.Root)
    (IfWord (codes "plain") (next row_kinds.Plain)
    (IfWord (codes "reference") (next row_kinds.Reference)
    (IfWord (codes "timer") (next row_kinds.Timer)
    (IfWord (codes "immediate") (next row_kinds.Immediate)
    (IfWord (codes "fd") (next row_kinds.Fd)
    (IfWord (codes "request") (next row_kinds.Request)
    (IfWord (codes "queue") (next row_kinds.Queue)
    (IfWord (codes "entry") (next row_kinds.Entry)
    (IfWord (codes "context") (next row_kinds.Context) Fails)))))))))

-- what follows the kind of a row
abbrev pub row_end : ℕ → ℕ → RowKind → Form
row_end depth id kind = a_number (λ size. a_small_number (λ refs. a_number (λ target.
    EndsInName (λ name. Row (record { depth = depth; id = id; kind = kind; size = size; refs = refs; target = target; name = name })))))

abbrev pub row_form : Form
row_form = a_small_number (λ depth. a_number (λ id. a_row_kind (row_end depth id)))

-- why a call was refused, by the number of the reason
abbrev pub refusal_form : Form
refusal_form =
    IfWord (codes "1") (a_number (λ n. refused (NoSuch n)))
    (IfWord (codes "2") (TakesObject (λ x. refused (WrongKind x)))
    (IfWord (codes "3") (TakesObject (λ x. refused (Running x)))
    (IfWord (codes "4") (TakesObject (λ x. refused (Held x)))
    (IfWord (codes "5") (TakesObject (λ x. a_small_number (λ answer. refused (Refused x answer))))
    (IfWord (codes "6") (TakesObject (λ x. TakesOwner (λ owner. refused (NotParent x owner))))
    (IfWord (codes "7") (TakesObject (λ x. TakesOwner (λ owner. refused (Loop x owner))))
    (IfWord (codes "8") (TakesObject (λ x. refused (Dying x)))
    (IfWord (codes "9") (TakesObject (λ x. a_number (λ sum. a_number (λ wanted. a_number (λ limit. refused (OverLimit x sum wanted limit))))))
    (IfWord (codes "10") (a_number (λ n. refused (Full n)))
    (IfWord (codes "11") (refused Spent)
    (IfWord (codes "12") (a_small_number (λ fd. refused (InUse fd)))
    (IfWord (codes "13") (TakesObject (λ x. a_small_number (λ state. refused (BadState x state))))
    (IfWord (codes "14") (a_number (λ n. refused (TooBig n)))
    (IfWord (codes "15") (refused Nested) Fails))))))))))))))

-- the second of two numbers
abbrev pub pair_end : ℕ → Form
pair_end n = a_number (λ m. replied (replies.Pair n m))

-- nothing behind a number, or a second one
abbrev pub number_end : ℕ → Form
number_end n = MayEnd (Tells (events.Replied (replies.Number n))) (pair_end n)

-- one number, or two
abbrev pub numbers_form : Form
numbers_form = a_number number_end

abbrev pub reply_form : Form
reply_form =
    IfWord (codes "ok") (replied replies.Ok)
    (IfWord (codes "no") refusal_form
    (IfWord (codes "rows") (a_number (λ n. Done (Rows n)))
    (IfWord (codes "got") (EndsInBytes (λ bytes. Tells (events.Replied (replies.Bytes bytes))))
    (IfWord (codes "again") (replied replies.Again)
    (IfWord (codes "fault") (replied replies.Fault)
    (IfWord (codes "end") (replied replies.End)
    numbers_form))))))

-- the moment of a routine's run; the reply to its last call isn't on the line
abbrev pub moment : What → Obj → ℕ → ℕ → ℕ → ℕ → ℕ → Moment
moment what x routine user now flags step = record { what = what; object = x; routine = routine; user = user; now = now; flags = flags; step = step; last = None }

abbrev pub moment_form : (Ask → Line) → What → Form
moment_form line what = TakesObject (λ x. a_small_number (λ routine. a_number (λ user. a_number (λ now. a_small_number (λ flags. a_small_number (λ step.
    Done (line (asks.Routine (moment what x routine user now flags step)))))))))

-- a question that no routine answers, or something else
abbrev pub outside_form : (Ask → Line) → Form → Form
outside_form line other =
    IfWord (codes "clock") (Done (line asks.Clock))
    (IfWord (codes "wait") (a_number (λ limit. Done (line (asks.Wait limit))))
    (IfWord (codes "accept") (a_small_number (λ fd. Done (line (asks.Accept fd))))
    (IfWord (codes "read") (a_small_number (λ fd. a_small_number (λ most. Done (line (asks.Read fd most)))))
    (IfWord (codes "write") (a_small_number (λ fd. EndsInBytes (λ bytes. line (asks.Write fd bytes)))) other))))

-- a question, or something else
abbrev pub ask_form : (Ask → Line) → Form → Form
ask_form line other = a_what (moment_form line) (outside_form line other)

-- the question that is open at the end, which may be Quiet
abbrev pub end_form : Form
end_form = ask_form Ends (IfWord (codes "quiet") (Done (Ends asks.Quiet)) Fails)

-- what follows the word for what a routine runs for
abbrev pub fired_end : What → Form
fired_end what = TakesObject (λ x. a_small_number (λ routine. told (events.Fired what x routine)))

abbrev pub freed_form : Form
freed_form = TakesObject (λ x. a_small_number (λ hook. told (events.Freed x hook)))

-- an event that comes more seldom than those of `line_form`, or the end
abbrev pub event_form : Form
event_form =
    IfWord (codes "fired") (a_what fired_end Fails)
    (IfWord (codes "unreferenced") (TakesObject (λ reference. TakesObject (λ target. told (events.Unreferenced reference target))))
    (IfWord (codes "accepted") (TakesObject (λ x. told (events.Accepted x)))
    (IfWord (codes "refused") (TakesObject (λ x. a_small_number (λ answer. told (events.Refused x answer))))
    (IfWord (codes "moved") (TakesObject (λ x. TakesOwner (λ owner. told (events.Moved x owner))))
    (IfWord (codes "warned") (TakesObject (λ x. told (events.Warned x)))
    (IfWord (codes "closed") (a_small_number (λ fd. told (events.Closed fd)))
    (IfWord (codes "state") (TakesObject (λ x. a_small_number (λ state. told (events.State x state))))
    (IfWord (codes "end") end_form Fails))))))))

abbrev pub line_form : Form
line_form =
    IfWord (codes "reply") reply_form
    (IfWord (codes "freed") freed_form
    (IfWord (codes "ask") (ask_form Asks Fails)
    (IfWord (codes "row") row_form event_form)))

-- the line that a text spells, without its LF
unfoldable pub line_of : List ℕ → Option Line
line_of text = read line_form (words text)

-- ---- spelling

-- what stands between two spaces: a word of the form, or a value
pub data Part : Type 0 where
  AWord : List ℕ → Part
  AField : Field → Part

abbrev pub part_text : Part → List ℕ
part_text (AWord word) = word
part_text (AField field) = field_text field

-- a value has the range of its type
abbrev pub is_sound_part : Part → Bool
is_sound_part (AWord word) = true
is_sound_part (AField field) = is_sound_field Two field && field_has_bytes field

abbrev pub object : Obj → Part
object x = AField (AnObject x)

abbrev pub owner : Owner → Part
owner o = AField (AnOwner o)

abbrev pub number : ℕ → Part
number n = AField (ANumeral Number n)

abbrev pub small_number : ℕ → Part
small_number n = AField (ANumeral Number32 n)

abbrev pub refusal_parts : Refusal → List Part
refusal_parts (NoSuch n) = AWord (codes "1") ∷ number n ∷ []
refusal_parts (WrongKind x) = AWord (codes "2") ∷ object x ∷ []
refusal_parts (Running x) = AWord (codes "3") ∷ object x ∷ []
refusal_parts (Held x) = AWord (codes "4") ∷ object x ∷ []
refusal_parts (Refused x answer) = AWord (codes "5") ∷ object x ∷ small_number answer ∷ []
refusal_parts (NotParent x o) = AWord (codes "6") ∷ object x ∷ owner o ∷ []
refusal_parts (Loop x o) = AWord (codes "7") ∷ object x ∷ owner o ∷ []
refusal_parts (Dying x) = AWord (codes "8") ∷ object x ∷ []
refusal_parts (OverLimit x sum wanted limit) = AWord (codes "9") ∷ object x ∷ number sum ∷ number wanted ∷ number limit ∷ []
refusal_parts (Full n) = AWord (codes "10") ∷ number n ∷ []
refusal_parts Spent = AWord (codes "11") ∷ []
refusal_parts (InUse fd) = AWord (codes "12") ∷ small_number fd ∷ []
refusal_parts (BadState x state) = AWord (codes "13") ∷ object x ∷ small_number state ∷ []
refusal_parts (TooBig n) = AWord (codes "14") ∷ number n ∷ []
refusal_parts Nested = AWord (codes "15") ∷ []

-- what follows `reply`; a report has lines of its own
abbrev pub reply_parts : Reply → List Part
reply_parts replies.Ok = AWord (codes "ok") ∷ []
reply_parts (replies.Number n) = number n ∷ []
reply_parts (replies.Pair n m) = number n ∷ number m ∷ []
reply_parts (replies.Rows rows) = []
reply_parts (replies.Bytes bytes) = AWord (codes "got") ∷ AField (SomeBytes bytes) ∷ []
reply_parts replies.Again = AWord (codes "again") ∷ []
reply_parts replies.Fault = AWord (codes "fault") ∷ []
reply_parts replies.End = AWord (codes "end") ∷ []
reply_parts (replies.No why) = AWord (codes "no") ∷ refusal_parts why

abbrev pub event_parts : Event → List Part
event_parts (events.Replied reply) = AWord (codes "reply") ∷ reply_parts reply
event_parts (events.Fired what x routine) = AWord (codes "fired") ∷ AWord (what_text what) ∷ object x ∷ small_number routine ∷ []
event_parts (events.Accepted x) = AWord (codes "accepted") ∷ object x ∷ []
event_parts (events.Refused x answer) = AWord (codes "refused") ∷ object x ∷ small_number answer ∷ []
event_parts (events.Moved x o) = AWord (codes "moved") ∷ object x ∷ owner o ∷ []
event_parts (events.Warned x) = AWord (codes "warned") ∷ object x ∷ []
event_parts (events.Freed x hook) = AWord (codes "freed") ∷ object x ∷ small_number hook ∷ []
event_parts (events.Unreferenced reference target) = AWord (codes "unreferenced") ∷ object reference ∷ object target ∷ []
event_parts (events.Closed fd) = AWord (codes "closed") ∷ small_number fd ∷ []
event_parts (events.State x state) = AWord (codes "state") ∷ object x ∷ small_number state ∷ []

abbrev pub ask_parts : Ask → List Part
ask_parts asks.Quiet = AWord (codes "quiet") ∷ []
ask_parts (asks.Routine m) = AWord (what_text m.what) ∷ object m.object ∷ small_number m.routine ∷ number m.user ∷ number m.now ∷ small_number m.flags ∷ small_number m.step ∷ []
ask_parts asks.Clock = AWord (codes "clock") ∷ []
ask_parts (asks.Wait limit) = AWord (codes "wait") ∷ number limit ∷ []
ask_parts (asks.Accept fd) = AWord (codes "accept") ∷ small_number fd ∷ []
ask_parts (asks.Read fd most) = AWord (codes "read") ∷ small_number fd ∷ small_number most ∷ []
ask_parts (asks.Write fd bytes) = AWord (codes "write") ∷ small_number fd ∷ AField (SomeBytes bytes) ∷ []

abbrev pub row_parts : ReportRow → List Part
row_parts r = AWord (codes "row") ∷ small_number r.depth ∷ number r.id ∷ AWord (row_kind_text r.kind) ∷ number r.size ∷ small_number r.refs ∷ number r.target ∷ AField (AName r.name) ∷ []

-- the words and the values of a line
abbrev pub parts_of : Line → List Part
parts_of (Row r) = row_parts r
parts_of (Rows n) = AWord (codes "reply") ∷ AWord (codes "rows") ∷ number n ∷ []
parts_of (Tells e) = event_parts e
parts_of (Asks q) = AWord (codes "ask") ∷ ask_parts q
parts_of (Ends q) = AWord (codes "end") ∷ ask_parts q

abbrev pub words_of : List Part → List (List ℕ)
words_of parts = map part_text parts

-- the text of a line, without its LF: one space stands between each two parts
abbrev pub line_text : Line → List ℕ
line_text line = join_with_byte 32 (words_of (parts_of line))

-- each value of the line has the range of its type
abbrev pub is_sound_line : Line → Bool
is_sound_line line = list_all is_sound_part (parts_of line)

-- whether a transcript has such a line: a report is told by its rows and the reply that ends it, and Quiet has no line where it was answered
abbrev pub is_line : Line → Bool
is_line (Tells (events.Replied (replies.Rows rows))) = false
is_line (Asks asks.Quiet) = false
is_line line = true

-- ---- what is read back

-- a question without the reply to its routine's last call
abbrev pub plain_ask : Ask → Ask
plain_ask (asks.Routine m) = asks.Routine (moment m.what m.object m.routine m.user m.now m.flags m.step)
plain_ask q = q

-- a line that is read back from its text
abbrev pub plain : Line → Line
plain (Asks q) = Asks (plain_ask q)
plain (Ends q) = Ends (plain_ask q)
plain line = line
