-- The words that lines begin with, or go on by, and what follows each.
use Rattle.std.specs.Prelude.{◌≡◌, ℕ, List, ◌∷◌, Option, Some, None, codes}
use Rattle.tree_specs.specs.declared.event.Event.TheVariants as events
use Rattle.tree_specs.specs.declared.question.Ask.{Ask}
use Rattle.tree_specs.specs.declared.question.Ask.TheVariants as asks
use Rattle.tree_specs.specs.declared.reply.Reply.TheVariants as replies
use Rattle.transcript_lines.specs.declared.heads.LineWord.{LineWord}
use Rattle.transcript_lines.specs.declared.heads.LineWord.TheVariants as line_words
use Rattle.transcript_lines.specs.declared.heads.ReplyWord.{ReplyWord}
use Rattle.transcript_lines.specs.declared.heads.ReplyWord.TheVariants as reply_words
use Rattle.transcript_lines.specs.declared.heads.OutsideWord.{OutsideWord}
use Rattle.transcript_lines.specs.declared.heads.OutsideWord.TheVariants as outside_words
use Rattle.transcript_lines.specs.declared.heads.EventWord.{EventWord}
use Rattle.transcript_lines.specs.declared.heads.EventWord.TheVariants as event_words
use Rattle.transcript_lines.specs.Lines.{Line, Form, read, a_number, a_small_number, told, replied, a_what, row_form, refusal_form, numbers_form, reply_form, outside_form, ask_form, end_form, fired_end, freed_form, event_form, line_form}
use Rattle.transcript_lines.specs.Lines.Line.{Rows, Tells, Asks}
use Rattle.transcript_lines.specs.Lines.Form.{Fails, Done, TakesObject, TakesOwner, EndsInBytes}

-- ---- the first words that come most

abbrev pub line_word_text : LineWord → List ℕ
line_word_text line_words.Reply = codes "reply"
line_word_text line_words.Freed = codes "freed"
line_word_text line_words.Ask = codes "ask"
line_word_text line_words.Row = codes "row"

abbrev pub line_end : LineWord → Form
line_end line_words.Reply = reply_form
line_end line_words.Freed = freed_form
line_end line_words.Ask = ask_form Asks Fails
line_end line_words.Row = row_form

abbrev pub IsLineWord : Option LineWord → List ℕ → Type 0
IsLineWord (Some head) word = word ≡ line_word_text head
IsLineWord None word = (more : List (List ℕ)) → read line_form (word ∷ more) ≡ read event_form (word ∷ more)

-- ---- replies

abbrev pub reply_word_text : ReplyWord → List ℕ
reply_word_text reply_words.Ok = codes "ok"
reply_word_text reply_words.No = codes "no"
reply_word_text reply_words.Rows = codes "rows"
reply_word_text reply_words.Got = codes "got"
reply_word_text reply_words.Again = codes "again"
reply_word_text reply_words.Fault = codes "fault"
reply_word_text reply_words.End = codes "end"

abbrev pub reply_end : ReplyWord → Form
reply_end reply_words.Ok = replied replies.Ok
reply_end reply_words.No = refusal_form
reply_end reply_words.Rows = a_number (λ n. Done (Rows n))
reply_end reply_words.Got = EndsInBytes (λ bytes. Tells (events.Replied (replies.Bytes bytes)))
reply_end reply_words.Again = replied replies.Again
reply_end reply_words.Fault = replied replies.Fault
reply_end reply_words.End = replied replies.End

abbrev pub IsReplyWord : Option ReplyWord → List ℕ → Type 0
IsReplyWord (Some head) word = word ≡ reply_word_text head
IsReplyWord None word = (more : List (List ℕ)) → read reply_form (word ∷ more) ≡ read numbers_form (word ∷ more)

-- ---- questions that no routine answers

abbrev pub outside_word_text : OutsideWord → List ℕ
outside_word_text outside_words.Clock = codes "clock"
outside_word_text outside_words.Wait = codes "wait"
outside_word_text outside_words.Accept = codes "accept"
outside_word_text outside_words.Read = codes "read"
outside_word_text outside_words.Write = codes "write"

abbrev pub outside_end : (Ask → Line) → OutsideWord → Form
outside_end line outside_words.Clock = Done (line asks.Clock)
outside_end line outside_words.Wait = a_number (λ limit. Done (line (asks.Wait limit)))
outside_end line outside_words.Accept = a_small_number (λ fd. Done (line (asks.Accept fd)))
outside_end line outside_words.Read = a_small_number (λ fd. a_small_number (λ most. Done (line (asks.Read fd most))))
outside_end line outside_words.Write = a_small_number (λ fd. EndsInBytes (λ bytes. line (asks.Write fd bytes)))

abbrev pub IsOutsideWord : Option OutsideWord → List ℕ → Type 0
IsOutsideWord (Some head) word = word ≡ outside_word_text head
IsOutsideWord None word = (line : Ask → Line) (other : Form) (more : List (List ℕ)) → read (outside_form line other) (word ∷ more) ≡ read other (word ∷ more)

-- ---- events that come more seldom, and the end

abbrev pub event_word_text : EventWord → List ℕ
event_word_text event_words.Fired = codes "fired"
event_word_text event_words.Unreferenced = codes "unreferenced"
event_word_text event_words.Accepted = codes "accepted"
event_word_text event_words.Refused = codes "refused"
event_word_text event_words.Moved = codes "moved"
event_word_text event_words.Warned = codes "warned"
event_word_text event_words.Closed = codes "closed"
event_word_text event_words.State = codes "state"
event_word_text event_words.End = codes "end"

abbrev pub event_end : EventWord → Form
event_end event_words.Fired = a_what fired_end Fails
event_end event_words.Unreferenced = TakesObject (λ reference. TakesObject (λ target. told (events.Unreferenced reference target)))
event_end event_words.Accepted = TakesObject (λ x. told (events.Accepted x))
event_end event_words.Refused = TakesObject (λ x. a_small_number (λ answer. told (events.Refused x answer)))
event_end event_words.Moved = TakesObject (λ x. TakesOwner (λ owner. told (events.Moved x owner)))
event_end event_words.Warned = TakesObject (λ x. told (events.Warned x))
event_end event_words.Closed = a_small_number (λ fd. told (events.Closed fd))
event_end event_words.State = TakesObject (λ x. a_small_number (λ state. told (events.State x state)))
event_end event_words.End = end_form

abbrev pub IsEventWord : Option EventWord → List ℕ → Type 0
IsEventWord (Some head) word = word ≡ event_word_text head
IsEventWord None word = (more : List (List ℕ)) → read event_form (word ∷ more) ≡ None
