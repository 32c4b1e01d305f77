-- A word that stands in a table is read by what follows it, and a word of another length isn't there.
use Rattle.std.proofs.Common.{◌≡◌, ℕ, ◌<◌, ◌≤◌, Bool, true, false, List, ◌∷◌, length, None, refl, ap, arith, codes}
use Rattle.std.specs.Str.{bytes_eq}
use Rattle.std.proofs.lemmas.Slice.Eq.{bytes_eq-Decides}
use Rattle.tree_specs.specs.declared.question.Ask.{Ask}
use Rattle.transcript_lines.specs.declared.heads.LineWord.{LineWord}
use Rattle.transcript_lines.specs.declared.heads.LineWord.TheVariants as line_words
use Rattle.transcript_lines.specs.declared.heads.ReplyWord.{ReplyWord}
use Rattle.transcript_lines.specs.declared.heads.ReplyWord.TheVariants as reply_words
use Rattle.transcript_lines.specs.declared.heads.OutsideWord.{OutsideWord}
use Rattle.transcript_lines.specs.declared.heads.OutsideWord.TheVariants as outside_words
use Rattle.transcript_lines.specs.declared.heads.EventWord.{EventWord}
use Rattle.transcript_lines.specs.declared.heads.EventWord.TheVariants as event_words
use Rattle.transcript_lines.specs.Lines.{Line, Form, read, refusal_form, reply_form, outside_form, event_form, line_form}
use Rattle.transcript_lines.specs.Heads.{line_word_text, line_end, reply_word_text, reply_end, outside_word_text, outside_end, event_word_text, event_end}

pub line_read : (head : LineWord) (more : List (List ℕ)) → read line_form (line_word_text head ∷ more) ≡ read (line_end head) more
line_read line_words.Reply more = refl
line_read _ more = refl

pub reply_read : (head : ReplyWord) (more : List (List ℕ)) → read reply_form (reply_word_text head ∷ more) ≡ read (reply_end head) more
reply_read reply_words.Ok more = refl
reply_read _ more = refl

pub outside_read : (head : OutsideWord) (line : Ask → Line) (other : Form) (more : List (List ℕ)) → read (outside_form line other) (outside_word_text head ∷ more) ≡ read (outside_end line head) more
outside_read outside_words.Clock line other more = refl
outside_read _ line other more = refl

pub event_read : (head : EventWord) (more : List (List ℕ)) → read event_form (event_word_text head ∷ more) ≡ read (event_end head) more
event_read event_words.Fired more = refl
event_read _ more = refl

-- a longer word is another
differs : (word other : List ℕ) → length other < length word → bytes_eq word other ≡ false
differs word other lt = by_test (bytes_eq word other) refl
  where
    by_test : (b : Bool) → bytes_eq word other ≡ b → b ≡ false
    by_test true e = (let same = ap length ((bytes_eq-Decides word other).0 e) in absurd (omega (arith, same, lt)))
    by_test false e = refl

-- the number of a reason has one digit or two
pub no_reason : (word : List ℕ) (more : List (List ℕ)) → 3 ≤ length word → read refusal_form (word ∷ more) ≡ None
no_reason word more long =
    rw (
      differs word (codes "1") (omega (arith, long)),
      differs word (codes "2") (omega (arith, long)),
      differs word (codes "3") (omega (arith, long)),
      differs word (codes "4") (omega (arith, long)),
      differs word (codes "5") (omega (arith, long)),
      differs word (codes "6") (omega (arith, long)),
      differs word (codes "7") (omega (arith, long)),
      differs word (codes "8") (omega (arith, long)),
      differs word (codes "9") (omega (arith, long)),
      differs word (codes "10") long,
      differs word (codes "11") long,
      differs word (codes "12") long,
      differs word (codes "13") long,
      differs word (codes "14") long,
      differs word (codes "15") long,
    )
    refl
