-- Lines and their texts: a line is read from its text, and from no other.
use Rattle.std.proofs.Common.{◌≡◌, ℕ, Bool, true, false, cond, ◌&&◌, List, [], ◌∷◌, Some, None, refl, sym, ap, ◌∙◌, codes}
use Rattle.std.specs.List.{list_all}
use Rattle.std.specs.Fmt.{decimal}
use Rattle.std.specs.Str.{bytes_eq}
use Rattle.std.proofs.lemmas.Slice.Eq.{bytes_eq-Decides}
use Rattle.tree_specs.specs.declared.schedule.Version.TheVariants.{Two}
use Rattle.tree_specs.specs.declared.object.Obj.{Obj}
use Rattle.tree_specs.specs.declared.object.Owner.{Owner}
use Rattle.tree_specs.specs.declared.moment.What.{What}
use Rattle.tree_specs.specs.declared.moment.What.TheVariants as whats
use Rattle.tree_specs.specs.declared.report.RowKind.{RowKind}
use Rattle.tree_specs.specs.declared.report.RowKind.TheVariants as row_kinds
use Rattle.tree_specs.specs.declared.reply.Refusal.{Refusal}
use Rattle.tree_specs.specs.declared.reply.Refusal.TheVariants.{Spent}
use Rattle.tree_specs.specs.declared.reply.Reply.{Reply}
use Rattle.tree_specs.specs.declared.reply.Reply.TheVariants as replies
use Rattle.tree_specs.specs.declared.event.Event.{Event}
use Rattle.tree_specs.specs.declared.event.Event.TheVariants as events
use Rattle.tree_specs.specs.declared.question.Ask.{Ask}
use Rattle.tree_specs.specs.declared.question.Ask.TheVariants as asks
use Rattle.tree_specs.specs.Calls.Spelling.{Field}
use Rattle.tree_specs.specs.Calls.Spelling.Numeral.{Number, Number32}
use Rattle.tree_specs.specs.Calls.Spelling.Field.{AnOwner, AnObject, ANumeral, AName, SomeBytes, TheContext}
use Rattle.tree_specs.specs.Texts.Grammar.{number_of, words}
use Rattle.tree_specs.specs.Texts.Text.{field_text, what_text, row_kind_text}
use Rattle.tree_specs.specs.Words.Names.{is_name}
use Rattle.tree_specs.specs.Words.Ranges.{is_number, is_in, is_sound_owner}
use Rattle.text_forms.proofs.Bools.{and_true}
use Rattle.text_forms.proofs.Fields.{number_field, numeral_field, owner_field, object_field, name_field}
use Rattle.text_forms.proofs.Hexadecimal.{octets_field}
use Rattle.text_forms.proofs.Words.{lacks, is_unspaced, joined, words-joined, joined-words}
use Rattle.transcript_lines.specs.Lines.{Line, Form, read, Part, part_text, words_of, is_sound_part, parts_of, line_text, is_sound_line, is_line, plain_ask, plain, line_form, line_of, a_what, a_row_kind, moment_form, row_end, row_form, refusal_form, number_end, reply_form, outside_form, ask_form, end_form, fired_end, object, number, small_number, refusal_parts, reply_parts, event_parts, ask_parts}
use Rattle.transcript_lines.specs.Lines.Line.{Row, Rows, Tells, Asks, Ends}
use Rattle.transcript_lines.specs.Lines.Form.{Fails, Done, IfWord, MayEnd, TakesNumeral, TakesObject, TakesOwner, EndsInName, EndsInBytes}
use Rattle.transcript_lines.specs.Lines.Part.{AWord, AField}
use Rattle.transcript_lines.proofs.Parts.{feed, same_kind, same_kind_is, fed_where, fed_unless, all_fit, read_again, IsTable, is_fed}

-- ---- each line that a form makes has the parts that it is made of

-- whatever the form makes of parts, these and what stands before them are the parts of the line
abbrev Spells : Form → (List Part → List Part) → Type 0
Spells Fails so = Unit {0}
Spells (Done line) so = (parts_of line ≡ so []) × (is_line line ≡ true)
Spells (IfWord word next other) so = Spells next (λ ps. so (AWord word ∷ ps)) × Spells other so
Spells (MayEnd line next) so = ((parts_of line ≡ so []) × (is_line line ≡ true)) × Spells next so
Spells (TakesNumeral kind next) so = (n : ℕ) → Spells (next n) (λ ps. so (AField (ANumeral kind n) ∷ ps))
Spells (TakesObject next) so = (x : Obj) → Spells (next x) (λ ps. so (AField (AnObject x) ∷ ps))
Spells (TakesOwner next) so = (o : Owner) → Spells (next o) (λ ps. so (AField (AnOwner o) ∷ ps))
Spells (EndsInName line) so = (name : List ℕ) → (parts_of (line name) ≡ so (AField (AName name) ∷ [])) × (is_line (line name) ≡ true)
Spells (EndsInBytes line) so = (bytes : List ℕ) → (parts_of (line bytes) ≡ so (AField (SomeBytes bytes) ∷ [])) × (is_line (line bytes) ≡ true)

spelled_so : (form : Form) (so : List Part → List Part) (ps : List Part) (l : Line) → Spells form so → feed form ps ≡ Some l → (parts_of l ≡ so ps) × (is_line l ≡ true)
unfolding feed
spelled_so (Done line) so [] l h e = let same : line ≡ l = cc in (sym (ap parts_of same) ∙ h.0, sym (ap is_line same) ∙ h.1)
spelled_so (IfWord word next other) so (AWord w ∷ ps) l h e = by_test (bytes_eq w word) refl e (spelled_so next (λ ps. so (AWord word ∷ ps)) ps l h.0) (spelled_so other so (AWord w ∷ ps) l h.1)
  where
    by_test : (b : Bool) → bytes_eq w word ≡ b → cond b (feed next ps) (feed other (AWord w ∷ ps)) ≡ Some l → (feed next ps ≡ Some l → (parts_of l ≡ so (AWord word ∷ ps)) × (is_line l ≡ true))
        → (feed other (AWord w ∷ ps) ≡ Some l → (parts_of l ≡ so (AWord w ∷ ps)) × (is_line l ≡ true)) → (parts_of l ≡ so (AWord w ∷ ps)) × (is_line l ≡ true)
    by_test true is e yes_it no_it = let y = yes_it e in (y.0 ∙ ap (λ (v : List ℕ). so (AWord v ∷ ps)) (sym ((bytes_eq-Decides w word).0 is)), y.1)
    by_test false is e yes_it no_it = no_it e
spelled_so (IfWord word next other) so (AField f ∷ ps) l h e = spelled_so other so (AField f ∷ ps) l h.1 (fed_unless (bytes_eq (field_text f) word) (feed other (AField f ∷ ps)) l e).1
spelled_so (MayEnd line next) so [] l h e = let same : line ≡ l = cc in (sym (ap parts_of same) ∙ h.0.0, sym (ap is_line same) ∙ h.0.1)
spelled_so (MayEnd line next) so (p ∷ ps) l h e = spelled_so next so (p ∷ ps) l h.1 e
spelled_so (TakesNumeral kind next) so (AField (ANumeral other n) ∷ ps) l h e =
    let same = fed_where (same_kind kind other) (feed (next n) ps) l e in
    let r = spelled_so (next n) (λ ps. so (AField (ANumeral kind n) ∷ ps)) ps l (h n) same.1 in
    (r.0 ∙ ap (λ k. so (AField (ANumeral k n) ∷ ps)) (same_kind_is kind other same.0), r.1)
spelled_so (TakesObject next) so (AField (AnObject x) ∷ ps) l h e = spelled_so (next x) (λ ps. so (AField (AnObject x) ∷ ps)) ps l (h x) e
spelled_so (TakesOwner next) so (AField (AnOwner o) ∷ ps) l h e = spelled_so (next o) (λ ps. so (AField (AnOwner o) ∷ ps)) ps l (h o) e
spelled_so (EndsInName line) so (AField (AName name) ∷ []) l h e = let same : line name ≡ l = cc in (sym (ap parts_of same) ∙ (h name).0, sym (ap is_line same) ∙ (h name).1)
spelled_so (EndsInBytes line) so (AField (SomeBytes bytes) ∷ []) l h e = let same : line bytes ≡ l = cc in (sym (ap parts_of same) ∙ (h bytes).0, sym (ap is_line same) ∙ (h bytes).1)
spelled_so _ so ps l h e = absurd cc

is_table : IsTable line_form
is_table = search tt depth 40

infixr 4 ◌also◌
◌also◌ : {P Q : Type 0} → P → Q → P × Q
p also q = (p, q)

spells_what : (next : What → Form) (other : Form) (so : List Part → List Part) → ((what : What) → Spells (next what) (λ ps. so (AWord (what_text what) ∷ ps))) → Spells other so → Spells (a_what next other) so
unfolding what_text
spells_what next other so each last = each whats.Hook also each whats.Timer also each whats.Immediate also each whats.Descriptor also each whats.Callback also each whats.Cleanup also each whats.Cancel also each whats.Trigger also last

spells_kind : (next : RowKind → Form) (so : List Part → List Part) → ((kind : RowKind) → Spells (next kind) (λ ps. so (AWord (row_kind_text kind) ∷ ps))) → Spells (a_row_kind next) so
unfolding row_kind_text
spells_kind next so each = each row_kinds.Root also each row_kinds.Plain also each row_kinds.Reference also each row_kinds.Timer also each row_kinds.Immediate also each row_kinds.Fd also each row_kinds.Request also each row_kinds.Queue also each row_kinds.Entry also each row_kinds.Context also tt

row_spells : Spells row_form (λ ps. AWord (codes "row") ∷ ps)
row_spells = λ depth id. spells_kind (row_end depth id) (λ ps. AWord (codes "row") ∷ AField (ANumeral Number32 depth) ∷ AField (ANumeral Number id) ∷ ps) (λ kind. λ size refs target name. (refl, refl))

fired_spells : Spells (a_what fired_end Fails) (λ ps. AWord (codes "fired") ∷ ps)
fired_spells = spells_what fired_end Fails (λ ps. AWord (codes "fired") ∷ ps) (λ what. λ x routine. (refl, refl)) tt

asks_spell : Spells (ask_form Asks Fails) (λ ps. AWord (codes "ask") ∷ ps)
asks_spell = spells_what (moment_form Asks) (outside_form Asks Fails) (λ ps. AWord (codes "ask") ∷ ps) (λ what. λ x routine user now flags step. (refl, refl)) (search tt depth 20)

ends_spell : Spells end_form (λ ps. AWord (codes "end") ∷ ps)
ends_spell = spells_what (moment_form Ends) (outside_form Ends (IfWord (codes "quiet") (Done (Ends asks.Quiet)) Fails)) (λ ps. AWord (codes "end") ∷ ps) (λ what. λ x routine user now flags step. (refl, refl)) (search tt depth 20)

refusal_spells : Spells refusal_form (λ ps. AWord (codes "reply") ∷ AWord (codes "no") ∷ ps)
refusal_spells = search tt depth 40

reply_spells : Spells reply_form (λ ps. AWord (codes "reply") ∷ ps)
reply_spells = search refusal_spells depth 20

all_spell : Spells line_form (λ ps. ps)
all_spell =
    reply_spells also (λ x hook. (refl, refl)) also asks_spell also row_spells also fired_spells also (λ reference target. (refl, refl)) also (λ x. (refl, refl)) also (λ x answer. (refl, refl))
    also (λ x o. (refl, refl)) also (λ x. (refl, refl)) also (λ fd. (refl, refl)) also (λ x state. (refl, refl)) also ends_spell also tt

-- the line is sound, and these are its words
pub record IsSpelling (ws : List (List ℕ)) (l : Line) : Type 0 where
  pub words_are : ws ≡ words_of (parts_of l)
  pub is_sound : is_sound_line l ≡ true
  pub is_line : is_line l ≡ true

words_spelled : (ws : List (List ℕ)) (l : Line) → read line_form ws ≡ Some l → IsSpelling ws l
words_spelled ws l e =
    let f = is_fed line_form is_table ws l e in
    let so = spelled_so line_form (λ ps. ps) f.parts l all_spell f.made in
    record { words_are = f.words_are ∙ ap words_of (sym so.0); is_sound = ap all_fit so.0 ∙ f.fit; is_line = so.1 }

pub line_spelled : (text : List ℕ) (l : Line) → line_of text ≡ Some l → (text ≡ line_text l) × (is_sound_line l ≡ true) × (is_line l ≡ true)
unfolding line_of
line_spelled text l e =
    let s = words_spelled (words text) l e in
    (sym (joined-words text) ∙ ap joined s.words_are, s.is_sound, s.is_line)

-- ---- the form makes each line of its parts

-- a number's text is no word that is no number
no_word : (n : ℕ) (word : List ℕ) → is_number n ≡ true → number_of word ≡ None → bytes_eq (decimal n) word ≡ false
no_word n word h none = by_test (bytes_eq (decimal n) word) refl
  where
    apart : number_of (decimal n) ≡ Some n → decimal n ≡ word → ⊥
    apart again same = let bad : Some n ≡ None = sym again ∙ ap number_of same ∙ none in absurd cc

    by_test : (b : Bool) → bytes_eq (decimal n) word ≡ b → b ≡ false
    by_test true e = absurd (apart (number_field.again n h) ((bytes_eq-Decides (decimal n) word).0 e))
    by_test false e = refl

feed_what : (what : What) (next : What → Form) (other : Form) (ps : List Part) → feed (a_what next other) (AWord (what_text what) ∷ ps) ≡ feed (next what) ps
unfolding feed what_text
feed_what whats.Hook next other ps = refl
feed_what _ next other ps = refl

feed_kind : (kind : RowKind) (next : RowKind → Form) (ps : List Part) → feed (a_row_kind next) (AWord (row_kind_text kind) ∷ ps) ≡ feed (next kind) ps
unfolding feed row_kind_text
feed_kind row_kinds.Root next ps = refl
feed_kind _ next ps = refl

fed_ask : (line : Ask → Line) (other : Form) (q : Ask) → (asks.Quiet ≡ q → feed (ask_form line other) (ask_parts q) ≡ Some (line q)) → feed (ask_form line other) (ask_parts q) ≡ Some (line (plain_ask q))
unfolding feed
fed_ask line other (asks.Routine m) quiet = feed_what m.what (moment_form line) (outside_form line other) (object m.object ∷ small_number m.routine ∷ number m.user ∷ number m.now ∷ small_number m.flags ∷ small_number m.step ∷ [])
fed_ask line other asks.Quiet quiet = quiet refl
fed_ask line other _ quiet = refl

-- what stands behind a first number is for the form of a second one
fed_numbers : (n : ℕ) (more : List Part) → is_number n ≡ true → feed reply_form (number n ∷ more) ≡ feed (number_end n) more
unfolding feed number_of
fed_numbers n more h =
    rw (
      no_word n (codes "ok") h refl,
      no_word n (codes "no") h refl,
      no_word n (codes "rows") h refl,
      no_word n (codes "got") h refl,
      no_word n (codes "again") h refl,
      no_word n (codes "fault") h refl,
      no_word n (codes "end") h refl,
    )
    refl

fed_refusal : (why : Refusal) → feed refusal_form (refusal_parts why) ≡ Some (Tells (events.Replied (replies.No why)))
unfolding feed
fed_refusal Spent = refl
fed_refusal _ = refl

fed : (l : Line) → is_sound_line l ≡ true → is_line l ≡ true → feed line_form (parts_of l) ≡ Some (plain l)
unfolding feed
fed (Row r) sound h = feed_kind r.kind (row_end r.depth r.id) (number r.size ∷ small_number r.refs ∷ number r.target ∷ AField (AName r.name) ∷ [])
fed (Asks q) sound h = fed_ask Asks Fails q (λ quiet. absurd (answered q quiet h))
  where
    answered : (q : Ask) → asks.Quiet ≡ q → is_line (Asks q) ≡ true → ⊥
    answered q e h = let bad : is_line (Asks asks.Quiet) ≡ true = ap (λ p. is_line (Asks p)) e ∙ h in absurd cc
fed (Ends q) sound h = fed_ask Ends (IfWord (codes "quiet") (Done (Ends asks.Quiet)) Fails) q open_one
  where
    open_one : asks.Quiet ≡ q → feed (ask_form Ends (IfWord (codes "quiet") (Done (Ends asks.Quiet)) Fails)) (ask_parts q) ≡ Some (Ends q)
    open_one e = rw (sym e) refl
fed (Tells (events.Replied (replies.Number n))) sound h = fed_numbers n [] (number_fits n sound)
  where
    number_fits : (n : ℕ) → ((is_number n && true) && true) ≡ true → is_number n ≡ true
    number_fits n s = (and_true (is_number n) true (and_true (is_number n && true) true s).0).0
fed (Tells (events.Replied (replies.Pair n m))) sound h = fed_numbers n (number m ∷ []) (first_fits n m sound)
  where
    first_fits : (n m : ℕ) → ((is_number n && true) && ((is_number m && true) && true)) ≡ true → is_number n ≡ true
    first_fits n m s = (and_true (is_number n) true (and_true (is_number n && true) ((is_number m && true) && true) s).0).0
fed (Tells (events.Replied (replies.No why))) sound h = fed_refusal why
fed (Tells (events.Replied (replies.Rows rows))) sound h = absurd cc
fed (Tells (events.Fired what x routine)) sound h = feed_what what fired_end Fails (object x ∷ small_number routine ∷ [])
fed _ sound h = refl

-- ---- the words of a line

-- no word has a space or an LF in it
abbrev pub is_bare : List ℕ → Bool
is_bare word = is_unspaced word && lacks 10 word

abbrev pub word_ok : Part → Bool
word_ok (AWord word) = is_bare word
word_ok (AField f) = true

what_ok : (what : What) → is_bare (what_text what) ≡ true
unfolding what_text
what_ok whats.Hook = refl
what_ok _ = refl

kind_ok : (kind : RowKind) → is_bare (row_kind_text kind) ≡ true
unfolding row_kind_text
kind_ok row_kinds.Root = refl
kind_ok _ = refl

refusal_ok : (why : Refusal) → list_all word_ok (refusal_parts why) ≡ true
refusal_ok Spent = refl
refusal_ok _ = refl

reply_ok : (reply : Reply) → list_all word_ok (reply_parts reply) ≡ true
reply_ok (replies.No why) = refusal_ok why
reply_ok _ = refl

event_ok : (e : Event) → list_all word_ok (event_parts e) ≡ true
event_ok (events.Replied reply) = reply_ok reply
event_ok (events.Fired what x routine) = rw (what_ok what) refl
event_ok _ = refl

ask_ok : (q : Ask) → list_all word_ok (ask_parts q) ≡ true
ask_ok (asks.Routine m) = rw (what_ok m.what) refl
ask_ok _ = refl

pub words_ok : (l : Line) → list_all word_ok (parts_of l) ≡ true
words_ok (Row r) = rw (kind_ok r.kind) refl
words_ok (Tells e) = event_ok e
words_ok (Asks q) = ask_ok q
words_ok (Ends q) = ask_ok q
words_ok (Rows n) = refl

field_is_word : (f : Field) → is_sound_part (AField f) ≡ true → is_unspaced (field_text f) ≡ true
field_is_word (AnOwner o) h = owner_field.is_word o (and_true (is_sound_owner o) true h).0
field_is_word (AnObject x) h = object_field.is_word x (and_true (is_number x.0) true h).0
field_is_word (ANumeral kind n) h = (numeral_field kind).is_word n (and_true (is_in kind n) true h).0
field_is_word (AName name) h = (name_field Two).is_word name (and_true (is_name name) true h).0
field_is_word (SomeBytes bytes) h = octets_field.is_word bytes h
field_is_word (TheContext c) h = object_field.is_word c (and_true (is_number c.0) true h).0

all_words : (ps : List Part) → all_fit ps ≡ true → list_all word_ok ps ≡ true → list_all is_unspaced (words_of ps) ≡ true
all_words [] h w = refl
all_words (AWord word ∷ ps) h w = let parts = and_true (is_bare word) (list_all word_ok ps) w in rw ((and_true (is_unspaced word) (lacks 10 word) parts.0).0, all_words ps h parts.1) refl
all_words (AField f ∷ ps) h w = let parts = and_true (is_sound_part (AField f)) (all_fit ps) h in rw (field_is_word f parts.0, all_words ps parts.1 w) refl

words_of_line : (ps : List Part) → list_all is_unspaced (words_of ps) ≡ true → ([] ≡ ps → ⊥) → words (joined (words_of ps)) ≡ words_of ps
words_of_line [] h some = absurd (some refl)
words_of_line (p ∷ ps) h some = words-joined (part_text p) (words_of ps) h

some_parts : (l : Line) → [] ≡ parts_of l → ⊥
some_parts (Tells (events.Replied reply)) e = absurd cc
some_parts (Tells (events.Fired what x routine)) e = absurd cc
some_parts _ e = absurd cc

-- a sound line is read from its text
pub line_again : (l : Line) → is_sound_line l ≡ true → is_line l ≡ true → line_of (line_text l) ≡ Some (plain l)
unfolding line_of
line_again l sound h =
    rw (words_of_line (parts_of l) (all_words (parts_of l) sound (words_ok l)) (some_parts l))
    (read_again line_form (parts_of l) (plain l) sound (fed l sound h))
