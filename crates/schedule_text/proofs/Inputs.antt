-- Inputs: their lines, both ways. A new kind of line adds a clause to each of the lemmas by cases.
use Rattle.std.proofs.Common.{◌≡◌, ◌≢◌, ℕ, Bool, true, List, [], ◌∷◌, ◌++◌, Option, Some, None, Result, Ok, Err, refl, sym, ap, ◌∙◌, codes, append-nil, append_assoc}
use Rattle.std.specs.Prelude.{IfOk}
use Rattle.std.specs.Fmt.{decimal}
use Rattle.hex.specs.Hex.{encode_lower}
use Rattle.std.specs.Option.{option_map}
use Rattle.std.proofs.lemmas.List.{append_cancel_right}
use Rattle.tree_specs.specs.declared.question.Act.TheVariants as acts
use Rattle.tree_specs.specs.declared.question.Input.{Input}
use Rattle.tree_specs.specs.declared.question.Input.TheVariants as inputs
use Rattle.tree_specs.specs.declared.schedule.Version.{Version}
use Rattle.tree_specs.specs.Calls.Spelling.{Numeral}
use Rattle.tree_specs.specs.Calls.Spelling.Numeral.{Number32, Positive32, Time, Length}
use Rattle.tree_specs.specs.Texts.Grammar.{◌>>=◌, strip, words, call_of, numeral_of, octets_of, alone, ready_input_of, input_of}
use Rattle.tree_specs.specs.Words.Ranges.{is_in, is_sound_call_in, is_sound_in, is_sound}
use Rattle.tree_specs.specs.Words.Octets.{is_octets}
use Rattle.tree_specs.specs.Words.Wants.{is_wants}
use Rattle.tree_specs.specs.Texts.Text.{call_text, input_text, wants_text, newline}
use Rattle.text_forms.specs.declared.form.FormFault.{FormFault}
use Rattle.text_forms.specs.declared.form.FormFault.TheVariants.{NoForm, Memory}
use Rattle.text_forms.specs.Reads.{Reads}
use Rattle.text_forms.specs.Bytes.{are_bytes}
use Rattle.text_forms.proofs.Bools.{and_true}
use Rattle.text_forms.proofs.Calls as calls
use Rattle.text_forms.proofs.Fields.{numeral_field}
use Rattle.text_forms.proofs.Hexadecimal.{octets_field}
use Rattle.schedule_text.specs.Wants.{spaced_list_of}
use Rattle.schedule_text.specs.Heard.{input_has_bytes}
use Rattle.schedule_text.proofs.Fronts.{HasFront, has_front, ◌either◌}
use Rattle.schedule_text.proofs.Wants.{are_small, list_again, list_spelled, ready_is}

-- ---- from an input to its line and back

-- an input's line, without its LF
abbrev pub line_of : Version → Input → List ℕ
line_of v (inputs.Call c) = codes "call " ++ call_text v c
line_of v (inputs.Act (acts.Do c)) = codes "act " ++ call_text v c
line_of v (inputs.Act (acts.Ret value)) = codes "ret " ++ decimal value
line_of v (inputs.Clock now) = codes "clock " ++ decimal now
line_of v (inputs.Ready wants) = codes "ready" ++ wants_text wants
line_of v (inputs.Took fd) = codes "took " ++ decimal fd
line_of v inputs.Again = codes "again"
line_of v inputs.Fault = codes "fault"
line_of v (inputs.Got bytes) = codes "got " ++ encode_lower bytes
line_of v inputs.End = codes "end"
line_of v (inputs.Wrote n) = codes "wrote " ++ decimal n

pub input_text-line : (v : Version) (i : Input) → input_text v i ≡ line_of v i ++ newline
unfolding input_text
input_text-line v (inputs.Call c) = sym (append_assoc (codes "call ") (call_text v c) newline)
input_text-line v (inputs.Act (acts.Do c)) = sym (append_assoc (codes "act ") (call_text v c) newline)
input_text-line v (inputs.Act (acts.Ret value)) = sym (append_assoc (codes "ret ") (decimal value) newline)
input_text-line v (inputs.Clock now) = sym (append_assoc (codes "clock ") (decimal now) newline)
input_text-line v (inputs.Ready wants) = sym (append_assoc (codes "ready") (wants_text wants) newline)
input_text-line v (inputs.Took fd) = sym (append_assoc (codes "took ") (decimal fd) newline)
input_text-line v (inputs.Got bytes) = sym (append_assoc (codes "got ") (encode_lower bytes) newline)
input_text-line v (inputs.Wrote n) = sym (append_assoc (codes "wrote ") (decimal n) newline)
input_text-line v _ = refl

pub input_again : (v : Version) (i : Input) → is_sound_in v i ≡ true → input_has_bytes i ≡ true → input_of v (line_of v i) ≡ Some i
unfolding input_of
input_again v (inputs.Call c) h has = rw (calls.call_again v c h has) refl
input_again v (inputs.Act (acts.Do c)) h has = rw (calls.call_again v c h has) refl
input_again v (inputs.Act (acts.Ret value)) h has = rw ((numeral_field Number32).again value h) refl
input_again v (inputs.Clock now) h has = rw ((numeral_field Time).again now h) refl
input_again v (inputs.Ready wants) h has = rw (ready_is (wants_text wants), list_again wants (are_small wants h) h) refl
input_again v (inputs.Took fd) h has = rw ((numeral_field Positive32).again fd h) refl
input_again v (inputs.Got bytes) h has = rw (octets_field.again bytes (rw (h, has) refl)) refl
input_again v (inputs.Wrote n) h has = rw ((numeral_field Length).again n h) refl
input_again v _ h has = refl

-- a line that has an input's text spells this input
pub input_back : (v : Version) (i : Input) → is_sound_in v i ≡ true → input_has_bytes i ≡ true → (line : List ℕ) → line ++ newline ≡ input_text v i → input_of v line ≡ Some i
input_back v i h has line e = ap (input_of v) (append_cancel_right line (line_of v i) newline (e ∙ input_text-line v i)) ∙ input_again v i h has

-- ---- from a line to an input and back

-- the input is sound, its bytes are bytes, and this is its line
pub record IsLine (v : Version) (line : List ℕ) (i : Input) : Type 0 where
  pub line_is : line ≡ line_of v i
  pub is_sound : is_sound_in v i ≡ true
  pub has : input_has_bytes i ≡ true

-- a line of this front, and then the spelling of a value
front_spelled : (v : Version) {A : Type 0} (front : List ℕ) (read : List ℕ → Option A) (spell : A → List ℕ) (is_sound_value : A → Bool) (make : A → Input) → ((text : List ℕ) (x : A) → read text ≡ Some x → (text ≡ spell x) × (is_sound_value x ≡ true)) → ((text : List ℕ) (x : A) → read text ≡ Some x → input_has_bytes (make x) ≡ true) → ((x : A) → line_of v (make x) ≡ front ++ spell x) → ((x : A) → is_sound_in v (make x) ≡ is_sound_value x) → (line : List ℕ) (i : Input) → (strip front line >>= (λ text. option_map make (read text))) ≡ Some i → IsLine v line i
front_spelled v {A} front read spell is_sound_value make spelled has line_is sound line i e = after_front (has_front front (λ text. option_map make (read text)) line i e)
  where
    by_cases : (text : List ℕ) (found : Option A) → read text ≡ found → option_map make found ≡ Some i → IsLine v (front ++ text) i
    by_cases text None was f = absurd cc
    by_cases text (Some x) was f =
        let same : make x ≡ i = cc in
        record {
          line_is = ap (λ l. front ++ l) (spelled text x was).0 ∙ sym (line_is x) ∙ ap (line_of v) same;
          is_sound = sym (ap (is_sound_in v) same) ∙ sound x ∙ (spelled text x was).1;
          has = sym (ap input_has_bytes same) ∙ has text x was;
        }

    after_front : HasFront front (λ text. option_map make (read text)) line i → IsLine v line i
    after_front found = rw found.line_is (by_cases found.rest (read found.rest) refl found.reads)

-- the same, where the value is a number in a range
numeral_spelled : (v : Version) (front : List ℕ) (kind : Numeral) (make : ℕ → Input) → ((n : ℕ) → input_has_bytes (make n) ≡ true) → ((n : ℕ) → line_of v (make n) ≡ front ++ decimal n) → ((n : ℕ) → is_sound_in v (make n) ≡ is_in kind n) → (line : List ℕ) (i : Input) → (strip front line >>= (λ text. option_map make (numeral_of kind text))) ≡ Some i → IsLine v line i
numeral_spelled v front kind make has = front_spelled v front (numeral_of kind) decimal (is_in kind) make (numeral_field kind).spelled (λ text n was. has n)

read_as : (found : Option (List ℕ)) → (found >>= ready_input_of) ≡ (found >>= λ text. option_map inputs.Ready (spaced_list_of (words text)))
read_as None = refl
read_as (Some text) = ready_is text

-- a line that is a word alone
alone_spelled : (v : Version) (input : Input) → is_sound_in v input ≡ true → input_has_bytes input ≡ true → (line : List ℕ) (i : Input) → (strip (line_of v input) line >>= alone input) ≡ Some i → IsLine v line i
alone_spelled v input sound has line i e = after_word (has_front (line_of v input) (alone input) line i e)
  where
    by_rest : (rest : List ℕ) → line ≡ line_of v input ++ rest → alone input rest ≡ Some i → IsLine v line i
    by_rest [] is f =
        let same : input ≡ i = cc in
        record { line_is = is ∙ append-nil (line_of v input) ∙ ap (line_of v) same; is_sound = sym (ap (is_sound_in v) same) ∙ sound; has = sym (ap input_has_bytes same) ∙ has }
    by_rest (b ∷ bs) is f = absurd cc

    after_word : HasFront (line_of v input) (alone input) line i → IsLine v line i
    after_word found = by_rest found.rest found.line_is found.reads

-- octets are sound where their spelling is read
sound_octets : (text bytes : List ℕ) → octets_of text ≡ Some bytes → (text ≡ encode_lower bytes) × (is_octets bytes ≡ true)
sound_octets text bytes e = let spelled = octets_field.spelled text bytes e in (spelled.0, (and_true (is_octets bytes) (are_bytes bytes) spelled.1).0)

octets_have_bytes : (text bytes : List ℕ) → octets_of text ≡ Some bytes → are_bytes bytes ≡ true
octets_have_bytes text bytes e = (and_true (is_octets bytes) (are_bytes bytes) (octets_field.spelled text bytes e).1).1

pub line_spelled : (v : Version) (line : List ℕ) (i : Input) → input_of v line ≡ Some i → IsLine v line i
unfolding input_of
line_spelled v line i e = (
    front_spelled v (codes "call ") (call_of v) (call_text v) (is_sound_call_in v) inputs.Call (calls.call_spelled v) (calls.call_has_bytes v) (λ c. refl) (λ c. refl) line i
    either front_spelled v (codes "act ") (call_of v) (call_text v) (is_sound_call_in v) (λ c. inputs.Act (acts.Do c)) (calls.call_spelled v) (calls.call_has_bytes v) (λ c. refl) (λ c. refl) line i
    either numeral_spelled v (codes "ret ") Number32 (λ value. inputs.Act (acts.Ret value)) (λ value. refl) (λ value. refl) (λ value. refl) line i
    either numeral_spelled v (codes "clock ") Time inputs.Clock (λ now. refl) (λ now. refl) (λ now. refl) line i
    either (λ r. front_spelled v (codes "ready") (λ text. spaced_list_of (words text)) wants_text is_wants inputs.Ready list_spelled (λ text wants was. refl) (λ wants. refl) (λ wants. refl) line i (sym (read_as (strip (codes "ready") line)) ∙ r))
    either numeral_spelled v (codes "took ") Positive32 inputs.Took (λ fd. refl) (λ fd. refl) (λ fd. refl) line i
    either alone_spelled v inputs.Again refl refl line i
    either alone_spelled v inputs.Fault refl refl line i
    either front_spelled v (codes "got ") octets_of encode_lower is_octets inputs.Got sound_octets octets_have_bytes (λ bytes. refl) (λ bytes. refl) line i
    either alone_spelled v inputs.End refl refl line i
    either numeral_spelled v (codes "wrote ") Length inputs.Wrote (λ n. refl) (λ n. refl) (λ n. refl) line i)
    e

-- ---- what reading a line answers

pub read_is_sound : (v : Version) (r : Result Input FormFault) (line : List ℕ) → Reads r (input_of v line) → IfOk r (λ i. is_sound_in v i ≡ true)
read_is_sound v (Ok i) line e = (line_spelled v line i e).is_sound
read_is_sound v (Err fault) line e = tt

pub sound_anyway : (v : Version) (i : Input) → is_sound_in v i ≡ true → is_sound i ≡ true
sound_anyway v (inputs.Call c) h = calls.sound_anyway v c h
sound_anyway v (inputs.Act (acts.Do c)) h = calls.sound_anyway v c h
sound_anyway v (inputs.Act (acts.Ret value)) h = h
sound_anyway v _ h = h

pub read_can_be_given : (v : Version) (r : Result Input FormFault) → IfOk r (λ i. is_sound_in v i ≡ true) → IfOk r (λ i. is_sound i ≡ true)
read_can_be_given v (Ok i) h = sound_anyway v i h
read_can_be_given v (Err fault) h = tt

pub read_is_spelled : (v : Version) (r : Result Input FormFault) (line : List ℕ) → Reads r (input_of v line) → IfOk r (λ i. line ++ newline ≡ input_text v i)
read_is_spelled v (Ok i) line e = ap (λ l. l ++ newline) (line_spelled v line i e).line_is ∙ sym (input_text-line v i)
read_is_spelled v (Err fault) line e = tt

pub unread_is_none : (v : Version) (r : Result Input FormFault) (line : List ℕ) → Reads r (input_of v line) → r ≡ Err NoForm → (i : Input) → is_sound_in v i ≡ true → input_has_bytes i ≡ true → line ++ newline ≢ input_text v i
unread_is_none v (Ok i) line e was = absurd cc
unread_is_none v (Err Memory) line e was = absurd cc
unread_is_none v (Err NoForm) line e was = λ i h has same. none_some i (sym e ∙ ap (input_of v) (append_cancel_right line (line_of v i) newline (same ∙ input_text-line v i)) ∙ input_again v i h has)
  where
    none_some : (i : Input) → None ≡ Some i → ⊥
    none_some i f = absurd cc
