-- The grammar of numbers, names, calls and schedule lines, in each version: the value that a text spells, or none.
use Rattle.std.specs.Prelude.{ℕ, ◌^◌, Bool, true, false, ◌==◌, ◌&&◌, not, nat_lt, if◌then◌else◌, List, [], ◌∷◌, Option, Some, None, Result, Ok, Err, codes}
use Rattle.std.specs.List.{slice_split}
use Rattle.std.specs.Option.{option_map}
use Rattle.std.specs.Str.{all_ascii_digits, bytes_eq}
use Rattle.std.specs.Str.Parse.{digits_value}
use Rattle.hex.specs.Hex.{encode_lower, decode_of}
use Rattle.hex.specs.declared.error.FromHexError.{FromHexError}
use Rattle.tree_specs.specs.declared.object.Obj.{Obj}
use Rattle.tree_specs.specs.declared.object.Owner.{Owner}
use Rattle.tree_specs.specs.declared.call.Call.{Call}
use Rattle.tree_specs.specs.declared.question.Act.TheVariants as acts
use Rattle.tree_specs.specs.declared.question.Input.{Input}
use Rattle.tree_specs.specs.declared.question.Input.TheVariants as inputs
use Rattle.tree_specs.specs.declared.wants.Want.{Want}
use Rattle.tree_specs.specs.declared.schedule.Version.{Version}
use Rattle.tree_specs.specs.declared.schedule.Version.TheVariants.{One, Two}
use Rattle.tree_specs.specs.Words.Names.{is_name_in}
use Rattle.tree_specs.specs.Words.Octets.{is_octets}
use Rattle.tree_specs.specs.Calls.Spelling.{Numeral, Reading, Form, forms}
use Rattle.tree_specs.specs.Calls.Spelling.Numeral.{Number32, Positive32, Time, Length}
use Rattle.tree_specs.specs.Calls.Spelling.Reading.{NoMore, TakesOwner, TakesObject, TakesNumeral, EndsInName, EndsInBytes, EndsInContext}
use Rattle.tree_specs.specs.Words.Objects.{numbered_owner, first_context}
use Rattle.tree_specs.specs.Words.Ranges.{is_in}
use Rattle.tree_specs.specs.Words.Wants.{is_wants}

infixl 10 ◌>>=◌
abbrev pub ◌>>=◌ : {A B : Type 0} → Option A → (A → Option B) → Option B
None >>= f = None
(Some x) >>= f = f x

-- there is a digit, and no zero before others
abbrev pub is_short : List ℕ → Bool
is_short [] = false
is_short (d ∷ []) = true
is_short (d ∷ e ∷ ds) = not (d == 48)

-- decimal digits of a number below 2 ^ 64, with no leading zero
abbrev pub is_decimal : List ℕ → Bool
is_decimal ds = is_short ds && (all_ascii_digits ds && nat_lt (digits_value 10 ds) (2 ^ 64))

unfoldable pub number_of : List ℕ → Option ℕ
number_of ds = if is_decimal ds then Some (digits_value 10 ds) else None

-- a number in its range
unfoldable pub numeral_of : Numeral → List ℕ → Option ℕ
numeral_of kind ds = do
  n ← number_of ds
  if is_in kind n then Some n else None

unfoldable pub owner_of : List ℕ → Option Owner
owner_of text = do
  n ← number_of text
  Some (numbered_owner n)

unfoldable pub object_of : List ℕ → Option Obj
object_of text = do
  n ← number_of text
  Some (record { 0 = n })

unfoldable pub name_of : Version → List ℕ → Option (List ℕ)
name_of v text = if is_name_in v text then Some text else None

-- these bytes, where this is their one spelling
abbrev pub if_spelled : List ℕ → Result (List ℕ) FromHexError → Option (List ℕ)
if_spelled text (Ok bytes) = if bytes_eq (encode_lower bytes) text && is_octets bytes then Some bytes else None
if_spelled text (Err e) = None

-- bytes in hexadecimal, in lower case
unfoldable pub octets_of : List ℕ → Option (List ℕ)
octets_of text = if_spelled text (decode_of text)

-- the words between single spaces
abbrev pub words : List ℕ → List (List ℕ)
words text = slice_split (λ b. b == 32) text

-- ---- calls

infix 11 ◌leaving◌
-- a value that was read, where there is one, and the words that it left
abbrev pub ◌leaving◌ : {A : Type 0} → Option A → List (List ℕ) → Option (A × List (List ℕ))
value leaving words = do
  x ← value
  Some (x, words)

-- the first word, read as a field, and the words after it
abbrev pub field : {A : Type 0} → (List ℕ → Option A) → List (List ℕ) → Option (A × List (List ℕ))
field reader [] = None
field reader (word ∷ more) = reader word leaving more

-- the first word, read as a field, where no word comes after it
abbrev pub last_field : {A : Type 0} → (List ℕ → Option A) → List (List ℕ) → Option (A × List (List ℕ))
last_field reader (word ∷ []) = field reader (word ∷ [])
last_field reader _ = None

-- the first word, read as a field, and what is read then, which depends on the field's value
abbrev pub with_field : {A B : Type 0} → (List ℕ → Option A) → List (List ℕ) → (A → List (List ℕ) → Option B) → Option B
with_field reader words next = do
  first ← field reader words
  next first.0 first.1

-- the context that a call says last; in version 1 none is said, and it is the first one
abbrev pub context_at : Version → List (List ℕ) → Option (Obj × List (List ℕ))
context_at One words = Some (first_context, words)
context_at Two words = field object_of words

-- the call that the words begin with, by what it takes, and the words that it leaves; a name is the last word, and so are bytes
abbrev pub taken : Version → Reading → List (List ℕ) → Option (Call × List (List ℕ))
taken v (NoMore call) words = Some (call, words)
taken v (TakesOwner next) words = with_field owner_of words (λ owner more. taken v (next owner) more)
taken v (TakesObject next) words = with_field object_of words (λ x more. taken v (next x) more)
taken v (TakesNumeral kind next) words = with_field (numeral_of kind) words (λ n more. taken v (next n) more)
taken v (EndsInName call) words = do
  name ← last_field (name_of v) words
  Some (call name.0, name.1)
taken v (EndsInBytes call) words = do
  bytes ← last_field octets_of words
  Some (call bytes.0, bytes.1)
taken v (EndsInContext call) words = do
  context ← context_at v words
  Some (call context.0, context.1)

-- what was read, where no word is left
abbrev pub ended : {A : Type 0} → A × List (List ℕ) → Option A
ended (x, []) = Some x
ended (x, word ∷ more) = None

-- the call that all the words spell
abbrev pub read : Version → Reading → List (List ℕ) → Option Call
read v reading words = do
  call ← taken v reading words
  ended call

-- the first form with this verb
abbrev pub form_in : List Form → List ℕ → Option Reading
form_in [] verb = None
form_in (f ∷ fs) verb = if bytes_eq verb f.verb then Some f.reading else form_in fs verb

-- a verb and its fields
unfoldable pub call_of_words : Version → List (List ℕ) → Option Call
call_of_words v [] = None
call_of_words v (verb ∷ fields) = do
  reading ← form_in (forms v) verb
  read v reading fields

unfoldable pub call_of : Version → List ℕ → Option Call
call_of v text = call_of_words v (words text)

-- ---- schedule lines

-- what follows this front
abbrev pub strip : List ℕ → List ℕ → Option (List ℕ)
strip [] text = Some text
strip (p ∷ ps) [] = None
strip (p ∷ ps) (x ∷ xs) = if x == p then strip ps xs else None

abbrev pub call_input_of : Version → List ℕ → Option Input
call_input_of v text = option_map inputs.Call (call_of v text)

abbrev pub act_input_of : Version → List ℕ → Option Input
act_input_of v text = option_map (λ c. inputs.Act (acts.Do c)) (call_of v text)

abbrev pub return_input_of : List ℕ → Option Input
return_input_of text = option_map (λ v. inputs.Act (acts.Ret v)) (numeral_of Number32 text)

abbrev pub clock_input_of : List ℕ → Option Input
clock_input_of text = option_map inputs.Clock (numeral_of Time text)

-- a descriptor and its flags
abbrev pub want_of_parts : List (List ℕ) → Option Want
want_of_parts (fd ∷ flags ∷ []) = do
  f ← numeral_of Number32 fd
  n ← numeral_of Number32 flags
  Some (record { fd = f; flags = n })
want_of_parts parts = None

abbrev pub want_of : List ℕ → Option Want
want_of word = want_of_parts (slice_split (λ b. b == 58) word)

abbrev pub wants_of : List (List ℕ) → Option (List Want)
wants_of [] = Some []
wants_of (word ∷ more) = do
  want ← want_of word
  wants ← wants_of more
  Some (want ∷ wants)

-- a space comes before each descriptor
abbrev pub ready_of_words : List (List ℕ) → Option Input
ready_of_words ([] ∷ more) = do
  wants ← wants_of more
  if is_wants wants then Some (inputs.Ready wants) else None
ready_of_words words = None

abbrev pub ready_input_of : List ℕ → Option Input
ready_input_of text = ready_of_words (words text)

abbrev pub took_input_of : List ℕ → Option Input
took_input_of text = option_map inputs.Took (numeral_of Positive32 text)

abbrev pub got_input_of : List ℕ → Option Input
got_input_of text = option_map inputs.Got (octets_of text)

abbrev pub wrote_input_of : List ℕ → Option Input
wrote_input_of text = option_map inputs.Wrote (numeral_of Length text)

-- a word with nothing behind it
abbrev pub alone : Input → List ℕ → Option Input
alone input [] = Some input
alone input (x ∷ xs) = None

infixl 9 ◌or◌
-- the first that there is
abbrev pub ◌or◌ : {A : Type 0} → Option A → Option A → Option A
None or o = o
(Some x) or o = Some x

-- the input that a line spells, without its LF
unfoldable pub input_of : Version → List ℕ → Option Input
input_of v line =
    (strip (codes "call ") line >>= call_input_of v)
    or (strip (codes "act ") line >>= act_input_of v)
    or (strip (codes "ret ") line >>= return_input_of)
    or (strip (codes "clock ") line >>= clock_input_of)
    or (strip (codes "ready") line >>= ready_input_of)
    or (strip (codes "took ") line >>= took_input_of)
    or (strip (codes "again") line >>= alone inputs.Again)
    or (strip (codes "fault") line >>= alone inputs.Fault)
    or (strip (codes "got ") line >>= got_input_of)
    or (strip (codes "end") line >>= alone inputs.End)
    or (strip (codes "wrote ") line >>= wrote_input_of)
