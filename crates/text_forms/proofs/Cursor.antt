-- Fields that are read from the front of a text.
use Rattle.std.proofs.Common.{◌≡◌, ℕ, Bool, true, false, eqb, cond, ◌&&◌, List, [], ◌∷◌, ◌++◌, ◌≤◌, ◌-◌, length, get_or, take, drop, Option, Some, None, Result, Ok, Err, refl, sym, ap, ◌∙◌, arith}
use Rattle.std.specs.Char.{is_ascii_digit}
use Rattle.std.specs.List.{onto_first}
use Rattle.std.specs.Str.{all_ascii_digits}
use Rattle.tree_specs.specs.declared.schedule.Version.{Version}
use Rattle.tree_specs.specs.Texts.Grammar.{◌>>=◌, is_short, number_of, name_of, octets_of, words, ◌leaving◌, field, last_field}
use Rattle.text_forms.specs.declared.form.FormFault.{FormFault}
use Rattle.text_forms.specs.declared.form.FormFault.TheVariants.{NoForm, Memory}
use Rattle.text_forms.specs.Cursor.{digit_count, digits_at, number_at, Takes}
use Rattle.text_forms.specs.Reads.{Reads}
use Rattle.std.proofs.lemmas.Bool.{eqb-true}
use Rattle.std.proofs.lemmas.List.{append-nil, take_rest}
use Rattle.text_forms.proofs.Bools.{and_true, not_true}
use Rattle.text_forms.proofs.Digits.{are_digits, ends_otherwise, digits-and-rest, StartsOtherwise}
use Rattle.text_forms.proofs.Fields.{IsField, digit_is_unspaced, digits_are_unspaced, name_field}
use Rattle.text_forms.proofs.Hexadecimal.{octets_field}
use Rattle.text_forms.proofs.Words.{is_unspaced, words_one, words_more, joined-words, joined}

and_false : (a : Bool) → (a && false) ≡ false
and_false true = refl
and_false false = refl

-- what isn't all digits is no number
no_number : (word : List ℕ) → all_ascii_digits word ≡ false → number_of word ≡ None
unfolding number_of
no_number word h = rw (h, and_false (is_short word)) refl

-- the first word isn't all digits
abbrev IsOtherwise : List (List ℕ) → Type 0
IsOtherwise [] = ⊥
IsOtherwise (word ∷ more) = all_ascii_digits word ≡ false

otherwise_first : (b : ℕ) (parts : List (List ℕ)) → is_ascii_digit b ≡ false → IsOtherwise (onto_first b parts)
otherwise_first b [] h = rw h refl
otherwise_first b (part ∷ parts) h = rw h refl

otherwise_later : (d : ℕ) (parts : List (List ℕ)) → IsOtherwise parts → IsOtherwise (onto_first d parts)
otherwise_later d [] h = absurd h
otherwise_later d (part ∷ parts) h = rw h (and_false (is_ascii_digit d))

otherwise_words : (ds : List ℕ) (b : ℕ) (rest : List ℕ) → all_ascii_digits ds ≡ true → is_ascii_digit b ≡ false → eqb b 32 ≡ false → IsOtherwise (words (ds ++ b ∷ rest))
otherwise_words [] b rest h other no_space = rw no_space (otherwise_first b (words rest) other)
otherwise_words (d ∷ ds) b rest h other no_space =
    let parts = and_true (is_ascii_digit d) (all_ascii_digits ds) h in
    rw (not_true (eqb d 32) (digit_is_unspaced d parts.0)) (otherwise_later d (words (ds ++ b ∷ rest)) (otherwise_words ds b rest parts.1 other no_space))

no_field : (ws : List (List ℕ)) → IsOtherwise ws → field number_of ws ≡ None
no_field [] h = absurd h
no_field (word ∷ more) h = rw (no_number word h) refl

-- a number, and the words that are left where this text follows it
abbrev parted : ℕ × List ℕ → Option (ℕ × List (List ℕ))
parted (n, []) = Some (n, [])
parted (n, b ∷ rest) = cond (eqb b 32) (Some (n, words rest)) None

-- the number alone, where nothing follows it
abbrev alone : ℕ × List ℕ → Option ℕ
alone (n, []) = Some n
alone (n, b ∷ rest) = None

abbrev before : List ℕ → Option ℕ → Option (ℕ × List ℕ)
before rest number = number >>= λ n. Some (n, rest)

parted_end : (number : Option ℕ) → (number leaving []) ≡ (before [] number >>= parted)
parted_end None = refl
parted_end (Some n) = refl

parted_more : (number : Option ℕ) (rest : List ℕ) → (number leaving words rest) ≡ (before (32 ∷ rest) number >>= parted)
parted_more None rest = refl
parted_more (Some n) rest = refl

parted_none : (number : Option ℕ) (b : ℕ) (rest : List ℕ) → eqb b 32 ≡ false → None ≡ (before (b ∷ rest) number >>= parted)
parted_none None b rest h = refl
parted_none (Some n) b rest h = rw h refl

alone_end : (number : Option ℕ) → number ≡ (before [] number >>= alone)
alone_end None = refl
alone_end (Some n) = refl

alone_none : (number : Option ℕ) (b : ℕ) (rest : List ℕ) → None ≡ (before (b ∷ rest) number >>= alone)
alone_none None b rest = refl
alone_none (Some n) b rest = refl

field_after : (ds rest : List ℕ) → all_ascii_digits ds ≡ true → StartsOtherwise rest → field number_of (words (ds ++ rest)) ≡ (before rest (number_of ds) >>= parted)
field_after ds [] h other = rw (append-nil ds, words_one ds (digits_are_unspaced ds h)) (parted_end (number_of ds))
field_after ds (b ∷ rest) h other = by_test (eqb b 32) refl
  where
    by_test : (s : Bool) → eqb b 32 ≡ s → field number_of (words (ds ++ b ∷ rest)) ≡ (before (b ∷ rest) (number_of ds) >>= parted)
    by_test true is = rw (eqb-true b 32 is, words_more ds rest (digits_are_unspaced ds h)) (parted_more (number_of ds) rest)
    by_test false isnt = no_field (words (ds ++ b ∷ rest)) (otherwise_words ds b rest h other isnt) ∙ parted_none (number_of ds) b rest isnt

-- the first word is read as a number from its digits and what follows them
pub number_field : (text : List ℕ) → field number_of (words text) ≡ (number_at text >>= parted)
unfolding number_at
number_field text = sym (ap (λ (t : List ℕ). field number_of (words t)) (digits-and-rest text)) ∙ field_after (digits_at text) (drop (digit_count text) text) (are_digits text) (ends_otherwise text)

-- what a space ends is a field, and what follows the space is left
pub field_space : (text : List ℕ) (n : ℕ) (rest : List ℕ) → number_at text ≡ Some (n, rest) → 1 ≤ length rest → get_or rest 0 0 ≡ 32 → field number_of (words text) ≡ Some (n, words (take (length rest - 1) (drop 1 rest)))
field_space text n [] h le space = absurd (omega (arith, le))
field_space text n (b ∷ rest) h le space = number_field text ∙ rw (h, space, take_rest (b ∷ rest) 1) refl

digits_otherwise : (ds : List ℕ) (b : ℕ) (rest : List ℕ) → is_ascii_digit b ≡ false → all_ascii_digits (ds ++ b ∷ rest) ≡ false
digits_otherwise [] b rest other = rw other refl
digits_otherwise (d ∷ ds) b rest other = rw (digits_otherwise ds b rest other) (and_false (is_ascii_digit d))

number_after : (ds rest : List ℕ) → StartsOtherwise rest → number_of (ds ++ rest) ≡ (before rest (number_of ds) >>= alone)
number_after ds [] other = rw (append-nil ds) (alone_end (number_of ds))
number_after ds (b ∷ rest) other = no_number (ds ++ b ∷ rest) (digits_otherwise ds b rest other) ∙ alone_none (number_of ds) b rest

-- a text is a number where nothing follows the digits
pub number_is : (text : List ℕ) → number_of text ≡ (number_at text >>= alone)
unfolding number_at
number_is text = sym (ap number_of (digits-and-rest text)) ∙ number_after (digits_at text) (drop (digit_count text) text) (ends_otherwise text)

-- the last field is read where all that is left is its spelling
pub last_is : {A : Type 0} {read : List ℕ → Option A} {spell : A → List ℕ} {is_sound : A → Bool} (field : IsField read spell is_sound) (text : List ℕ) → last_field read (words text) ≡ (read text leaving [])
last_is {A} {read} {spell} {is_sound} field text = by_cases (read text) refl
  where
    one_word : (ws : List (List ℕ)) → joined ws ≡ text → read text ≡ None → last_field read ws ≡ None
    one_word [] same e = refl
    one_word (word ∷ []) same e = rw (same, e) refl
    one_word (word ∷ next ∷ more) same e = refl

    by_cases : (o : Option A) → read text ≡ o → last_field read (words text) ≡ (read text leaving [])
    by_cases None e = one_word (words text) (joined-words text) e ∙ rw e refl
    by_cases (Some x) e =
        let spelled = field.spelled text x e in
        let unspaced : is_unspaced text ≡ true = ap is_unspaced spelled.0 ∙ field.is_word x spelled.1 in
        rw (words_one text unspaced) refl

last_taken : {A : Type 0} {read : List ℕ → Option A} {spell : A → List ℕ} {is_sound : A → Bool} (field : IsField read spell is_sound) (r : Result A FormFault) (text : List ℕ) → Reads r (read text) → Takes r (last_field read (words text)) []
last_taken field (Ok x) text h = last_is field text ∙ rw h refl
last_taken field (Err NoForm) text h = last_is field text ∙ rw h refl
last_taken field (Err Memory) text h = tt

pub name_taken : (v : Version) (r : Result (List ℕ) FormFault) (text : List ℕ) → Reads r (name_of v text) → Takes r (last_field (name_of v) (words text)) []
name_taken v r text h = last_taken (name_field v) r text h

pub octets_taken : (r : Result (List ℕ) FormFault) (text : List ℕ) → Reads r (octets_of text) → Takes r (last_field octets_of (words text)) []
octets_taken r text h = last_taken octets_field r text h
