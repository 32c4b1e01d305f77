-- Each kind of field: its spelling, both ways.
use Rattle.std.proofs.Common.{◌≡◌, ℕ, zero, suc, ◌^◌, ◌<◌, Bool, true, eqb, ltb, leb, not, ◌&&◌, List, [], ◌∷◌, length, Option, Some, None, refl, sym, ap, ◌∙◌, arith}
use Rattle.std.specs.Char.{is_ascii_digit}
use Rattle.std.specs.Fmt.{decimal}
use Rattle.std.specs.List.{list_all}
use Rattle.std.specs.Str.{all_ascii_digits}
use Rattle.std.proofs.lemmas.Bool.{eqb-true, ltb-true}
use Rattle.std.proofs.lemmas.Bool.Decides.{nat_tests}
use Rattle.tree_specs.specs.declared.object.Obj.{Obj}
use Rattle.tree_specs.specs.declared.object.Owner.{Owner}
use Rattle.tree_specs.specs.declared.object.Owner.TheVariants.{Root, Of}
use Rattle.tree_specs.specs.Calls.Spelling.{Numeral}
use Rattle.tree_specs.specs.Calls.Spelling.Numeral.{Number}
use Rattle.tree_specs.specs.Texts.Grammar.{◌>>=◌, number_of, numeral_of, owner_of, object_of, name_of}
use Rattle.tree_specs.specs.declared.schedule.Version.{Version}
use Rattle.tree_specs.specs.declared.schedule.Version.TheVariants.{One, Two}
use Rattle.tree_specs.specs.Words.Names.{is_name, is_name_in, is_short_in, is_graphic}
use Rattle.tree_specs.specs.Words.Objects.{owner_number, numbered_owner, same, first_context}
use Rattle.tree_specs.specs.Words.Ranges.{is_number, is_in, is_sound_owner, is_context_in}
use Rattle.text_forms.specs.Reads.{in_range, ReadsNumeral}
use Rattle.text_forms.proofs.Numerals.{number_spelled, number_again, decimal_digits}
use Rattle.text_forms.proofs.Bools.{and_true, taken_where, list_all-weaker}
use Rattle.text_forms.proofs.Words.{is_unspaced}

-- a sound value is read from its spelling, and from no other text; its spelling is one word
pub record IsField {A : Type 0} (read : List ℕ → Option A) (spell : A → List ℕ) (is_sound : A → Bool) : Type 0 where
  pub spelled : (text : List ℕ) (x : A) → read text ≡ Some x → (text ≡ spell x) × (is_sound x ≡ true)
  pub again : (x : A) → is_sound x ≡ true → read (spell x) ≡ Some x
  pub is_word : (x : A) → is_sound x ≡ true → is_unspaced (spell x) ≡ true

-- a field that was read, and what the rest of the reader made of its value
pub record HasRead {A B : Type 0} (spell : A → List ℕ) (is_sound : A → Bool) (text : List ℕ) (after : A → Option B) (result : B) : Type 0 where
  pub value : A
  pub text_is : text ≡ spell value
  pub value_is_sound : is_sound value ≡ true
  pub goes_on : after value ≡ Some result

pub has_read : {A B : Type 0} {read : List ℕ → Option A} {spell : A → List ℕ} {is_sound : A → Bool} (field : IsField read spell is_sound) (text : List ℕ) (after : A → Option B) (result : B) → (read text >>= after) ≡ Some result → HasRead spell is_sound text after result
has_read {A} {B} {read} {spell} {is_sound} field text after result e = by_cases (read text) refl e
  where
    by_cases : (found : Option A) → read text ≡ found → (found >>= after) ≡ Some result → HasRead spell is_sound text after result
    by_cases None was f = absurd cc
    by_cases (Some x) was f = record { value = x; text_is = (field.spelled text x was).0; value_is_sound = (field.spelled text x was).1; goes_on = f }

-- ---- numbers

pub digit_is_unspaced : (b : ℕ) → is_ascii_digit b ≡ true → not (eqb b 32) ≡ true
digit_is_unspaced b h = grind (arith, nat_tests)

pub digits_are_unspaced : (ds : List ℕ) → all_ascii_digits ds ≡ true → is_unspaced ds ≡ true
digits_are_unspaced [] h = refl
digits_are_unspaced (d ∷ ds) h =
    let parts = and_true (is_ascii_digit d) (all_ascii_digits ds) h in
    rw (digit_is_unspaced d parts.0, digits_are_unspaced ds parts.1) refl

is_number_from : (n : ℕ) → n < 2 ^ 64 → is_number n ≡ true
is_number_from n lt = grind (arith, nat_tests)

above_zero : (n : ℕ) → ltb 0 (suc n) ≡ true
above_zero n = grind (arith, nat_tests)

decimal_is_word : (n : ℕ) → is_number n ≡ true → is_unspaced (decimal n) ≡ true
decimal_is_word n h = digits_are_unspaced (decimal n) (decimal_digits n (ltb-true n (2 ^ 64) h))

pub number_field : IsField number_of decimal is_number
number_field = record {
  spelled = λ text n e. ((number_spelled text n e).0, is_number_from n (number_spelled text n e).1);
  again = λ n h. number_again n (ltb-true n (2 ^ 64) h);
  is_word = decimal_is_word;
}

-- ---- values that are made of another field's value

-- a value that is made of another field's, where it can be, and has that one's spelling
by_field : {A B : Type 0} {read : List ℕ → Option A} {spell : A → List ℕ} {is_sound_part : A → Bool} (field : IsField read spell is_sound_part) (make : A → Option B) (part : B → A) (is_sound : B → Bool) → ((x : A) (y : B) → is_sound_part x ≡ true → make x ≡ Some y → (part y ≡ x) × (is_sound y ≡ true)) → ((y : B) → is_sound y ≡ true → (is_sound_part (part y) ≡ true) × (make (part y) ≡ Some y)) → IsField (λ text. read text >>= make) (λ y. spell (part y)) is_sound
by_field {A} {B} {read} {spell} {is_sound_part} field make part is_sound made taken = record {
  spelled = λ text y e. spelled text y (has_read field text make y e);
  again = λ y h. rw (field.again (part y) (taken y h).0) (taken y h).1;
  is_word = λ y h. field.is_word (part y) (taken y h).0;
}
  where
    spelled : (text : List ℕ) (y : B) → HasRead spell is_sound_part text make y → (text ≡ spell (part y)) × (is_sound y ≡ true)
    spelled text y r =
        let m = made r.value y r.value_is_sound r.goes_on in
        (r.text_is ∙ ap spell (sym m.0), m.1)

-- ---- numbers in a range

is_number_in : (kind : Numeral) (n : ℕ) → is_in kind n ≡ true → is_number n ≡ true
is_number_in Number n h = h
is_number_in _ n h = grind (arith, nat_tests)

pub numeral_field : (kind : Numeral) → IsField (numeral_of kind) decimal (is_in kind)
unfolding numeral_of
numeral_field kind = by_field number_field (in_range kind) (λ n. n) (is_in kind)
    (λ n y h e. let taken = taken_where (is_in kind) n y e in (sym taken.0, taken.1))
    (λ n h. (is_number_in kind n h, rw h refl))

-- ---- owners and objects

-- a value that is made of a number, and has the number's spelling
by_number : {A : Type 0} (make : ℕ → A) (number : A → ℕ) (is_sound : A → Bool) → ((n : ℕ) → n < 2 ^ 64 → (number (make n) ≡ n) × (is_sound (make n) ≡ true)) → ((x : A) → is_sound x ≡ true → (is_number (number x) ≡ true) × (make (number x) ≡ x)) → IsField (λ text. number_of text >>= (λ n. Some (make n))) (λ x. decimal (number x)) is_sound
by_number {A} make number is_sound made taken = by_field number_field (λ n. Some (make n)) number is_sound from_some (λ x h. ((taken x h).0, ap Some (taken x h).1))
  where
    from_some : (n : ℕ) (x : A) → is_number n ≡ true → Some (make n) ≡ Some x → (number x ≡ n) × (is_sound x ≡ true)
    from_some n x h e =
        let m = made n (ltb-true n (2 ^ 64) h) in
        let same : make n ≡ x = cc in
        (sym (ap number same) ∙ m.0, sym (ap is_sound same) ∙ m.1)

numbered : (n : ℕ) → n < 2 ^ 64 → (owner_number (numbered_owner n) ≡ n) × (is_sound_owner (numbered_owner n) ≡ true)
numbered zero lt = (refl, refl)
numbered (suc n) lt = (refl, rw (is_number_from (suc n) lt, above_zero n) refl)

owner_taken : (owner : Owner) → is_sound_owner owner ≡ true → (is_number (owner_number owner) ≡ true) × (numbered_owner (owner_number owner) ≡ owner)
owner_taken Root h = (refl, refl)
owner_taken (Of x) h =
    let parts = and_true (ltb 0 x.0) (is_number x.0) h in
    (parts.1, from_above x.0 (ltb-true 0 x.0 parts.0))
  where
    from_above : (n : ℕ) → 0 < n → numbered_owner n ≡ Of (record { 0 = n })
    from_above zero lt = absurd (omega arith)
    from_above (suc n) lt = refl

pub owner_field : IsField owner_of (λ owner. decimal (owner_number owner)) is_sound_owner
unfolding owner_of
owner_field = by_number numbered_owner owner_number is_sound_owner numbered owner_taken

pub object_field : IsField object_of (λ x. decimal x.0) (λ x. is_number x.0)
unfolding object_of
object_field = by_number (λ n. record { 0 = n }) (λ (x : Obj). x.0) (λ x. is_number x.0) (λ n lt. (refl, is_number_from n lt)) (λ x h. (h, refl))

-- ---- contexts

zero_is_number : (n : ℕ) → eqb n 0 ≡ true → is_number n ≡ true
zero_is_number n h = grind (arith, nat_tests)

-- a version's context has a number
pub context_number : (v : Version) (c : Obj) → is_context_in v c ≡ true → is_number c.0 ≡ true
context_number One c h = zero_is_number c.0 h
context_number Two c h = h

numbered_object : ℕ → Obj
numbered_object n = record { 0 = n }

-- version 1 has the first one alone
pub the_first : (c : Obj) → same c first_context ≡ true → c ≡ first_context
unfolding numbered_object
the_first c h = ap numbered_object (eqb-true c.0 0 h)

-- ---- what reading a number answers

-- what is read is the spelling of its value, and what is none is the spelling of no number in the range
pub numeral_is_read : (kind : Numeral) (found : Option ℕ) (text : List ℕ) → found ≡ numeral_of kind text → ReadsNumeral found kind text
numeral_is_read kind (Some n) text e = record { value = e; spelled = ((numeral_field kind).spelled text n (sym e)).0; none = tt }
numeral_is_read kind None text e = record {
  value = e;
  spelled = tt;
  none = λ n within same. none_some n (e ∙ ap (numeral_of kind) same ∙ (numeral_field kind).again n within);
}
  where
    none_some : (n : ℕ) → None ≡ Some n → ⊥
    none_some n e = absurd cc

pub numeral_read : (kind : Numeral) (text : List ℕ) (n : ℕ) (found : Option ℕ) → number_of text ≡ Some n → found ≡ in_range kind n → ReadsNumeral found kind text
unfolding numeral_of
numeral_read kind text n found read is = numeral_is_read kind found text (rw read is)

-- any number is in the range of numbers
number_in : (o : Option ℕ) → ((n : ℕ) → o ≡ Some n → is_number n ≡ true) → (o >>= in_range Number) ≡ o
number_in None small = refl
number_in (Some n) small = rw (small n refl) refl

pub number_read : (found : Option ℕ) (text : List ℕ) → found ≡ number_of text → ReadsNumeral found Number text
unfolding numeral_of
number_read found text e = numeral_is_read Number found text (e ∙ sym (number_in (number_of text) (λ n read. (number_field.spelled text n read).1)))

-- ---- names

graphic_is_unspaced : (b : ℕ) → is_graphic b ≡ true → not (eqb b 32) ≡ true
graphic_is_unspaced b h = grind (arith, nat_tests)

pub name_spelled : (v : Version) (text name : List ℕ) → name_of v text ≡ Some name → (text ≡ name) × (is_name_in v name ≡ true)
unfolding name_of
name_spelled v text name e = taken_where (is_name_in v) text name e

name_again : (v : Version) (name : List ℕ) → is_name_in v name ≡ true → name_of v name ≡ Some name
unfolding name_of
name_again v name h = rw h refl

pub name_field : (v : Version) → IsField (name_of v) (λ name. name) (is_name_in v)
name_field v = record {
  spelled = name_spelled v;
  again = name_again v;
  is_word = λ name h. list_all-weaker is_graphic (λ b. not (eqb b 32)) graphic_is_unspaced name (graphic name (and_true (is_short_in v name) (is_name name) h).1);
}
  where
    graphic : (name : List ℕ) → is_name name ≡ true → list_all is_graphic name ≡ true
    graphic name h = (and_true (list_all is_graphic name) (leb 1 (length name)) (and_true (list_all is_graphic name && leb 1 (length name)) (leb (length name) 1023) h).0).0
