-- Descriptors that are ready: their spelling, both ways.
use Rattle.std.proofs.Common.{◌≡◌, ℕ, ◌^◌, Bool, true, false, eqb, ltb, leb, cond, not, ◌&&◌, List, [], ◌∷◌, ◌++◌, map, Option, Some, None, refl, sym, ap, ◌∙◌, arith, append-nil, append_assoc}
use Rattle.std.specs.Char.{is_ascii_digit}
use Rattle.std.specs.Fmt.{decimal}
use Rattle.std.specs.List.{list_all}
use Rattle.std.specs.Option.{option_map}
use Rattle.std.specs.Str.{all_ascii_digits}
use Rattle.std.proofs.lemmas.Bool.{ltb-true}
use Rattle.std.proofs.lemmas.Bool.Decides.{nat_tests}
use Rattle.tree_specs.specs.declared.question.Input.TheVariants as inputs
use Rattle.tree_specs.specs.declared.wants.Want.{Want}
use Rattle.tree_specs.specs.Calls.Spelling.Numeral.{Number32}
use Rattle.tree_specs.specs.Texts.Grammar.{◌>>=◌, words, numeral_of, want_of, want_of_parts, wants_of, ready_of_words, ready_input_of}
use Rattle.tree_specs.specs.Texts.Text.{want_text, wants_text}
use Rattle.tree_specs.specs.Words.Ranges.{is_return}
use Rattle.tree_specs.specs.Words.Wants.{is_wants, is_want, has_flags, rises}
use Rattle.text_forms.specs.Cursor.{parts}
use Rattle.text_forms.proofs.Bools.{and_true, taken_where}
use Rattle.text_forms.proofs.Fields.{has_read, numeral_field}
use Rattle.text_forms.proofs.Numerals.{decimal_digits}
use Rattle.text_forms.proofs.Words.{lacks, joined_by, parts_one, parts_more, joined-parts, is_unspaced, joined, words-joined, joined-words}
use Rattle.schedule_text.specs.Wants.{ready_list_of, spaced_list_of}

-- ---- one descriptor

abbrev pub want_word : Want → List ℕ
want_word w = decimal w.fd ++ 58 ∷ decimal w.flags

abbrev pub has_small_numbers : Want → Bool
has_small_numbers w = is_return w.fd && is_return w.flags

digit_lacks_colon : (b : ℕ) → is_ascii_digit b ≡ true → not (eqb b 58) ≡ true
digit_lacks_colon b h = grind (arith, nat_tests)

digits_lack_colon : (ds : List ℕ) → all_ascii_digits ds ≡ true → lacks 58 ds ≡ true
digits_lack_colon [] h = refl
digits_lack_colon (d ∷ ds) h =
    let both = and_true (is_ascii_digit d) (all_ascii_digits ds) h in
    rw (digit_lacks_colon d both.0, digits_lack_colon ds both.1) refl

number_lacks_colon : (n : ℕ) → is_return n ≡ true → lacks 58 (decimal n) ≡ true
number_lacks_colon n h = digits_lack_colon (decimal n) (decimal_digits n (omega (arith, ltb-true n (2 ^ 32) h)))

-- the two numbers as a descriptor and its flags
abbrev pub both_read : Option ℕ → Option ℕ → Option Want
both_read fd flags = fd >>= λ f. flags >>= λ n. Some (record { fd = f; flags = n })

no_second : (fd : Option ℕ) → None ≡ both_read fd None
no_second None = refl
no_second (Some f) = refl

two_parts : (fd flags : List ℕ) → want_of_parts (fd ∷ parts 58 flags) ≡ both_read (numeral_of Number32 fd) (numeral_of Number32 flags)
two_parts fd flags = by_flags (numeral_of Number32 flags) refl
  where
    unread : (ps : List (List ℕ)) → joined_by 58 ps ≡ flags → numeral_of Number32 flags ≡ None → want_of_parts (fd ∷ ps) ≡ both_read (numeral_of Number32 fd) None
    unread [] same e = no_second (numeral_of Number32 fd)
    unread (p ∷ []) same e = rw (same, e) refl
    unread (p ∷ q ∷ ps) same e = no_second (numeral_of Number32 fd)

    by_flags : (o : Option ℕ) → numeral_of Number32 flags ≡ o → want_of_parts (fd ∷ parts 58 flags) ≡ both_read (numeral_of Number32 fd) (numeral_of Number32 flags)
    by_flags None e = rw e (unread (parts 58 flags) (joined-parts 58 flags) e)
    by_flags (Some n) e =
        let spelled = (numeral_field Number32).spelled flags n e in
        rw (parts_one 58 flags (ap (lacks 58) spelled.0 ∙ number_lacks_colon n spelled.1)) refl

-- a word with no colon is no descriptor
pub no_flags : (word fd : List ℕ) → parts 58 word ≡ fd ∷ [] → want_of word ≡ None
no_flags word fd e = rw e refl

-- the first colon stands between the descriptor and its flags
pub want_read : (word fd flags : List ℕ) → parts 58 word ≡ fd ∷ parts 58 flags → want_of word ≡ both_read (numeral_of Number32 fd) (numeral_of Number32 flags)
want_read word fd flags e = ap want_of_parts e ∙ two_parts fd flags

pub flags_unread : (word fd flags : List ℕ) → parts 58 word ≡ fd ∷ parts 58 flags → numeral_of Number32 flags ≡ None → want_of word ≡ None
flags_unread word fd flags e none = want_read word fd flags e ∙ rw none (sym (no_second (numeral_of Number32 fd)))

pub both_numbers_read : (word fd flags : List ℕ) (f n : ℕ) → parts 58 word ≡ fd ∷ parts 58 flags → numeral_of Number32 fd ≡ Some f → numeral_of Number32 flags ≡ Some n → want_of word ≡ Some (record { fd = f; flags = n })
both_numbers_read word fd flags f n e fd_is flags_is = want_read word fd flags e ∙ rw (fd_is, flags_is) refl

want_again : (w : Want) → has_small_numbers w ≡ true → want_of (want_word w) ≡ Some w
want_again w h =
    let both = and_true (is_return w.fd) (is_return w.flags) h in
    want_read (want_word w) (decimal w.fd) (decimal w.flags) (parts_more 58 (decimal w.fd) (decimal w.flags) (number_lacks_colon w.fd both.0))
    ∙ rw ((numeral_field Number32).again w.fd both.0, (numeral_field Number32).again w.flags both.1) refl

-- the text is the spelling of this descriptor, whose numbers are small
record IsWant (word : List ℕ) (w : Want) : Type 0 where
  word_is : word ≡ want_word w
  small : has_small_numbers w ≡ true

from_parts : (word fd flags : List ℕ) (f n : ℕ) (w : Want) → fd ++ 58 ∷ flags ≡ word → fd ≡ decimal f → flags ≡ decimal n → is_return f ≡ true → is_return n ≡ true → Some (record { fd = f; flags = n }) ≡ Some w → IsWant word w
from_parts word fd flags f n w same fd_is flags_is f_small n_small e =
    let is : record { fd = f; flags = n } ≡ w = cc in
    record {
      word_is = sym same ∙ rw (fd_is, flags_is) refl ∙ ap want_word is;
      small = sym (ap has_small_numbers is) ∙ rw (f_small, n_small) refl;
    }

want_spelled : (word : List ℕ) (w : Want) → want_of word ≡ Some w → IsWant word w
want_spelled word w e = by_parts (parts 58 word) (joined-parts 58 word) e
  where
    by_parts : (ps : List (List ℕ)) → joined_by 58 ps ≡ word → want_of_parts ps ≡ Some w → IsWant word w
    by_parts (fd ∷ flags ∷ []) same e =
        let f = has_read (numeral_field Number32) fd (λ f. numeral_of Number32 flags >>= λ n. Some (record { fd = f; flags = n })) w e in
        let n = has_read (numeral_field Number32) flags (λ n. Some (record { fd = f.value; flags = n })) w f.goes_on in
        from_parts word fd flags f.value n.value w same f.text_is n.text_is f.value_is_sound n.value_is_sound n.goes_on
    by_parts _ same e = absurd cc

-- ---- a list of descriptors

abbrev pub all_small : List Want → Bool
all_small ws = list_all has_small_numbers ws

wants_again : (ws : List Want) → all_small ws ≡ true → wants_of (map want_word ws) ≡ Some ws
wants_again [] h = refl
wants_again (w ∷ ws) h =
    let both = and_true (has_small_numbers w) (all_small ws) h in
    rw (want_again w both.0, wants_again ws both.1) refl

record AreWants (texts : List (List ℕ)) (ws : List Want) : Type 0 where
  texts_are : texts ≡ map want_word ws
  small : all_small ws ≡ true

one_more : (text : List ℕ) (texts : List (List ℕ)) (w : Want) (vs ws : List Want) → IsWant text w → AreWants texts vs → Some (w ∷ vs) ≡ Some ws → AreWants (text ∷ texts) ws
one_more text texts w vs ws first more e =
    let same : w ∷ vs ≡ ws = cc in
    record {
      texts_are = rw (first.word_is, more.texts_are) refl ∙ ap (map want_word) same;
      small = sym (ap all_small same) ∙ rw (first.small, more.small) refl;
    }

wants_spelled : (texts : List (List ℕ)) (ws : List Want) → wants_of texts ≡ Some ws → AreWants texts ws
wants_spelled [] [] e = record { texts_are = refl; small = refl }
wants_spelled [] (w ∷ ws) e = absurd cc
wants_spelled (text ∷ texts) ws e = by_first (want_of text) refl (wants_spelled texts) e
  where
    by_more : (w : Want) → IsWant text w → (o : Option (List Want)) → wants_of texts ≡ o → ((vs : List Want) → wants_of texts ≡ Some vs → AreWants texts vs) → (o >>= λ vs. Some (w ∷ vs)) ≡ Some ws → AreWants (text ∷ texts) ws
    by_more w first None was more e = absurd cc
    by_more w first (Some vs) was more e = one_more text texts w vs ws first (more vs was) e

    by_first : (o : Option Want) → want_of text ≡ o → ((vs : List Want) → wants_of texts ≡ Some vs → AreWants texts vs) → (o >>= λ w. wants_of texts >>= λ vs. Some (w ∷ vs)) ≡ Some ws → AreWants (text ∷ texts) ws
    by_first None was more e = absurd cc
    by_first (Some w) was more e = by_more w (want_spelled text w was) (wants_of texts) refl more e

-- ---- the words of a list

lacks-append : (byte : ℕ) (xs ys : List ℕ) → lacks byte xs ≡ true → lacks byte ys ≡ true → lacks byte (xs ++ ys) ≡ true
lacks-append byte [] ys h more = more
lacks-append byte (x ∷ xs) ys h more =
    let both = and_true (not (eqb x byte)) (lacks byte xs) h in
    rw (both.0, lacks-append byte xs ys both.1 more) refl

want_is_word : (w : Want) → has_small_numbers w ≡ true → is_unspaced (want_word w) ≡ true
want_is_word w h =
    let both = and_true (is_return w.fd) (is_return w.flags) h in
    lacks-append 32 (decimal w.fd) (58 ∷ decimal w.flags) ((numeral_field Number32).is_word w.fd both.0) ((numeral_field Number32).is_word w.flags both.1)

wants_are_words : (ws : List Want) → all_small ws ≡ true → list_all is_unspaced (map want_word ws) ≡ true
wants_are_words [] h = refl
wants_are_words (w ∷ ws) h =
    let both = and_true (has_small_numbers w) (all_small ws) h in
    rw (want_is_word w both.0, wants_are_words ws both.1) refl

want_text-word : (w : Want) → want_text w ≡ 32 ∷ want_word w
want_text-word w = ap (λ (l : List ℕ). 32 ∷ l) (append_assoc (decimal w.fd) (58 ∷ []) (decimal w.flags))

joined-wants : (text : List ℕ) (ws : List Want) → text ++ wants_text ws ≡ joined (text ∷ map want_word ws)
joined-wants text [] = append-nil text
joined-wants text (w ∷ ws) = ap (λ (l : List ℕ). text ++ (l ++ wants_text ws)) (want_text-word w) ∙ ap (λ (l : List ℕ). text ++ 32 ∷ l) (joined-wants (want_word w) ws)

words-wants : (ws : List Want) → all_small ws ≡ true → words (wants_text ws) ≡ [] ∷ map want_word ws
words-wants ws h = ap words (joined-wants [] ws) ∙ words-joined [] (map want_word ws) (wants_are_words ws h)

-- ---- what can be ready

want_is_small : (w : Want) → is_want w ≡ true → has_small_numbers w ≡ true
want_is_small w h =
    let both = and_true (ltb w.fd (2 ^ 32)) (has_flags w) h in
    let flags = and_true (leb 1 w.flags) (leb w.flags 3) both.1 in
    rw (both.0, flags_are_small w.flags flags.1) refl
  where
    flags_are_small : (n : ℕ) → leb n 3 ≡ true → is_return n ≡ true
    flags_are_small n h = grind (arith, nat_tests)

each_is_small : (ws : List Want) → list_all is_want ws ≡ true → all_small ws ≡ true
each_is_small [] h = refl
each_is_small (w ∷ ws) h =
    let both = and_true (is_want w) (list_all is_want ws) h in
    rw (want_is_small w both.0, each_is_small ws both.1) refl

pub are_small : (ws : List Want) → is_wants ws ≡ true → all_small ws ≡ true
are_small ws h = each_is_small ws (and_true (list_all is_want ws) (rises ws) h).0

pub list_again : (ws : List Want) → all_small ws ≡ true → is_wants ws ≡ true → spaced_list_of (words (wants_text ws)) ≡ Some ws
list_again ws small h = rw (words-wants ws small, wants_again ws small, h) refl

pub list_spelled : (text : List ℕ) (ws : List Want) → spaced_list_of (words text) ≡ Some ws → (text ≡ wants_text ws) × (is_wants ws ≡ true)
list_spelled text ws e = by_words (words text) (joined-words text) e
  where
    by_list : (more : List (List ℕ)) → joined ([] ∷ more) ≡ text → (o : Option (List Want)) → wants_of more ≡ o → (o >>= λ vs. cond (is_wants vs) (Some vs) None) ≡ Some ws → (text ≡ wants_text ws) × (is_wants ws ≡ true)
    by_list more same None was e = absurd cc
    by_list more same (Some vs) was e =
        let taken = taken_where is_wants vs ws e in
        (sym same ∙ ap (λ (texts : List (List ℕ)). joined ([] ∷ texts)) (wants_spelled more vs was).texts_are ∙ sym (joined-wants [] vs) ∙ ap wants_text taken.0, taken.1)

    by_words : (texts : List (List ℕ)) → joined texts ≡ text → spaced_list_of texts ≡ Some ws → (text ≡ wants_text ws) × (is_wants ws ≡ true)
    by_words ([] ∷ more) same e = by_list more same (wants_of more) refl e
    by_words _ same e = absurd cc

-- the line's input is that of its list
pub ready_is : (text : List ℕ) → ready_input_of text ≡ option_map inputs.Ready (spaced_list_of (words text))
ready_is text = by_words (words text)
  where
    by_test : (b : Bool) (ws : List Want) → cond b (Some (inputs.Ready ws)) None ≡ option_map inputs.Ready (cond b (Some ws) None)
    by_test true ws = refl
    by_test false ws = refl

    by_list : (o : Option (List Want)) → (o >>= λ ws. cond (is_wants ws) (Some (inputs.Ready ws)) None) ≡ option_map inputs.Ready (o >>= λ ws. cond (is_wants ws) (Some ws) None)
    by_list None = refl
    by_list (Some ws) = by_test (is_wants ws) ws

    by_words : (texts : List (List ℕ)) → ready_of_words texts ≡ option_map inputs.Ready (spaced_list_of texts)
    by_words [] = refl
    by_words ([] ∷ more) = by_list (wants_of more)
    by_words ((b ∷ bs) ∷ more) = refl

-- ---- reading word by word

-- the list of all the words is what was read, and then that of the words left
abbrev pub ReadSoFar : List (List ℕ) → List Want → List (List ℕ) → Type 0
ReadSoFar all done left = wants_of all ≡ (wants_of left >>= λ more. Some (done ++ more))

pub nothing_read : (all : List (List ℕ)) → ReadSoFar all [] all
nothing_read all = same (wants_of all)
  where
    same : (o : Option (List Want)) → o ≡ (o >>= λ more. Some ([] ++ more))
    same None = refl
    same (Some ws) = refl

pub one_read : (all : List (List ℕ)) (done : List Want) (left next : List (List ℕ)) (word : List ℕ) (w : Want) → ReadSoFar all done left → left ≡ word ∷ next → want_of word ≡ Some w → ReadSoFar all (done ++ w ∷ []) next
one_read all done left next word w before is read = before ∙ rw (is, read) (by_more (wants_of next))
  where
    by_more : (o : Option (List Want)) → ((o >>= λ ws. Some (w ∷ ws)) >>= λ more. Some (done ++ more)) ≡ (o >>= λ more. Some ((done ++ w ∷ []) ++ more))
    by_more None = refl
    by_more (Some ws) = ap Some (sym (append_assoc done (w ∷ []) ws))

pub none_read : (all : List (List ℕ)) (done : List Want) (left next : List (List ℕ)) (word : List ℕ) → ReadSoFar all done left → left ≡ word ∷ next → want_of word ≡ None → ready_list_of all ≡ None
none_read all done left next word before is read = rw (before, is, read) refl

pub all_read : (all : List (List ℕ)) (done : List Want) → ReadSoFar all done [] → wants_of all ≡ Some done
all_read all done before = before ∙ ap Some (append-nil done)
