-- Parts of a text between single bytes of one value, as words are between spaces: as a list and as a text.
use Rattle.std.proofs.Common.{◌≡◌, ◌≢◌, ℕ, suc, Bool, true, eqb, not, List, [], ◌∷◌, ◌++◌, ◌<◌, ◌≤◌, ◌+◌, ◌-◌, length, take, drop, get_or, refl, sym, ap, ◌∙◌, arith}
use Rattle.std.specs.List.{list_all, join_with_byte}
use Rattle.std.proofs.lemmas.List.Splits.{join_with_byte-slice_split, length-slice_split}
use Rattle.std.proofs.lemmas.List.{take-append-drop, take_rest, take_all}
use Rattle.std.proofs.lemmas.Bool.Decides.{Decides-eqb}
use Rattle.std.proofs.Math.Seq.{drop-cons}
use Rattle.tree_specs.specs.Texts.Grammar.{words}
use Rattle.text_forms.specs.Cursor.{parts}
use Rattle.text_forms.proofs.Bools.{and_true, not_true}

-- ---- parts between single bytes of one value

-- none of the bytes is this one
abbrev pub lacks : ℕ → List ℕ → Bool
lacks byte text = list_all (λ b. not (eqb b byte)) text

abbrev pub joined_by : ℕ → List (List ℕ) → List ℕ
joined_by byte texts = join_with_byte byte texts

-- a text without the byte is its only part
pub parts_one : (byte : ℕ) (text : List ℕ) → lacks byte text ≡ true → parts byte text ≡ text ∷ []
parts_one byte [] h = refl
parts_one byte (b ∷ bs) h =
    let both = and_true (not (eqb b byte)) (lacks byte bs) h in
    rw (not_true (eqb b byte) both.0, parts_one byte bs both.1) refl

-- the first part ends at the first such byte
pub parts_more : (byte : ℕ) (text rest : List ℕ) → lacks byte text ≡ true → parts byte (text ++ byte ∷ rest) ≡ text ∷ parts byte rest
parts_more byte [] rest h = rw ((Decides-eqb byte byte).1 refl) refl
parts_more byte (b ∷ bs) rest h =
    let both = and_true (not (eqb b byte)) (lacks byte bs) h in
    rw (not_true (eqb b byte) both.0, parts_more byte bs rest both.1) refl

pub joined-parts : (byte : ℕ) (text : List ℕ) → joined_by byte (parts byte text) ≡ text
joined-parts byte text = join_with_byte-slice_split byte text

-- all before this index is the first part, and the byte stands at it
pub part_ends : (byte : ℕ) (text : List ℕ) (i : ℕ) → i < length text → lacks byte (take i text) ≡ true → get_or text i 0 ≡ byte → parts byte text ≡ take i text ∷ parts byte (take (length text - (i + 1)) (drop (i + 1) text))
part_ends byte text i lt h at =
    let next : suc i ≡ i + 1 = omega arith in
    let whole : text ≡ take i text ++ byte ∷ drop (i + 1) text = sym (take-append-drop i text) ∙ ap (λ (l : List ℕ). take i text ++ l) (drop-cons text i 0 lt ∙ ap (λ b. b ∷ drop (suc i) text) at ∙ ap (λ (j : ℕ). byte ∷ drop j text) next) in
    rw take_rest (ap (parts byte) whole ∙ parts_more byte (take i text) (drop (i + 1) text) h)

pub part_is_all : (byte : ℕ) (text : List ℕ) (i : ℕ) → length text ≤ i → lacks byte (take i text) ≡ true → parts byte text ≡ text ∷ []
part_is_all byte text i le h = parts_one byte text (sym (ap (lacks byte) (take_all i text le)) ∙ h)

-- ---- words

abbrev pub is_unspaced : List ℕ → Bool
is_unspaced word = lacks 32 word

abbrev pub joined : List (List ℕ) → List ℕ
joined ws = joined_by 32 ws

pub words_one : (word : List ℕ) → is_unspaced word ≡ true → words word ≡ word ∷ []
words_one word h = parts_one 32 word h

pub words_more : (word rest : List ℕ) → is_unspaced word ≡ true → words (word ++ 32 ∷ rest) ≡ word ∷ words rest
words_more word rest h = parts_more 32 word rest h

pub words-joined : (word : List ℕ) (more : List (List ℕ)) → list_all is_unspaced (word ∷ more) ≡ true → words (joined (word ∷ more)) ≡ word ∷ more
words-joined word [] h = words_one word (and_true (is_unspaced word) true h).0
words-joined word (next ∷ more) h =
    let parts = and_true (is_unspaced word) (list_all is_unspaced (next ∷ more)) h in
    words_more word (joined (next ∷ more)) parts.0 ∙ ap (λ ws. word ∷ ws) (words-joined next more parts.1)

pub joined-words : (text : List ℕ) → joined (words text) ≡ text
joined-words text = joined-parts 32 text

-- there is always a first word
pub has_words : (text : List ℕ) → words text ≢ []
has_words text e = absurd (omega (arith, ap length e, length-slice_split (λ b. eqb b 32) text))
