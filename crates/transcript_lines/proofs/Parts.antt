-- A form over the parts of a line: what is made of parts is read from their words, and what is read was made of parts.
use Rattle.std.proofs.Common.{◌≡◌, ℕ, Bool, true, false, cond, ◌&&◌, List, [], ◌∷◌, Option, Some, None, refl, sym, ap, ◌∙◌}
use Rattle.std.specs.List.{list_all}
use Rattle.std.specs.Str.{bytes_eq}
use Rattle.std.proofs.lemmas.Slice.Eq.{bytes_eq-Decides}
use Rattle.tree_specs.specs.declared.schedule.Version.TheVariants.{Two}
use Rattle.tree_specs.specs.declared.object.Obj.{Obj}
use Rattle.tree_specs.specs.declared.object.Owner.{Owner}
use Rattle.tree_specs.specs.Calls.Spelling.{Numeral}
use Rattle.tree_specs.specs.Calls.Spelling.Numeral.{Number, Number32}
use Rattle.tree_specs.specs.Calls.Spelling.Field.{AnOwner, AnObject, ANumeral, AName, SomeBytes}
use Rattle.tree_specs.specs.Texts.Text.{field_text}
use Rattle.tree_specs.specs.Words.Names.{is_name}
use Rattle.tree_specs.specs.Words.Ranges.{is_number, is_in, is_sound_owner}
use Rattle.text_forms.proofs.Bools.{and_true}
use Rattle.text_forms.proofs.Calls.{has_field}
use Rattle.text_forms.proofs.Fields.{numeral_field, owner_field, object_field, name_field}
use Rattle.text_forms.proofs.Hexadecimal.{octets_field}
use Rattle.transcript_lines.specs.Lines.{Line, Form, read, Part, part_text, words_of, is_sound_part}
use Rattle.transcript_lines.specs.Lines.Form.{Fails, Done, IfWord, MayEnd, TakesNumeral, TakesObject, TakesOwner, EndsInName, EndsInBytes}
use Rattle.transcript_lines.specs.Lines.Part.{AWord, AField}

-- ---- what a form makes of parts

-- the same range, one of the two that the numbers of lines have
abbrev pub same_kind : Numeral → Numeral → Bool
same_kind Number Number = true
same_kind Number32 Number32 = true
same_kind _ _ = false

pub same_kind_is : (kind other : Numeral) → same_kind kind other ≡ true → kind ≡ other
same_kind_is Number Number h = refl
same_kind_is Number32 Number32 h = refl
same_kind_is _ _ h = absurd cc

unfoldable pub feed : Form → List Part → Option Line
feed (Done line) [] = Some line
feed (IfWord word next other) (AWord w ∷ ps) = cond (bytes_eq w word) (feed next ps) (feed other (AWord w ∷ ps))
feed (IfWord word next other) (AField f ∷ ps) = cond (bytes_eq (field_text f) word) None (feed other (AField f ∷ ps))
feed (MayEnd line next) [] = Some line
feed (MayEnd line next) (p ∷ ps) = feed next (p ∷ ps)
feed (TakesNumeral kind next) (AField (ANumeral other n) ∷ ps) = cond (same_kind kind other) (feed (next n) ps) None
feed (TakesObject next) (AField (AnObject x) ∷ ps) = feed (next x) ps
feed (TakesOwner next) (AField (AnOwner o) ∷ ps) = feed (next o) ps
feed (EndsInName line) (AField (AName name) ∷ []) = Some (line name)
feed (EndsInBytes line) (AField (SomeBytes bytes) ∷ []) = Some (line bytes)
feed _ ps = None

pub fed_where : (b : Bool) (fed : Option Line) (l : Line) → cond b fed None ≡ Some l → (b ≡ true) × (fed ≡ Some l)
fed_where true fed l e = (refl, e)
fed_where false fed l e = absurd cc

pub fed_unless : (b : Bool) (fed : Option Line) (l : Line) → cond b None fed ≡ Some l → (b ≡ false) × (fed ≡ Some l)
fed_unless true fed l e = absurd cc
fed_unless false fed l e = (refl, e)

abbrev pub all_fit : List Part → Bool
all_fit ps = list_all is_sound_part ps

-- ---- from parts to a line

pub read_again : (form : Form) (ps : List Part) (l : Line) → all_fit ps ≡ true → feed form ps ≡ Some l → read form (words_of ps) ≡ Some l
unfolding feed
read_again (Done line) [] l h e = e
read_again (IfWord word next other) (AWord w ∷ ps) l h e = by_test (bytes_eq w word) e (read_again next ps l h) (read_again other (AWord w ∷ ps) l h)
  where
    by_test : (b : Bool) → cond b (feed next ps) (feed other (AWord w ∷ ps)) ≡ Some l → (feed next ps ≡ Some l → read next (words_of ps) ≡ Some l)
        → (feed other (AWord w ∷ ps) ≡ Some l → read other (w ∷ words_of ps) ≡ Some l) → cond b (read next (words_of ps)) (read other (w ∷ words_of ps)) ≡ Some l
    by_test true e yes_it no_it = yes_it e
    by_test false e yes_it no_it = no_it e
read_again (IfWord word next other) (AField f ∷ ps) l h e =
    let u = fed_unless (bytes_eq (field_text f) word) (feed other (AField f ∷ ps)) l e in
    rw u.0 (read_again other (AField f ∷ ps) l h u.1)
read_again (MayEnd line next) [] l h e = e
read_again (MayEnd line next) (p ∷ ps) l h e = read_again next (p ∷ ps) l h e
read_again (TakesNumeral kind next) (AField (ANumeral other n) ∷ ps) l h e =
    let parts = and_true (is_sound_part (AField (ANumeral other n))) (all_fit ps) h in
    let same = fed_where (same_kind kind other) (feed (next n) ps) l e in
    let within : is_in kind n ≡ true = ap (λ k. is_in k n) (same_kind_is kind other same.0) ∙ (and_true (is_in other n) true parts.0).0 in
    rw ((numeral_field kind).again n within) (read_again (next n) ps l parts.1 same.1)
read_again (TakesObject next) (AField (AnObject x) ∷ ps) l h e =
    let parts = and_true (is_sound_part (AField (AnObject x))) (all_fit ps) h in
    rw (object_field.again x (and_true (is_number x.0) true parts.0).0) (read_again (next x) ps l parts.1 e)
read_again (TakesOwner next) (AField (AnOwner o) ∷ ps) l h e =
    let parts = and_true (is_sound_part (AField (AnOwner o))) (all_fit ps) h in
    rw (owner_field.again o (and_true (is_sound_owner o) true parts.0).0) (read_again (next o) ps l parts.1 e)
read_again (EndsInName line) (AField (AName name) ∷ []) l h e =
    let fit = and_true (is_sound_part (AField (AName name))) true h in
    rw ((name_field Two).again name (and_true (is_name name) true fit.0).0) e
read_again (EndsInBytes line) (AField (SomeBytes bytes) ∷ []) l h e =
    let fit = and_true (is_sound_part (AField (SomeBytes bytes))) true h in
    rw (octets_field.again bytes fit.0) e
read_again _ ps l h e = absurd cc

-- ---- from a line to parts

-- the words are those of sound parts, of which the line is made
pub record IsFed (form : Form) (ws : List (List ℕ)) (l : Line) : Type 0 where
  pub parts : List Part
  pub words_are : ws ≡ words_of parts
  pub fit : all_fit parts ≡ true
  pub made : feed form parts ≡ Some l

one_more : (p : Part) (form next : Form) (word : List ℕ) (more : List (List ℕ)) (l : Line) → word ≡ part_text p → is_sound_part p ≡ true → ((ps : List Part) → feed form (p ∷ ps) ≡ feed next ps) → IsFed next more l → IsFed form (word ∷ more) l
one_more p form next word more l is sound feeds rest = record {
  parts = p ∷ rest.parts;
  words_are = rw (is, rest.words_are) refl;
  fit = rw (sound, rest.fit) refl;
  made = feeds rest.parts ∙ rest.made;
}

feed_numeral : (kind : Numeral) (n : ℕ) (next : ℕ → Form) (h : same_kind kind kind ≡ true) (ps : List Part) → feed (TakesNumeral kind next) (AField (ANumeral kind n) ∷ ps) ≡ feed (next n) ps
unfolding feed
feed_numeral kind n next h ps = rw h refl

feed_word : (word : List ℕ) (next other : Form) (ps : List Part) → feed (IfWord word next other) (AWord word ∷ ps) ≡ feed next ps
unfolding feed
feed_word word next other ps = rw ((bytes_eq-Decides word word).1 refl) refl

-- where the first word isn't this one
feed_other : (word : List ℕ) (next other : Form) (w : List ℕ) (ws : List (List ℕ)) (ps : List Part) → bytes_eq w word ≡ false → w ∷ ws ≡ words_of ps → feed (IfWord word next other) ps ≡ feed other ps
unfolding feed
feed_other word next other w ws [] h e = absurd cc
feed_other word next other w ws (AWord v ∷ ps) h e =
    let same : w ≡ v = cc in
    rw (sym (ap (λ (x : List ℕ). bytes_eq x word) same) ∙ h) refl
feed_other word next other w ws (AField f ∷ ps) h e =
    let same : w ≡ field_text f = cc in
    rw (sym (ap (λ (x : List ℕ). bytes_eq x word) same) ∙ h) refl

-- it takes no number of another range
abbrev pub IsTable : Form → Type 0
IsTable Fails = Unit {0}
IsTable (Done line) = Unit {0}
IsTable (IfWord word next other) = IsTable next × IsTable other
IsTable (MayEnd line next) = IsTable next
IsTable (TakesNumeral kind next) = (same_kind kind kind ≡ true) × ((n : ℕ) → IsTable (next n))
IsTable (TakesObject next) = (x : Obj) → IsTable (next x)
IsTable (TakesOwner next) = (o : Owner) → IsTable (next o)
IsTable (EndsInName line) = Unit {0}
IsTable (EndsInBytes line) = Unit {0}

last_one : (p : Part) (form : Form) (word : List ℕ) (made l : Line) → word ≡ part_text p → is_sound_part p ≡ true → feed form (p ∷ []) ≡ Some made → made ≡ l → IsFed form (word ∷ []) l
last_one p form word made l is fit feeds same = record {
  parts = p ∷ [];
  words_are = ap (λ (w : List ℕ). w ∷ []) is;
  fit = rw fit refl;
  made = feeds ∙ ap Some same;
}

fits_too : (b : Bool) → b ≡ true → (b && true) ≡ true
fits_too true h = refl
fits_too false h = h

pub is_fed : (form : Form) → IsTable form → (ws : List (List ℕ)) (l : Line) → read form ws ≡ Some l → IsFed form ws l
unfolding feed
is_fed (Done line) t [] l e = record { parts = []; words_are = refl; fit = refl; made = e }
is_fed (IfWord word next other) t (w ∷ ws) l e = by_test (bytes_eq w word) refl e (is_fed next t.0 ws l) (is_fed other t.1 (w ∷ ws) l)
  where
    by_test : (b : Bool) → bytes_eq w word ≡ b → cond b (read next ws) (read other (w ∷ ws)) ≡ Some l → (read next ws ≡ Some l → IsFed next ws l) → (read other (w ∷ ws) ≡ Some l → IsFed other (w ∷ ws) l) → IsFed (IfWord word next other) (w ∷ ws) l
    by_test true is e yes_it no_it = one_more (AWord word) (IfWord word next other) next w ws l ((bytes_eq-Decides w word).0 is) refl (feed_word word next other) (yes_it e)
    by_test false is e yes_it no_it = let f = no_it e in record { parts = f.parts; words_are = f.words_are; fit = f.fit; made = feed_other word next other w ws f.parts is f.words_are ∙ f.made }
is_fed (MayEnd line next) t [] l e = record { parts = []; words_are = refl; fit = refl; made = e }
is_fed (MayEnd line next) t (w ∷ ws) l e = let f = is_fed next t (w ∷ ws) l e in record { parts = f.parts; words_are = f.words_are; fit = f.fit; made = some f.parts f.words_are ∙ f.made }
  where
    some : (ps : List Part) → w ∷ ws ≡ words_of ps → feed (MayEnd line next) ps ≡ feed next ps
    some [] same = absurd cc
    some (p ∷ ps) same = refl
is_fed (TakesNumeral kind next) t (word ∷ more) l e = let x = has_field (numeral_field kind) word more _ l e in one_more (AField (ANumeral kind x.value)) _ (next x.value) word more l x.text_is (fits_too _ x.value_is_sound) (feed_numeral kind x.value next t.0) (is_fed (next x.value) (t.1 x.value) more l x.goes_on)
is_fed (TakesObject next) t (word ∷ more) l e = let x = has_field object_field word more _ l e in one_more (AField (AnObject x.value)) _ (next x.value) word more l x.text_is (fits_too _ x.value_is_sound) (λ ps. refl) (is_fed (next x.value) (t x.value) more l x.goes_on)
is_fed (TakesOwner next) t (word ∷ more) l e = let x = has_field owner_field word more _ l e in one_more (AField (AnOwner x.value)) _ (next x.value) word more l x.text_is (fits_too _ x.value_is_sound) (λ ps. refl) (is_fed (next x.value) (t x.value) more l x.goes_on)
is_fed (EndsInName line) t (word ∷ []) l e = let x = has_field (name_field Two) word [] _ l e in last_one (AField (AName x.value)) _ word (line x.value) l x.text_is (fits_too _ x.value_is_sound) refl (same_line x.goes_on)
  where
    same_line : {a b : Line} → Some a ≡ Some b → a ≡ b
    same_line e = cc
is_fed (EndsInBytes line) t (word ∷ []) l e = let x = has_field octets_field word [] _ l e in last_one (AField (SomeBytes x.value)) _ word (line x.value) l x.text_is x.value_is_sound refl (same_line x.goes_on)
  where
    same_line : {a b : Line} → Some a ≡ Some b → a ≡ b
    same_line e = cc
is_fed _ t ws l e = absurd cc
