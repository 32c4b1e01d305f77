-- Calls: their text, both ways.
use Rattle.std.proofs.Common.{◌≡◌, ◌≢◌, ℕ, Bool, true, false, List, [], ◌∷◌, Option, Some, None, Result, Ok, Err, cond, refl, sym, ap, ◌∙◌, codes, append-nil, ◌++◌, map}
use Rattle.std.specs.Prelude.{IfOk, flat_map}
use Rattle.std.specs.Fmt.{decimal}
use Rattle.std.specs.List.{list_all}
use Rattle.std.specs.Str.{bytes_eq}
use Rattle.std.proofs.lemmas.Slice.Eq.{bytes_eq-Decides}
use Rattle.tree_specs.specs.declared.call.Call.{Call}
use Rattle.tree_specs.specs.declared.call.Call.TheVariants.{Free, Context, Schedule, Timer, Fd, Defer, Post, Endtime, Enqueue, Pending, Turn}
use Rattle.tree_specs.specs.declared.schedule.Version.{Version}
use Rattle.tree_specs.specs.declared.schedule.Version.TheVariants.{One, Two}
use Rattle.tree_specs.specs.declared.object.Obj.{Obj}
use Rattle.tree_specs.specs.declared.object.Owner.{Owner}
use Rattle.tree_specs.specs.Texts.Grammar.{◌>>=◌, ◌leaving◌, object_of, words, taken, ended, read, form_in, call_of_words, call_of}
use Rattle.tree_specs.specs.Words.Names.{is_name_in}
use Rattle.tree_specs.specs.Words.Objects.{same, first_context}
use Rattle.tree_specs.specs.Words.Ranges.{is_number, is_in, is_sound_owner, is_sound_call_in, is_sound_call}
use Rattle.tree_specs.specs.Texts.Text.{call_text}
use Rattle.text_forms.specs.declared.form.FormFault.{FormFault}
use Rattle.text_forms.specs.declared.form.FormFault.TheVariants.{NoForm, Memory}
use Rattle.text_forms.specs.Reads.{Reads}
use Rattle.text_forms.specs.Bytes.{has_bytes}
use Rattle.tree_specs.specs.Calls.Spelling.{Numeral, Field, Spelling, ◌with◌, in_context, spelling, Reading, Form, forms}
use Rattle.tree_specs.specs.Calls.Spelling.Numeral.{Number, Number32, Positive32, Time, FdFlags, Length}
use Rattle.tree_specs.specs.Calls.Spelling.Field.{AnOwner, AnObject, ANumeral, AName, SomeBytes, TheContext}
use Rattle.tree_specs.specs.Calls.Spelling.Reading.{NoMore, TakesOwner, TakesObject, TakesNumeral, EndsInName, EndsInBytes, EndsInContext}
use Rattle.tree_specs.specs.Texts.Text.{field_text}
use Rattle.text_forms.proofs.Fields.{IsField, HasRead, has_read, numeral_field, owner_field, object_field, context_number, the_first, name_field}
use Rattle.text_forms.proofs.Hexadecimal.{is_sound_octets, octets_field}
use Rattle.text_forms.proofs.Bools.{and_true}
use Rattle.text_forms.proofs.Sound.{fits, all_fit, all_fit_from, all_sound_from, all_have_from, all_sound_anyway, stands_in, stands_from, sound_fields, call_sound, same_bytes}
use Rattle.text_forms.proofs.Words.{is_unspaced, joined, words-joined, joined-words}

-- ---- the words of a call

abbrev words_of : Version → Call → List (List ℕ)
words_of v c = (spelling v c).verb ∷ map field_text (spelling v c).fields

joined-fields : (verb : List ℕ) (fs : List Field) → verb ++ flat_map (λ f. codes " " ++ field_text f) fs ≡ joined (verb ∷ map field_text fs)
joined-fields verb [] = append-nil verb
joined-fields verb (f ∷ fs) = ap (λ (l : List ℕ). verb ++ (codes " " ++ l)) (joined-fields (field_text f) fs)

call_text-words : (v : Version) (c : Call) → call_text v c ≡ joined (words_of v c)
unfolding call_text
call_text-words v c = joined-fields (spelling v c).verb (spelling v c).fields

-- ---- the fields of a call by themselves

abbrev same_kind : Numeral → Numeral → Bool
same_kind Number Number = true
same_kind Number32 Number32 = true
same_kind Positive32 Positive32 = true
same_kind Time Time = true
same_kind FdFlags FdFlags = true
same_kind Length Length = true
same_kind _ _ = false

same_kind_is : (kind other : Numeral) → same_kind kind other ≡ true → kind ≡ other
same_kind_is Number Number h = refl
same_kind_is Number32 Number32 h = refl
same_kind_is Positive32 Positive32 h = refl
same_kind_is Time Time h = refl
same_kind_is FdFlags FdFlags h = refl
same_kind_is Length Length h = refl
same_kind_is _ _ h = absurd cc

same_kind_itself : (kind : Numeral) → same_kind kind kind ≡ true
same_kind_itself Number = refl
same_kind_itself _ = refl

-- the call of a reading that ends in a context, where the fields end so too
abbrev fed_context : Version → (Obj → Call) → List Field → Option Call
fed_context One call [] = Some (call first_context)
fed_context Two call (TheContext x ∷ []) = Some (call x)
fed_context v call fs = None

-- what a reading makes of fields that are there already
feed : Version → Reading → List Field → Option Call
feed v (NoMore call) [] = Some call
feed v (TakesOwner next) (AnOwner owner ∷ fs) = feed v (next owner) fs
feed v (TakesObject next) (AnObject x ∷ fs) = feed v (next x) fs
feed v (TakesNumeral kind next) (ANumeral other n ∷ fs) = cond (same_kind kind other) (feed v (next n) fs) None
feed v (EndsInName call) (AName name ∷ []) = Some (call name)
feed v (EndsInBytes call) (SomeBytes bytes ∷ []) = Some (call bytes)
feed v (EndsInContext call) fs = fed_context v call fs
feed v _ fs = None

feed_numeral : (v : Version) (kind : Numeral) (n : ℕ) (next : ℕ → Reading) (fs : List Field) → feed v (TakesNumeral kind next) (ANumeral kind n ∷ fs) ≡ feed v (next n) fs
unfolding feed
feed_numeral v kind n next fs = rw (same_kind_itself kind) refl

fed_where : (b : Bool) (fed : Option Call) (c : Call) → cond b fed None ≡ Some c → (b ≡ true) × (fed ≡ Some c)
fed_where true fed c e = (refl, e)
fed_where false fed c e = absurd cc

field_is_word : (v : Version) (f : Field) → fits v f ≡ true → is_unspaced (field_text f) ≡ true
field_is_word v (AnOwner owner) h = owner_field.is_word owner h
field_is_word v (AnObject x) h = object_field.is_word x h
field_is_word v (ANumeral kind n) h = (numeral_field kind).is_word n h
field_is_word v (AName name) h = (name_field v).is_word name h
field_is_word v (SomeBytes bytes) h = octets_field.is_word bytes h
field_is_word v (TheContext x) h = object_field.is_word x (context_number v x h)

fields_are_words : (v : Version) (fs : List Field) → all_fit v fs ≡ true → list_all is_unspaced (map field_text fs) ≡ true
fields_are_words v [] h = refl
fields_are_words v (f ∷ fs) h = let parts = and_true (fits v f) (all_fit v fs) h in rw (field_is_word v f parts.0, fields_are_words v fs parts.1) refl

-- ---- from a call to its words and back

-- what is made of fitting fields is read from their texts
taken_again : (v : Version) (reading : Reading) (fs : List Field) (c : Call) → all_fit v fs ≡ true → feed v reading fs ≡ Some c → taken v reading (map field_text fs) ≡ Some (c, [])
unfolding feed
taken_again v (NoMore call) [] c h e = let same : call ≡ c = cc in rw same refl
taken_again v (TakesOwner next) (AnOwner owner ∷ fs) c h e = let parts = and_true (is_sound_owner owner) (all_fit v fs) h in rw (owner_field.again owner parts.0) (taken_again v (next owner) fs c parts.1 e)
taken_again v (TakesObject next) (AnObject x ∷ fs) c h e = let parts = and_true (is_number x.0) (all_fit v fs) h in rw (object_field.again x parts.0) (taken_again v (next x) fs c parts.1 e)
taken_again v (TakesNumeral kind next) (ANumeral other n ∷ fs) c h e =
    let parts = and_true (is_in other n) (all_fit v fs) h in
    let same = fed_where (same_kind kind other) (feed v (next n) fs) c e in
    let within : is_in kind n ≡ true = ap (λ k. is_in k n) (same_kind_is kind other same.0) ∙ parts.0 in
    rw ((numeral_field kind).again n within) (taken_again v (next n) fs c parts.1 same.1)
taken_again v (EndsInName call) (AName name ∷ []) c h e = let same : call name ≡ c = cc in rw ((name_field v).again name (and_true (is_name_in v name) true h).0, same) refl
taken_again v (EndsInBytes call) (SomeBytes bytes ∷ []) c h e = let same : call bytes ≡ c = cc in rw (octets_field.again bytes (and_true (is_sound_octets bytes) true h).0, same) refl
taken_again One (EndsInContext call) [] c h e = let same : call first_context ≡ c = cc in rw same refl
taken_again Two (EndsInContext call) (TheContext x ∷ []) c h e = let same : call x ≡ c = cc in rw (object_field.again x (and_true (is_number x.0) true h).0, same) refl
taken_again v _ fs c h e = absurd cc

in_the_first : (call : Obj → Call) (x : Obj) → same x first_context ≡ true → Some (call first_context) ≡ Some (call x)
in_the_first call x h = ap (λ (y : Obj). Some (call y)) (sym (the_first x h))

-- each call of a version is what the form with its verb makes of its fields
fed : (v : Version) (c : Call) → stands_in v c ≡ true → (form_in (forms v) (spelling v c).verb >>= λ reading. feed v reading (spelling v c).fields) ≡ Some c
unfolding feed
fed One (Context owner) h = absurd cc
fed One (Schedule x routine user y) h = in_the_first (Schedule x routine user) y h
fed One (Timer owner time routine user y) h = in_the_first (Timer owner time routine user) y h
fed One (Fd owner fd flags routine user y) h = in_the_first (Fd owner fd flags routine user) y h
fed One (Defer x y) h = in_the_first (Defer x) y h
fed One (Post x y) h = in_the_first (Post x) y h
fed One (Endtime x time y) h = in_the_first (Endtime x time) y h
fed One (Enqueue queue x routine user y) h = in_the_first (Enqueue queue x routine user) y h
fed One (Pending y) h = in_the_first Pending y h
fed One (Turn y) h = in_the_first Turn y h
fed One _ h = refl
fed Two (Free x) h = refl
fed Two _ h = refl

verb_is_word : (v : Version) (c : Call) → is_unspaced (spelling v c).verb ≡ true
verb_is_word v (Free x) = refl
verb_is_word v _ = refl

pub sound_anyway : (v : Version) (c : Call) → is_sound_call_in v c ≡ true → is_sound_call c ≡ true
sound_anyway v c h = all_sound_anyway v (spelling Two c).fields (sound_fields Two v c h)

words_again : (v : Version) (c : Call) → stands_in v c ≡ true → all_fit v (spelling v c).fields ≡ true → call_of_words v (words_of v c) ≡ Some c
unfolding call_of_words
words_again v c stands h = each (form_in (forms v) (spelling v c).verb) (fed v c stands)
  where
    each : (form : Option Reading) → (form >>= λ reading. feed v reading (spelling v c).fields) ≡ Some c → (form >>= λ reading. read v reading (map field_text (spelling v c).fields)) ≡ Some c
    each None e = absurd cc
    each (Some reading) e = rw (taken_again v reading (spelling v c).fields c h e) refl

pub call_again : (v : Version) (c : Call) → is_sound_call_in v c ≡ true → has_bytes c ≡ true → call_of v (call_text v c) ≡ Some c
unfolding call_of
call_again v c sound has =
    let h = all_fit_from v (spelling v c).fields (sound_fields v v c sound) (same_bytes v c ∙ has) in
    let unspaced : list_all is_unspaced (words_of v c) ≡ true = rw (verb_is_word v c, fields_are_words v (spelling v c).fields h) refl in
    rw (call_text-words v c, words-joined (spelling v c).verb (map field_text (spelling v c).fields) unspaced) (words_again v c (stands_from v c sound) h)

-- ---- from words to a call and back

-- the words are the texts of sound fields, of which the call is made
record IsFed (v : Version) (reading : Reading) (ws : List (List ℕ)) (c : Call) : Type 0 where
  fields : List Field
  words_are : ws ≡ map field_text fields
  fit : all_fit v fields ≡ true
  made : feed v reading fields ≡ Some c

one_more : (v : Version) (f : Field) (reading next : Reading) (word : List ℕ) (more : List (List ℕ)) (c : Call) → word ≡ field_text f → fits v f ≡ true → ((fs : List Field) → feed v reading (f ∷ fs) ≡ feed v next fs) → IsFed v next more c → IsFed v reading (word ∷ more) c
one_more v f reading next word more c is sound feeds rest = record {
  fields = f ∷ rest.fields;
  words_are = rw (is, rest.words_are) refl;
  fit = rw (sound, rest.fit) refl;
  made = feeds rest.fields ∙ rest.made;
}

-- a field was read, and this was made of its value and of the words after it
pub has_field : {A B : Type 0} {reader : List ℕ → Option A} {spell : A → List ℕ} {is_sound : A → Bool} (field : IsField reader spell is_sound) (word : List ℕ) (more : List (List ℕ)) (after : A → List (List ℕ) → Option B) (result : B)
    → (((reader word) leaving more) >>= λ x. after x.0 x.1) ≡ Some result → HasRead spell is_sound word (λ x. after x more) result
has_field {A} {B} {reader} field word more after result e = has_read field word (λ x. after x more) result (sym (then_after (reader word)) ∙ e)
  where
    then_after : (value : Option A) → ((value leaving more) >>= λ x. after x.0 x.1) ≡ (value >>= λ x. after x more)
    then_after None = refl
    then_after (Some x) = refl

same_pair : {x y : Call × List (List ℕ)} → Some x ≡ Some y → x ≡ y
same_pair e = cc

same_call : {x : Call} {y : Call × List (List ℕ)} {ws : List (List ℕ)} → Some (x, ws) ≡ Some y → x ≡ y.0
same_call e = cc

last_one : (v : Version) (f : Field) (reading : Reading) (word : List ℕ) (call c : Call) → word ≡ field_text f → fits v f ≡ true → feed v reading (f ∷ []) ≡ Some call → call ≡ c → IsFed v reading (word ∷ []) c
last_one v f reading word call c is fit feeds same = record {
  fields = f ∷ [];
  words_are = ap (λ (w : List ℕ). w ∷ []) is;
  fit = rw fit refl;
  made = feeds ∙ ap Some same;
}

-- the words that are all taken
all_taken : (o : Option (Call × List (List ℕ))) (c : Call) → (o >>= ended) ≡ Some c → o ≡ Some (c, [])
all_taken None c e = absurd cc
all_taken (Some (x, [])) c e = let same : x ≡ c = cc in ap (λ (z : Call). Some (z, [])) same
all_taken (Some (x, word ∷ more)) c e = absurd cc

-- a context was read, and the words behind it are left
context_more : (word : List ℕ) (more : List (List ℕ)) (call : Obj → Call) → taken Two (EndsInContext call) (word ∷ more) ≡ (((object_of word) leaving more) >>= λ x. Some (call x.0, x.1))
context_more word more call = refl

context_fed : (call : Obj → Call) (word : List ℕ) (more : List (List ℕ)) (c : Call) → HasRead {B = Call × List (List ℕ)} (λ (x : Obj). decimal x.0) (λ x. is_number x.0) word (λ x. Some (call x, more)) (c, []) → IsFed Two (EndsInContext call) (word ∷ more) c
unfolding feed
context_fed call word more c x =
    let same = same_pair x.goes_on in
    record {
      fields = TheContext x.value ∷ [];
      words_are = ap (λ (w : List ℕ). w ∷ more) x.text_is ∙ ap (λ (z : Call × List (List ℕ)). decimal x.value.0 ∷ z.1) same;
      fit = rw x.value_is_sound refl;
      made = ap (λ (z : Call × List (List ℕ)). Some z.0) same;
    }

is_fed : (v : Version) (reading : Reading) (ws : List (List ℕ)) (c : Call) → taken v reading ws ≡ Some (c, []) → IsFed v reading ws c
unfolding feed
is_fed v (NoMore call) ws c e = let same = same_pair e in record { fields = []; words_are = ap (λ (z : Call × List (List ℕ)). z.1) same; fit = refl; made = ap (λ (z : Call × List (List ℕ)). Some z.0) same }
is_fed v (TakesOwner next) (word ∷ more) c e = let x = has_field owner_field word more _ (c, []) e in one_more v (AnOwner x.value) _ (next x.value) word more c x.text_is x.value_is_sound (λ fs. refl) (is_fed v (next x.value) more c x.goes_on)
is_fed v (TakesObject next) (word ∷ more) c e = let x = has_field object_field word more _ (c, []) e in one_more v (AnObject x.value) _ (next x.value) word more c x.text_is x.value_is_sound (λ fs. refl) (is_fed v (next x.value) more c x.goes_on)
is_fed v (TakesNumeral kind next) (word ∷ more) c e = let x = has_field (numeral_field kind) word more _ (c, []) e in one_more v (ANumeral kind x.value) _ (next x.value) word more c x.text_is x.value_is_sound (feed_numeral v kind x.value next) (is_fed v (next x.value) more c x.goes_on)
is_fed v (EndsInName call) (word ∷ []) c e = let x = has_field (name_field v) word [] _ (c, []) e in last_one v (AName x.value) _ word (call x.value) c x.text_is x.value_is_sound (refl {a = Some (call x.value)}) (same_call x.goes_on)
is_fed v (EndsInBytes call) (word ∷ []) c e = let x = has_field octets_field word [] _ (c, []) e in last_one v (SomeBytes x.value) _ word (call x.value) c x.text_is x.value_is_sound (refl {a = Some (call x.value)}) (same_call x.goes_on)
is_fed One (EndsInContext call) ws c e = let same = same_pair e in record { fields = []; words_are = ap (λ (z : Call × List (List ℕ)). z.1) same; fit = refl; made = ap (λ (z : Call × List (List ℕ)). Some z.0) same }
is_fed Two (EndsInContext call) (word ∷ more) c e = context_fed call word more c (has_field object_field word more _ (c, []) (sym (context_more word more call) ∙ e))
is_fed v _ ws c e = absurd cc

-- whatever is read, the call is spelled so
abbrev Spells : Version → Reading → (List Field → Spelling) → Type 0
Spells v (NoMore call) so = spelling v call ≡ so []
Spells v (TakesOwner next) so = (owner : Owner) → Spells v (next owner) (λ fs. so (AnOwner owner ∷ fs))
Spells v (TakesObject next) so = (x : Obj) → Spells v (next x) (λ fs. so (AnObject x ∷ fs))
Spells v (TakesNumeral kind next) so = (n : ℕ) → Spells v (next n) (λ fs. so (ANumeral kind n ∷ fs))
Spells v (EndsInName call) so = (name : List ℕ) → spelling v (call name) ≡ so (AName name ∷ [])
Spells v (EndsInBytes call) so = (bytes : List ℕ) → spelling v (call bytes) ≡ so (SomeBytes bytes ∷ [])
Spells v (EndsInContext call) so = (x : Obj) → spelling v (call x) ≡ so (in_context v x)

abbrev AllSpell : Version → List Form → Type 0
AllSpell v [] = Unit {0}
AllSpell v (f ∷ fs) = Spells v f.reading (λ fields. f.verb with fields) × AllSpell v fs

all_spell : (v : Version) → AllSpell v (forms v)
all_spell One = search tt
all_spell Two = search tt

spelled_so : (v : Version) (reading : Reading) (so : List Field → Spelling) (fs : List Field) (c : Call) → Spells v reading so → feed v reading fs ≡ Some c → spelling v c ≡ so fs
unfolding feed
spelled_so v (NoMore call) so [] c h e = let same : call ≡ c = cc in sym (ap (spelling v) same) ∙ h
spelled_so v (TakesOwner next) so (AnOwner owner ∷ fs) c h e = spelled_so v (next owner) (λ fs. so (AnOwner owner ∷ fs)) fs c (h owner) e
spelled_so v (TakesObject next) so (AnObject x ∷ fs) c h e = spelled_so v (next x) (λ fs. so (AnObject x ∷ fs)) fs c (h x) e
spelled_so v (TakesNumeral kind next) so (ANumeral other n ∷ fs) c h e =
    let same = fed_where (same_kind kind other) (feed v (next n) fs) c e in
    spelled_so v (next n) (λ fs. so (ANumeral kind n ∷ fs)) fs c (h n) same.1 ∙ ap (λ k. so (ANumeral k n ∷ fs)) (same_kind_is kind other same.0)
spelled_so v (EndsInName call) so (AName name ∷ []) c h e = let same : call name ≡ c = cc in sym (ap (spelling v) same) ∙ h name
spelled_so v (EndsInBytes call) so (SomeBytes bytes ∷ []) c h e = let same : call bytes ≡ c = cc in sym (ap (spelling v) same) ∙ h bytes
spelled_so One (EndsInContext call) so [] c h e = let same : call first_context ≡ c = cc in sym (ap (spelling One) same) ∙ h first_context
spelled_so Two (EndsInContext call) so (TheContext x ∷ []) c h e = let same : call x ≡ c = cc in sym (ap (spelling Two) same) ∙ h x
spelled_so v _ so fs c h e = absurd cc

-- whatever is read, the version has the call, and the context that it is in
abbrev Stands : Version → Reading → Type 0
Stands v (NoMore call) = stands_in v call ≡ true
Stands v (TakesOwner next) = (owner : Owner) → Stands v (next owner)
Stands v (TakesObject next) = (x : Obj) → Stands v (next x)
Stands v (TakesNumeral kind next) = (n : ℕ) → Stands v (next n)
Stands v (EndsInName call) = (name : List ℕ) → stands_in v (call name) ≡ true
Stands v (EndsInBytes call) = (bytes : List ℕ) → stands_in v (call bytes) ≡ true
Stands v (EndsInContext call) = stands_in v (call first_context) ≡ true

abbrev AllStand : Version → List Form → Type 0
AllStand v [] = Unit {0}
AllStand v (f ∷ fs) = Stands v f.reading × AllStand v fs

all_stand : (v : Version) → AllStand v (forms v)
all_stand One = search tt
all_stand Two = search tt

stands_so : (v : Version) (reading : Reading) (fs : List Field) (c : Call) → Stands v reading → feed v reading fs ≡ Some c → stands_in v c ≡ true
unfolding feed
stands_so Two reading fs c h e = refl
stands_so One (NoMore call) [] c h e = let same : call ≡ c = cc in sym (ap (stands_in One) same) ∙ h
stands_so One (TakesOwner next) (AnOwner owner ∷ fs) c h e = stands_so One (next owner) fs c (h owner) e
stands_so One (TakesObject next) (AnObject x ∷ fs) c h e = stands_so One (next x) fs c (h x) e
stands_so One (TakesNumeral kind next) (ANumeral other n ∷ fs) c h e = stands_so One (next n) fs c (h n) (fed_where (same_kind kind other) (feed One (next n) fs) c e).1
stands_so One (EndsInName call) (AName name ∷ []) c h e = let same : call name ≡ c = cc in sym (ap (stands_in One) same) ∙ h name
stands_so One (EndsInBytes call) (SomeBytes bytes ∷ []) c h e = let same : call bytes ≡ c = cc in sym (ap (stands_in One) same) ∙ h bytes
stands_so One (EndsInContext call) [] c h e = let same : call first_context ≡ c = cc in sym (ap (stands_in One) same) ∙ h
stands_so One _ fs c h e = absurd cc

-- the call is sound, its bytes are bytes, and these are its words
record IsSpelling (v : Version) (ws : List (List ℕ)) (c : Call) : Type 0 where
  words_are : ws ≡ words_of v c
  is_sound : is_sound_call_in v c ≡ true
  has : has_bytes c ≡ true

spelled_as : (v : Version) (verb name : List ℕ) (fields : List Field) (ws : List (List ℕ)) (c : Call) → verb ≡ name → ws ≡ map field_text fields → all_fit v fields ≡ true → spelling v c ≡ (name with fields) → stands_in v c ≡ true → IsSpelling v (verb ∷ ws) c
spelled_as v verb name fields ws c named texts fit so stands = record {
  words_are = rw (so, named, texts) refl;
  is_sound = call_sound v c stands (all_sound_from v (spelling v c).fields own);
  has = sym (same_bytes v c) ∙ all_have_from v (spelling v c).fields own;
}
  where
    own : all_fit v (spelling v c).fields ≡ true
    own = ap (λ (s : Spelling). all_fit v s.fields) so ∙ fit

form_spelled : (v : Version) (rows : List Form) → AllSpell v rows → AllStand v rows → (verb : List ℕ) (ws : List (List ℕ)) (c : Call) → (form_in rows verb >>= λ reading. read v reading ws) ≡ Some c → IsSpelling v (verb ∷ ws) c
form_spelled v [] all stand verb ws c e = absurd cc
form_spelled v (f ∷ fs) all stand verb ws c e = by_test (bytes_eq verb f.verb) refl e (form_spelled v fs all.1 stand.1 verb ws c)
  where
    by_test : (b : Bool) → bytes_eq verb f.verb ≡ b → (cond b (Some f.reading) (form_in fs verb) >>= λ reading. read v reading ws) ≡ Some c
        → ((form_in fs verb >>= λ reading. read v reading ws) ≡ Some c → IsSpelling v (verb ∷ ws) c) → IsSpelling v (verb ∷ ws) c
    by_test false h e others = others e
    by_test true h e others =
        let fit = is_fed v f.reading ws c (all_taken (taken v f.reading ws) c e) in
        let so : spelling v c ≡ (f.verb with fit.fields) = spelled_so v f.reading (λ fields. f.verb with fields) fit.fields c all.0 fit.made in
        spelled_as v verb f.verb fit.fields ws c ((bytes_eq-Decides verb f.verb).0 h) fit.words_are fit.fit so (stands_so v f.reading fit.fields c stand.0 fit.made)

words_spelled : (v : Version) (ws : List (List ℕ)) (c : Call) → call_of_words v ws ≡ Some c → IsSpelling v ws c
unfolding call_of_words
words_spelled v [] c e = absurd cc
words_spelled v (verb ∷ fields) c e = form_spelled v (forms v) (all_spell v) (all_stand v) verb fields c e

pub call_spelled : (v : Version) (text : List ℕ) (c : Call) → call_of v text ≡ Some c → (text ≡ call_text v c) × (is_sound_call_in v c ≡ true)
unfolding call_of
call_spelled v text c e =
    let spelling = words_spelled v (words text) c e in
    (sym (joined-words text) ∙ ap joined spelling.words_are ∙ sym (call_text-words v c), spelling.is_sound)

-- what is read has bytes for bytes
pub call_has_bytes : (v : Version) (text : List ℕ) (c : Call) → call_of v text ≡ Some c → has_bytes c ≡ true
unfolding call_of
call_has_bytes v text c e = (words_spelled v (words text) c e).has

-- ---- what reading a text answers

pub read_is_sound : (v : Version) (r : Result Call FormFault) (text : List ℕ) → Reads r (call_of v text) → IfOk r (λ c. is_sound_call_in v c ≡ true)
read_is_sound v (Ok c) text e = (call_spelled v text c e).1
read_is_sound v (Err fault) text e = tt

pub read_can_be_given : (v : Version) (r : Result Call FormFault) → IfOk r (λ c. is_sound_call_in v c ≡ true) → IfOk r (λ c. is_sound_call c ≡ true)
read_can_be_given v (Ok c) h = sound_anyway v c h
read_can_be_given v (Err fault) h = tt

pub read_is_spelled : (v : Version) (r : Result Call FormFault) (text : List ℕ) → Reads r (call_of v text) → IfOk r (λ c. text ≡ call_text v c)
read_is_spelled v (Ok c) text e = (call_spelled v text c e).0
read_is_spelled v (Err fault) text e = tt

pub unread_is_none : (v : Version) (r : Result Call FormFault) (text : List ℕ) → Reads r (call_of v text) → r ≡ Err NoForm → (c : Call) → is_sound_call_in v c ≡ true → has_bytes c ≡ true → text ≢ call_text v c
unread_is_none v (Ok c) text e was = absurd cc
unread_is_none v (Err Memory) text e was = absurd cc
unread_is_none v (Err NoForm) text e was = λ c sound has same. none_some c (sym e ∙ ap (call_of v) same ∙ call_again v c sound has)
  where
    none_some : (c : Call) → None ≡ Some c → ⊥
    none_some c f = absurd cc
