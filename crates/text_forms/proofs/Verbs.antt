-- A verb is found by its word, and its fields are read one after the other: this is the call that the grammar gives.
use Rattle.std.proofs.Common.{◌≡◌, ℕ, Bool, true, false, cond, List, [], ◌∷◌, ◌++◌, length, bytes_eq, Option, Some, None, Result, Err, refl, sym, ap, ◌∙◌}
use Rattle.std.specs.List.{filter}
use Rattle.std.proofs.lemmas.Slice.Eq.{bytes_eq-Decides}
use Rattle.tree_specs.specs.declared.call.Call.{Call}
use Rattle.tree_specs.specs.declared.schedule.Version.{Version}
use Rattle.tree_specs.specs.declared.schedule.Version.TheVariants.{One, Two}
use Rattle.tree_specs.specs.Calls.Spelling.{Reading, Form, context_forms, forms}
use Rattle.tree_specs.specs.Texts.Grammar.{◌>>=◌, taken, ended, read, form_in, call_of_words, call_of, words}
use Rattle.text_forms.specs.declared.verb.ContextVerb.{ContextVerb}
use Rattle.text_forms.specs.declared.verb.ContextVerb.TheVariants as context
use Rattle.text_forms.specs.declared.verb.ObjectContextVerb.{ObjectContextVerb}
use Rattle.text_forms.specs.declared.verb.ObjectContextVerb.TheVariants as object_context
use Rattle.text_forms.specs.declared.verb.ObjectVerb.{ObjectVerb}
use Rattle.text_forms.specs.declared.verb.ObjectVerb.TheVariants as object
use Rattle.text_forms.specs.declared.verb.OwnerVerb.{OwnerVerb}
use Rattle.text_forms.specs.declared.verb.OwnerVerb.TheVariants as owner
use Rattle.text_forms.specs.declared.verb.OwnerObjectVerb.{OwnerObjectVerb}
use Rattle.text_forms.specs.declared.verb.OwnerObjectVerb.TheVariants as owner_object
use Rattle.text_forms.specs.declared.verb.NumberVerb.{NumberVerb}
use Rattle.text_forms.specs.declared.verb.NumberVerb.TheVariants as number
use Rattle.text_forms.specs.declared.verb.RoutineVerb.{RoutineVerb}
use Rattle.text_forms.specs.declared.verb.RoutineVerb.TheVariants as routine
use Rattle.text_forms.specs.declared.verb.DescriptorVerb.{DescriptorVerb}
use Rattle.text_forms.specs.declared.verb.DescriptorVerb.TheVariants as descriptor
use Rattle.text_forms.specs.declared.verb.SizeVerb.{SizeVerb}
use Rattle.text_forms.specs.declared.verb.SizeVerb.TheVariants as size
use Rattle.text_forms.specs.declared.verb.Verb.{Verb}
use Rattle.text_forms.specs.declared.verb.Verb.TheVariants as verbs
use Rattle.text_forms.specs.declared.form.FormFault.{FormFault}
use Rattle.text_forms.specs.declared.form.FormFault.TheVariants.{NoForm, Memory}
use Rattle.text_forms.specs.Reads.{Reads}
use Rattle.text_forms.specs.Cursor.{Takes, Ends}
use Rattle.text_forms.specs.Verbs.{reading_of, word_of, has_verb, forms_of, IsVerbIn, IsVerb, fields_read}

form_read : (v : Version) (form : Option Reading) (words : List (List ℕ)) → (form >>= λ reading. read v reading words) ≡ ((form >>= λ reading. taken v reading words) >>= ended)
form_read v None words = refl
form_read v (Some reading) words = refl

-- ---- the verb

-- the forms have each verb's reading under its word
context_form : (v : Version) (verb : ContextVerb) → form_in (forms v) (word_of (verbs.Context verb)) ≡ Some (reading_of (verbs.Context verb))
context_form v context.Turn = refl
context_form v _ = refl

object_form : (v : Version) (verb : ObjectVerb) → form_in (forms v) (word_of (verbs.Object verb)) ≡ Some (reading_of (verbs.Object verb))
object_form v object.Free = refl
object_form v _ = refl

object_context_form : (v : Version) (verb : ObjectContextVerb) → form_in (forms v) (word_of (verbs.ObjectContext verb)) ≡ Some (reading_of (verbs.ObjectContext verb))
object_context_form v object_context.Post = refl
object_context_form v _ = refl

owner_form : (v : Version) (verb : OwnerVerb) → has_verb v (verbs.Owner verb) ≡ true → form_in (forms v) (word_of (verbs.Owner verb)) ≡ Some (reading_of (verbs.Owner verb))
owner_form One owner.Context has = absurd cc
owner_form Two owner.Context has = refl
owner_form v owner.Total has = refl
owner_form v owner.Count has = refl
owner_form v owner.Sum has = refl
owner_form v owner.Report has = refl
owner_form v owner.Immediate has = refl

owner_object_form : (v : Version) (verb : OwnerObjectVerb) → form_in (forms v) (word_of (verbs.OwnerObject verb)) ≡ Some (reading_of (verbs.OwnerObject verb))
owner_object_form v owner_object.Steal = refl
owner_object_form v _ = refl

number_form : (v : Version) (verb : NumberVerb) → form_in (forms v) (word_of (verbs.Number verb)) ≡ Some (reading_of (verbs.Number verb))
number_form v number.Resize = refl
number_form v _ = refl

routine_form : (v : Version) (verb : RoutineVerb) → form_in (forms v) (word_of (verbs.Routine verb)) ≡ Some (reading_of (verbs.Routine verb))
routine_form v routine.Cleanup = refl
routine_form v _ = refl

descriptor_form : (v : Version) (verb : DescriptorVerb) → form_in (forms v) (word_of (verbs.Descriptor verb)) ≡ Some (reading_of (verbs.Descriptor verb))
descriptor_form v descriptor.Close = refl
descriptor_form v _ = refl

size_form : (v : Version) (verb : SizeVerb) → form_in (forms v) (word_of (verbs.Size verb)) ≡ Some (reading_of (verbs.Size verb))
size_form v size.New = refl
size_form v _ = refl

verb_form : (v : Version) (verb : Verb) → has_verb v verb ≡ true → form_in (forms v) (word_of verb) ≡ Some (reading_of verb)
verb_form v (verbs.Context verb) has = context_form v verb
verb_form v (verbs.Object verb) has = object_form v verb
verb_form v (verbs.ObjectContext verb) has = object_context_form v verb
verb_form v (verbs.Owner verb) has = owner_form v verb has
verb_form v (verbs.OwnerObject verb) has = owner_object_form v verb
verb_form v (verbs.Number verb) has = number_form v verb
verb_form v (verbs.Routine verb) has = routine_form v verb
verb_form v (verbs.Descriptor verb) has = descriptor_form v verb
verb_form v (verbs.Size verb) has = size_form v verb
verb_form v _ has = refl

-- among the forms whose verbs have such a number of letters, a word of so many is found as among all
among_these : (letters : ℕ → Bool) (fs : List Form) (word : List ℕ) → letters (length word) ≡ true → form_in (filter (λ f. letters (length f.verb)) fs) word ≡ form_in fs word
among_these letters [] word h = refl
among_these letters (f ∷ fs) word h = by_tests (bytes_eq word f.verb) refl (letters (length f.verb)) refl (among_these letters fs word h)
  where
    by_tests : (b : Bool) → bytes_eq word f.verb ≡ b → (k : Bool) → letters (length f.verb) ≡ k → form_in (filter (λ f. letters (length f.verb)) fs) word ≡ form_in fs word
        → form_in (cond k (f ∷ filter (λ f. letters (length f.verb)) fs) (filter (λ f. letters (length f.verb)) fs)) word ≡ cond b (Some f.reading) (form_in fs word)
    by_tests b is true kept more = rw (is, more) refl
    by_tests false is false other more = more
    by_tests true is false other more =
        let same : word ≡ f.verb = (bytes_eq-Decides word f.verb).0 is in
        let kept : letters (length f.verb) ≡ true = ap (λ (w : List ℕ). letters (length w)) (sym same) ∙ h in
        absurd (let bad : true ≡ false = sym kept ∙ other in cc)

-- a verb that was found among the forms of the word's number of letters
pub is_verb : (letters : ℕ → Bool) (verb : Option Verb) (word : List ℕ) → letters (length word) ≡ true → IsVerbIn (forms_of letters) verb word → IsVerbIn (forms Two) verb word
is_verb letters None word h none = sym (among_these letters (forms Two) word h) ∙ none
is_verb letters (Some verb) word h is = is

-- what is no verb of all is none of those that come first
none_before : (fs gs : List Form) (word : List ℕ) → form_in (fs ++ gs) word ≡ None → form_in fs word ≡ None
none_before [] gs word none = refl
none_before (f ∷ fs) gs word none = by_test (bytes_eq word f.verb) none (none_before fs gs word)
  where
    by_test : (b : Bool) → cond b (Some f.reading) (form_in (fs ++ gs) word) ≡ None → (form_in (fs ++ gs) word ≡ None → form_in fs word ≡ None) → cond b (Some f.reading) (form_in fs word) ≡ None
    by_test true none more = absurd cc
    by_test false none more = more none

-- what is no verb of version 2 is none of version 1
none_of_version : (v : Version) (word : List ℕ) → form_in (forms Two) word ≡ None → form_in (forms v) word ≡ None
none_of_version One word none = none_before (forms One) (context_forms Two) word none
none_of_version Two word none = none

pub no_such_verb : (v : Version) (verb : Option Verb) (word : List ℕ) → verb ≡ None → form_in (forms Two) word ≡ None → IsVerb v verb word
no_such_verb v None word e none = none_of_version v word none
no_such_verb v (Some verb) word e none = absurd cc

pub is_verb_of : (v : Version) (verb : Verb) (word : List ℕ) → word ≡ word_of verb → has_verb v verb ≡ true → form_in (forms v) word ≡ Some (reading_of verb)
is_verb_of v verb word is has = ap (form_in (forms v)) is ∙ verb_form v verb has

-- the verb that was found
pub found_is : (v : Version) (found : Option Verb) (verb : Verb) (word : List ℕ) → found ≡ Some verb → IsVerb v found word → form_in (forms v) word ≡ Some (reading_of verb)
found_is v None verb word e is = absurd cc
found_is v (Some other) verb word e is = let same : other ≡ verb = cc in is ∙ ap (λ (x : Verb). Some (reading_of x)) same

-- a verb that the version doesn't have
pub is_other_verb : (v : Version) (verb : Verb) (word : List ℕ) → word ≡ word_of verb → has_verb v verb ≡ false → form_in (forms v) word ≡ None
is_other_verb One (verbs.Owner owner.Context) word is hasnt = ap (form_in (forms One)) is
is_other_verb _ _ word is hasnt = absurd cc

-- ---- the verb and the fields

-- the verb was read, and then the fields
with_verb : (v : Version) (text word : List ℕ) (more : List (List ℕ)) (verb : Verb) → words text ≡ word ∷ more → form_in (forms v) word ≡ Some (reading_of verb) → call_of v text ≡ (fields_read v verb more >>= ended)
unfolding call_of call_of_words fields_read
with_verb v text word more verb first is =
    ap (call_of_words v) first ∙ form_read v (form_in (forms v) word) more
    ∙ ap (λ (form : Option Reading). (form >>= λ reading. taken v reading more) >>= ended) is

pub no_verb : (v : Version) (text word : List ℕ) (more : List (List ℕ)) → words text ≡ word ∷ more → form_in (forms v) word ≡ None → call_of v text ≡ None
unfolding call_of call_of_words
no_verb v text word more first isnt = ap (call_of_words v) first ∙ rw isnt refl

pub no_fields : (v : Version) (text word : List ℕ) (more left : List (List ℕ)) (verb : Verb) (e : FormFault) → words text ≡ word ∷ more → form_in (forms v) word ≡ Some (reading_of verb) → Takes (Err e) (fields_read v verb more) left → Reads (Err e) (call_of v text)
no_fields v text word more left verb Memory first is h = tt
no_fields v text word more left verb NoForm first is h = with_verb v text word more verb first is ∙ rw h refl

pub no_end : (v : Version) (text word : List ℕ) (more left : List (List ℕ)) (verb : Verb) (call : Call) (e : FormFault) → words text ≡ word ∷ more → form_in (forms v) word ≡ Some (reading_of verb) → fields_read v verb more ≡ Some (call, left) → Ends (Err e) left → Reads (Err e) (call_of v text)
no_end v text word more left verb call Memory first is h ends = absurd ends
no_end v text word more [] verb call NoForm first is h ends = absurd (ends refl)
no_end v text word more (next ∷ left) verb call NoForm first is h ends = with_verb v text word more verb first is ∙ rw h refl

pub all_read : (v : Version) (text word : List ℕ) (more left : List (List ℕ)) (verb : Verb) (call : Call) → words text ≡ word ∷ more → form_in (forms v) word ≡ Some (reading_of verb) → fields_read v verb more ≡ Some (call, left) → left ≡ [] → call_of v text ≡ Some call
all_read v text word more left verb call first is h ends = with_verb v text word more verb first is ∙ rw (h, ends) refl

-- the fault that a step gave is handed on
pub handed_on : (r : Result Call FormFault) (given e : FormFault) (value : Option Call) → r ≡ Err given → given ≡ e → Reads (Err e) value → Reads r value
handed_on r given e value is same h = rw (is, same) h
