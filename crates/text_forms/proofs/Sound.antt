-- Sound calls, by their fields: in a version, and in whatever version the fields are spelled.
use Rattle.std.proofs.Common.{◌≡◌, Bool, true, false, ◌&&◌, List, [], ◌∷◌, ◌++◌, Option, Some, None, refl, sym, ap, ◌∙◌}
use Rattle.std.specs.List.{list_all}
use Rattle.std.proofs.lemmas.List.Folds.{list_all-append}
use Rattle.tree_specs.specs.declared.object.Obj.{Obj}
use Rattle.tree_specs.specs.declared.call.Call.{Call}
use Rattle.tree_specs.specs.declared.schedule.Version.{Version}
use Rattle.tree_specs.specs.declared.schedule.Version.TheVariants.{One, Two}
use Rattle.tree_specs.specs.Calls.Spelling.{Field, spelling}
use Rattle.tree_specs.specs.Calls.Spelling.Field.{AnOwner, AName, SomeBytes, TheContext}
use Rattle.tree_specs.specs.Words.Names.{is_name, is_short_in}
use Rattle.tree_specs.specs.Words.Octets.{is_octets}
use Rattle.tree_specs.specs.Words.Ranges.{is_sound_field, all_sound, is_call_in, is_sound_call_in}
use Rattle.text_forms.specs.Bytes.{are_bytes, field_has_bytes, has_bytes}
use Rattle.text_forms.specs.Contexts.{context_of, where_said, said_context}
use Rattle.text_forms.proofs.Bools.{and_true, both_true}
use Rattle.text_forms.proofs.Contexts.{fields_said}
use Rattle.text_forms.proofs.Fields.{context_number}
use Rattle.text_forms.proofs.Hexadecimal.{is_sound_octets}

-- ---- fields

-- a sound field, whose bytes are bytes
abbrev pub fits : Version → Field → Bool
fits v (SomeBytes bytes) = is_sound_octets bytes
fits v f = is_sound_field v f

abbrev pub all_fit : Version → List Field → Bool
all_fit v fs = list_all (fits v) fs

sound_parts : (v : Version) (f : Field) (fs : List Field) → all_sound v (f ∷ fs) ≡ true → (is_sound_field v f ≡ true) × (all_sound v fs ≡ true)
sound_parts v f [] h = (h, refl)
sound_parts v f (g ∷ fs) h = and_true (is_sound_field v f) (all_sound v (g ∷ fs)) h

sound_more : (v : Version) (f : Field) (fs : List Field) → is_sound_field v f ≡ true → all_sound v fs ≡ true → all_sound v (f ∷ fs) ≡ true
sound_more v f [] h more = h
sound_more v f (g ∷ fs) h more = rw (h, more) refl

-- fields and others behind them are sound where both are
sound_front : (v : Version) (fs gs : List Field) → all_sound v (fs ++ gs) ≡ true → (all_sound v fs ≡ true) × (all_sound v gs ≡ true)
sound_front v [] gs h = (refl, h)
sound_front v (f ∷ fs) gs h =
    let parts = sound_parts v f (fs ++ gs) h in
    let more = sound_front v fs gs parts.1 in
    (sound_more v f fs parts.0 more.0, more.1)

sound_both : (v : Version) (fs gs : List Field) → all_sound v fs ≡ true → all_sound v gs ≡ true → all_sound v (fs ++ gs) ≡ true
sound_both v [] gs h more = more
sound_both v (f ∷ fs) gs h more = let parts = sound_parts v f fs h in sound_more v f (fs ++ gs) parts.0 (sound_both v fs gs parts.1 more)

fits_from : (v : Version) (f : Field) → is_sound_field v f ≡ true → field_has_bytes f ≡ true → fits v f ≡ true
fits_from v (SomeBytes bytes) sound has = rw (sound, has) refl
fits_from v _ sound has = sound

pub all_fit_from : (v : Version) (fs : List Field) → all_sound v fs ≡ true → list_all field_has_bytes fs ≡ true → all_fit v fs ≡ true
all_fit_from v [] sound has = refl
all_fit_from v (f ∷ fs) sound has =
    let s = sound_parts v f fs sound in
    let h = and_true (field_has_bytes f) (list_all field_has_bytes fs) has in
    rw (fits_from v f s.0 h.0, all_fit_from v fs s.1 h.1) refl

is_sound_from : (v : Version) (f : Field) → fits v f ≡ true → is_sound_field v f ≡ true
is_sound_from v (SomeBytes bytes) h = (and_true (is_octets bytes) (are_bytes bytes) h).0
is_sound_from v _ h = h

pub all_sound_from : (v : Version) (fs : List Field) → all_fit v fs ≡ true → all_sound v fs ≡ true
all_sound_from v [] h = refl
all_sound_from v (f ∷ fs) h = let parts = and_true (fits v f) (all_fit v fs) h in sound_more v f fs (is_sound_from v f parts.0) (all_sound_from v fs parts.1)

has_from : (v : Version) (f : Field) → fits v f ≡ true → field_has_bytes f ≡ true
has_from v (SomeBytes bytes) h = (and_true (is_octets bytes) (are_bytes bytes) h).1
has_from v _ h = refl

pub all_have_from : (v : Version) (fs : List Field) → all_fit v fs ≡ true → list_all field_has_bytes fs ≡ true
all_have_from v [] h = refl
all_have_from v (f ∷ fs) h = let parts = and_true (fits v f) (all_fit v fs) h in rw (has_from v f parts.0, all_have_from v fs parts.1) refl

-- what is sound in a version is sound in the newest
sound_field_anyway : (v : Version) (f : Field) → is_sound_field v f ≡ true → is_sound_field Two f ≡ true
sound_field_anyway v (AName name) h = (and_true (is_short_in v name) (is_name name) h).1
sound_field_anyway v (TheContext c) h = context_number v c h
sound_field_anyway v (AnOwner o) h = h
sound_field_anyway v _ h = h

pub all_sound_anyway : (v : Version) (fs : List Field) → all_sound v fs ≡ true → all_sound Two fs ≡ true
all_sound_anyway v [] h = refl
all_sound_anyway v (f ∷ fs) h = let parts = sound_parts v f fs h in sound_more Two f fs (sound_field_anyway v f parts.0) (all_sound_anyway v fs parts.1)

-- ---- calls

-- the version has the call, and the context that the call is in: version 1 says no context
abbrev pub stands_in : Version → Call → Bool
stands_in One c = is_call_in One c && all_sound One (said_context Two c)
stands_in Two c = true

-- what version 1 says of a sound call is sound, and so is the context that it doesn't say
pub sound_of_one : (v : Version) (c : Call) → is_sound_call_in v c ≡ true → (all_sound v (spelling One c).fields ≡ true) × (all_sound v (said_context Two c) ≡ true)
sound_of_one v c h = sound_front v (spelling One c).fields (said_context Two c) (ap (all_sound v) (sym (fields_said Two c)) ∙ (and_true (is_call_in v c) (all_sound v (spelling Two c).fields) h).1)

pub stands_from : (v : Version) (c : Call) → is_sound_call_in v c ≡ true → stands_in v c ≡ true
stands_from One c h = both_true (is_call_in One c) (all_sound One (said_context Two c)) (and_true (is_call_in One c) (all_sound One (spelling Two c).fields) h).0 (sound_of_one One c h).1
stands_from Two c h = refl

-- the fields of a sound call are sound, in whatever version they are spelled
pub sound_fields : (v w : Version) (c : Call) → is_sound_call_in w c ≡ true → all_sound w (spelling v c).fields ≡ true
sound_fields One w c h = (sound_of_one w c h).0
sound_fields Two w c h = (and_true (is_call_in w c) (all_sound w (spelling Two c).fields) h).1

-- a call of a version is sound in it where the fields are that it has there
pub call_sound : (v : Version) (c : Call) → stands_in v c ≡ true → all_sound v (spelling v c).fields ≡ true → is_sound_call_in v c ≡ true
call_sound One c stands h =
    let parts = and_true (is_call_in One c) (all_sound One (said_context Two c)) stands in
    both_true (is_call_in One c) (all_sound One (spelling Two c).fields) parts.0
    (ap (all_sound One) (fields_said Two c) ∙ sound_both One (spelling One c).fields (said_context Two c) h parts.1)
call_sound Two c stands h = h

and-same : (b : Bool) → (b && true) ≡ b
and-same true = refl
and-same false = refl

-- a context has no bytes, so it makes no difference to them whether it is said
pub same_bytes : (v : Version) (c : Call) → list_all field_has_bytes (spelling v c).fields ≡ has_bytes c
same_bytes v c =
    ap (list_all field_has_bytes) (fields_said v c) ∙ list_all-append field_has_bytes (spelling One c).fields (said_context v c)
    ∙ ap (λ (b : Bool). has_bytes c && b) (context_has v (context_of c)) ∙ and-same (has_bytes c)
  where
    context_has : (w : Version) (said : Option Obj) → list_all field_has_bytes (where_said w said) ≡ true
    context_has w None = refl
    context_has One (Some x) = refl
    context_has Two (Some x) = refl
