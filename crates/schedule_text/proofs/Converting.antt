-- The bytes of a line are those of the line that it is turned into, but for the context that it gains.
use Rattle.std.proofs.Common.{◌≡◌, ℕ, true, cond, List, [], ◌∷◌, ◌++◌, Option, Some, None, refl, sym, ap, ◌∙◌, codes, append-nil, append_assoc}
use Rattle.std.specs.Fmt.{digits}
use Rattle.std.specs.Prelude.{flat_map}
use Rattle.std.proofs.lemmas.List.{append_cancel_right}
use Rattle.tree_specs.specs.declared.object.Obj.{Obj}
use Rattle.tree_specs.specs.declared.call.Call.{Call}
use Rattle.tree_specs.specs.declared.question.Act.TheVariants as acts
use Rattle.tree_specs.specs.declared.question.Input.{Input}
use Rattle.tree_specs.specs.declared.question.Input.TheVariants as inputs
use Rattle.tree_specs.specs.declared.schedule.Version.{Version}
use Rattle.tree_specs.specs.declared.schedule.Version.TheVariants.{One, Two}
use Rattle.tree_specs.specs.Calls.Spelling.{Field, spelling}
use Rattle.tree_specs.specs.Calls.Spelling.Field.{TheContext}
use Rattle.tree_specs.specs.Texts.Text.{call_text, field_text, input_text, newline}
use Rattle.tree_specs.specs.Words.Objects.{first_context}
use Rattle.tree_specs.specs.Words.Ranges.{all_sound, is_sound_call_in, is_sound_in}
use Rattle.text_forms.specs.Contexts.{context_of, is_said, is_in_context, where_said, said_context}
use Rattle.text_forms.proofs.Contexts.{fields_said, same_verb}
use Rattle.text_forms.proofs.Fields.{the_first}
use Rattle.text_forms.proofs.Sound.{sound_of_one}
use Rattle.schedule_text.specs.Converted.{gains_context}
use Rattle.schedule_text.proofs.Inputs.{line_of, input_text-line}

abbrev texts : List Field → List ℕ
texts fs = flat_map (λ f. codes " " ++ field_text f) fs

texts-append : (fs gs : List Field) → texts (fs ++ gs) ≡ texts fs ++ texts gs
texts-append [] gs = refl
texts-append (f ∷ fs) gs = ap (λ (l : List ℕ). (codes " " ++ field_text f) ++ l) (texts-append fs gs) ∙ sym (append_assoc (codes " " ++ field_text f) (texts fs) (texts gs))

-- the first context is said so
first_text : texts (TheContext first_context ∷ []) ≡ codes " 0"
unfolding digits
first_text = refl

-- version 1 has the first context alone
said_text : (said : Option Obj) → all_sound One (where_said Two said) ≡ true → texts (where_said Two said) ≡ cond (is_said said) (codes " 0") []
said_text None h = refl
said_text (Some x) h = ap (λ (y : Obj). texts (TheContext y ∷ [])) (the_first x h) ∙ first_text

-- the text of a call in the second version, by that in the first
call_gains : (c : Call) → is_sound_call_in One c ≡ true → call_text Two c ≡ call_text One c ++ cond (is_in_context c) (codes " 0") []
unfolding call_text
call_gains c h =
    ap (λ (verb : List ℕ). verb ++ texts (spelling Two c).fields) (same_verb Two c)
    ∙ ap (λ (fs : List Field). (spelling One c).verb ++ texts fs) (fields_said Two c)
    ∙ ap (λ (l : List ℕ). (spelling One c).verb ++ l) (texts-append (spelling One c).fields (said_context Two c) ∙ ap (λ (l : List ℕ). texts (spelling One c).fields ++ l) (said_text (context_of c) (sound_of_one One c h).1))
    ∙ sym (append_assoc (spelling One c).verb (texts (spelling One c).fields) (cond (is_in_context c) (codes " 0") []))

behind_front : (front : List ℕ) (c : Call) → is_sound_call_in One c ≡ true → front ++ call_text Two c ≡ (front ++ call_text One c) ++ cond (is_in_context c) (codes " 0") []
behind_front front c h = ap (λ (l : List ℕ). front ++ l) (call_gains c h) ∙ sym (append_assoc front (call_text One c) (cond (is_in_context c) (codes " 0") []))

line_gains : (v : Version) (i : Input) → is_sound_in v i ≡ true → line_of Two i ≡ line_of v i ++ cond (gains_context v i) (codes " 0") []
line_gains Two i h = sym (append-nil (line_of Two i))
line_gains One (inputs.Call c) h = behind_front (codes "call ") c h
line_gains One (inputs.Act (acts.Do c)) h = behind_front (codes "act ") c h
line_gains One i h = sym (append-nil (line_of One i))

-- a line that spells an input is turned into the input's line
pub is_turned : (v : Version) (line : List ℕ) (i : Input) → is_sound_in v i ≡ true → line ++ newline ≡ input_text v i → line ++ cond (gains_context v i) (codes " 0") [] ++ newline ≡ input_text Two i
is_turned v line i h e =
    ap (λ (l : List ℕ). (l ++ cond (gains_context v i) (codes " 0") []) ++ newline) (append_cancel_right line (line_of v i) newline (e ∙ input_text-line v i))
    ∙ ap (λ (l : List ℕ). l ++ newline) (sym (line_gains v i h)) ∙ sym (input_text-line Two i)
