-- Lines that are turned into the second version.
use Rattle.std.specs.Prelude.{◌≡◌, ℕ, Bool, false, List, ◌++◌, Some, None, Result, Ok, Err}
use Rattle.tree_specs.specs.declared.question.Act.TheVariants as acts
use Rattle.tree_specs.specs.declared.question.Input.{Input}
use Rattle.tree_specs.specs.declared.question.Input.TheVariants as inputs
use Rattle.tree_specs.specs.declared.schedule.Version.{Version}
use Rattle.tree_specs.specs.declared.schedule.Version.TheVariants.{One, Two}
use Rattle.tree_specs.specs.Texts.Grammar.{input_of}
use Rattle.tree_specs.specs.Texts.Text.{input_text}
use Rattle.text_forms.specs.declared.form.FormFault.{FormFault}
use Rattle.text_forms.specs.declared.form.FormFault.TheVariants.{NoForm, Memory}
use Rattle.text_forms.specs.Contexts.{is_in_context}

-- the line of an input says a context in the second version that it doesn't say in this one
abbrev pub gains_context : Version → Input → Bool
gains_context One (inputs.Call c) = is_in_context c
gains_context One (inputs.Act (acts.Do c)) = is_in_context c
gains_context v i = false

-- what the line spells was written in the second version
pub record IsConverted (v : Version) (line before after : List ℕ) : Type 0 where
  pub input : Input
  pub read : input_of v line ≡ Some input
  pub written : after ≡ before ++ input_text Two input

-- it was, or the line spells no input, or memory ran out
abbrev pub Converts : Version → List ℕ → List ℕ → List ℕ → Result (Unit {0}) FormFault → Type 0
Converts v line before after (Ok done) = IsConverted v line before after
Converts v line before after (Err NoForm) = (input_of v line ≡ None) × (after ≡ before)
Converts v line before after (Err Memory) = after ≡ before
