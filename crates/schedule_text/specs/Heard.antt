-- The lines that tell what a descriptor answered, as a reader goes through them; and inputs whose bytes are bytes.
use Rattle.std.specs.Prelude.{ℕ, Bool, true, List, Option, codes}
use Rattle.tree_specs.specs.declared.question.Act.TheVariants as acts
use Rattle.tree_specs.specs.declared.question.Input.{Input}
use Rattle.tree_specs.specs.declared.question.Input.TheVariants as inputs
use Rattle.tree_specs.specs.Texts.Grammar.{◌>>=◌, ◌or◌, strip, alone, took_input_of, got_input_of, wrote_input_of}
use Rattle.text_forms.specs.Bytes.{are_bytes, has_bytes}

-- the last of the lines that the grammar has
abbrev pub heard_input_of : List ℕ → Option Input
heard_input_of line =
    (strip (codes "took ") line >>= took_input_of)
    or (strip (codes "again") line >>= alone inputs.Again)
    or (strip (codes "fault") line >>= alone inputs.Fault)
    or (strip (codes "got ") line >>= got_input_of)
    or (strip (codes "end") line >>= alone inputs.End)
    or (strip (codes "wrote ") line >>= wrote_input_of)

-- a list of numbers is the bytes of an input only where each is below 256
abbrev pub input_has_bytes : Input → Bool
input_has_bytes (inputs.Call call) = has_bytes call
input_has_bytes (inputs.Act (acts.Do call)) = has_bytes call
input_has_bytes (inputs.Got bytes) = are_bytes bytes
input_has_bytes i = true
