-- What a link tells: its calls, each with what it was given and its answer. Of a call that found no memory nothing is
-- told.
use Rattle.std.specs.Prelude.{ℕ, List, [], ◌∷◌, take, Option, Some, None, Result, Ok, Err}
use Rattle.tree_specs.specs.declared.memory.Memory.{Memory}
use Rattle.tree_specs.specs.declared.wants.Want.{Want}
use Rattle.tree_specs.specs.declared.question.Input.{Input}
use Rattle.tree_specs.specs.declared.question.Input.TheVariants as inputs
use Rattle.outside.specs.declared.sink.Done.{Done}
use Rattle.outside.specs.declared.sink.Done.TheVariants as ends
use Rattle.outside.specs.declared.link.Accepted.{Accepted}
use Rattle.outside.specs.declared.link.Accepted.TheVariants as accepted
use Rattle.outside.specs.declared.link.LinkRead.{LinkRead}
use Rattle.outside.specs.declared.link.LinkRead.TheVariants as reads
use Rattle.outside.specs.declared.link.LinkWrote.{LinkWrote}
use Rattle.outside.specs.declared.link.LinkWrote.TheVariants as wrote

-- The answer of an accept, a read or a write stands here as the input that it is to a host.
pub data LinkCall : Type 0 where
  -- it listens at this path
  Listen : List ℕ → Done → LinkCall
  -- it waits for these at most so many microseconds; none are told to be ready where the wait failed
  Wait : List Want → ℕ → Option (List Want) → LinkCall
  -- of which descriptor one is accepted
  Accept : ℕ → Input → LinkCall
  -- from which descriptor at most so many bytes are read
  Read : ℕ → ℕ → Input → LinkCall
  -- to which descriptor these bytes are written
  Write : ℕ → List ℕ → Input → LinkCall
  Close : ℕ → LinkCall

-- ---- the answers as inputs

abbrev pub accept_input : Accepted → Input
accept_input (accepted.Took fd) = inputs.Took fd
accept_input accepted.Again = inputs.Again
accept_input accepted.Fault = inputs.Fault

abbrev pub read_input : LinkRead → List ℕ → Input
read_input (reads.Got n) buf = inputs.Got (take n buf)
read_input reads.End buf = inputs.End
read_input reads.Again buf = inputs.Again
read_input reads.Fault buf = inputs.Fault

abbrev pub write_input : LinkWrote → Input
write_input (wrote.Wrote n) = inputs.Wrote n
write_input wrote.Again = inputs.Again
write_input wrote.Fault = inputs.Fault

-- ---- what a call adds to what is told

abbrev pub listen_calls : List ℕ → Result Done Memory → List LinkCall
listen_calls path (Ok answer) = Listen path answer ∷ []
listen_calls path (Err e) = []

abbrev pub wait_calls : List Want → ℕ → Result Done Memory → List Want → List LinkCall
wait_calls wants limit (Ok ends.Done) ready = Wait wants limit (Some ready) ∷ []
wait_calls wants limit (Ok ends.Failed) ready = Wait wants limit None ∷ []
wait_calls wants limit (Err e) ready = []

abbrev pub accept_calls : ℕ → Result Accepted Memory → List LinkCall
accept_calls fd (Ok answer) = Accept fd (accept_input answer) ∷ []
accept_calls fd (Err e) = []
