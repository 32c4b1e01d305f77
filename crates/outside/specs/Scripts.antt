-- Which of the prepared answers a call of a link in memory gives.
use Rattle.std.specs.Prelude.{◌≡◌, ◌≤◌, ℕ, Bool, true, false, not, ◌&&◌, nat_le, List, [], length, drop, slice_get, Option, Some, None, Result, Ok, Err, ⊤}
use Rattle.std.specs.List.{list_all}
use Rattle.tree_specs.specs.declared.memory.Memory.{Memory}
use Rattle.tree_specs.specs.declared.wants.Want.{Want}
use Rattle.tree_specs.specs.declared.question.Input.{Input}
use Rattle.tree_specs.specs.declared.question.Input.TheVariants as inputs
use Rattle.outside.specs.Descriptors.{is_among}
use Rattle.outside.specs.Links.{is_wanted}
use Rattle.outside.specs.declared.sink.Done.{Done}
use Rattle.outside.specs.declared.sink.Done.TheVariants as ends
use Rattle.outside.specs.declared.link.Accepted.{Accepted}
use Rattle.outside.specs.declared.link.Accepted.TheVariants as accepted

-- ---- which answers fit

-- what is ready is among what is wanted
abbrev pub fits_wait : List Want → Option Input → Bool
fits_wait wants (Some (inputs.Ready ready)) = list_all (λ r. is_wanted wants r) ready
fits_wait wants answer = false

-- a descriptor from 1 upwards that isn't open
abbrev pub fits_accept : List ℕ → Option Input → Bool
fits_accept fds (Some (inputs.Took fd)) = nat_le 1 fd && not (is_among fd fds)
fits_accept fds (Some inputs.Again) = true
fits_accept fds (Some inputs.Fault) = true
fits_accept fds answer = false

-- at most as many bytes as have room
abbrev pub fits_read : ℕ → Option Input → Bool
fits_read room (Some (inputs.Got bytes)) = nat_le (length bytes) room
fits_read room (Some inputs.End) = true
fits_read room (Some inputs.Again) = true
fits_read room (Some inputs.Fault) = true
fits_read room answer = false

-- at most as many bytes as there are
abbrev pub fits_write : ℕ → Option Input → Bool
fits_write len (Some (inputs.Wrote n)) = nat_le 1 n && nat_le n len
fits_write len (Some inputs.Again) = true
fits_write len (Some inputs.Fault) = true
fits_write len answer = false

-- ---- what is given

-- the next answer where it fits, and that nothing is ready where it doesn't
abbrev pub given : Bool → Option Input → Input
given true (Some answer) = answer
given true None = inputs.Again
given false answer = inputs.Again

-- an answer that doesn't fit stays the next one
abbrev pub left_after : Bool → List Input → List Input
left_after true answers = drop 1 answers
left_after false answers = answers

-- the next answer is given where it fits
pub record Gives (fits : Option Input → Bool) (old new : List Input) (answer : Input) : Type 0 where
  pub same : answer ≡ given (fits (slice_get old 0)) (slice_get old 0)
  pub rest : new ≡ left_after (fits (slice_get old 0)) old

-- what is ready, where the answer says that
abbrev pub ready_of : Input → List Want
ready_of (inputs.Ready ready) = ready
ready_of answer = []

-- what the next answer says to be ready is given where it fits, and nothing where the wait failed or found no memory
abbrev pub GivesReady : List Want → List Input → List Input → Result Done Memory → List Want → Type 0
GivesReady wants old new (Ok ends.Done) ready =
    (ready ≡ ready_of (given (fits_wait wants (slice_get old 0)) (slice_get old 0))) × (new ≡ left_after (fits_wait wants (slice_get old 0)) old)
GivesReady wants old new (Ok ends.Failed) ready = (ready ≡ []) × (new ≡ old)
GivesReady wants old new (Err e) ready = (ready ≡ []) × (new ≡ old)

-- a descriptor that is taken is from 1 upwards and wasn't open
abbrev pub CanOpen : List ℕ → Accepted → Type 0
CanOpen fds (accepted.Took fd) = (1 ≤ fd) × (is_among fd fds ≡ false)
CanOpen fds accepted.Again = ⊤
CanOpen fds accepted.Fault = ⊤
