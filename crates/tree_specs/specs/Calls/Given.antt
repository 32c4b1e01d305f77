-- Which answer fits which question, and what it is to it.
use Rattle.std.specs.Prelude.{ℕ, ◌&&◌, nat_le, if◌then◌else◌, List, length, Option, Some, None}
use Rattle.tree_specs.specs.declared.call.Call.{Call}
use Rattle.tree_specs.specs.declared.question.Ask.{Ask}
use Rattle.tree_specs.specs.declared.question.Ask.TheVariants as ask
use Rattle.tree_specs.specs.declared.question.Act.{Act}
use Rattle.tree_specs.specs.declared.question.Act.TheVariants.{Do, Ret}
use Rattle.tree_specs.specs.declared.question.Input.{Input}
use Rattle.tree_specs.specs.declared.question.Input.TheVariants as input
use Rattle.tree_specs.specs.declared.reply.Reply.{Reply}
use Rattle.tree_specs.specs.declared.reply.Reply.TheVariants as reply
use Rattle.tree_specs.specs.declared.wants.Want.{Want}
use Rattle.tree_specs.specs.Words.Octets.{is_octets}

pub data Given : Type 0 where
  -- a call is to be done
  Calls : Call → Given
  -- a routine is over, and returns this number
  Returns : ℕ → Given
  -- the time, in microseconds
  Tells : ℕ → Given
  -- the descriptors that are ready
  IsReady : List Want → Given
  -- this descriptor was accepted
  Opens : ℕ → Given
  -- what the outside has done, as the reply to the call that asked it
  Answers : Reply → Given

-- what a routine does
abbrev pub given_by : Act → Given
given_by (Do c) = Calls c
given_by (Ret v) = Returns v

-- at most so many bytes were read
abbrev pub bytes_read : ℕ → List ℕ → Option Given
bytes_read most bytes = if is_octets bytes && nat_le (length bytes) most then Some (Answers (reply.Bytes bytes)) else None

-- some of the bytes were written, or all of them
abbrev pub bytes_written : List ℕ → ℕ → Option Given
bytes_written bytes n = if nat_le 1 n && nat_le n (length bytes) then Some (Answers (reply.Number n)) else None

-- The host's own caller answers with a call, a routine with an act, the clock with the time, a wait with what is ready, and
-- a descriptor with what it gave or took, or that it isn't ready or has failed.
abbrev pub given_to : Ask → Input → Option Given
given_to ask.Quiet (input.Call c) = Some (Calls c)
given_to (ask.Routine m) (input.Act a) = Some (given_by a)
given_to ask.Clock (input.Clock now) = Some (Tells now)
given_to (ask.Wait limit) (input.Ready wants) = Some (IsReady wants)
given_to (ask.Accept fd) (input.Took new) = Some (Opens new)
given_to (ask.Accept fd) input.Again = Some (Answers reply.Again)
given_to (ask.Accept fd) input.Fault = Some (Answers reply.Fault)
given_to (ask.Read fd most) (input.Got bytes) = bytes_read most bytes
given_to (ask.Read fd most) input.End = Some (Answers reply.End)
given_to (ask.Read fd most) input.Again = Some (Answers reply.Again)
given_to (ask.Read fd most) input.Fault = Some (Answers reply.Fault)
given_to (ask.Write fd bytes) (input.Wrote n) = bytes_written bytes n
given_to (ask.Write fd bytes) input.Again = Some (Answers reply.Again)
given_to (ask.Write fd bytes) input.Fault = Some (Answers reply.Fault)
given_to q i = None
