-- Inputs whose numbers have the ranges of their fields, and whose names are no longer than a version of the schedules has them.
use Rattle.std.specs.Prelude.{ℕ, ◌^◌, Bool, true, false, ◌&&◌, nat_lt, nat_le, List, [], ◌∷◌}
use Rattle.tree_specs.specs.declared.bounds.TheConstants.{TIME_LIMIT, OCTETS_LIMIT}
use Rattle.tree_specs.specs.declared.object.Owner.{Owner}
use Rattle.tree_specs.specs.declared.object.Owner.TheVariants.{Root, Of}
use Rattle.tree_specs.specs.declared.object.Obj.{Obj}
use Rattle.tree_specs.specs.declared.call.Call.{Call}
use Rattle.tree_specs.specs.declared.call.Call.TheVariants.{Context}
use Rattle.tree_specs.specs.declared.question.Act.{Act}
use Rattle.tree_specs.specs.declared.question.Act.TheVariants as acts
use Rattle.tree_specs.specs.declared.question.Input.{Input}
use Rattle.tree_specs.specs.declared.question.Input.TheVariants as inputs
use Rattle.tree_specs.specs.declared.schedule.Version.{Version}
use Rattle.tree_specs.specs.declared.schedule.Version.TheVariants.{One, Two}
use Rattle.tree_specs.specs.Words.Names.{is_name_in}
use Rattle.tree_specs.specs.Words.Octets.{is_octets}
use Rattle.tree_specs.specs.Words.Wants.{is_wants}
use Rattle.tree_specs.specs.Words.Objects.{same, first_context}
use Rattle.tree_specs.specs.Calls.Spelling.{Numeral, Field, spelling}
use Rattle.tree_specs.specs.Calls.Spelling.Numeral.{Number, Number32, Positive32, Time, FdFlags, Length}
use Rattle.tree_specs.specs.Calls.Spelling.Field.{AnOwner, AnObject, ANumeral, AName, SomeBytes, TheContext}

abbrev pub is_number : ℕ → Bool
is_number n = nat_lt n (2 ^ 64)

-- what a routine returns, and a descriptor
abbrev pub is_return : ℕ → Bool
is_return n = nat_lt n (2 ^ 32)

-- routines are numbered from 1 upwards, and so are descriptors that are accepted
abbrev pub is_routine : ℕ → Bool
is_routine n = nat_lt 0 n && nat_lt n (2 ^ 32)

-- a time in microseconds
abbrev pub is_time : ℕ → Bool
is_time n = nat_le n TIME_LIMIT

-- what an event on a descriptor waits for
abbrev pub is_flags : ℕ → Bool
is_flags n = nat_le n 3

-- so many bytes may be read or written at once
abbrev pub is_length : ℕ → Bool
is_length n = nat_le 1 n && nat_le n OCTETS_LIMIT

abbrev pub is_in : Numeral → ℕ → Bool
is_in Number n = is_number n
is_in Number32 n = is_return n
is_in Positive32 n = is_routine n
is_in Time n = is_time n
is_in FdFlags n = is_flags n
is_in Length n = is_length n

-- an owner that isn't the root has a number from 1 upwards
abbrev pub is_sound_owner : Owner → Bool
is_sound_owner Root = true
is_sound_owner (Of x) = nat_lt 0 x.0 && is_number x.0

-- a context has any number; version 1 has the first one alone
abbrev pub is_context_in : Version → Obj → Bool
is_context_in One c = same c first_context
is_context_in Two c = is_number c.0

abbrev pub is_sound_field : Version → Field → Bool
is_sound_field v (AnOwner o) = is_sound_owner o
is_sound_field v (AnObject x) = is_number x.0
is_sound_field v (ANumeral kind n) = is_in kind n
is_sound_field v (AName name) = is_name_in v name
is_sound_field v (SomeBytes bytes) = is_octets bytes
is_sound_field v (TheContext c) = is_context_in v c

abbrev pub all_sound : Version → List Field → Bool
all_sound v [] = true
all_sound v (f ∷ []) = is_sound_field v f
all_sound v (f ∷ g ∷ fs) = is_sound_field v f && all_sound v (g ∷ fs)

-- version 1 has no contexts but the first one, and no call that makes one
abbrev pub is_call_in : Version → Call → Bool
is_call_in One (Context owner) = false
is_call_in v c = true

-- Version 2 says all that is in a call.
abbrev pub is_sound_call_in : Version → Call → Bool
is_sound_call_in v c = is_call_in v c && all_sound v (spelling Two c).fields

abbrev pub is_sound_act_in : Version → Act → Bool
is_sound_act_in v (acts.Do call) = is_sound_call_in v call
is_sound_act_in v (acts.Ret value) = is_return value

abbrev pub is_sound_in : Version → Input → Bool
is_sound_in v (inputs.Call call) = is_sound_call_in v call
is_sound_in v (inputs.Act act) = is_sound_act_in v act
is_sound_in v (inputs.Clock now) = is_time now
is_sound_in v (inputs.Ready wants) = is_wants wants
is_sound_in v (inputs.Took fd) = is_routine fd
is_sound_in v inputs.Again = true
is_sound_in v inputs.Fault = true
is_sound_in v (inputs.Got bytes) = is_octets bytes
is_sound_in v inputs.End = true
is_sound_in v (inputs.Wrote n) = is_length n

-- ---- what is sound in the newest version, and so can be given at all

abbrev pub is_sound_call : Call → Bool
is_sound_call c = is_sound_call_in Two c

abbrev pub is_sound_act : Act → Bool
is_sound_act act = is_sound_act_in Two act

abbrev pub is_sound : Input → Bool
is_sound i = is_sound_in Two i
