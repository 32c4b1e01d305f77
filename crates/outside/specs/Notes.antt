-- How a link in memory notes its calls, and what it tells while there is room for them.
use Rattle.std.specs.Prelude.{ℕ, ◌+◌, ◌-◌, ◌&&◌, nat_le, List, [], ◌∷◌, ◌++◌, length, take, drop, Option, Some, None, if◌then◌else◌}
use Rattle.outside.specs.declared.notes.Note.{Note}
use Rattle.outside.specs.declared.notes.Note.TheVariants as notes
use Rattle.outside.specs.LinkCalls.{LinkCall}
use Rattle.outside.specs.LinkCalls.LinkCall.{Listen, Wait, Accept, Read, Write, Close}
use Rattle.outside.specs.Scripts.{ready_of}

-- ---- what is seen of them

pub record Noted : Type 0 where
  -- the calls, for as long as there was room for all of them
  pub told : Option (List LinkCall)
  -- for how many more calls there is room
  pub calls_left : ℕ
  -- for how many more bytes of writes there is room
  pub bytes_left : ℕ

-- how many bytes a call was given to write
abbrev pub written_by : LinkCall → ℕ
written_by (Listen path answer) = 0
written_by (Wait wants limit ready) = 0
written_by (Accept fd answer) = 0
written_by (Read fd room answer) = 0
written_by (Write fd bytes answer) = length bytes
written_by (Close fd) = 0

abbrev pub told_with : Option (List LinkCall) → LinkCall → Option (List LinkCall)
told_with None call = None
told_with (Some told) call = Some (told ++ call ∷ [])

-- One more call is noted where there is room for it. Where there isn't, nothing is told from then on.
abbrev pub noted_with : Noted → LinkCall → Noted
noted_with noted call =
    if nat_le 1 noted.calls_left && nat_le (written_by call) noted.bytes_left
    then record { told = told_with noted.told call; calls_left = noted.calls_left - 1; bytes_left = noted.bytes_left - written_by call }
    else record noted { told = None }

abbrev pub noted_after : Noted → List LinkCall → Noted
noted_after noted [] = noted
noted_after noted (call ∷ more) = noted_after (noted_with noted call) more

-- ---- how they are kept: the bytes of all writes stand one after another, beside the notes

abbrev pub bytes_of : Note → ℕ
bytes_of (notes.Listen path answer) = 0
bytes_of (notes.Wait wants limit answer) = 0
bytes_of (notes.FailedWait wants limit) = 0
bytes_of (notes.Accept fd answer) = 0
bytes_of (notes.Read fd room answer) = 0
bytes_of (notes.Write fd len answer) = len
bytes_of (notes.Close fd) = 0

abbrev pub call_of : Note → List ℕ → LinkCall
call_of (notes.Listen path answer) bytes = Listen path.items answer
call_of (notes.Wait wants limit answer) bytes = Wait wants.items limit (Some (ready_of answer))
call_of (notes.FailedWait wants limit) bytes = Wait wants.items limit None
call_of (notes.Accept fd answer) bytes = Accept fd answer
call_of (notes.Read fd room answer) bytes = Read fd room answer
call_of (notes.Write fd len answer) bytes = Write fd bytes answer
call_of (notes.Close fd) bytes = Close fd

abbrev pub bytes_in : List Note → ℕ
bytes_in [] = 0
bytes_in (note ∷ more) = bytes_of note + bytes_in more

abbrev pub calls_in : List Note → List ℕ → List LinkCall
calls_in [] bytes = []
calls_in (note ∷ more) bytes = call_of note (take (bytes_of note) bytes) ∷ calls_in more (drop (bytes_of note) bytes)
