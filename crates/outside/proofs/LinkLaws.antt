-- Links in memory: what is told of each call, which answers fit, and what is open.
use Rattle.std.proofs.Common.{◌≡◌, ◌==◌, ℕ, Bool, true, false, not, ◌&&◌, List, [], ◌∷◌, length, filter, nat_le, Option, Some, None, refl, arith}
use Rattle.std.proofs.lemmas.Bool.Decides.{nat_tests}
use Rattle.tree_specs.specs.declared.question.Input.{Input}
use Rattle.tree_specs.specs.declared.question.Input.TheVariants as inputs
use Rattle.outside.specs.Tellings.{Tells}
use Rattle.outside.specs.Descriptors.{is_among}
use Rattle.outside.specs.LinkCalls.{LinkCall}
use Rattle.outside.specs.Notes.{Noted, told_with, noted_with, written_by}
use Rattle.outside.specs.Scripts.{fits_read, fits_write, given}
use Rattle.outside.proofs.TellingLaws.{tells_nothing}

-- ---- what is told

tells_with : (told : Option (List LinkCall)) (call : LinkCall) → Tells told (told_with told call) (call ∷ [])
tells_with None call = refl
tells_with (Some told) call = refl

pub tells_noted : (noted : Noted) (call : LinkCall) → Tells noted.told (noted_with noted call).told (call ∷ [])
tells_noted noted call = go (nat_le 1 noted.calls_left && nat_le (written_by call) noted.bytes_left) refl
  where
    go : (b : Bool) → (nat_le 1 noted.calls_left && nat_le (written_by call) noted.bytes_left) ≡ b → Tells noted.told (noted_with noted call).told (call ∷ [])
    go true e = rw e (tells_with noted.told call)
    go false e = rw e (tells_nothing noted.told None (call ∷ []) refl)

-- ---- which answers fit

pub given_read : (room : ℕ) (next : Option Input) → fits_read room (Some (given (fits_read room next) next)) ≡ true
given_read room None = refl
given_read room (Some (inputs.Got bytes)) = go (nat_le (length bytes) room) refl
  where
    go : (b : Bool) → nat_le (length bytes) room ≡ b → fits_read room (Some (given b (Some (inputs.Got bytes)))) ≡ true
    go true e = e
    go false e = refl
given_read room (Some other) = refl

pub given_write : (len : ℕ) (next : Option Input) → fits_write len (Some (given (fits_write len next) next)) ≡ true
given_write len None = refl
given_write len (Some (inputs.Wrote n)) = go (nat_le 1 n && nat_le n len) refl
  where
    go : (b : Bool) → (nat_le 1 n && nat_le n len) ≡ b → fits_write len (Some (given b (Some (inputs.Wrote n)))) ≡ true
    go true e = e
    go false e = refl
given_write len (Some other) = refl

-- ---- what is open

pub among_removed : (fd d : ℕ) (fds : List ℕ) → is_among d (filter (λ e. not (e == fd)) fds) ≡ (not (d == fd) && is_among d fds)
among_removed fd d [] = grind (arith, nat_tests)
among_removed fd d (e ∷ es) = let rest = among_removed fd d es in grind (arith, nat_tests, rest)
