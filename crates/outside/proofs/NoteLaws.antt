-- One call more is noted.
use Rattle.std.proofs.Common.{◌≡◌, ◌+◌, ◌-◌, ◌&&◌, ℕ, Bool, true, false, List, [], ◌∷◌, ◌++◌, length, take, drop, nat_le, Some, None, if◌then◌else◌, refl, ap, arith}
use Rattle.std.proofs.lemmas.List.{take-append-le, drop-append-le, take_all, length-drop, length-append}
use Rattle.outside.specs.declared.notes.Note.{Note}
use Rattle.outside.specs.declared.notes.Note.TheVariants as notes
use Rattle.outside.specs.Notes.{Noted, told_with, noted_with, written_by, bytes_of, call_of, bytes_in, calls_in}

-- ---- what is kept

bytes_in-append : (ns : List Note) (n : Note) → bytes_in (ns ++ n ∷ []) ≡ bytes_in ns + bytes_of n
bytes_in-append [] n = omega arith
bytes_in-append (m ∷ ms) n = let rest = bytes_in-append ms n in omega (arith, rest)

no_bytes : (xs : List ℕ) → 0 ≡ length xs → xs ≡ []
no_bytes [] e = refl
no_bytes (x ∷ xs) e = absurd (omega (arith, e))

calls_in-append : (ns : List Note) (n : Note) (xs ys : List ℕ) → bytes_in ns ≡ length xs → bytes_of n ≡ length ys →
    calls_in (ns ++ n ∷ []) (xs ++ ys) ≡ calls_in ns xs ++ call_of n ys ∷ []
calls_in-append [] n xs ys e f = rw (no_bytes xs e, f, take_all (length ys) ys (omega arith)) refl
calls_in-append (m ∷ ms) n xs ys e f =
    let k : ℕ = bytes_of m in
    rw (take-append-le k xs ys (omega (arith, e)), drop-append-le k xs ys (omega (arith, e)))
    (ap (λ rest. call_of m (take k xs) ∷ rest) (calls_in-append ms n (drop k xs) ys (rw length-drop (omega (arith, e))) f))

pub keeps_bytes : (ns now : List Note) (n : Note) (xs held ys : List ℕ) → now ≡ ns ++ n ∷ [] → held ≡ xs ++ ys → bytes_in ns ≡ length xs → bytes_of n ≡ length ys →
    bytes_in now ≡ length held
keeps_bytes ns now n xs held ys i j e f = rw (i, j, bytes_in-append ns n, length-append xs ys) (omega (arith, e, f))

pub tells_one_more : (tells : Bool) (ns now : List Note) (n : Note) (xs held ys : List ℕ) → now ≡ ns ++ n ∷ [] → held ≡ xs ++ ys → bytes_in ns ≡ length xs → bytes_of n ≡ length ys →
    (if tells then Some (calls_in now held) else None) ≡ told_with (if tells then Some (calls_in ns xs) else None) (call_of n ys)
tells_one_more true ns now n xs held ys i j e f = rw (i, j, calls_in-append ns n xs ys e f) refl
tells_one_more false ns now n xs held ys i j e f = refl

-- ---- what is seen

written_by-call : (n : Note) (bytes : List ℕ) → bytes_of n ≡ length bytes → written_by (call_of n bytes) ≡ length bytes
written_by-call (notes.Listen path answer) bytes e = e
written_by-call (notes.Wait wants limit answer) bytes e = e
written_by-call (notes.FailedWait wants limit) bytes e = e
written_by-call (notes.Accept fd answer) bytes e = e
written_by-call (notes.Read fd room answer) bytes e = e
written_by-call (notes.Write fd len answer) bytes e = refl
written_by-call (notes.Close fd) bytes e = e

pub noted_kept : (noted now : Noted) (n : Note) (bytes : List ℕ) → bytes_of n ≡ length bytes → (nat_le 1 noted.calls_left && nat_le (length bytes) noted.bytes_left) ≡ true →
    now ≡ record { told = told_with noted.told (call_of n bytes); calls_left = noted.calls_left - 1; bytes_left = noted.bytes_left - length bytes } →
    now ≡ noted_with noted (call_of n bytes)
noted_kept noted now n bytes same room e = rw (written_by-call n bytes same, room) e

pub noted_stopped : (noted now : Noted) (n : Note) (bytes : List ℕ) → bytes_of n ≡ length bytes → (nat_le 1 noted.calls_left && nat_le (length bytes) noted.bytes_left) ≡ false →
    now ≡ record noted { told = None } → now ≡ noted_with noted (call_of n bytes)
noted_stopped noted now n bytes same room e = rw (written_by-call n bytes same, room) e
