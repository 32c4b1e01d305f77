-- One time more is told.
use Rattle.std.proofs.Common.{◌≡◌, ◌-◌, ◌^◌, ◌++◌, ℕ, suc, Bool, true, false, List, [], ◌∷◌, nat_lt, refl, arith}
use Rattle.std.proofs.lemmas.Bool.Decides.{nat_tests}
use Rattle.outside.specs.Causes.{count_up}
use Rattle.outside.specs.Clocks.{time_after, first_times, told_times}
use Rattle.outside.specs.Tellings.{Tells}

counts_on : (n : ℕ) → nat_lt n (2 ^ 64 - 1) ≡ true → count_up n ≡ suc n
counts_on n e = grind (arith, nat_tests, e)

stays_full : (n : ℕ) → nat_lt n (2 ^ 64 - 1) ≡ false → nat_lt (count_up n) (2 ^ 64 - 1) ≡ false
stays_full n e = grind (arith, nat_tests, e)

pub tells_next : (values : List ℕ) (n : ℕ) →
    Tells (told_times (record { values = values; told = n })) (told_times (record { values = values; told = count_up n })) (time_after values n ∷ [])
tells_next values n = go (nat_lt n (2 ^ 64 - 1)) refl (nat_lt (count_up n) (2 ^ 64 - 1)) refl
  where
    one_more : nat_lt n (2 ^ 64 - 1) ≡ true → first_times values (count_up n) ≡ first_times values n ++ time_after values n ∷ []
    one_more e = rw (counts_on n e) refl

    go : (b : Bool) → nat_lt n (2 ^ 64 - 1) ≡ b → (c : Bool) → nat_lt (count_up n) (2 ^ 64 - 1) ≡ c →
        Tells (told_times (record { values = values; told = n })) (told_times (record { values = values; told = count_up n })) (time_after values n ∷ [])
    go true e true f = rw (e, f) (one_more e)
    go true e false f = rw (e, f) tt
    go false e c f = rw (e, stays_full n e) refl
