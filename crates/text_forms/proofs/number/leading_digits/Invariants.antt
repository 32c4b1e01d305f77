use Rattle.std.proofs.Common.{◌≡◌, ◌<◌, ◌^◌, true, take}
use Rattle.std.specs.Str.{all_ascii_digits}
use Rattle.std.specs.Str.Parse.{digits_value}
use Rattle.text_forms.proofs.number.leading_digits.Given as goal

abbrev pub invariant-loop-i : goal.invariant-loop-i
invariant-loop-i l = record { digits : all_ascii_digits (take l.i l.text) ≡ true; value : l.n ≡ digits_value 10 (take l.i l.text); fits : l.n < 2 ^ 64 }
