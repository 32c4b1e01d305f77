use Rattle.std.proofs.Common.{◌≡◌, ◌≤◌, ◌+◌, ◌^◌, true, Some, ℕ, sym, ap, ◌∙◌, arith, take, get_or, length}
use Rattle.std.specs.Char.{is_ascii_digit}
use Rattle.std.specs.Str.Parse.{digits_value}
use Rattle.text_forms.proofs.Digits.{digits_end, grows_over, more_is, more_digits}
use Rattle.text_forms.proofs.number.leading_digits.Goals as goal

pub returns-then-not-is_ascii_digit : goal.returns-then-not-is_ascii_digit
returns-then-not-is_ascii_digit c =
    digits_end c.args.text.now c.loop-i.i c.loop-i.n (omega (arith, c.loop-i-test.true)) c.loop-i.invariant.fits c.loop-i.invariant.value c.loop-i.invariant.digits
    (λ lt. sym c.is_ascii_digit.ensures.value ∙ c.if-not-is_ascii_digit.true)

pub returns-in_err-checked_mul : goal.returns-in_err-checked_mul
returns-in_err-checked_mul c =
    let digit : is_ascii_digit (get_or c.args.text.now c.loop-i.i 0) ≡ true = sym c.is_ascii_digit.ensures.value ∙ c.if-not-is_ascii_digit.false in
    let next = more_is c.args.text.now c.loop-i.i c.loop-i.n c.loop-i-test.true c.loop-i.invariant.value digit in
    let large : 2 ^ 64 ≤ digits_value 10 (take (c.loop-i.i + 1) c.args.text.now) = omega (arith, next, c.in_err-checked_mul.ensures) in
    c.from_residual.ensures
    ∙ grows_over c.args.text.now (c.loop-i.i + 1) (omega (arith, c.loop-i-test.true)) (more_digits c.args.text.now c.loop-i.i c.loop-i-test.true c.loop-i.invariant.digits digit) large

pub returns-in_err-n : goal.returns-in_err-n
returns-in_err-n c =
    let digit : is_ascii_digit (get_or c.args.text.now c.loop-i.i 0) ≡ true = sym c.is_ascii_digit.ensures.value ∙ c.if-not-is_ascii_digit.false in
    let next = more_is c.args.text.now c.loop-i.i c.loop-i.n c.loop-i-test.true c.loop-i.invariant.value digit in
    let large : 2 ^ 64 ≤ digits_value 10 (take (c.loop-i.i + 1) c.args.text.now) = omega (arith, next, c.in_err-n.ensures, c.in_ok-checked_mul.ensures) in
    c.from_residual-in_err-n.ensures
    ∙ grows_over c.args.text.now (c.loop-i.i + 1) (omega (arith, c.loop-i-test.true)) (more_digits c.args.text.now c.loop-i.i c.loop-i-test.true c.loop-i.invariant.digits digit) large

pub loop-i-preserved : goal.loop-i-preserved
loop-i-preserved c =
    let digit : is_ascii_digit (get_or c.args.text.now c.loop-i.i 0) ≡ true = sym c.is_ascii_digit.ensures.value ∙ c.if-not-is_ascii_digit.false in
    let next = more_is c.args.text.now c.loop-i.i c.loop-i.n c.loop-i-test.true c.loop-i.invariant.value digit in
    record {
      digits = more_digits c.args.text.now c.loop-i.i c.loop-i-test.true c.loop-i.invariant.digits digit;
      value = omega (arith, next, c.in_ok-n.ensures, c.in_ok-checked_mul.ensures);
      fits = omega (arith, c.in_ok-n.ensures);
    }

pub returns : goal.returns
returns c =
    let all : c.loop-i.i ≡ length c.args.text.now = omega (arith, c.loop-i-test.false, c.loop-i.auto.i-end) in
    ap (λ (count : ℕ). Some (c.loop-i.n, count)) (sym all)
    ∙ digits_end c.args.text.now c.loop-i.i c.loop-i.n c.loop-i.auto.i-end c.loop-i.invariant.fits c.loop-i.invariant.value c.loop-i.invariant.digits (λ lt. absurd (omega (arith, lt, all)))
