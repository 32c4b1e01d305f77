use Rattle.std.proofs.Common.{◌≡◌, ◌∙◌, Some, true, false, refl, sym, arith}
use Rattle.std.specs.Str.Parse.{ParsesUnsigned, ExplainsUnsignedError, HasUnsignedDigitsIfOk}
use Rattle.std.proofs.lemmas.Bool.Decides.{nat_tests}
use Rattle.clap.specs.Words.{found_of}
use Rattle.command_words.proofs.NumberLaws.{is_between, number_of_rows}
use Rattle.command_words.proofs.reading.number_in.Goals as goal

pub returns-in-Some : goal.returns-in-Some
returns-in-Some c =
    let whole = number_of_rows (λ bs r. ParsesUnsigned 32 10 bs r × ExplainsUnsignedError 10 bs r × HasUnsignedDigitsIfOk bs r) (λ bs r g. g.0)
    c.args.least c.args.most c.ranges.most.fits c.args.name.now (found_of c.args.matches.now) (Some c.in-Some.number) c.in-Some.ensures.none c.in-Some.ensures.value in
    let is : is_between c.args.least c.args.most c.in-Some.number ≡ true = grind (arith, nat_tests, c.if-contains.true, c.contains.ensures.value, c.new.ensures.start, c.new.ensures.end, c.new.ensures.exhausted) in
    sym (whole ∙ rw is refl)

pub returns-in_default : goal.returns-in_default
returns-in_default c =
    let whole = number_of_rows (λ bs r. ParsesUnsigned 32 10 bs r × ExplainsUnsignedError 10 bs r × HasUnsignedDigitsIfOk bs r) (λ bs r g. g.0)
    c.args.least c.args.most c.ranges.most.fits c.args.name.now (found_of c.args.matches.now) (Some c.in-Some.number) c.in-Some.ensures.none c.in-Some.ensures.value in
    let is : is_between c.args.least c.args.most c.in-Some.number ≡ false = grind (arith, nat_tests, c.if-contains.false, c.contains.ensures.value, c.new.ensures.start, c.new.ensures.end, c.new.ensures.exhausted) in
    sym (whole ∙ rw is refl)

pub returns-in_default-2 : goal.returns-in_default-2
returns-in_default-2 c =
    let whole = number_of_rows (λ bs r. ParsesUnsigned 32 10 bs r × ExplainsUnsignedError 10 bs r × HasUnsignedDigitsIfOk bs r) (λ bs r g. g.0)
    c.args.least c.args.most c.ranges.most.fits c.args.name.now (found_of c.args.matches.now) c.get_one.result c.get_one.ensures.none c.get_one.ensures.value in
    sym (whole ∙ rw c.in_default.is refl)
