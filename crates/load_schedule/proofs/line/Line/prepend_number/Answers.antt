use Rattle.std.proofs.Common.{◌≤◌, length, drop, arith, ap}
use Rattle.std.specs.Fmt.{decimal}
use Rattle.std.proofs.lemmas.Fmt.{length-decimal-le}
use Rattle.std.proofs.lemmas.List.{length-drop, length-append}
use Rattle.load_schedule.proofs.line.Line.prepend_number.Goals as goal

pub write_digits-self-inside-requires : goal.write_digits-self-inside-requires
write_digits-self-inside-requires c =
    let short : length (decimal c.from.result) ≤ 10 = length-decimal-le 10 c.from.result (omega arith) (omega arith) (omega arith) in
    let left = ap length c.self.view_is in
    (omega (arith, length-drop c.self.inside.start c.self.inside.bytes), omega arith)

pub returns-clause-short : goal.returns-clause-short
returns-clause-short c =
    let short : length (decimal c.from.result) ≤ 10 = length-decimal-le 10 c.from.result (omega arith) (omega arith) (omega arith) in
    let before = ap length c.self.view_is in
    let now = ap length c.write_digits-self-inside.ensures.written in
    omega (arith, length-append (decimal c.from.result) (drop c.self.inside.start c.self.inside.bytes))
