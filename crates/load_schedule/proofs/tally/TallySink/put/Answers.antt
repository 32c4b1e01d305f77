use Rattle.std.proofs.Common.{rules, ◌≡◌, arith}
use Rattle.std.proofs.lemmas.Bool.Decides.{nat_tests}
use Rattle.load_schedule.proofs.TallyLaws.{put-line}
use Rattle.load_schedule.proofs.tally.TallySink.put.Goals as goal

pub returns-in_ok-end_line-in-Some-clause-bytes : goal.returns-in_ok-end_line-in-Some-clause-bytes
returns-in_ok-end_line-in-Some-clause-bytes c =
    let none : c.in_ok-n.n ≡ 0 = grind (arith, nat_tests, c.if-n-gt0.false) in
    put-line c.args.self.now c.take_lines.new.self c.end_line.new.self c.args.bytes.now c.in_ok-n.n c.min.result c.in-Some.end
    none c.in_ok-n.ensures.taken c.in-Some.ensures (search rules) c.in_ok-end_line-in-Some.ensures.taken
