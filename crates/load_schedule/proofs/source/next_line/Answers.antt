use Rattle.std.proofs.Common.{rules, ◌<◌, length, arith, sym, subst, ℕ, List}
use Rattle.std.proofs.lemmas.Bool.Decides.{nat_tests}
use Rattle.tree_specs.specs.Texts.Load.{call_drawn}
use Rattle.load_schedule.proofs.SourceLaws.{last-text, next-text, line-some}
use Rattle.load_schedule.proofs.source.next_line.Goals as goal

pub returns-then-left-eq0-clause-bytes : goal.returns-then-left-eq0-clause-bytes
returns-then-left-eq0-clause-bytes c =
    last-text c.args.is_over.now c.args.left.now c.args.place.now c.write.new.self c.requires.more (grind (arith, nat_tests, c.if-left-eq0.true)) (search rules)

pub returns-clause-bytes : goal.returns-clause-bytes
returns-clause-bytes c =
    next-text c.args.is_over.now c.args.left.now c.args.place.now c.next_line.new.self c.next_line.new.line c.requires.more (grind (arith, nat_tests, c.if-left-eq0.false)) c.next_line.ensures.line c.next_line.ensures.place

pub returns-clause-some : goal.returns-clause-some
returns-clause-some c = subst (λ (l : List ℕ). 0 < length l) (sym c.next_line.ensures.line) (line-some (call_drawn c.args.place.now))
