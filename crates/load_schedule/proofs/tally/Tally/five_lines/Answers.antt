use Rattle.std.proofs.Common.{rules, ◌≡◌, ◌∙◌, ◌<◌, ◌++◌, ap, length, ℕ, List, [], ◌∷◌}
use Rattle.std.proofs.lemmas.Result.{IfOk-weaker}
use Rattle.tree_specs.specs.Texts.Load.{five_lines}
use Rattle.load_schedule.specs.Tallies.{noted, five_of}
use Rattle.load_schedule.proofs.TallyLaws.{no-bytes, five-whole, five-at-end}
use Rattle.load_schedule.proofs.tally.Tally.five_lines.Goals as goal

pub returns-then-is_empty : goal.returns-then-is_empty
returns-then-is_empty c =
    let text : List ℕ = noted c.self.inside.ended.items in
    let none : c.self.inside.line.items ≡ [] = no-bytes c.self.inside.line.items (search rules) in
    let view : text ++ c.self.inside.line.items ≡ c.args.self = search rules in
    IfOk-weaker c.five_lines.result _ _ (λ lines e. e
    ∙ ap (five_of c.args.count c.self.inside.counts.refused c.self.inside.counts.freed c.self.inside.counts.dropped) c.deref.ensures.value
    ∙ five-whole c.args.count text c.self.inside.line.items _ _ _ c.self.inside.last.items none c.self.invariant.0
    ∙ ap (five_lines c.args.count) view) c.five_lines.ensures

pub returns : goal.returns
returns c =
    let text : List ℕ = noted c.self.inside.ended.items in
    let all : List ℕ = noted c.self-2.inside.ended.items in
    let some : 0 < length c.self.inside.line.items = search rules in
    let view : text ++ c.self.inside.line.items ≡ c.args.self = search rules in
    let more : all ++ c.self-2.inside.line.items ≡ (text ++ c.self.inside.line.items) ++ 10 ∷ [] = search rules in
    IfOk-weaker c.five_lines-2.result _ _ (λ lines e. e
    ∙ ap (five_of c.args.count c.self-2.inside.counts.refused c.self-2.inside.counts.freed c.self-2.inside.counts.dropped) c.deref-2.ensures.value
    ∙ five-at-end c.args.count text c.self.inside.line.items all c.self-2.inside.line.items _ _ _ _ _ _ c.self.inside.last.items c.self-2.inside.last.items some c.self.invariant.0 c.self.invariant.1 c.self-2.invariant.0 c.self-2.invariant.1 more
    ∙ ap (five_lines c.args.count) view) c.five_lines-2.ensures
