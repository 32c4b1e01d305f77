use Rattle.std.proofs.Common.{rules, ◌≡◌, ◌∙◌, ap, ℕ, ◌+◌, List, ◌∷◌, ◌++◌, []}
use Rattle.line_pieces.specs.Cuts.{has_no_lf}
use Rattle.line_pieces.proofs.LineLaws.{plain_append}
use Rattle.load_schedule.specs.Tallies.{noted, later_reply}
use Rattle.load_schedule.proofs.TallyLaws.{sums-end}
use Rattle.load_schedule.proofs.tally.Tally.end_line.Goals as goal

pub invariant_of-self-2 : goal.invariant_of-self-2
invariant_of-self-2 c =
    let line : List ℕ = c.self.inside.line.items ++ c.args.rest.now in
    let longer = c.in_ok-extend_from_slice.ensures.items in
    let first = c.deref.ensures.value ∙ longer in
    let second = c.deref-2.ensures.value ∙ longer in
    let third = c.deref-3.ensures.value ∙ longer in
    let refused : c.add.new.counts.refused ≡ c.self.inside.counts.refused + c.with-later.result.refused = search rules in
    let freed : c.add.new.counts.freed ≡ c.self.inside.counts.freed + c.with-later.result.freed = search rules in
    let dropped : c.add.new.counts.dropped ≡ c.self.inside.counts.dropped + c.with-later.result.dropped = search rules in
    let last : c.add.new.last.items ≡ later_reply c.self.inside.last.items c.reply_of-reply.result.now = search rules in
    let text : noted c.add_all-2.new.history.items ≡ noted c.self.inside.ended.items ++ line ++ 10 ∷ [] =
    c.add_all-2.ensures ∙ ap (λ (t : List ℕ). t ++ 10 ∷ []) (c.add_all.ensures ∙ ap (λ (t : List ℕ). noted c.self.inside.ended.items ++ t) third) in (
      rw text (sums-end (noted c.self.inside.ended.items) line _ _ _ c.with-later.result.refused c.with-later.result.freed c.with-later.result.dropped _ _ _ _ c.reply_of-reply.result.now _
          c.self.invariant.0 (plain_append c.self.inside.line.items c.args.rest.now c.self.invariant.1 c.requires)
          (rw second at c.with-later.ensures.refused) (rw second at c.with-later.ensures.freed) (rw second at c.with-later.ensures.dropped) (rw first at c.reply_of-reply.ensures) refused freed dropped last),
      ap has_no_lf c.clear.ensures.items,
    )
