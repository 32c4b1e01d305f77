use borrow.Rule.Slice.PartMut.{same_len_mid}
use Rattle.std.proofs.Common.{rules, ◌∙◌, ◌≤◌, ◌-◌, ◌++◌, ap, sym, arith, ℕ, List, length, take, drop}
use Rattle.std.proofs.lemmas.List.{append_assoc, length-take}
use Rattle.load_schedule.proofs.SourceLaws.{piece-front}
use Rattle.load_schedule.proofs.source.LoadSource.fill.Goals as goal

pub fills-preserved : goal.fills-preserved
fills-preserved c =
    let filled : ℕ = c.fills.filled in
    let front : List ℕ = take filled c.fills.buf in
    let some : c.give-n.result ≤ length c.give-n.new.buf = search rules in
    let kept = same_len_mid filled (length c.fills.buf - filled) c.fills.buf c.give-n.new.buf c.give-n.auto.buf in
    let short = length-take (length c.fills.buf - filled) (drop filled c.fills.buf) in
    record {
      bytes = c.fills.invariant.bytes ∙ ap (λ (t : List ℕ). front ++ t) c.give-n.ensures.bytes
          ∙ sym (append_assoc front (take c.give-n.result c.give-n.new.buf) c.give-n.new.self)
          ∙ ap (λ (t : List ℕ). t ++ c.give-n.new.self) (sym (piece-front filled c.give-n.result c.fills.buf c.give-n.new.buf _ c.fills.invariant.within some));
      within = omega (arith, kept, some, short, c.fills-test.true, c.give-n.auto.buf);
      same = kept ∙ c.fills.invariant.same;
    }
