use Rattle.std.proofs.Common.{◌≡◌, ◌∙◌, ◌++◌, ap, ap₂, sym, arith, ℕ, codes, ltb, true}
use Rattle.std.specs.Fmt.{decimal}
use Rattle.std.proofs.lemmas.Bool.Decides.{nat_tests}
use Rattle.tree_specs.specs.Texts.Load.{kind}
use Rattle.load_schedule.proofs.CallLines.{line-of-new, line-of-steal, line-of-free, line-of-reference, line-of-unlink}
use Rattle.load_schedule.proofs.place.Place.next_line.Goals as goal

pub returns-in-0-to-3-clause-line : goal.returns-in-0-to-3-clause-line
returns-in-0-to-3-clause-line c =
    let d = c.draws-drawn.ensures in
    let k : ltb (kind c.args.self.now) 4 ≡ true = ap (λ (n : ℕ). ltb n 4) (sym d.kind) ∙ grind (arith, nat_tests, c.in-0-to-3) in
    c.write_new.ensures ∙ ap₂ (λ (o s : ℕ). codes "call new " ++ decimal o ++ codes " " ++ decimal s ++ codes " n\n") d.owner d.size ∙ sym (line-of-new c.args.self.now k)

pub returns-in-4-clause-line : goal.returns-in-4-clause-line
returns-in-4-clause-line c =
    let d = c.draws-drawn.ensures in
    c.write_pair.ensures ∙ ap₂ (λ (o x : ℕ). codes "call steal " ++ decimal o ++ codes " " ++ decimal x ++ codes "\n") d.owner d.object ∙ sym (line-of-steal c.args.self.now (sym d.kind ∙ c.in-4.is))

pub returns-in-5-clause-line : goal.returns-in-5-clause-line
returns-in-5-clause-line c =
    let d = c.draws-drawn.ensures in
    c.write_free.ensures ∙ ap (λ (x : ℕ). codes "call free " ++ decimal x ++ codes "\n") d.object ∙ sym (line-of-free c.args.self.now (sym d.kind ∙ c.in-5.is))

pub returns-in-6-clause-line : goal.returns-in-6-clause-line
returns-in-6-clause-line c =
    let d = c.draws-drawn.ensures in
    c.write_pair-in-6.ensures ∙ ap₂ (λ (o x : ℕ). codes "call reference " ++ decimal o ++ codes " " ++ decimal x ++ codes "\n") d.owner d.object ∙ sym (line-of-reference c.args.self.now (sym d.kind ∙ c.in-6.is))

pub returns-in_default-clause-line : goal.returns-in_default-clause-line
returns-in_default-clause-line c =
    let d = c.draws-drawn.ensures in
    let seven : c.draws-drawn.result.kind ≡ 7 = grind (arith, nat_tests, c.in_default, d.kind) in
    let k : kind c.args.self.now ≡ 7 = sym d.kind ∙ seven in
    c.write_pair-in_default.ensures ∙ ap₂ (λ (o x : ℕ). codes "call unlink " ++ decimal o ++ codes " " ++ decimal x ++ codes "\n") d.owner d.object ∙ sym (line-of-unlink c.args.self.now k)
