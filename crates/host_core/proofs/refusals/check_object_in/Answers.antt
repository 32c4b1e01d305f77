use Rattle.std.proofs.Common.{rules, ◌≡◌, [], ◌∷◌, Err, sym, ◌∙◌}
use Rattle.tree_specs.specs.declared.test.Test.TheVariants.{IsObject}
use Rattle.tree_specs.specs.Calls.Refusals.{checked, refused, refusal_of, object}
use Rattle.host_core.proofs.Allowed.{refused_two}
use Rattle.host_core.proofs.refusals.check_object_in.Goals as goal

pub returns-in_err-check_two : goal.returns-in_err-check_two
returns-in_err-check_two c =
    let p = c.args.pool.now.pool in
    let why : checked (refused p (IsObject c.args.x ∷ c.args.second ∷ [])) ≡ Err c.in_err-check_two.field-0.0 = search rules in
    search rules ∙ sym (refused_two (object p c.args.x) (refusal_of p c.args.second) _ _ why)
