use Rattle.std.proofs.Common.{rules, ◌≡◌, [], ◌∷◌, Err, sym, ◌∙◌}
use Rattle.tree_specs.specs.declared.test.Test.TheVariants.{IsOwner, IsContext}
use Rattle.tree_specs.specs.Calls.Refusals.{checked, refused, owner, context}
use Rattle.host_core.proofs.Allowed.{refused_two}
use Rattle.host_core.proofs.refusals.check_timer.Goals as goal

pub returns-in_err-check_two : goal.returns-in_err-check_two
returns-in_err-check_two c =
    let p = c.args.pool.now.pool in
    let why : checked (refused p (IsOwner c.args.owner ∷ IsContext c.args.context ∷ [])) ≡ Err c.in_err-check_two.field-0.0 = search rules in
    search rules ∙ sym (refused_two (owner p c.args.owner) (context p c.args.context) _ _ why)
