use Rattle.std.proofs.Common.{rules, ◌≡◌, [], ◌∷◌, Err, sym, ◌∙◌}
use Rattle.tree_specs.specs.declared.test.Test.TheVariants.{IsObject, IsMovable, IsOwner}
use Rattle.tree_specs.specs.Calls.Refusals.{checked, refused, object, movable, owner}
use Rattle.host_core.proofs.Allowed.{refused_three}
use Rattle.host_core.proofs.refusals.check_reparent.Goals as goal

pub returns-in_err-check_three : goal.returns-in_err-check_three
returns-in_err-check_three c =
    let p = c.args.pool.now.pool in
    let why : checked (refused p (IsObject c.args.x ∷ IsMovable c.args.x ∷ IsOwner c.args.from ∷ [])) ≡ Err c.in_err-check_three.field-0.0 = search rules in
    search rules ∙ sym (refused_three (object p c.args.x) (movable p c.args.x) (owner p c.args.from) _ _ why)
