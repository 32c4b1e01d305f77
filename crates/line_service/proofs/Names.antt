-- What a line may name, in the words of the host's look-ups.
use Rattle.std.proofs.Common.{◌≡◌, Option, Some, None, refl, ap}
use Rattle.std.specs.Prelude.{◌&&◌, Bool, is_some, not}
use Rattle.tree_specs.specs.declared.object.Obj.{Obj}
use Rattle.tree_specs.specs.declared.object.Owner.TheVariants.{Of}
use Rattle.tree_specs.specs.declared.row.Row.{Row}
use Rattle.tree_specs.specs.Words.Objects.{same}
use Rattle.tree_specs.specs.Tree.Pool.{Pool, row_of, is_row, passes, is_inside}
use Rattle.service_rules.specs.Naming.{is_plain, is_plain_at, may_name}

-- a plain object is one that is there
pub looked-up : (p : Pool) (s x : Obj) → (not (same x s) && (is_plain_at p x && (is_row p.rows s && (is_row p.rows x && is_inside p.rows (Of x) (Of s))))) ≡ may_name p s x
looked-up p s x = ap (λ (b : Bool). not (same x s) && b) (each (row_of p.rows x))
  where
    each : (o : Option Row) → (passes (λ r. is_plain r.kind) o && (is_row p.rows s && (is_some o && is_inside p.rows (Of x) (Of s)))) ≡ (passes (λ r. is_plain r.kind) o && (is_row p.rows s && is_inside p.rows (Of x) (Of s)))
    each None = refl
    each (Some r) = refl
