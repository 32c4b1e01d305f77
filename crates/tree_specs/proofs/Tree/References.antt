-- Where there is no reference to an object.
use Rattle.std.proofs.Common.{◌≡◌, ◌≢◌, List, [], ◌∷◌, Option, Some, None, is_some, false, refl, arith}
use Rattle.std.specs.Prelude.{nat_lt}
use Rattle.tree_specs.specs.declared.object.Obj.{Obj}
use Rattle.tree_specs.specs.declared.row.Row.{Row}
use Rattle.tree_specs.specs.Tree.Targets.{target_of, is_target, newer, newest_ref}
use Rattle.tree_specs.specs.Tree.Inside.{NoReferences}
use Rattle.tree_specs.specs.Calls.Refusals.{is_held}
use Rattle.tree_specs.proofs.Tree.Numbered.{by_test}
use Rattle.tree_specs.specs.Tree.Pool.{Pool}
use Rattle.tree_specs.specs.Tree.Reports.{count_refs}

no-target : (target : Option Obj) (x : Obj) → is_some target ≡ false → is_target target x ≡ false
no-target None x e = refl
no-target (Some target) x e = cc

pub no-refs : (rs : List Row) (x : Obj) → NoReferences rs → count_refs rs x ≡ 0
no-refs [] x h = refl
no-refs (r ∷ rs) x h = let ih = no-refs rs x h.1 in let e : is_target (target_of r.kind) x ≡ false = no-target (target_of r.kind) x h.0 in rw e (omega (arith, ih))

newer-some : (s : Obj) (o : Option Obj) → newer s o ≢ None
newer-some s None e = cc
newer-some s (Some y) e = by_test (nat_lt s.0 y.0) (λ l. let bad : Some y ≡ None = rw l at e in cc) (λ l. let bad : Some s ≡ None = rw l at e in cc)

-- where there is no newest reference there is none
none-counted : (rs : List Row) (x : Obj) → newest_ref rs x ≡ None → count_refs rs x ≡ 0
none-counted [] x e = refl
none-counted (r ∷ rs) x e = by_test (is_target (target_of r.kind) x)
    (λ t. let bad : newer r.serial (newest_ref rs x) ≡ None = rw t at e in absurd (newer-some r.serial (newest_ref rs x) bad))
    (λ t. let e' : newest_ref rs x ≡ None = rw t at e in let ih = none-counted rs x e' in rw t (omega (arith, ih)))

-- what has no reference isn't held
pub not-held : (p : Pool) (x : Obj) → newest_ref p.rows x ≡ None → is_held p x ≡ false
not-held p x e = rw (none-counted p.rows x e) refl
