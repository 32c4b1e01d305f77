-- What the limits of an owner and of those above it say, one after another.
use Rattle.std.proofs.Common.{◌≡◌, ℕ, zero, suc, ◌<◌, ◌≤◌, List, [], ◌∷◌, ◌++◌, Some, None, Ok, Err, refl, ◌∙◌, arith}
use Rattle.tree_specs.specs.declared.object.Obj.{Obj}
use Rattle.tree_specs.specs.declared.object.Owner.{Owner}
use Rattle.tree_specs.specs.declared.object.Owner.TheVariants.{Root, Of}
use Rattle.tree_specs.specs.declared.row.Row.{Row}
use Rattle.tree_specs.specs.declared.reply.Refusal.{Refusal}
use Rattle.tree_specs.specs.Calls.Refusals.{Check, checked, over, fits_in}
use Rattle.tree_specs.specs.Tree.Pool.{owner_of}

pub above-all : (n : ℕ) (rs : List Row) (wanted : ℕ) (o : Owner) → ((x : Obj) → o ≡ Of x → ⊥) → checked (fits_in n rs wanted (Some o)) ≡ Ok tt
above-all n rs wanted Root not = refl
above-all n rs wanted (Of x) not = absurd (not x refl)

pub far-enough : (n : ℕ) (rs : List Row) (wanted : ℕ) (o : Owner) → n ≤ 0 → checked (fits_in n rs wanted (Some o)) ≡ Ok tt
far-enough zero rs wanted Root e = refl
far-enough zero rs wanted (Of x) e = refl
far-enough (suc n) rs wanted o e = absurd (omega (arith, e))

refused : (first later : Check) (why : Refusal) → checked first ≡ Err why → checked (first ++ later) ≡ Err why
refused [] later why e = cc
refused (other ∷ more) later why e = e

allowed : (first later : Check) → checked first ≡ Ok tt → checked (first ++ later) ≡ checked later
allowed [] later e = refl
allowed (other ∷ more) later e = cc

pub lacks : (n : ℕ) (rs : List Row) (wanted : ℕ) (x : Obj) (why : Refusal) → 0 < n → checked (over rs wanted x) ≡ Err why → checked (fits_in n rs wanted (Some (Of x))) ≡ Err why
lacks zero rs wanted x why more e = absurd (omega (arith, more))
lacks (suc n) rs wanted x why more e = refused (over rs wanted x) (fits_in n rs wanted (owner_of rs x)) why e

pub topmost : (n : ℕ) (rs : List Row) (wanted : ℕ) (x : Obj) → 0 < n → checked (over rs wanted x) ≡ Ok tt → owner_of rs x ≡ None → checked (fits_in n rs wanted (Some (Of x))) ≡ Ok tt
topmost zero rs wanted x more e none = absurd (omega (arith, more))
topmost (suc n) rs wanted x more e none = allowed (over rs wanted x) (fits_in n rs wanted (owner_of rs x)) e ∙ rw none refl
