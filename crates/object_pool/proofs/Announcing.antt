-- Whether a step of a free tells an event, by what is watched before it.
use Rattle.std.proofs.Common.{◌≡◌, ℕ, List, [], Option, Some, None, is_some, refl, sym, ap, ◌∙◌}
use Rattle.std.specs.Option.{option_map}
use Rattle.tree_specs.specs.declared.object.Obj.{Obj}
use Rattle.tree_specs.specs.declared.watch.Watch.{Watch}
use Rattle.tree_specs.specs.declared.event.Event.TheVariants.{Closed}
use Rattle.tree_specs.specs.declared.free_step.FreeStep.{FreeStep}
use Rattle.tree_specs.specs.declared.free_step.FreeStep.TheVariants.{Doom, Left}
use Rattle.tree_specs.specs.Events.Rotation.{closes_with}
use Rattle.tree_specs.specs.Machine.Table.{closed_event}
use Rattle.destructors.specs.Frees.{OpenFrees, next_of, is_event, let_go_by}
use Rattle.object_pool.specs.Upcoming.{Upcoming, frees_beside}
use Rattle.object_pool.proofs.Beside.{next-beside}

pub closed_told : (fd : Option ℕ) → option_map (λ (n : ℕ). Closed n) fd ≡ closed_event fd
closed_told None = refl
closed_told (Some fd) = refl

is-closed : (fd : Option ℕ) → is_some (closed_event fd) ≡ is_some fd
is-closed None = refl
is-closed (Some fd) = refl

module _ (ring : List Watch) where
  -- a step that lets go of an object tells the descriptor that is closed with it
  pub lets-go : (told : Option FreeStep) (x : Obj) → Some x ≡ let_go_by told → is_some (closes_with ring x) ≡ is_event ring told
  lets-go (Some (Left y from)) x e = let is : x ≡ y = cc in ap (λ (z : Obj). is_some (closes_with ring z)) is ∙ sym (is-closed (closes_with ring y))
  lets-go (Some (Doom y)) x e = let is : x ≡ y = cc in ap (λ (z : Obj). is_some (closes_with ring z)) is ∙ sym (is-closed (closes_with ring y))
  lets-go _ x e = cc

  -- any other tells what it tells where nothing is watched
  pub lets-none-go : (told : Option FreeStep) → None ≡ let_go_by told → is_event [] told ≡ is_event ring told
  lets-none-go (Some (Left y from)) e = cc
  lets-none-go (Some (Doom y)) e = cc
  lets-none-go _ e = refl

-- what is to come beside the rows doesn't change what a step tells
pub told-beside : (u : Upcoming) (s : OpenFrees) → is_event u.ring (next_of s).0 ≡ is_event u.ring (next_of (frees_beside u s)).0
told-beside u s = sym (ap (λ (n : Option FreeStep × OpenFrees). is_event u.ring n.0) (next-beside u s))
