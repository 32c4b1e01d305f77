use Rattle.std.proofs.Common.{◌≡◌, ℕ, true, false, [], ◌∷◌, refl, arith}
use Rattle.tree_specs.specs.declared.event.Event.TheVariants.{State}
use Rattle.std.specs.Prelude.{◌≤◌}
use Rattle.tree_specs.specs.Promises.Orderly.{Orderly}
use Rattle.tree_specs.specs.Promises.BadStories.{a, told}
use Rattle.tree_specs.proofs.forbidden.the_states_of_a_request_go_up.Goals as goal

pub returns : goal.returns
returns c = (low, (high, (finished, (again 6, (again 2, tt)))))
  where
    low : Orderly (told (State a 1) ∷ []) → ⊥
    low o = let bad : 2 ≤ 1 = (o [] (told (State a 1)) [] refl).states_go_up.0 in absurd (omega arith)

    high : Orderly (told (State a 7) ∷ []) → ⊥
    high o = let bad : 7 ≤ 6 = (o [] (told (State a 7)) [] refl).states_go_up.1 in absurd (omega arith)

    finished : Orderly (told (State a 2) ∷ told (State a 3) ∷ []) → ⊥
    finished o = let bad : true ≡ false = (o (told (State a 2) ∷ []) (told (State a 3)) [] refl).states_go_up.3 (omega arith) in cc

    -- after it was received no state comes
    again : (s : ℕ) → Orderly (told (State a 6) ∷ told (State a s) ∷ []) → ⊥
    again s o = let bad : true ≡ false = (o (told (State a 6) ∷ []) (told (State a s)) [] refl).states_go_up.2 in cc
