use Rattle.std.proofs.Common.{◌≡◌, [], ◌∷◌, refl}
use Rattle.tree_specs.specs.declared.event.Event.TheVariants.{Replied, Refused, Freed}
use Rattle.tree_specs.specs.declared.reply.Reply.TheVariants.{No}
use Rattle.tree_specs.specs.declared.reply.Refusal.TheVariants.{Refused as RefusedBy}
use Rattle.tree_specs.specs.Promises.Orderly.{Orderly}
use Rattle.tree_specs.specs.Promises.BadStories.{a, b, told}
use Rattle.tree_specs.proofs.forbidden.a_refused_call_follows_the_refusal.Goals as goal

pub returns : goal.returns
returns c = (unsaid, (late, (number, tt)))
  where
    unsaid : Orderly (told (Replied (No (RefusedBy a 1))) ∷ []) → ⊥
    unsaid o = (o [] (told (Replied (No (RefusedBy a 1)))) [] refl).refused_just_now

    late : Orderly (told (Refused a 1) ∷ told (Freed b 0) ∷ told (Replied (No (RefusedBy a 1))) ∷ []) → ⊥
    late o = let bad : told (Freed b 0) ≡ told (Refused a 1) = (o (told (Refused a 1) ∷ told (Freed b 0) ∷ []) (told (Replied (No (RefusedBy a 1)))) [] refl).refused_just_now in cc

    number : Orderly (told (Refused a 1) ∷ told (Replied (No (RefusedBy a 2))) ∷ []) → ⊥
    number o = let bad : told (Refused a 1) ≡ told (Refused a 2) = (o (told (Refused a 1) ∷ []) (told (Replied (No (RefusedBy a 2)))) [] refl).refused_just_now in cc
