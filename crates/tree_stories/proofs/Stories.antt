-- What is seen of the tree machine's stories is told step by step, so that it can be driven.
use Rattle.std.proofs.Common.{◌≡◌, List, [], ◌∷◌, length, Option, Some, None, refl, ◌∙◌, ap, subst}
use Rattle.step_machine.specs.Machine.{Move, State, silent}
use Rattle.step_machine.specs.Machine.{Move as Do}
use Rattle.machine_driver.specs.Seen.{sight, seen_move}
use Rattle.machine_driver.proofs.Telling.{GoesOn, Tells, TakesOr, ToldBy, TellsStories}
use Rattle.tree_specs.specs.declared.question.Input.{Input}
use Rattle.tree_specs.specs.declared.frame.Frame.{Frame}
use Rattle.tree_specs.specs.declared.frame.Answer.{Answer}
use Rattle.tree_specs.specs.Tree.Pool.{Pool}
use Rattle.tree_specs.specs.Rules.Items.{Item}
use Rattle.tree_specs.specs.Rules.Story.{turns}
use Rattle.tree_specs.specs.Machine.Table.{table, step, taken, resume}
use Rattle.tree_specs.specs.Machine.View.{View}
use Rattle.tree_specs.specs.Invariants.Sound.{Rests}
use Rattle.tree_specs.specs.Invariants.Consistent.{IsConsistent, IsStacked}
use Rattle.tree_specs.proofs.Rules.Rest.{event-whole, question-whole, silent-whole, no-end}
use Rattle.tree_stories.specs.Sights.{Sight, seen_table, sights_of}
use Rattle.tree_stories.proofs.Seeing.{walk-seen, event-seen, question-seen, open-seen, stray-seen, silent-seen}

abbrev pub at : Frame → List Frame → Pool → View
at f fs p = record { innermost = f; below = fs; pool = p }

abbrev pub IsWhole : Frame → List Frame → Pool → Type 0
IsWhole f fs p = IsConsistent (at f fs p)

abbrev pub tale : Frame → List Frame → Pool → List Input → List Sight
tale f fs p = sights_of (at f fs p)

on : (v : View) (g : Frame) (gs : List Frame) (q : Pool) → IsConsistent v → silent table (step v.innermost v.pool) v.below ≡ Some (record { now = g; below = gs; pool = q }) → GoesOn seen_table IsWhole tale (sights_of v) g gs q
on v g gs q h e =
    let s : State Frame Pool = record { now = g; below = gs; pool = q } in
    (silent-whole v s h e, λ is. silent-seen v s is h e)

takes : (v : View) (q : Item) (f : Frame) (p : Pool) (i : Input) (o : Option Frame) → IsConsistent v → step v.innermost v.pool ≡ Do.Wait q f p → taken f p i ≡ o → TakesOr seen_table IsWhole tale (sights_of v) (sight v.pool q) v.below p i o
takes v q f p i None h e took = λ is. stray-seen v q f p i is h e took
takes v q f p i (Some g) h e took = (question-whole v q f g p i h e took, λ is. question-seen v q f g p i is h e took)

by-move : (v : View) (m : Move Frame Answer Pool Item) (fs : List Frame) → IsConsistent v → step v.innermost v.pool ≡ m → v.below ≡ fs → ToldBy seen_table IsWhole tale (sights_of v) (seen_move v.pool m) fs
by-move v (Do.Done a p) [] h e d =
    let b : IsStacked v.innermost [] = subst (λ (z : List Frame). IsStacked v.innermost z) d h.seated in
    let r : Rests v.innermost [] v.pool = subst (λ (z : List Frame). Rests v.innermost z v.pool) d h.sound.rests in
    absurd (no-end v.innermost v.pool p a b r e)
by-move v (Do.Done a p) (g ∷ gs) h e d = on v (resume g a) gs p h (ap (λ (m : Move Frame Answer Pool Item). silent table m v.below) e ∙ ap (silent table (Do.Done a p)) d)
by-move v (Do.Go f p) fs h e d = on v f fs p h (ap (λ (m : Move Frame Answer Pool Item). silent table m v.below) e ∙ ap (silent table (Do.Go f p)) d)
by-move v (Do.Call g f p) fs h e d = on v g (f ∷ fs) p h (ap (λ (m : Move Frame Answer Pool Item). silent table m v.below) e ∙ ap (silent table (Do.Call g f p)) d)
by-move v (Do.Emit x f p) fs h e d =
    subst (λ (z : List Frame). Tells seen_table IsWhole tale (sights_of v) (sight v.pool x) f z p) d (event-whole v x f p h e, λ is. event-seen v x f p is h e)
by-move v (Do.Wait x f p) fs h e d =
    subst (λ (z : List Frame). (sights_of v [] ≡ sight v.pool x ∷ []) × ((i : Input) → TakesOr seen_table IsWhole tale (sights_of v) (sight v.pool x) z p i (seen_table.taken f p i))) d
    (open-seen v x f p h e, λ i. takes v x f p i (taken f p i) h e refl)

pub tells : TellsStories seen_table IsWhole tale
tells = record {
  tells = λ f fs p h. by-move (at f fs p) (step f p) fs h refl refl;
  settles = λ f fs p h. (turns (length p.rows) 0, walk-seen (at f fs p) [] h);
}
