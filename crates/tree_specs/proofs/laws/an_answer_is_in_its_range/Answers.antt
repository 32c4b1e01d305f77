use Rattle.std.proofs.Common.{◌≡◌, ℕ, suc, zero, ◌<◌, ◌≤◌, List, [], ◌∷◌, true, false, arith}
use Rattle.std.specs.Prelude.{◌&&◌, not}
use Rattle.std.proofs.lemmas.Bool.Decides.{nat_tests}
use Rattle.step_machine.specs.Machine.{tell}
use Rattle.step_machine.specs.Machine.Outcome.{Ended, Stray}
use Rattle.tree_specs.specs.declared.bounds.TheConstants.{TIME_LIMIT}
use Rattle.tree_specs.specs.declared.question.Ask.TheVariants.{Clock as AsksClock, Accept}
use Rattle.tree_specs.specs.declared.question.Input.{Input}
use Rattle.tree_specs.specs.declared.question.Input.TheVariants.{Clock, Took, Again, Fault}
use Rattle.tree_specs.specs.declared.reply.Reply.{Reply}
use Rattle.tree_specs.specs.declared.reply.Reply.TheVariants.{Number, Again as IsAgain, Fault as IsFault}
use Rattle.tree_specs.specs.Tree.Pool.{Pool, open_descriptor}
use Rattle.tree_specs.specs.Words.Ranges.{is_routine, is_time}
use Rattle.tree_specs.specs.Calls.Refusals.{is_open}
use Rattle.tree_specs.specs.Rules.Items.Item.{Asked}
use Rattle.tree_specs.specs.Rules.Sequence.{Scene}
use Rattle.tree_specs.specs.Rules.Story.{reaching, opening, hearing}
use Rattle.tree_specs.proofs.Tree.Numbered.{by_test}
use Rattle.tree_specs.proofs.Calls.Checks.{both-true, not-true}
use Rattle.tree_specs.proofs.Events.DescriptorLaws.{opened-same}
use Rattle.tree_specs.proofs.Rules.Lawful.{scene_of}
use Rattle.tree_specs.proofs.laws.an_answer_is_in_its_range.Goals as goal

-- a reply that is heard is the answer
heard-ends : (n : ℕ) (s : Scene) (given r : Reply) (p q : Pool) (is left : List Input) (told : List Scene) → tell s (hearing n given p is) ≡ Ended r q told left → r ≡ given
heard-ends zero s given r p q is left told e = cc
heard-ends (suc n) s given r p q is left told e = let e' : Ended given p (s ∷ []) is ≡ Ended r q told left = e in cc

time-told : (n : ℕ) (p q : Pool) (is left : List Input) (r : Reply) (told : List Scene) → reaching n AsksClock p is ≡ Ended r q told left → (now : ℕ) × (r ≡ Number now) × (now ≤ TIME_LIMIT)
time-told zero p q is left r told e = cc
time-told (suc n) p q [] left r told e = cc
time-told (suc n) p q (Clock now ∷ is) left r told e =
    let s : Scene = scene_of (Asked AsksClock) p in
    by_test (is_time now)
    (λ t. let e' : tell s (hearing n (Number now) p is) ≡ Ended r q told left = rw t at e in (now, heard-ends n s (Number now) r p q is left told e', grind (arith, nat_tests)))
    (λ t. let bad : Stray (s ∷ []) ≡ Ended r q told left = rw t at e in cc)
time-told (suc n) p q (_ ∷ is) left r told e = cc

-- a descriptor is open from then on
opening-ends : (n new fd : ℕ) (s : Scene) (p q : Pool) (is left : List Input) (told : List Scene) → tell s (opening n new p is) ≡ Ended (Number fd) q told left → (fd ≡ new) × (q ≡ open_descriptor p new)
opening-ends zero new fd s p q is left told e = cc
opening-ends (suc n) new fd s p q is left told e = let e' : Ended (Number new) (open_descriptor p new) (s ∷ []) is ≡ Ended (Number fd) q told left = e in (cc, cc)

accepted : (n fd new : ℕ) (p q : Pool) (is left : List Input) (told : List Scene) → reaching n (Accept fd) p is ≡ Ended (Number new) q told left
    → (0 < new) × (is_open p new ≡ false) × (is_open q new ≡ true)
accepted zero fd new p q is left told e = cc
accepted (suc n) fd new p q [] left told e = cc
accepted (suc n) fd new p q (Took other ∷ is) left told e =
    let s : Scene = scene_of (Asked (Accept fd)) p in
    by_test (is_routine other && not (is_open p other))
    (λ t.
    let e' : tell s (opening n other p is) ≡ Ended (Number new) q told left = rw t at e in
    let w = opening-ends n other new s p q is left told e' in
    let b = both-true (is_routine other) (not (is_open p other)) t in
    let number : is_routine new ≡ true = rw w.0 b.0 in
    let closed : is_open p new ≡ false = rw w.0 (not-true _ b.1) in
    let open_then : is_open q new ≡ true = rw (w.1, w.0) (opened-same p.descriptors other) in
    (grind (arith, nat_tests), closed, open_then))
    (λ t. let bad : Stray (s ∷ []) ≡ Ended (Number new) q told left = rw t at e in cc)
accepted (suc n) fd new p q (Again ∷ is) left told e = let bad : Number new ≡ IsAgain = heard-ends n (scene_of (Asked (Accept fd)) p) IsAgain (Number new) p q is left told e in cc
accepted (suc n) fd new p q (Fault ∷ is) left told e = let bad : Number new ≡ IsFault = heard-ends n (scene_of (Asked (Accept fd)) p) IsFault (Number new) p q is left told e in cc
accepted (suc n) fd new p q (_ ∷ is) left told e = cc

pub returns-clause-time : goal.returns-clause-time
returns-clause-time c = λ n p q is left r told e. time-told n p q is left r told e

pub returns-clause-accepted : goal.returns-clause-accepted
returns-clause-accepted c = λ n fd new p q is left told e. accepted n fd new p q is left told e
