-- What the outside answers to a call is no refusal.
use Rattle.std.proofs.Common.{◌≡◌, ℕ, suc, zero, List, [], ◌∷◌, length, Option, Some, None, refl, subst}
use Rattle.std.specs.Prelude.{◌&&◌, nat_le}
use Rattle.step_machine.specs.Machine.Outcome.{Ended}
use Rattle.step_machine.proofs.Uses.{ended-tell}
use Rattle.tree_specs.specs.declared.question.Ask.{Ask}
use Rattle.tree_specs.specs.declared.question.Ask.TheVariants as ask
use Rattle.tree_specs.specs.declared.question.Act.TheVariants as act
use Rattle.tree_specs.specs.declared.question.Input.{Input}
use Rattle.tree_specs.specs.declared.question.Input.TheVariants as input
use Rattle.tree_specs.specs.declared.reply.Reply.{Reply}
use Rattle.tree_specs.specs.declared.reply.Reply.TheVariants.{No, Number}
use Rattle.tree_specs.specs.Words.Octets.{is_octets}
use Rattle.tree_specs.specs.Tree.Pool.{Pool}
use Rattle.tree_specs.specs.Calls.Given.{Given, given_to}
use Rattle.tree_specs.specs.Calls.Given.Given.{Answers}
use Rattle.tree_specs.specs.Rules.Items.Item.{Asked}
use Rattle.tree_specs.specs.Rules.Sequence.{Work, Scene, fits_to}
use Rattle.tree_specs.specs.Rules.Answers.{reached}
use Rattle.tree_specs.specs.Rules.Story.{reaching, opening, hearing}
use Rattle.tree_specs.proofs.Tree.Numbered.{by_test}
use Rattle.tree_specs.proofs.Calls.Checks.{Reaches, IsOpened, IsTold, IsAnswered, reached-by}

abbrev pub IsNoRefusal : Reply → Type 0
IsNoRefusal (No why) = ⊥
IsNoRefusal r = Unit {0}

abbrev RefusesNothing : Option Given → Type 0
RefusesNothing (Some (Answers r)) = IsNoRefusal r
RefusesNothing g = Unit {0}

given-nothing : (q : Ask) (i : Input) → RefusesNothing (given_to q i)
given-nothing ask.Quiet (input.Call c) = tt
given-nothing (ask.Routine m) (input.Act (act.Do c)) = tt
given-nothing (ask.Routine m) (input.Act (act.Ret v)) = tt
given-nothing ask.Clock (input.Clock now) = tt
given-nothing (ask.Wait limit) (input.Ready wants) = tt
given-nothing (ask.Accept fd) (input.Took new) = tt
given-nothing (ask.Read fd most) (input.Got bytes) = by_test (is_octets bytes && nat_le (length bytes) most) (λ t. rw t tt) (λ t. rw t tt)
given-nothing (ask.Write fd bytes) (input.Wrote n) = by_test (nat_le 1 n && nat_le n (length bytes)) (λ t. rw t tt) (λ t. rw t tt)
given-nothing _ _ = tt

pub given-answers : (q : Ask) (i : Input) (r : Reply) → given_to q i ≡ Some (Answers r) → IsNoRefusal r
given-answers q i r e = subst RefusesNothing e (given-nothing q i)

-- so it is in the text
pub reaching-answers : (n : ℕ) (q : Ask) (r : Reply) (p p' : Pool) (is left : List Input) (told : List Scene) → reaching n q p is ≡ Ended r p' told left → IsNoRefusal r
reaching-answers zero q r p p' is left told e = cc
reaching-answers (suc n) q r p p' [] left told e = cc
reaching-answers (suc n) q r p p' (i ∷ is) left told e = each (reached p q (opening n) (hearing n) i) refl e
  where
    s : Scene
    s = record { item = Asked q; before = p; about = None }

    opened : (m fd : ℕ) (us : List Scene) → opening m fd p is ≡ Ended r p' us left → IsNoRefusal r
    opened zero fd us e = cc
    opened (suc m) fd us e = let same : Number fd ≡ r = cc in subst IsNoRefusal same tt

    heard : (m : ℕ) (a : Reply) (us : List Scene) → IsNoRefusal a → hearing m a p is ≡ Ended r p' us left → IsNoRefusal r
    heard zero a us k e = cc
    heard (suc m) a us k e = let same : a ≡ r = cc in subst IsNoRefusal same k

    leads : (w : Work Reply) (us : List Scene) → Reaches p q (opening n) (hearing n) i w → w p is ≡ Ended r p' us left → IsNoRefusal r
    leads w us (IsOpened fd given number closed same) e = opened n fd us (subst (λ (v : Work Reply). v p is ≡ Ended r p' us left) same e)
    leads w us (IsTold now given time same) e = heard n (Number now) us tt (subst (λ (v : Work Reply). v p is ≡ Ended r p' us left) same e)
    leads w us (IsAnswered a given same) e = heard n a us (given-answers q i a given) (subst (λ (v : Work Reply). v p is ≡ Ended r p' us left) same e)

    each : (o : Option (Work Reply)) → reached p q (opening n) (hearing n) i ≡ o → fits_to s o p is ≡ Ended r p' told left → IsNoRefusal r
    each None k e = cc
    each (Some w) k e =
        let t = ended-tell s (w p is) r p' told left e in
        leads w t.0 (reached-by p q (opening n) (hearing n) i w k) t.1
