-- The story still to come of open works that hold together is that of the rules' text, and the stated turns are enough for it.
use Rattle.std.proofs.Common.{◌≡◌, ◌≢◌, ℕ, ◌+◌, ◌-◌, ◌≤◌, List, [], ◌∷◌, length, map, None, refl, sym, ◌∙◌, ap, subst, inl, inr, arith}
use Rattle.step_machine.specs.Machine.{Outcome, run, rest, walk, pass, map_items, items as told_by}
use Rattle.step_machine.specs.Machine.Outcome.{Short}
use Rattle.step_machine.specs.Noted.{Noted, with_note}
use Rattle.step_machine.proofs.Ends.{NotShort, Below-equal}
use Rattle.step_machine.proofs.Laws.{Below, Below-followed, walk-rest, pass-short}
use Rattle.step_machine.proofs.MoreTurns.{more-run, more-walk}
use Rattle.step_machine.proofs.NotedLaws.{noted-run, noted-walk, work_of}
use Rattle.step_machine.proofs.Open.{items-map_items, NotShort-map_items}
use Rattle.tree_specs.specs.declared.question.Input.{Input}
use Rattle.tree_specs.specs.declared.frame.Frame.{Frame}
use Rattle.tree_specs.specs.declared.frame.Answer.{Answer}
use Rattle.tree_specs.specs.Tree.Pool.{Pool}
use Rattle.tree_specs.specs.Rules.Items.{Item}
use Rattle.tree_specs.specs.Rules.Sequence.{Scene, CallStart}
use Rattle.tree_specs.specs.Rules.Story.{items}
use Rattle.tree_specs.specs.Machine.Table.{table, notes, resume}
use Rattle.tree_specs.specs.Machine.View.{View, outcome_of, rest_of}
use Rattle.tree_specs.specs.Invariants.Sound.{Sound}
use Rattle.tree_specs.specs.Invariants.Noted.{Noted as NotedOf}
use Rattle.tree_specs.specs.Invariants.Consistent.{IsPaidFor, IsConsistent, IsStacked}
use Rattle.tree_specs.specs.Machine.Meaning.{noted_table, continued, run_of, text_rest, stated}
use Rattle.tree_specs.proofs.Rules.Means.{run-means}
use Rattle.tree_specs.proofs.Rules.Rest.{most, well, rest-enough, rest-is-walk, walk-whole, walk-long, paid-enough}
use Rattle.tree_specs.proofs.Turns.Bound.{cost-turns}
use Rattle.tree_specs.specs.Invariants.Queued.{Queued}

not-the-short : {A P I T : Type 0} (o : Outcome A P I T) → NotShort o → o ≢ Short
not-the-short Short h = absurd h
not-the-short _ h = λ e. cc

-- works without a note
abbrev unnoted : List Frame → List (Noted Frame CallStart)
unnoted fs = map (with_note None) fs

abbrev item_of : Scene → Item
item_of s = s.item

unnoted-works : (fs : List Frame) → map (work_of notes table) (unnoted fs) ≡ fs
unnoted-works [] = refl
unnoted-works (f ∷ fs) = ap (λ (l : List Frame). f ∷ l) (unnoted-works fs)

-- the machine's works that wait make of an end what the text makes of it
pass-means : (n : ℕ) (fs : List Frame) (o u : Outcome Answer Pool Input Scene) → Below o u → Below (pass noted_table n (unnoted fs) o) (continued n fs u)
pass-means n [] o u h = h
pass-means n (f ∷ fs) o u h = Below-followed o u _ _ h (λ a p is. pass-means n fs _ _ (run-means n (with_note None (resume f a)) p is))

-- the machine's run of open works, a step at a time
abbrev walked : ℕ → View → List Input → Outcome Answer Pool Input Scene
walked n v is = walk noted_table n (with_note None v.innermost) (unnoted v.below) v.pool is

plain-walk : (n : ℕ) (v : View) (is : List Input) → map_items item_of (walked n v is) ≡ walk table n v.innermost v.below v.pool is
plain-walk n v is =
    noted-walk notes table n (with_note None v.innermost) (unnoted v.below) v.pool is ∙ ap (λ (fs : List Frame). walk table n v.innermost fs v.pool is) (unnoted-works v.below)

walked-whole : (n : ℕ) (v : View) (is : List Input) → IsConsistent v → stated v.pool is ≤ n → NotShort (walked n v is)
walked-whole n v is h big = NotShort-map_items item_of _ (subst NotShort (sym (plain-walk n v is)) (walk-long n v is h big))

-- with turns enough a run of open works is what the text says of them
text-rest : (n : ℕ) (v : View) (is : List Input) → IsConsistent v → stated v.pool is ≤ n → walked n v is ≡ text_rest n v is
text-rest n v is h big =
    let w : Noted Frame CallStart = with_note None v.innermost in
    let whole : NotShort (walked n v is) = walked-whole n v is h big in
    let same = Below-equal _ _ whole (walk-rest noted_table n w (unnoted v.below) v.pool is) in
    same ∙ Below-equal _ _ (subst NotShort same whole) (pass-means n v.below _ _ (run-means n w v.pool is))

-- the stated turns are enough for the text
pub text-enough : (v : View) (is : List Input) → IsConsistent v → text_rest (stated v.pool is) v is ≢ Short
text-enough v is h e =
    let n : ℕ = stated v.pool is in
    let short : walk table n v.innermost v.below v.pool is ≡ Short = sym (plain-walk n v is) ∙ ap (map_items item_of) (text-rest n v is h (omega arith) ∙ e) in
    subst NotShort short (walk-whole v is h)

-- and more turns give the same
pub text-more : (v : View) (n : ℕ) (is : List Input) → IsConsistent v → stated v.pool is ≤ n → text_rest n v is ≡ text_rest (stated v.pool is) v is
text-more v n is h big =
    let m : ℕ = stated v.pool is in
    let sum : m + (n - m) ≡ n = omega arith in
    let enough : walked m v is ≢ Short = not-the-short _ (walked-whole m v is h (omega arith)) in
    sym (text-rest n v is h big)
    ∙ ap (λ (k : ℕ). walked k v is) (sym sum)
    ∙ more-walk noted_table m (n - m) (with_note None v.innermost) (unnoted v.below) v.pool is enough
    ∙ text-rest m v is h (omega arith)

pub rest-items : (v : View) (is : List Input) → IsConsistent v → rest_of v is ≡ items (told_by (text_rest (stated v.pool is) v is))
rest-items v is h =
    let n : ℕ = stated v.pool is in
    ap told_by (sym (rest-is-walk v is h)) ∙ ap told_by (sym (plain-walk n v is)) ∙ items-map_items item_of (walked n v is)
    ∙ ap (λ (o : Outcome Answer Pool Input Scene). items (told_by o)) (text-rest n v is h (omega arith))

-- so do more turns of the table
pub rest-more_turns : (v : View) (n : ℕ) (is : List Input) → IsConsistent v → stated v.pool is ≤ n → rest table n v.innermost v.below v.pool is ≡ outcome_of v is
rest-more_turns v n is h big =
    let c = cost-turns v (length is) h.light in
    rest-enough (most v (length is)) n v is h (well v (length is) h) (omega (arith, c))

-- what isn't short is as the text has it
pub not-short-equal : {A P I T : Type 0} (o u : Outcome A P I T) → o ≢ Short → Below o u → o ≡ u
not-short-equal o u h b = elim b [ inl s ↦ absurd (h s) | inr e ↦ e ]

-- the stated turns are enough for the innermost of open works by itself
pub innermost-enough : (v : View) (is : List Input) → Sound v.innermost v.below v.pool → NotedOf v.innermost v.pool → Queued v.innermost v.below v.pool → IsStacked v.innermost v.below → IsPaidFor v.innermost v.below v.pool
    → run_of (stated v.pool is) v.innermost v.pool is ≢ Short
innermost-enough v is s w u seated l e =
    let n : ℕ = stated v.pool is in
    let alone : run table n v.innermost v.pool is ≡ Short = sym (noted-run notes table n (with_note None v.innermost) v.pool is) ∙ ap (map_items item_of) e in
    let short : outcome_of v is ≡ Short = ap (λ (o : Outcome Answer Pool Input Item). pass table n v.below o) alone ∙ pass-short table n v.below in
    subst NotShort short (paid-enough v is s w u seated l)

-- and more turns give the same
pub innermost-more : (v : View) (n : ℕ) (is : List Input) → IsConsistent v → stated v.pool is ≤ n → run_of n v.innermost v.pool is ≡ run_of (stated v.pool is) v.innermost v.pool is
innermost-more v n is h big =
    let m : ℕ = stated v.pool is in
    let sum : m + (n - m) ≡ n = omega arith in
    ap (λ (k : ℕ). run_of k v.innermost v.pool is) (sym sum) ∙ more-run noted_table m (n - m) (with_note None v.innermost) v.pool is (innermost-enough v is h.sound h.noted h.queued h.seated h.light)
