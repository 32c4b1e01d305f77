-- What lowers the measure: works that end, and what rows weigh.
use Rattle.std.proofs.Common.{◌≡◌, ℕ, suc, zero, ◌+◌, ◌*◌, ◌≤◌, ◌<◌, List, [], ◌∷◌, length, Some, refl, ap, arith}
use Rattle.std.specs.Prelude.{Option, Some, None}
use Rattle.step_machine.specs.Machine.{Move, Move as Do}
use Rattle.step_machine.proofs.Ends.{Leads}
use Rattle.tree_specs.specs.declared.object.Obj.{Obj}
use Rattle.tree_specs.specs.declared.object.Owner.TheVariants.{Of}
use Rattle.tree_specs.specs.declared.row.Row.{Row}
use Rattle.tree_specs.specs.declared.row.Mark.{Mark}
use Rattle.tree_specs.specs.declared.row.Mark.TheVariants.{Dying}
use Rattle.tree_specs.specs.declared.question.Ask.{Ask}
use Rattle.tree_specs.specs.declared.frame.Frame.{Frame}
use Rattle.tree_specs.specs.declared.frame.Frame.TheVariants as frame
use Rattle.tree_specs.specs.declared.frame.CallFrame.TheVariants.{Asking, Returning}
use Rattle.tree_specs.specs.declared.frame.FreeFrame.TheVariants.{Ending}
use Rattle.tree_specs.specs.declared.frame.Answer.{Answer}
use Rattle.tree_specs.specs.declared.frame.Answer.TheVariants.{Freed, Returned}
use Rattle.tree_specs.specs.declared.free_step.FreeReply.{FreeReply}
use Rattle.tree_specs.specs.declared.free_step.FreeReply.TheVariants.{Ok, Running, Refused, Held}
use Rattle.tree_specs.specs.declared.handler.Handler.{Handler}
use Rattle.tree_specs.specs.declared.moment.What.{What}
use Rattle.tree_specs.specs.declared.moment.What.TheVariants as whats
use Rattle.tree_specs.specs.declared.frame.Errand.{Errand}
use Rattle.tree_specs.specs.declared.frame.RequestFrame.TheVariants as request
use Rattle.tree_specs.specs.Events.Requests.{Notes, without_note}
use Rattle.tree_specs.proofs.Events.NoteLaws.{total-lighter, forgotten-lighter}
use Rattle.tree_specs.specs.Words.Objects.{same}
use Rattle.tree_specs.specs.Tree.Pool.{Pool, row_of, without, changed, marked_row}
use Rattle.tree_specs.specs.Rules.Items.{Item}
use Rattle.tree_specs.specs.Machine.Table.{table, step, resume}
use Rattle.tree_specs.specs.Invariants.Sound.{IsWaiting, AllWait, IsLive, IsOver, Sound}
use Rattle.tree_specs.proofs.Tree.Numbered.{by_test}
use Rattle.tree_specs.proofs.Calls.Checks.{Heard, HeardCall, HeardReturn, heard-leads}
use Rattle.tree_specs.specs.Tree.Inside.{total}
use Rattle.tree_specs.specs.Invariants.Measure.{turning_cost, mark_weight, note_weight, weight, waiting_cost, top_cost, cost, pending}
use Rattle.tree_specs.proofs.Tree.Rows.{total-without, total-changed, total-length, count-length}
use Rattle.tree_specs.proofs.Invariants.Waiters.{ForParting, Waiter, ForFree, ForRun, ForChild, ForTurn, ForHandler, ForClear, ForRequest, ForServed, ForReceived, ForRoutine, ForRelease, waiter, ForDrained, ForEntry}

-- R bounds the rows that there can be
abbrev pub Room : ℕ → Frame → Pool → ℕ → Type 0
Room R f p k = length p.rows + 2 * k + pending f ≤ R

abbrev pub Lowers : ℕ → ℕ → Move Frame Answer Pool Item → List Frame → ℕ → Type 0
Lowers R b m fs k = Leads table (λ g gs q j. Room R g q j × (cost R g gs q j < b)) m fs k

-- a work that ends pays for what the work below it begins
pub done-lower : (R : ℕ) (a : Answer) (f : Frame) (fs : List Frame) (p : Pool) (k : ℕ) → AllWait fs → length p.rows + 2 * k ≤ R
    → ((g : Frame) (gs : List Frame) → fs ≡ g ∷ gs → IsWaiting g gs → top_cost R (resume g a) gs p.rows < waiting_cost g + top_cost R f fs p.rows)
    → Lowers R (cost R f fs p k) (Do.Done a p) fs k
done-lower R a f [] p k w room pays = tt
done-lower R a f (g ∷ gs) p k w room pays =
    let l = pays g gs refl w.0 in
    (calm g (waiter g gs w.0), omega (arith, l))
  where
    calm : (g : Frame) → Waiter g → Room R (resume g a) p k
    calm _ (ForFree q x) = omega arith
    calm _ (ForChild x c noted purpose) = omega arith
    calm _ _ = omega arith

-- what follows a routine of a request
after-cost : (R : ℕ) (what : What) (a : Answer) (x : Obj) (h : Handler) (errand : Errand) (gs : List Frame) (rows : List Row) → top_cost R (resume (frame.Request (request.Called what x h errand)) a) gs rows < 4 * R + 12
after-cost R whats.Cleanup a x h errand gs rows = omega arith
after-cost R whats.Cancel a x h errand gs rows = omega arith
after-cost R _ a x h errand gs rows = omega arith

-- the freeing of a context costs so much at most
pub turning-most : (o : Option Obj) → turning_cost o ≤ 8
turning-most None = omega arith
turning-most (Some c) = omega arith

-- what a work that is over pays for
over-pays : (R : ℕ) (a : FreeReply) → IsOver a → (rows : List Row) → length rows ≤ R → (g : Frame) (gs : List Frame) → Waiter g → top_cost R (resume g (Freed a)) gs rows < waiting_cost g + (4 * R + 12)
over-pays R a o rows n _ gs (ForFree q x) = omega arith
over-pays R a o rows n _ gs (ForRun x h) = omega arith
over-pays R a o rows n _ gs (ForTurn q) = omega arith
over-pays R a o rows n _ gs (ForHandler what x h occasion) = omega arith
over-pays R a o rows n _ gs (ForClear x) = omega arith
over-pays R a o rows n _ gs (ForRequest q) = omega arith
over-pays R a o rows n _ gs (ForParting c v) = omega arith
over-pays R a o rows n _ gs (ForServed x) = omega arith
over-pays R a o rows n _ gs (ForReceived x) = omega arith
over-pays R a o rows n _ gs (ForRoutine what x h errand) = let l = after-cost R what (Freed a) x h errand gs rows in omega (arith, l)
over-pays R a o rows n _ gs (ForRelease c) = omega arith
over-pays R a o rows n _ gs (ForDrained x) = omega arith
over-pays R a o rows n _ gs (ForEntry q e) = omega arith
over-pays R Ok o rows n _ gs (ForChild x c noted purpose) = let m = count-length rows (Of x) in omega (arith, m, n)
over-pays R Held o rows n _ gs (ForChild x c noted purpose) = let m = count-length rows (Of x) in omega (arith, m, n)
over-pays R (Refused v) o rows n _ gs (ForChild x c noted purpose) = let m = count-length rows (Of x) in omega (arith, m, n)
over-pays R Running o rows n _ gs (ForChild x c noted purpose) = absurd o

pub ending-lower : (R : ℕ) (a : FreeReply) (fs : List Frame) (p : Pool) (k : ℕ) → Sound (frame.Free (Ending a)) fs p → Room R (frame.Free (Ending a)) p k
    → Lowers R (cost R (frame.Free (Ending a)) fs p k) (step (frame.Free (Ending a)) p) fs k
ending-lower R a fs p k s room = done-lower R (Freed a) (frame.Free (Ending a)) fs p k s.waiting (omega arith) (λ g gs e w. let l = over-pays R a s.rests.0 p.rows (omega arith) g gs (waiter g gs w) in omega (arith, l))

-- a routine that has returned pays as one that is over
pub returning-lower : (R v : ℕ) (fs : List Frame) (p : Pool) (k : ℕ) → Sound (frame.Call (Returning v)) fs p → Room R (frame.Call (Returning v)) p k
    → Lowers R (cost R (frame.Call (Returning v)) fs p k) (step (frame.Call (Returning v)) p) fs k
returning-lower R v fs p k s room = done-lower R (Returned v) (frame.Call (Returning v)) fs p k s.waiting (omega arith)
    (λ g gs e w. let l = over-pays R Ok tt p.rows (omega arith) g gs (waiter g gs w) in omega (arith, l, as-over g gs (waiter g gs w)))
  where
    as-over : (g : Frame) (gs : List Frame) → Waiter g → top_cost R (resume g (Returned v)) gs p.rows ≡ top_cost R (resume g (Freed Ok)) gs p.rows
    as-over _ gs (ForFree q x) = refl
    as-over _ gs (ForRoutine whats.Cleanup x h errand) = refl
    as-over _ gs (ForRoutine whats.Cancel x h errand) = refl
    as-over _ gs (ForRoutine what x h errand) = refl
    as-over _ gs _ = refl

pub asking-lower : (R : ℕ) (q : Ask) (fs : List Frame) (p : Pool) (k : ℕ) → Room R (frame.Call (Asking q)) p k
    → Lowers R (cost R (frame.Call (Asking q)) fs p k) (step (frame.Call (Asking q)) p) fs k
asking-lower R q fs p zero room = tt
asking-lower R q fs p (suc k) room = λ i g e. leads g (heard-leads q i g e)
  where
    leads : (g : Frame) → Heard q g → Room R g p k × (cost R g fs p k < cost R (frame.Call (Asking q)) fs p (suc k))
    leads _ (HeardCall c) = (omega arith, omega arith)
    leads _ (HeardReturn v of) = (omega arith, omega arith)

pub length-changed : (g : Row → Row) (rs : List Row) (x : Obj) → length (changed g rs x) ≡ length rs
length-changed g [] x = refl
length-changed g (s ∷ rs) x = let ih = length-changed g rs x in by_test (same s.serial x) (λ t. rw t refl) (λ t. rw t (ap suc ih))

pub length-without : (rs : List Row) (x : Obj) (r : Row) → row_of rs x ≡ Some r → length rs ≡ suc (length (without rs x))
length-without rs x r e = omega (arith, total-without (λ q. 1) rs x r e, total-length rs, total-length (without rs x))

-- a row is changed to one as heavy
pub total-kept : (w : Row → ℕ) (g : Row → Row) (rs : List Row) (x : Obj) (r : Row) → row_of rs x ≡ Some r → w (g r) ≡ w r → total w (changed g rs x) ≡ total w rs
total-kept w g rs x r e same_weight = omega (arith, total-changed w g rs x r e, same_weight)

pub marked-weight : (ns : Notes) (m : Mark) (r : Row) → mark_weight m ≡ mark_weight r.mark → weight ns (marked_row m r) ≡ weight ns r
marked-weight ns m r e = ap (λ (z : ℕ). z + note_weight ns r) e

-- a row is removed, and pays what its mark weighs
pub removed-weight : (p : Pool) (x : Obj) (r : Row) (n : ℕ) → row_of p.rows x ≡ Some r → mark_weight r.mark ≡ n → total (weight (without_note p.requests x)) (without p.rows x) + n ≤ total (weight p.requests) p.rows
removed-weight p x r n e m =
    let w = total-without (weight p.requests) p.rows x r e in
    let l = total-lighter (without_note p.requests x) p.requests (without p.rows x) (forgotten-lighter p.requests x) in
    omega (arith, w, l, m)

pub live-weight : (m : Mark) → IsLive m → mark_weight m ≡ 2
live-weight (Dying former) l = absurd l
live-weight _ l = refl
