-- What stands in front of a connection, and what is done with it.
use Rattle.std.proofs.Common.{◌≡◌, ℕ, ◌+◌, ◌<◌, ◌≤◌, Bool, true, false, List, [], length, length-drop, arith, take, drop, Option, Some, None, Result, Err, IfSome, IsSomeAnd, refl, sym, ◌∙◌, ap, subst}
use Rattle.std.specs.Ordering.{nat_cmp}
use Rattle.std.specs.FinMap.{FinMap, entries}
use Rattle.pool_arena.proofs.NumberMaps.{found_listed}
use Rattle.tree_specs.specs.declared.object.Obj.{Obj}
use Rattle.tree_specs.specs.declared.call.Call.{Call}
use Rattle.tree_specs.specs.declared.reply.Refusal.TheVariants.{NoSuch}
use Rattle.text_forms.specs.declared.form.FormFault.{FormFault}
use Rattle.text_forms.specs.declared.form.FormFault.TheVariants.{NoForm}
use Rattle.service_rules.specs.declared.answer.Answer.TheVariants.{No}
use Rattle.service_rules.specs.declared.order.Order.{Order}
use Rattle.service_rules.specs.declared.order.Order.TheVariants as order
use Rattle.service_rules.specs.declared.task.Fulfilling.{Fulfilling}
use Rattle.service_rules.specs.declared.task.Kept.{Kept}
use Rattle.service_rules.specs.declared.task.Run.{Run}
use Rattle.service_rules.specs.declared.task.Task.{Task}
use Rattle.service_rules.specs.declared.task.Task.TheVariants.{Return}
use Rattle.service_rules.specs.declared.task.Serving.TheVariants as serving
use Rattle.tree_specs.specs.Tree.Pool.{Pool}
use Rattle.service_rules.specs.Lines.{front_of, after_newline, long_limit}
use Rattle.service_rules.specs.Lines.Front.{Whole, Long, Part}
use Rattle.service_rules.specs.Knowledge.{Connection, Knowledge, connection_of, with_connection}
use Rattle.service_rules.specs.Answers.{form_line, answer_line}
use Rattle.service_rules.specs.Routines.{does, serves, served, fulfilling_for, order_call}
use Rattle.service_rules.specs.Routines.Next.{Does}
use Rattle.service_rules.specs.Tasks.{after_reading}
use Rattle.service_lines.specs.Cuts.{resumed, IsCut}
use Rattle.service_lines.specs.declared.incoming.Cut.{Cut}
use Rattle.service_lines.specs.declared.incoming.Cut.TheVariants as cuts
use Rattle.service_desk.specs.Desks.{known, changed, changed_at}
use Rattle.service_desk.specs.Fronts.{came_on, IsResumed, IsLine, IsLong, IsPart, IsFormless, Asks, HasResumed, HasFormless, HasLong, HasNoLine, CutFits, ReadsFront}
use Rattle.service_desk.specs.Fronts.{DoneFits, DoesTheSame, StrangeServed, OrderServed, length_on, waiting, lines_of, resumed_on, without_line, long_answered, line_answered, ordering}
use Rattle.service_desk.proofs.Connections.{found_put, put_held}
use Rattle.service_desk.proofs.SameLines.{no-rest, serves-changed, resumed-same, long-same, formless-same, stranger-same, nothing-same, orders}

-- what is said of a connection that is known
here : (P : Connection → Type 0) (c : Connection) (s : Obj) (d : Knowledge) → connection_of d s ≡ Some c → P c → IsSomeAnd (connection_of d s) P
here P c s d found h = subst (λ (o : Option Connection). IsSomeAnd o P) (sym found) h

there : (P : Connection → Type 0) (c : Connection) (s : Obj) (d : Knowledge) → connection_of d s ≡ Some c → IsSomeAnd (connection_of d s) P → P c
there P c s d found h = subst (λ (o : Option Connection). IsSomeAnd o P) found h

-- ---- how it begins

-- where nothing is to be dropped and nothing came, no line is there
nothing-front : (c : Connection) → c.came ≡ [] → front_of c.came ≡ Part
unfolding front_of
nothing-front c e = rw e refl

-- some of a line is there: nothing is to be dropped
begins : (c : Connection) (b : Bool) → c.dropping ≡ b → came_on c ≡ resumed (record { came = c.came; dropping = b }) → (front_of c.came ≡ Part → ⊥) → c.dropping ≡ false
begins c false d e some = d
begins c true d e some = absurd (some (nothing-front c (no-rest c d (after_newline c.came) e).1))

cut-fits : (k : Cut) (c : Connection) (s : Obj) (d : Knowledge) → connection_of d s ≡ Some c → IsResumed c → IsCut k c.came → CutFits k s d
cut-fits (cuts.Line n) c s d found r h = here (IsLine n) c s d found (record { begins = begins c c.dropping refl r (λ e. let bad : Whole (take n c.came) (drop (n + 1) c.came) ≡ Part = sym h.front ∙ e in cc); line = h })
cut-fits cuts.Long c s d found r h = here IsLong c s d found (record { begins = begins c c.dropping refl r (λ e. let bad : Long (drop long_limit c.came) ≡ Part = sym h.front ∙ e in cc); long = h })
cut-fits cuts.Part c s d found r h = subst (λ (o : Option Connection). IfSome o IsPart) (sym found) (record { resumes = r; part = h })

pub cut_fits : (k : Cut) (c : Connection) (s : Obj) (d : Knowledge) → connection_of d s ≡ Some c → HasResumed s d → IsCut k c.came → CutFits k s d
cut_fits k c s d found r h = cut-fits k c s d found (subst (λ (o : Option Connection). IfSome o IsResumed) found r) h

pub formless-read : (s : Obj) (n : ℕ) (d : Knowledge) (r : Result (ℕ × Order) FormFault) (fault : FormFault) → r ≡ Err fault → fault ≡ NoForm → ReadsFront r s n d → HasFormless s n d
formless-read s n d r fault e f h = subst (λ (x : FormFault). ReadsFront (Err x) s n d) f (subst (λ (x : Result (ℕ × Order) FormFault). ReadsFront x s n d) e h)

-- ---- what is done with it

pub dropped-done : (s : Obj) (d new : Knowledge) → new ≡ changed s resumed_on d → waiting s new < waiting s d → DoneFits s d new
dropped-done s d new is less = record { same = λ p. serves-changed p s d new resumed_on is (λ c found. resumed-same p s c); fewer = less }

-- a change that leaves fewer bytes
changed-fewer : (s : Obj) (d new : Knowledge) (change : Connection → Connection) → new ≡ changed s change d → IsSomeAnd (connection_of d s) (λ c. length (change c).came < length c.came) → waiting s new < waiting s d
changed-fewer s d new change is less = subst (λ (k : Knowledge). waiting s k < waiting s d) (sym is) (at (connection_of d s) less)
  where
    at : (found : Option Connection) → IsSomeAnd found (λ c. length (change c).came < length c.came) → waiting s (changed_at s change found d) < length_on found
    at None h = absurd h
    at (Some c) h = subst (λ (o : Option Connection). length_on o < length c.came) (sym (found_put s.0 (change c) d.connections)) h

line-fewer : (n : ℕ) (line : List ℕ) (found : Option Connection) → IsSomeAnd found (IsFormless n) → IsSomeAnd found (λ c. length (line_answered n line c).came < length c.came)
line-fewer n line None h = absurd h
line-fewer n line (Some c) h = let within : n < length c.came = h.line.line.within in omega (arith, length-drop (n + 1) c.came)

long-fewer : (found : Option Connection) → IsSomeAnd found IsLong → IsSomeAnd found (λ c. length (long_answered c).came < length c.came)
long-fewer None h = absurd h
long-fewer (Some c) h = let within : long_limit ≤ length c.came = h.long.within in omega (arith, length-drop long_limit c.came)

pub formless-done : (s : Obj) (n : ℕ) (d new : Knowledge) → HasFormless s n d → new ≡ changed s (line_answered n form_line) d → DoneFits s d new
formless-done s n d new h is = record {
  same = λ p. serves-changed p s d new (line_answered n form_line) is (λ c found. formless-same p s n c (there (IsFormless n) c s d found h));
  fewer = changed-fewer s d new (line_answered n form_line) is (line-fewer n form_line (connection_of d s) h);
}

pub long-done : (s : Obj) (d new : Knowledge) → HasLong s d → new ≡ changed s long_answered d → DoneFits s d new
long-done s d new h is = record {
  same = λ p. serves-changed p s d new long_answered is (λ c found. let l = there IsLong c s d found h in long-same p s c (drop long_limit c.came) l.begins l.long.front);
  fewer = changed-fewer s d new long_answered is (long-fewer (connection_of d s) h);
}

pub strange-served : (s : Obj) (n tag : ℕ) (x : Obj) (d new : Knowledge) → new ≡ changed s (line_answered n (answer_line tag (No (NoSuch x.0)))) d → StrangeServed s n tag x d new
strange-served s n tag x d new is call h p names =
    serves-changed p s d new (line_answered n (answer_line tag (No (NoSuch x.0)))) is (λ c found. stranger-same p s n tag call x c (there (Asks n tag (order.Call call)) c s d found h) names)

-- where no line is left, the connection goes on as after reading
nothing-known : (m : FinMap nat_cmp Connection) (kept : List (ℕ × Kept)) (runs : List Run) (s : Obj) (t : Task) (p : Pool) (found : Option Connection)
    → (let k : Knowledge = known (entries m) kept runs in connection_of k s ≡ found → HasNoLine s k → ((c : Connection) → connection_of k s ≡ Some c → t ≡ served s (after_reading c)) → (connection_of k s ≡ None → t ≡ Return) → does k p t ≡ does k p (lines_of s))
nothing-known m kept runs s t p None e none some missing =
    let k : Knowledge = known (entries m) kept runs in
    ap (does k p) (missing e) ∙ sym (ap (serves k p s serving.Lines) e)
nothing-known m kept runs s t p (Some c) e none some missing =
    let k : Knowledge = known (entries m) kept runs in
    let again : with_connection s c k ≡ k = ap (λ (l : List (ℕ × Connection)). known l kept runs) (put_held m s.0 c (found_listed m s.0 ∙ e)) in
    ap (does k p) (some c e) ∙ nothing-same p s k c e again (subst (λ (o : Option Connection). IfSome o IsPart) e none)

pub nothing-served : (m : FinMap nat_cmp Connection) (kept : List (ℕ × Kept)) (runs : List Run) (s : Obj) (d : Knowledge) (t : Task) → known (entries m) kept runs ≡ d → HasNoLine s d
    → ((c : Connection) → connection_of d s ≡ Some c → t ≡ served s (after_reading c)) → (connection_of d s ≡ None → t ≡ Return) → DoesTheSame s d (known (entries m) kept runs) t
nothing-served m kept runs s d t is none some missing p =
    let k : Knowledge = known (entries m) kept runs in
    subst (λ (x : Knowledge). HasNoLine s x → ((c : Connection) → connection_of x s ≡ Some c → t ≡ served s (after_reading c)) → (connection_of x s ≡ None → t ≡ Return) → does k p t ≡ does x p (lines_of s)) is
    (nothing-known m kept runs s t p (connection_of k s) refl) none some missing

pub orders-served : (s : Obj) (d : Knowledge) (o : Order) (call : Call) (at : Fulfilling) → at ≡ fulfilling_for o → ((c : Connection) → connection_of d s ≡ Some c → order_call s c o ≡ Some call) → OrderServed s o call at d
orders-served s d o call at same calls n tag h p own = go (connection_of d s) refl h
  where
    go : (found : Option Connection) → connection_of d s ≡ found → IsSomeAnd found (Asks n tag o) → does d p (lines_of s) ≡ Does call (ordering s tag at) (changed_at s (without_line n) found d)
    go None e h = absurd h
    go (Some c) e h = orders p s d c n tag o call e h own (calls c e) ∙ ap (λ (t : Fulfilling). Does call (ordering s tag t) (with_connection s (without_line n c) d)) (sym same)
