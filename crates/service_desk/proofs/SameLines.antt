-- The lines of a connection: with one of them done, the same is done next.
use Rattle.std.proofs.Common.{◌≡◌, ℕ, suc, ◌+◌, length, Bool, true, false, List, [], ◌∷◌, take, drop, Option, Some, None, refl, sym, ◌∙◌, ap, subst, append-nil}
use Rattle.tree_specs.specs.declared.object.Obj.{Obj}
use Rattle.tree_specs.specs.declared.call.Call.{Call}
use Rattle.tree_specs.specs.declared.reply.Refusal.TheVariants.{NoSuch}
use Rattle.tree_specs.specs.Tree.Pool.{Pool}
use Rattle.service_rules.specs.declared.answer.Answer.TheVariants.{No}
use Rattle.service_rules.specs.declared.order.Order.{Order}
use Rattle.service_rules.specs.declared.order.Order.TheVariants as order
use Rattle.service_rules.specs.declared.task.Serving.TheVariants as serving
use Rattle.service_rules.specs.declared.task.Task.TheVariants.{Serve}
use Rattle.service_rules.specs.Lines.{front_of, after_newline, line_of}
use Rattle.service_rules.specs.Lines.Front.{Whole, Long, Part}
use Rattle.service_rules.specs.Knowledge.{Connection, Knowledge, connection_of, with_connection, saying}
use Rattle.service_rules.specs.Answers.{form_line, long_line, answer_line}
use Rattle.service_rules.specs.Naming.{stranger_in}
use Rattle.service_rules.specs.Routines.{verdict_of, Progress, stops, after_line, after_verdict, after_front, through, progress_of, progressed, goes_on, gone_through, serves, serving_on, doing, does, served, fulfilling_for, order_call}
use Rattle.service_rules.specs.Routines.Next.{Does}
use Rattle.service_rules.specs.Routines.Verdict.{Answers, Wants}
use Rattle.service_rules.specs.Tasks.{after_reading, flagging, flags_to_set, unless_empty}
use Rattle.service_rules.proofs.LineLaws.{with_left, progress-answered, progress-long, progress-dropped, said-now}
use Rattle.service_lines.specs.Cuts.{Came, resumed, resumed_at}
use Rattle.service_desk.specs.Desks.{changed, changed_at}
use Rattle.service_desk.specs.Fronts.{came_on, IsLine, IsPart, IsFormless, Asks, lines_of, resumed_on, without_line, NamesItsOwn}
use Rattle.service_desk.proofs.Connections.{found_put, put_put}

-- the same comes of the lines of both connections
pub record SameLines (p : Pool) (s : Obj) (c e : Connection) : Type 0 where
  pub left : progressed (progress_of p s e) e ≡ progressed (progress_of p s c) c
  pub wanted : (progress_of p s e).wanted ≡ (progress_of p s c).wanted

pub serves-same : (p : Pool) (s : Obj) (d : Knowledge) (c e : Connection) → connection_of d s ≡ Some c → SameLines p s c e → does (with_connection s e d) p (lines_of s) ≡ does d p (lines_of s)
serves-same p s d c e found same =
    let k : Knowledge = with_connection s e d in
    let again : (x : Connection) → with_connection s x k ≡ with_connection s x d = λ x. ap (λ (l : List (ℕ × Connection)). record d { connections = l }) (put_put s.0 x e d.connections) in
    ap (serves k p s serving.Lines) (found_put s.0 e d.connections)
    ∙ ap (λ (w : Knowledge). goes_on w s (progressed (progress_of p s e) e) (progress_of p s e).wanted) (again (progressed (progress_of p s e) e))
    ∙ ap (λ (x : Connection). goes_on (with_connection s x d) s x (progress_of p s e).wanted) same.left
    ∙ ap (gone_through d s (progressed (progress_of p s c) c)) same.wanted
    ∙ sym (ap (serves d p s serving.Lines) found)

pub serves-changed : (p : Pool) (s : Obj) (d new : Knowledge) (change : Connection → Connection) → new ≡ changed s change d → ((c : Connection) → connection_of d s ≡ Some c → SameLines p s c (change c)) → does new p (lines_of s) ≡ does d p (lines_of s)
serves-changed p s d new change is same = ap (λ (k : Knowledge). does k p (lines_of s)) is ∙ at (connection_of d s) refl
  where
    at : (o : Option Connection) → connection_of d s ≡ o → does (changed_at s change o d) p (lines_of s) ≡ does d p (lines_of s)
    at None e = refl
    at (Some c) e = serves-same p s d c (change c) e (same c e)

-- ---- a line that is answered

said-same : (p : Pool) (s : Obj) (c : Connection) (dropping : Bool) (rest line : List ℕ) → progress_of p s c ≡ after_line line (progress_of p s (with_left dropping rest c)) → SameLines p s c (saying line (with_left dropping rest c))
unfolding progress_of
said-same p s c dropping rest line e =
    let w : Progress = progress_of p s (with_left dropping rest c) in
    record {
      left = sym (said-now c line w) ∙ ap (λ (x : Progress). progressed x c) (sym e);
      wanted = ap (λ (x : Progress). x.wanted) (sym e);
    }

pub long-same : (p : Pool) (s : Obj) (c : Connection) (rest : List ℕ) → c.dropping ≡ false → front_of c.came ≡ Long rest → SameLines p s c (saying long_line (record c { came = rest; dropping = true }))
long-same p s c rest d f = said-same p s c true rest long_line (progress-long p s c rest d f)

pub answered-same : (p : Pool) (s : Obj) (c : Connection) (text rest line : List ℕ) → c.dropping ≡ false → front_of c.came ≡ Whole text rest → verdict_of p s text ≡ Answers line → SameLines p s c (saying line (with_left false rest c))
answered-same p s c text rest line d f v = said-same p s c false rest line (progress-answered p s c text rest line d f v)

form-verdict : (p : Pool) (s : Obj) (text : List ℕ) → line_of text ≡ None → verdict_of p s text ≡ Answers form_line
unfolding verdict_of
form-verdict p s text e = rw e refl

name-verdict : (p : Pool) (s : Obj) (text : List ℕ) (tag : ℕ) (call : Call) (x : Obj) → line_of text ≡ Some (tag, order.Call call) → stranger_in p s call ≡ Some x → verdict_of p s text ≡ Answers (answer_line tag (No (NoSuch x.0)))
unfolding verdict_of
name-verdict p s text tag call x e h = rw (e, h) refl

pub refused-same : (p : Pool) (s : Obj) (n : ℕ) (c : Connection) (line : List ℕ) → IsLine n c → verdict_of p s (take n c.came) ≡ Answers line → SameLines p s c (saying line (without_line n c))
refused-same p s n c line h v =
    let rest : List ℕ = drop (n + 1) c.came in
    subst (λ (b : Bool). SameLines p s c (saying line (with_left b rest c))) (sym h.begins) (answered-same p s c (take n c.came) rest line h.begins h.line.front v)

pub formless-same : (p : Pool) (s : Obj) (n : ℕ) (c : Connection) → IsFormless n c → SameLines p s c (saying form_line (without_line n c))
formless-same p s n c h = refused-same p s n c form_line h.line (form-verdict p s (take n c.came) h.says)

pub stranger-same : (p : Pool) (s : Obj) (n tag : ℕ) (call : Call) (x : Obj) (c : Connection) → Asks n tag (order.Call call) c → stranger_in p s call ≡ Some x → SameLines p s c (saying (answer_line tag (No (NoSuch x.0))) (without_line n c))
stranger-same p s n tag call x c h strange = refused-same p s n c (answer_line tag (No (NoSuch x.0))) h.line (name-verdict p s (take n c.came) tag call x h.says strange)

-- ---- what is left of a line that was too long

with_came : Came → Connection → Connection
with_came i c = with_left i.dropping i.came c

nothing-left : (p : Pool) (s : Obj) (c : Connection) → c.dropping ≡ true → after_newline c.came ≡ None → progress_of p s c ≡ stops true [] None
unfolding progress_of
nothing-left p s c d e = rw (d, e) refl

nothing-came : (p : Pool) (s : Obj) (c : Connection) → progress_of p s (with_left true [] c) ≡ stops true [] None
unfolding progress_of after_newline
nothing-came p s c = refl

resumed-at : (p : Pool) (s : Obj) (c : Connection) → c.dropping ≡ true → (o : Option (List ℕ)) → after_newline c.came ≡ o → SameLines p s c (with_came (resumed_at o) c)
unfolding with_came
resumed-at p s c d None e =
    let same : progress_of p s (with_left true [] c) ≡ progress_of p s c = nothing-came p s c ∙ sym (nothing-left p s c d e) in
    record { left = ap (λ (w : Progress). progressed w c) same; wanted = ap (λ (w : Progress). w.wanted) same }
resumed-at p s c d (Some rest) e =
    let same : progress_of p s (with_left false rest c) ≡ progress_of p s c = sym (progress-dropped p s c rest d e) in
    record { left = ap (λ (w : Progress). progressed w c) same; wanted = ap (λ (w : Progress). w.wanted) same }

resumed-from : (p : Pool) (s : Obj) (c : Connection) (b : Bool) → c.dropping ≡ b → SameLines p s c (with_came (resumed (record { came = c.came; dropping = b })) c)
unfolding with_came
resumed-from p s c true d = resumed-at p s c d (after_newline c.came) refl
resumed-from p s c false d = subst (λ (b : Bool). SameLines p s c (with_left b c.came c)) d (record { left = refl; wanted = refl })

pub resumed-same : (p : Pool) (s : Obj) (c : Connection) → SameLines p s c (resumed_on c)
unfolding with_came
resumed-same p s c = resumed-from p s c c.dropping refl

-- ---- no line is left

pub no-rest : (c : Connection) → c.dropping ≡ true → (o : Option (List ℕ)) → came_on c ≡ resumed_at o → (o ≡ None) × (c.came ≡ [])
no-rest c d None e = (refl, ap (λ (i : Came). i.came) e)
no-rest c d (Some rest) e = let bad : true ≡ false = sym d ∙ ap (λ (i : Came). i.dropping) e in cc

part-from : (p : Pool) (s : Obj) (c : Connection) (b : Bool) → c.dropping ≡ b → came_on c ≡ resumed (record { came = c.came; dropping = b }) → front_of c.came ≡ Part → progress_of p s c ≡ stops b c.came None
unfolding progress_of
part-from p s c true d e f = let n = no-rest c d (after_newline c.came) e in nothing-left p s c d n.0 ∙ ap (λ (l : List ℕ). stops true l None) (sym n.1)
part-from p s c false d e f = rw (d, f) refl

part-progress : (p : Pool) (s : Obj) (c : Connection) → IsPart c → progress_of p s c ≡ stops c.dropping c.came None
part-progress p s c h = part-from p s c c.dropping refl h.resumes h.part

part-progressed : (c : Connection) → progressed (stops c.dropping c.came None) c ≡ c
part-progressed c = ap (λ (u : List ℕ). record c { unsent = u }) (append-nil c.unsent)

after-lines : (p : Pool) (s : Obj) (d : Knowledge) (c : Connection) → connection_of d s ≡ Some c → (unsent : List ℕ) (flags : Option ℕ) → serving_on d s c (unless_empty unsent (flagging flags)) ≡ does d p (served s (unless_empty unsent (flagging flags)))
after-lines p s d c found [] None = refl
after-lines p s d c found [] (Some flags) = sym (ap (serves d p s serving.Flags) found)
after-lines p s d c found (b ∷ bs) flags = sym (ap (serves d p s serving.Write) found)

pub nothing-same : (p : Pool) (s : Obj) (d : Knowledge) (c : Connection) → connection_of d s ≡ Some c → with_connection s c d ≡ d → IsPart c → does d p (served s (after_reading c)) ≡ does d p (lines_of s)
nothing-same p s d c found held h =
    sym (after-lines p s d c found c.unsent (flags_to_set c))
    ∙ ap (λ (k : Knowledge). serving_on k s c (after_reading c)) (sym held)
    ∙ ap (λ (x : Connection). gone_through d s x None) (sym (part-progressed c))
    ∙ ap (λ (w : Progress). gone_through d s (progressed w c) w.wanted) (sym (part-progress p s c h))
    ∙ sym (ap (serves d p s serving.Lines) found)

-- ---- a line that wants a call

order-verdict : (p : Pool) (s : Obj) (text : List ℕ) (tag : ℕ) (o : Order) → line_of text ≡ Some (tag, o) → NamesItsOwn p s o → verdict_of p s text ≡ Wants tag o
unfolding verdict_of
order-verdict p s text tag (order.Call call) e own = rw (e, own) refl
order-verdict p s text tag (order.Sleep delay) e own = rw e refl
order-verdict p s text tag (order.Job delay) e own = rw e refl

order-progress : (p : Pool) (s : Obj) (c : Connection) (text rest : List ℕ) (tag : ℕ) (o : Order) → c.dropping ≡ false → front_of c.came ≡ Whole text rest → verdict_of p s text ≡ Wants tag o → progress_of p s c ≡ stops false rest (Some (tag, o))
unfolding progress_of
order-progress p s c text rest tag o d f v =
    ap (λ (b : Bool). through (suc (length c.came)) p s b c.came) d
    ∙ ap (after_front (through (length c.came) p s) p s c.came) f
    ∙ ap (after_verdict (through (length c.came) p s) rest) v

order-progressed : (n : ℕ) (c : Connection) (w : Option (ℕ × Order)) → c.dropping ≡ false → progressed (stops false (drop (n + 1) c.came) w) c ≡ without_line n c
order-progressed n c w d =
    ap (λ (u : List ℕ). record c { came = drop (n + 1) c.came; dropping = false; unsent = u }) (append-nil c.unsent)
    ∙ ap (λ (b : Bool). record c { came = drop (n + 1) c.came; dropping = b }) (sym d)

same-queue : (s : Obj) (n : ℕ) (c : Connection) (o : Order) → order_call s (without_line n c) o ≡ order_call s c o
same-queue s n c (order.Call call) = refl
same-queue s n c (order.Sleep delay) = refl
same-queue s n c (order.Job delay) = refl

pub orders : (p : Pool) (s : Obj) (d : Knowledge) (c : Connection) (n tag : ℕ) (o : Order) (call : Call) → connection_of d s ≡ Some c → Asks n tag o c → NamesItsOwn p s o → order_call s c o ≡ Some call → does d p (lines_of s) ≡ Does call (Serve s (serving.Order tag (fulfilling_for o))) (with_connection s (without_line n c) d)
orders p s d c n tag o call found h own is =
    let asked = order-verdict p s (take n c.came) tag o h.says own in
    ap (serves d p s serving.Lines) found
    ∙ ap (λ (w : Progress). gone_through d s (progressed w c) w.wanted) (order-progress p s c (take n c.came) (drop (n + 1) c.came) tag o h.line.begins h.line.line.front asked)
    ∙ ap (λ (x : Connection). gone_through d s x (Some (tag, o))) (order-progressed n c (Some (tag, o)) h.line.begins)
    ∙ ap (doing (with_connection s (without_line n c) d) (Serve s (serving.Order tag (fulfilling_for o)))) (same-queue s n c o ∙ is)
