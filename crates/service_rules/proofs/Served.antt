-- What the lines of a connection want is no write.
use Rattle.std.proofs.Common.{◌≡◌, ℕ, zero, suc, Bool, true, false, List, [], ◌∷◌, length, Option, Some, None}
use Rattle.std.specs.Prelude.{codes, if◌then◌else◌}
use Rattle.std.specs.Str.{bytes_eq}
use Rattle.tree_specs.specs.declared.object.Obj.{Obj}
use Rattle.tree_specs.specs.declared.call.Call.{Call}
use Rattle.tree_specs.specs.declared.call.Call.TheVariants as call
use Rattle.tree_specs.specs.Tree.Pool.{Pool}
use Rattle.tree_specs.specs.declared.schedule.Version.TheVariants.{One}
use Rattle.tree_specs.specs.Texts.Grammar.{◌>>=◌, ◌or◌, words, numeral_of, call_of_words}
use Rattle.tree_specs.specs.Calls.Spelling.Numeral.{Number32}
use Rattle.tree_specs.proofs.Tree.Numbered.{by_test}
use Rattle.service_rules.specs.declared.order.Order.{Order}
use Rattle.service_rules.specs.declared.order.Order.TheVariants as order
use Rattle.service_rules.specs.declared.task.Fulfilling.{Fulfilling}
use Rattle.service_rules.specs.declared.task.Fulfilling.TheVariants as fulfilling
use Rattle.service_rules.specs.Lines.{Front, front_of, after_newline, line_of, is_served, IsServed, waiting, micros_of, acting, order_of, line_of_words}
use Rattle.service_rules.specs.Lines.Front.{Whole, Long, Part}
use Rattle.service_rules.specs.Knowledge.{Connection}
use Rattle.service_rules.specs.Naming.{stranger_in, within}
use Rattle.service_rules.specs.Tasks.{fulfilling_call}
use Rattle.service_rules.specs.Routines.{Verdict, unless_stranger, judged, verdict_of, through, after_front, after_verdict, after_drop, progress_of, order_call}
use Rattle.service_rules.specs.Routines.Verdict.{Answers, Wants}
use Rattle.service_rules.proofs.Owing.{IsNoWrite}

abbrev pub IfServed : Option Order → Type 0
IfServed None = Unit {0}
IfServed (Some o) = IsServed o

abbrev pub IfWanted : Option (ℕ × Order) → Type 0
IfWanted None = Unit {0}
IfWanted (Some w) = IsServed w.1

abbrev Judges : Verdict → Type 0
Judges (Answers line) = Unit {0}
Judges (Wants tag o) = IsServed o

-- ---- a line

or-served : (a b : Option Order) → IfServed a → IfServed b → IfServed (a or b)
or-served None b h k = k
or-served (Some o) b h k = h

waiting-served : (verb : List ℕ) (make : ℕ → Order) → ((n : ℕ) → IsServed (make n)) → (ws : List (List ℕ)) → IfServed (waiting verb make ws)
waiting-served verb make h (first ∷ micros ∷ []) = by_test (bytes_eq first verb) (λ t. rw t (each (micros_of micros))) (λ t. rw t tt)
  where
    each : (o : Option ℕ) → IfServed (o >>= (λ n. Some (make n)))
    each None = tt
    each (Some n) = h n
waiting-served verb make h _ = tt

acting-served : (ws : List (List ℕ)) → IfServed (acting ws)
acting-served ws = each (call_of_words One ws)
  where
    each : (o : Option Call) → IfServed (o >>= (λ c. if is_served c then Some (order.Call c) else None))
    each None = tt
    each (Some c) = by_test (is_served c) (λ t. rw t t) (λ t. rw t tt)

order-served : (ws : List (List ℕ)) → IfServed (order_of ws)
order-served ws = or-served _ _ (or-served _ _ (waiting-served (codes "sleep") order.Sleep (λ n. tt) ws) (waiting-served (codes "job") order.Job (λ n. tt) ws)) (acting-served ws)

pub words-served : (ws : List (List ℕ)) → IfWanted (line_of_words ws)
words-served [] = tt
words-served (first ∷ more) = each (numeral_of Number32 first) (order_of more) (order-served more)
  where
    each : (a : Option ℕ) (b : Option Order) → IfServed b → IfWanted (a >>= (λ tag. b >>= (λ o. Some (tag, o))))
    each None b h = tt
    each (Some tag) None h = tt
    each (Some tag) (Some o) h = h

verdict-served : (p : Pool) (s : Obj) (text : List ℕ) → Judges (verdict_of p s text)
unfolding verdict_of line_of
verdict-served p s text = each (line_of_words (words text)) (words-served (words text))
  where
    named : (tag : ℕ) (c : Call) (o : Option Obj) → is_served c ≡ true → Judges (unless_stranger tag c o)
    named tag c None h = h
    named tag c (Some x) h = tt

    each : (o : Option (ℕ × Order)) → IfWanted o → Judges (judged p s o)
    each None h = tt
    each (Some (tag, order.Call c)) h = named tag c (stranger_in p s c) h
    each (Some (tag, order.Sleep n)) h = tt
    each (Some (tag, order.Job n)) h = tt

-- ---- the lines that came

through-served : (n : ℕ) (p : Pool) (s : Obj) (dropping : Bool) (bytes : List ℕ) → IfWanted (through n p s dropping bytes).wanted
through-served zero p s dropping bytes = tt
through-served (suc n) p s true bytes = each (after_newline bytes) (λ b rest. through-served n p s b rest)
  where
    each : (o : Option (List ℕ)) → ((b : Bool) (rest : List ℕ) → IfWanted (through n p s b rest).wanted) → IfWanted (after_drop (through n p s) o).wanted
    each None go = tt
    each (Some rest) go = go false rest
through-served (suc n) p s false bytes = each (front_of bytes) (λ b rest. through-served n p s b rest)
  where
    told : (rest : List ℕ) (v : Verdict) → Judges v → ((b : Bool) (rest : List ℕ) → IfWanted (through n p s b rest).wanted) → IfWanted (after_verdict (through n p s) rest v).wanted
    told rest (Answers line) h go = go false rest
    told rest (Wants tag o) h go = h

    each : (f : Front) → ((b : Bool) (rest : List ℕ) → IfWanted (through n p s b rest).wanted) → IfWanted (after_front (through n p s) p s bytes f).wanted
    each (Whole text rest) go = told rest (verdict_of p s text) (verdict-served p s text) go
    each (Long rest) go = go true rest
    each Part go = tt

pub progress-served : (p : Pool) (s : Obj) (c : Connection) → IfWanted (progress_of p s c).wanted
unfolding progress_of
progress-served p s c = through-served (suc (length c.came)) p s c.dropping c.came

-- ---- its calls

abbrev pub IfNoWrite : Option Call → Type 0
IfNoWrite None = Unit {0}
IfNoWrite (Some c) = IsNoWrite c

pub fulfilling-no-write : (s queue : Obj) (at : Fulfilling) → IfNoWrite (fulfilling_call s queue at)
fulfilling-no-write s queue fulfilling.Call = tt
fulfilling-no-write s queue fulfilling.Parent = tt
fulfilling-no-write s queue (fulfilling.Sleep delay) = tt
fulfilling-no-write s queue (fulfilling.Now request delay) = tt
fulfilling-no-write s queue (fulfilling.EndTime request now delay) = tt
fulfilling-no-write s queue (fulfilling.Job delay) = tt
fulfilling-no-write s queue (fulfilling.Enqueue request delay) = tt
fulfilling-no-write s queue (fulfilling.Callback request) = tt
fulfilling-no-write s queue (fulfilling.Undo request why) = tt

pub within-no-write : (s : Obj) (c : Call) → is_served c ≡ true → IsNoWrite (within s c)
within-no-write s (call.Write fd bytes) h = cc
within-no-write s (call.Accept fd) h = cc
within-no-write s (call.New o size name) h = tt
within-no-write s (call.Steal o x) h = tt
within-no-write s (call.Reference o x) h = tt
within-no-write s (call.Unlink o x) h = tt
within-no-write s (call.Total o) h = tt
within-no-write s _ h = tt

pub order-no-write : (s : Obj) (c : Connection) (o : Order) → IsServed o → IfNoWrite (order_call s c o)
order-no-write s c (order.Call call) h = within-no-write s call h
order-no-write s c (order.Sleep n) h = tt
order-no-write s c (order.Job n) h = tt
