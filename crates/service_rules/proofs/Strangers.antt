-- What the lines of a connection want names no event: what a line names is plain.
use Rattle.std.proofs.Common.{◌≡◌, ◌≢◌, ℕ, zero, suc, ◌&&◌, not, Bool, true, false, List, length, Option, Some, None, refl, sym, ◌∙◌, ap}
use Rattle.tree_specs.specs.declared.object.Obj.{Obj}
use Rattle.tree_specs.specs.declared.object.Owner.TheVariants.{Root, Of}
use Rattle.tree_specs.specs.declared.kind.Kind.TheVariants.{Descriptor}
use Rattle.tree_specs.specs.declared.row.Row.{Row}
use Rattle.tree_specs.specs.declared.call.Call.{Call}
use Rattle.tree_specs.specs.declared.call.Call.TheVariants as call
use Rattle.tree_specs.specs.Words.Objects.{same}
use Rattle.tree_specs.specs.Tree.Pool.{Pool, passes}
use Rattle.service_rules.specs.declared.order.Order.{Order}
use Rattle.service_rules.specs.declared.order.Order.TheVariants as order
use Rattle.service_rules.specs.Lines.{Front, front_of, after_newline, line_of, is_served}
use Rattle.service_rules.specs.Lines.Front.{Whole, Long, Part}
use Rattle.service_rules.specs.Knowledge.{Connection}
use Rattle.service_rules.specs.Naming.{is_plain, is_plain_at, may_name, unless_named, stranger_in, within}
use Rattle.service_rules.specs.Routines.{Verdict, unless_stranger, judged, verdict_of, through, after_front, after_verdict, after_drop, progress_of}
use Rattle.service_rules.specs.Routines.Verdict.{Answers, Wants}
use Rattle.service_rules.proofs.Tending.{Tended}
use Rattle.service_rules.proofs.SparingCalls.{SparesCall}

-- ---- a line's call names nothing strange

module _ (p : Pool) (s : Obj) where
  abbrev pub IsHome : Order → Type 0
  IsHome (order.Call c) = stranger_in p s c ≡ None
  IsHome o = Unit {0}

  abbrev pub IfHome : Option (ℕ × Order) → Type 0
  IfHome None = Unit {0}
  IfHome (Some w) = IsHome w.1

  abbrev Judges : Verdict → Type 0
  Judges (Answers line) = Unit {0}
  Judges (Wants tag o) = IsHome o

  verdict-home : (text : List ℕ) → Judges (verdict_of p s text)
  unfolding verdict_of
  verdict-home text = each (line_of text)
    where
      named : (tag : ℕ) (c : Call) (o : Option Obj) → stranger_in p s c ≡ o → Judges (unless_stranger tag c o)
      named tag c None h = h
      named tag c (Some x) h = tt

      each : (o : Option (ℕ × Order)) → Judges (judged p s o)
      each None = tt
      each (Some (tag, order.Call c)) = named tag c (stranger_in p s c) refl
      each (Some (tag, order.Sleep n)) = tt
      each (Some (tag, order.Job n)) = tt

  through-home : (n : ℕ) (dropping : Bool) (bytes : List ℕ) → IfHome (through n p s dropping bytes).wanted
  through-home zero dropping bytes = tt
  through-home (suc n) true bytes = each (after_newline bytes) (λ b rest. through-home n b rest)
    where
      each : (o : Option (List ℕ)) → ((b : Bool) (rest : List ℕ) → IfHome (through n p s b rest).wanted) → IfHome (after_drop (through n p s) o).wanted
      each None go = tt
      each (Some rest) go = go false rest
  through-home (suc n) false bytes = each (front_of bytes) (λ b rest. through-home n b rest)
    where
      told : (rest : List ℕ) (v : Verdict) → Judges v → ((b : Bool) (rest : List ℕ) → IfHome (through n p s b rest).wanted) → IfHome (after_verdict (through n p s) rest v).wanted
      told rest (Answers line) h go = go false rest
      told rest (Wants tag o) h go = h

      each : (f : Front) → ((b : Bool) (rest : List ℕ) → IfHome (through n p s b rest).wanted) → IfHome (after_front (through n p s) p s bytes f).wanted
      each (Whole text rest) go = told rest (verdict_of p s text) (verdict-home text) go
      each (Long rest) go = go true rest
      each Part go = tt

  pub progress-home : (c : Connection) → IfHome (progress_of p s c).wanted
  unfolding progress_of
  progress-home c = through-home (suc (length c.came)) c.dropping c.came

  -- ---- what isn't strange is plain, and no event

  module _ (e k : Obj) (fd : ℕ) (t : Tended e k fd p) where
    named-other : (x : Obj) (others : Option Obj) → unless_named p s (Some x) others ≡ None → (x ≢ e) × (others ≡ None)
    named-other x others h = each (may_name p s x) refl h
      where
        no-none : Some x ≡ None → ⊥
        no-none b = cc

        second : (a b : Bool) → (a && b) ≡ true → b ≡ true
        second true b h = h
        second false b h = cc

        first : (a b : Bool) → (a && b) ≡ true → a ≡ true
        first true b h = refl
        first false b h = cc

        plain : may_name p s x ≡ true → x ≢ e
        plain a is =
            let b : is_plain_at p x ≡ true = first (is_plain_at p x) _ (second (not (same x s)) _ a) in
            let c : is_plain_at p e ≡ true = ap (is_plain_at p) (sym is) ∙ b in
            let d : is_plain t.row.kind ≡ true = sym (ap (λ (o : Option Row). passes (λ r. is_plain r.kind) o) t.is) ∙ c in
            let f : is_plain Descriptor ≡ true = ap is_plain (sym t.kind) ∙ d in cc

        each : (b : Bool) → may_name p s x ≡ b → ◌≡◌ {A = Option Obj} (elim b [ true ↦ others | false ↦ Some x ]) None → (x ≢ e) × (others ≡ None)
        each true a h = (plain a, h)
        each false a h = absurd (no-none h)

    skip : (o : Option Obj) (others : Option Obj) → unless_named p s o others ≡ None → others ≡ None
    skip None others h = h
    skip (Some x) others h = (named-other x others h).1

    -- so a line's call spares each event
    pub line-spares : (c : Call) → is_served c ≡ true → stranger_in p s c ≡ None → SparesCall e k fd (within s c)
    line-spares (call.Free x) a h = (named-other x None h).0
    line-spares (call.Steal Root x) a h = (named-other x None h).0
    line-spares (call.Steal (Of o) x) a h = (named-other x None (skip (Some o) _ h)).0
    line-spares (call.Unlink Root x) a h = (named-other x None h).0
    line-spares (call.Unlink (Of o) x) a h = (named-other x None (skip (Some o) _ h)).0
    line-spares (call.Hook x routine) a h = (named-other x _ h).0
    line-spares (call.Freekids x) a h = cc
    line-spares (call.Move o x) a h = cc
    line-spares (call.Reparent from to x) a h = cc
    line-spares _ a h = tt
