-- What stays so of the objects from a pool to a later one: a freed object doesn't come back, nor does a dying one to life.
use Rattle.std.proofs.Common.{◌≡◌, ◌≢◌, ℕ, ◌≤◌, ◌<◌, List, Option, Some, None, false, refl, sym, ◌∙◌, ap, subst, inl, inr, arith}
use Rattle.tree_specs.specs.declared.object.Obj.{Obj}
use Rattle.tree_specs.specs.declared.object.Owner.{Owner}
use Rattle.tree_specs.specs.declared.kind.Kind.{Kind}
use Rattle.tree_specs.specs.declared.row.Row.{Row}
use Rattle.tree_specs.specs.declared.row.Mark.{Mark}
use Rattle.tree_specs.specs.declared.row.Mark.TheVariants.{Dying}
use Rattle.tree_specs.specs.Words.Objects.{same}
use Rattle.tree_specs.specs.Tree.Pool.{Pool, row_of, changed, add, detach, left_row, remove, place, set_mark, marked_row, set_hook, hooked_row}
use Rattle.tree_specs.specs.Tree.Forest.{Distinct}
use Rattle.tree_specs.specs.declared.request.Note.{Note}
use Rattle.tree_specs.specs.Events.Requests.{state_number, note_of, with_note, without_note, renoted}
use Rattle.tree_specs.proofs.Events.NoteLaws.{noted-other, forgotten-same, forgotten-other, renoted-same, renoted-none, renoted-other}
use Rattle.tree_specs.specs.Invariants.Sound.{IsLive}
use Rattle.tree_specs.proofs.Tree.Numbered.{same_or_not, same-false}
use Rattle.tree_specs.proofs.Tree.Rows.{row_of-changed-other, row_of-changed-same, row_of-without-other, row_of-without-same, row_of-placed-other, row_of-placed-same}

abbrev pub IsDying : Mark → Type 0
IsDying (Dying former) = Unit {0}
IsDying _ = ⊥

-- there is no such row, or it is dying
abbrev pub IsPast : Option Row → Type 0
IsPast None = Unit {0}
IsPast (Some r) = IsDying r.mark

-- it is in this state or a later one, or is no request
abbrev pub IsFrom : ℕ → Option Note → Type 0
IsFrom k None = Unit {0}
IsFrom k (Some n) = k ≤ state_number n.state

-- no request comes to an earlier state
abbrev pub StatesRise : Pool → Pool → Type 0
StatesRise p q = (x : Obj) (k : ℕ) → x.0 < p.next → IsFrom k (note_of p.requests x) → IsFrom k (note_of q.requests x)

pub record Later (p q : Pool) : Type 0 where
  pub grows : p.next ≤ q.next
  pub none : (x : Obj) → x.0 < p.next → row_of p.rows x ≡ None → row_of q.rows x ≡ None
  pub past : (x : Obj) → x.0 < p.next → IsPast (row_of p.rows x) → IsPast (row_of q.rows x)
  pub states : StatesRise p q

pub later-still : {p q r : Pool} → Later p q → Later q r → Later p r
later-still {p = p} {q = q} {r = r} a b = let g = a.grows in let h = b.grows in record {
  grows = omega arith;
  none = λ x l e. b.none x (omega arith) (a.none x l e);
  past = λ x l d. b.past x (omega arith) (a.past x l d);
  states = λ x k l h. b.states x k (omega arith) (a.states x k l h);
}

pub later-same : (p : Pool) → Later p p
later-same p = record { grows = omega arith; none = λ x l e. e; past = λ x l e. e; states = λ x k l h. h }

-- the same rows later on, of which others wait
pub later-rows : {p q r : Pool} → Later p q → r.rows ≡ q.rows → r.next ≡ q.next → r.requests ≡ q.requests → Later p r
later-rows l rows next notes = record {
  grows = rw next l.grows;
  none = λ x h e. rw rows (l.none x h e);
  past = λ x h e. rw rows (l.past x h e);
  states = λ x k h f. rw notes (l.states x k h f);
}

pub later-waiting : (p q : Pool) → q.rows ≡ p.rows → q.next ≡ p.next → q.requests ≡ p.requests → Later p q
later-waiting p q rows next notes = later-rows (later-same p) rows next notes

-- the same rows, of which what is kept of requests is another
pub later-noted : (p q : Pool) → q.rows ≡ p.rows → p.next ≤ q.next → StatesRise p q → Later p q
later-noted p q rows grows states = record {
  grows = grows;
  none = λ x h e. rw rows e;
  past = λ x h e. rw rows e;
  states = states;
}

-- a change that leaves each request in its state, or in a later one
pub states-renoted : (g : Note → Note) (p q : Pool) (x : Obj) → q.requests ≡ renoted g p.requests x → ((n : Note) → note_of p.requests x ≡ Some n → state_number n.state ≤ state_number (g n).state) → StatesRise p q
states-renoted g p q x notes up y k l h = elim (same_or_not x y) [
  | inl e ↦ rw notes (subst (λ (z : Obj). IsFrom k (note_of p.requests z) → IsFrom k (note_of (renoted g p.requests x) z)) e (here (note_of p.requests x) refl) h)
  | inr ne ↦ rw (notes, renoted-other g p.requests x y ne) h
]
  where
    here : (o : Option Note) → note_of p.requests x ≡ o → IsFrom k (note_of p.requests x) → IsFrom k (note_of (renoted g p.requests x) x)
    here None e f = rw (renoted-none g p.requests x e) tt
    here (Some n) e f = let f' : k ≤ state_number n.state = rw e at f in let u = up n e in rw (renoted-same g p.requests x n e) (omega arith)

-- a note of a number that was nobody's
pub states-noted : (p q : Pool) (x : Obj) (n : Note) → q.requests ≡ with_note p.requests x n → p.next ≤ x.0 → StatesRise p q
states-noted p q x n notes new y k l h =
    let ne : x ≢ y = (λ e. let e' : x.0 ≡ y.0 = ap (λ (z : Obj). z.0) e in absurd (omega arith)) in
    rw (notes, noted-other p.requests x y n ne) h

states-forgotten : (p q : Pool) (x : Obj) → q.requests ≡ without_note p.requests x → StatesRise p q
states-forgotten p q x notes y k l h = elim (same_or_not x y) [
  | inl e ↦ rw notes (subst (λ (z : Obj). IsFrom k (note_of (without_note p.requests x) z)) e (rw (forgotten-same p.requests x) tt))
  | inr ne ↦ rw (notes, forgotten-other p.requests x y ne) h
]

-- where the row of one object is another one
later-at : (p q : Pool) (x : Obj) → p.next ≤ q.next → ((y : Obj) → x ≢ y → row_of q.rows y ≡ row_of p.rows y)
    → (x.0 < p.next → row_of p.rows x ≡ None → row_of q.rows x ≡ None) → (x.0 < p.next → IsPast (row_of p.rows x) → IsPast (row_of q.rows x)) → StatesRise p q
    → Later p q
later-at p q x grows other none past states = record {
  grows = grows;
  none = λ y l e. elim (same_or_not x y) [
    | inl s ↦ subst (λ (z : Obj). z.0 < p.next → row_of p.rows z ≡ None → row_of q.rows z ≡ None) s none l e
    | inr ne ↦ other y ne ∙ e
  ];
  past = λ y l e. elim (same_or_not x y) [
    | inl s ↦ subst (λ (z : Obj). z.0 < p.next → IsPast (row_of p.rows z) → IsPast (row_of q.rows z)) s past l e
    | inr ne ↦ rw (other y ne) e
  ];
  states = states;
}

-- where it is there before and after, and stays dying if it was
later-there : (p q : Pool) (x : Obj) (r s : Row) → p.next ≤ q.next → ((y : Obj) → x ≢ y → row_of q.rows y ≡ row_of p.rows y)
    → row_of p.rows x ≡ Some r → row_of q.rows x ≡ Some s → (IsDying r.mark → IsDying s.mark) → q.requests ≡ p.requests → Later p q
later-there p q x r s grows other was is h notes =
    later-at p q x grows other (λ l e. let bad : Some r ≡ None = sym was ∙ e in cc)
    (λ l e. let d : IsDying r.mark = rw was at e in rw is (h d)) (λ y k l f. rw notes f)

pub later-changed : (g : Row → Row) (p : Pool) (x : Obj) (r : Row) → ((r : Row) → (g r).serial ≡ r.serial) → row_of p.rows x ≡ Some r → (IsDying r.mark → IsDying (g r).mark)
    → Later p (record p { rows = changed g p.rows x })
later-changed g p x r serial e h =
    later-there p (record p { rows = changed g p.rows x }) x r (g r) (omega arith) (λ y ne. row_of-changed-other g p.rows x y serial ne) e (row_of-changed-same g p.rows x r serial e) h refl

pub live-not-dying : (m : Mark) → IsLive m → IsDying m → ⊥
live-not-dying (Dying former) l d = l
live-not-dying _ l d = d

pub later-marked : (p : Pool) (x : Obj) (r : Row) (m : Mark) → row_of p.rows x ≡ Some r → IsLive r.mark → Later p (set_mark p x m)
later-marked p x r m e l = later-changed (marked_row m) p x r (λ q. refl) e (λ d. absurd (live-not-dying r.mark l d))

pub later-hooked : (p : Pool) (x : Obj) (r : Row) (h : ℕ) → row_of p.rows x ≡ Some r → Later p (set_hook p x h)
later-hooked p x r h e = later-changed (hooked_row h) p x r (λ q. refl) e (λ d. d)

pub later-left : (p : Pool) (x : Obj) (r : Row) → row_of p.rows x ≡ Some r → Later p (detach p x)
later-left p x r e = later-rows (later-changed left_row p x r (λ q. refl) e (λ d. tt)) refl refl refl

pub later-placed : (p : Pool) (o : Owner) (x : Obj) (r : Row) → row_of p.rows x ≡ Some r → Later p (place p o x)
later-placed p o x r e =
    later-there p (place p o x) x r (record r { owner = Some o }) (omega arith) (λ y ne. row_of-placed-other p o x y r e ne) e (row_of-placed-same p o x r e) (λ d. d) refl

pub later-removed : (p : Pool) (x : Obj) → Distinct p.rows → Later p (remove p x)
later-removed p x d =
    let gone = row_of-without-same p.rows x d in
    later-at p (remove p x) x (omega arith) (λ y ne. row_of-without-other p.rows x y ne) (λ l e. gone) (λ l e. rw gone tt) (states-forgotten p (remove p x) x refl)

pub later-added : (p : Pool) (kind : Kind) (o : Owner) (size : ℕ) (name : List ℕ) → Later p (add p kind o size name)
later-added p kind o size name =
    let n : Obj = record { 0 = p.next } in
    later-at p (add p kind o size name) n (omega arith) (λ y ne. let u : same n y ≡ false = same-false n y ne in rw u refl) (λ l e. absurd (omega arith)) (λ l e. absurd (omega arith)) (λ y k l h. h)
