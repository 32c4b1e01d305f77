-- The place that is kept for a turn at its end, and the places that are taken once one work more waits, or one fewer.
use Rattle.std.proofs.Common.{◌≡◌, ℕ, ◌+◌, ◌≤◌, List, [], ◌∷◌, ◌++◌, length, length-append, reverse, true, refl, sym, ◌∙◌, ap, subst, if◌then◌else◌, arith}
use Rattle.std.proofs.lemmas.List.{reverse-append}
use Rattle.tree_specs.specs.declared.frame.Frame.{Frame}
use Rattle.tree_specs.specs.declared.frame.Frame.TheVariants as frame
use Rattle.tree_specs.specs.declared.frame.FreeFrame.{FreeFrame}
use Rattle.tree_specs.specs.declared.frame.TurnFrame.TheVariants.{Parting}
use Rattle.tree_specs.specs.Invariants.Consistent.{IsFree, IsStacked, IsConsistent}
use Rattle.tree_specs.specs.Tree.Pool.{Pool}
use Rattle.tree_specs.proofs.Tree.Numbered.{by_test}
use Rattle.host_core.specs.declared.waiting.Waiting.{Waiting}
use Rattle.host_core.specs.declared.waiting.Waiting.TheVariants.{Freeing, Turn}
use Rattle.host_core.specs.Places.{is_parting, kept_place, taken_places, own_place}
use Rattle.host_core.specs.Stacks.{waiting_frame, standing, Fits}
use Rattle.host_core.proofs.Hosting.{frees-standing, turns-last}

pub kept_most : (ws : List Waiting) → kept_place ws ≤ 1
kept_most [] = omega arith
kept_most (w ∷ ws) = let ih = kept_most ws in by_test (is_parting w) (λ t. rw t (omega arith)) (λ t. rw t ih)

kept-behind : (ws : List Waiting) (w : Waiting) → kept_place (ws ++ w ∷ []) ≡ (if is_parting w then 0 else kept_place ws)
kept-behind [] w = refl
kept-behind (v ∷ ws) w = by_test (is_parting v)
    (λ t. by_test (is_parting w) (λ u. rw (t, u) refl) (λ u. rw (t, u) refl))
    (λ t. rw t (kept-behind ws w))

-- in either order
kept-reverse : (ws : List Waiting) → kept_place (reverse ws) ≡ kept_place ws
kept-reverse [] = refl
kept-reverse (w ∷ ws) =
    ap kept_place (reverse-append (w ∷ []) ws)
    ∙ kept-behind (reverse ws) w
    ∙ ap (λ (n : ℕ). if is_parting w then 0 else n) (kept-reverse ws)

-- ---- one work more, or one fewer

length-behind : (old new : List Waiting) (w : Waiting) → new ≡ old ++ w ∷ [] → length new ≡ length old + 1
length-behind old new w e = ap length e ∙ length-append old (w ∷ [])

pub own_more : (old new : List Waiting) (w : Waiting) → new ≡ old ++ w ∷ [] → (is_parting w ≡ true → kept_place old ≡ 1) → taken_places new ≤ taken_places old + own_place w
own_more old new w e kept =
    let n = length-behind old new w e in
    let k = ap kept_place e ∙ kept-behind old w in
    by_test (is_parting w)
    (λ t. let k' : kept_place new ≡ 0 = rw t at k in let one = kept t in rw t (omega (arith, n, k', one)))
    (λ t. let k' : kept_place new ≡ kept_place old = rw t at k in rw t (omega (arith, n, k')))

pub one_more : (old new : List Waiting) (w : Waiting) → new ≡ old ++ w ∷ [] → taken_places new ≤ taken_places old + 1
one_more old new w e =
    let n = length-behind old new w e in
    let k = ap kept_place e ∙ kept-behind old w in
    by_test (is_parting w)
    (λ t. let k' : kept_place new ≡ 0 = rw t at k in omega (arith, n, k'))
    (λ t. let k' : kept_place new ≡ kept_place old = rw t at k in omega (arith, n, k'))

pub one_fewer : (old new : List Waiting) (w : Waiting) → old ≡ new ++ w ∷ [] → taken_places new + own_place w ≤ taken_places old
one_fewer old new w e =
    let n = length-behind new old w e in
    let k = ap kept_place e ∙ kept-behind new w in
    let most = kept_most new in
    by_test (is_parting w)
    (λ t. let k' : kept_place old ≡ 0 = rw t at k in rw t (omega (arith, n, k', most)))
    (λ t. let k' : kept_place old ≡ kept_place new = rw t at k in rw t (omega (arith, n, k')))

-- ---- a turn that comes to its end

-- no other one is at its end where no free is open: a free would stand on it
none-parting : (f : Frame) (ws : List Waiting) → (IsFree f → ⊥) → Fits [] ws → IsStacked f (standing [] ws) → kept_place ws ≡ 1
none-parting f [] n e s = refl
none-parting f (Freeing ∷ ws) n e s = absurd e.0
none-parting f (Turn (Parting x v) ∷ ws) n e s = absurd (n s.0)
none-parting f (Turn t ∷ ws) n e s = none-parting (frame.Turn t) ws (λ z. z) e s.1
none-parting f (w ∷ ws) n e s = none-parting (waiting_frame w) ws (λ z. z) e s.1

-- and below a turn none is open, so that its place is kept
pub parting_kept : (w : Waiting) (f : FreeFrame) (fs : List FreeFrame) (items : List Waiting) (p : Pool) → Fits fs (reverse items) → IsConsistent (record { innermost = frame.Free f; below = waiting_frame w ∷ standing fs (reverse items); pool = p }) → is_parting w ≡ true → kept_place items ≡ 1
parting_kept (Turn (Parting x v)) f fs items p e h t =
    let ws = reverse items in
    let none : fs ≡ [] = sym (frees-standing fs ws e) ∙ (turns-last (frame.Free f) (frame.Turn (Parting x v) ∷ standing fs ws) h.seated h.calm.1).0 in
    sym (kept-reverse items) ∙ none-parting (frame.Turn (Parting x v)) ws (λ z. z) (subst (λ (l : List FreeFrame). Fits l ws) none e) (subst (λ (l : List FreeFrame). IsStacked (frame.Turn (Parting x v)) (standing l ws)) none h.seated.1)
parting_kept _ f fs items p e h t = cc
