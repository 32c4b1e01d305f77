-- What one step up or down leaves of the heap.
use Rattle.std.proofs.Common.{◌≡◌, ◌≢◌, ℕ, ◌<◌, nat_eq, Option, Some, None, true, false, refl, sym, ◌∙◌, ap, arith}
use Rattle.std.proofs.lemmas.Bool.{eqb-true, eq-eqb}
use Rattle.tree_specs.specs.declared.due.Due.{Due}
use Rattle.tree_specs.proofs.Tree.Numbered.{by_test}
use Rattle.timers.specs.Heaped.{is_early, IsChild, IsHeap, Rises, Sinks, Settles}
use Rattle.timers.proofs.Comes.{not-back, none-both}

pub same_or : {P : Type 0} (a b : ℕ) → (a ≡ b → P) → (a ≢ b → P) → P
same_or a b h k = by_test (nat_eq a b)
    (λ t. h (eqb-true a b t))
    (λ t. k (λ e. let u : nat_eq a b ≡ true = eq-eqb a b e in let bad : true ≡ false = sym u ∙ t in cc))

-- ---- what comes before what

pub early-back : (a b : Option Due) → is_early a b ≡ true → is_early b a ≡ false
early-back None b h = cc
early-back (Some d) None h = cc
early-back (Some d) (Some e) h = not-back d e h

pub early-some : (a b : Option Due) → is_early a b ≡ true → (d : Due) × (b ≡ Some d)
early-some None b h = cc
early-some (Some d) None h = cc
early-some (Some d) (Some e) h = (e, refl)

-- what doesn't come before one that doesn't come before another
pub early-none : (a c : Option Due) (b : Due) → is_early (Some b) a ≡ false → is_early c (Some b) ≡ false → is_early c a ≡ false
early-none None None b h k = refl
early-none None (Some f) b h k = refl
early-none (Some d) None b h k = refl
early-none (Some d) (Some f) b h k = none-both d b f h k

-- through the one at a place
pub through : (a b c : Option Due) (d : Due) → b ≡ Some d → is_early b a ≡ false → is_early c b ≡ false → is_early c a ≡ false
through a b c d e h k = early-none a c d (ap (λ o. is_early o a) (sym e) ∙ h) (ap (is_early c) (sym e) ∙ k)

one-parent : (p q k : ℕ) → IsChild p k → IsChild q k → q ≡ p
one-parent p q k h j = let h0 = h.0 in let h1 = h.1 in let j0 = j.0 in let j1 = j.1 in omega (arith, h0, h1, j0, j1)

pub below : (p k : ℕ) → IsChild p k → p < k
below p k h = let h0 = h.0 in omega (arith, h0)

pub not-below : (p k : ℕ) → p < k → p ≢ k
not-below p k h e = absurd (omega (arith, h, e))

pub not-above : (p k : ℕ) → p < k → k ≢ p
not-above p k h e = absurd (omega (arith, h, e))

-- ---- two change places

pub record Swaps (H H' : ℕ → Option Due) (a b : ℕ) : Type 0 where
  pub first : H' a ≡ H b
  pub second : H' b ≡ H a
  pub others : (k : ℕ) → k ≢ a → k ≢ b → H' k ≡ H k

module _ (H H' : ℕ → Option Due) (at p : ℕ) (s : Swaps H H' at p) (r : Rises H at) (up : IsChild p at) (early : is_early (H at) (H p) ≡ true) where
  parent : (d : Due) × (H p ≡ Some d)
  parent = early-some (H at) (H p) early

  rise-others : (q k : ℕ) → IsChild q k → k ≢ p → is_early (H' k) (H' q) ≡ false
  rise-others q k h n = same_or k at
      (λ e. let qp : q ≡ p = one-parent p q at up (let h' : IsChild q at = (let h0 = h.0 in omega (arith, h0, e), let h1 = h.1 in omega (arith, h1, e)) in h') in
      ap (λ y. is_early (H' y) (H' q)) e ∙ ap (λ y. is_early (H' at) (H' y)) qp ∙ (λ i. is_early (s.first i) (s.second i)) ∙ early-back (H at) (H p) early)
      (λ m. (λ i. is_early (s.others k m n i) (H' q)) ∙ same_or q at
      (λ e. ap (λ y. is_early (H k) (H' y)) e ∙ ap (is_early (H k)) s.first ∙ r.around p k up (let h0 = h.0 in omega (arith, h0, e), let h1 = h.1 in omega (arith, h1, e)))
      (λ l. same_or q p
      (λ e. ap (λ y. is_early (H k) (H' y)) e ∙ ap (is_early (H k)) s.second
      ∙ through (H at) (H p) (H k) parent.0 parent.1 (early-back (H at) (H p) early) (r.others p k (let h0 = h.0 in omega (arith, h0, e), let h1 = h.1 in omega (arith, h1, e)) m))
      (λ j. ap (is_early (H k)) (s.others q l j) ∙ r.others q k h m)))

  rise-around : (q k : ℕ) → IsChild q p → IsChild p k → is_early (H' k) (H' q) ≡ false
  rise-around q k g h =
      let qp = below q p g in
      let pat = below p at up in
      let above : H' q ≡ H q = s.others q (not-below q at (omega (arith, qp, pat))) (not-below q p qp) in
      let over : is_early (H p) (H q) ≡ false = r.others q p g (not-below p at pat) in
      ap (is_early (H' k)) above ∙ same_or k at
      (λ e. ap (λ y. is_early (H' y) (H q)) e ∙ ap (λ o. is_early o (H q)) s.first ∙ over)
      (λ m. ap (λ o. is_early o (H q)) (s.others k m (not-above p k (below p k h))) ∙ through (H q) (H p) (H k) parent.0 parent.1 over (r.others p k h m))

  pub rise-step : Rises H' p
  rise-step = record { others = rise-others; around = rise-around }

-- no child of the one at this place comes before it, nor it before its parent
pub settled : (H : ℕ → Option Due) (at : ℕ) → Settles H at → ((p : ℕ) → IsChild p at → is_early (H at) (H p) ≡ false) → ((k : ℕ) → IsChild at k → is_early (H k) (H at) ≡ false) → IsHeap H
settled H at r above under p k c = same_or k at
    (λ e. ap (λ y. is_early (H y) (H p)) e ∙ above p (let c0 = c.0 in omega (arith, c0, e), let c1 = c.1 in omega (arith, c1, e)))
    (λ n. same_or p at
    (λ e. ap (λ y. is_early (H k) (H y)) e ∙ under k (let c0 = c.0 in omega (arith, c0, e), let c1 = c.1 in omega (arith, c1, e)))
    (λ m. r.others p k c n m))

pub rise-end : (H : ℕ → Option Due) (at : ℕ) → Rises H at → ((p : ℕ) → IsChild p at → is_early (H at) (H p) ≡ false) → IsHeap H
rise-end H at r h = settled H at (record { others = λ p k c n m. r.others p k c n; around = r.around }) h (λ k c. r.others at k c (not-above at k (below at k c)))

module _ (H H' : ℕ → Option Due) (at c : ℕ) (s : Swaps H H' at c) (r : Sinks H at) (down : IsChild at c) (early : is_early (H c) (H at) ≡ true)
    (least : (k : ℕ) → IsChild at k → is_early (H k) (H c) ≡ false) where
  sink-others : (q k : ℕ) → IsChild q k → q ≢ c → is_early (H' k) (H' q) ≡ false
  sink-others q k h n = same_or q at
      (λ e. let h' : IsChild at k = (let h0 = h.0 in omega (arith, h0, e), let h1 = h.1 in omega (arith, h1, e)) in
      ap (λ y. is_early (H' k) (H' y)) e ∙ ap (is_early (H' k)) s.first ∙ same_or k c
      (λ f. ap (λ y. is_early (H' y) (H c)) f ∙ ap (λ o. is_early o (H c)) s.second ∙ early-back (H c) (H at) early)
      (λ m. ap (λ o. is_early o (H c)) (s.others k (not-above at k (below at k h')) m) ∙ least k h'))
      (λ l. ap (is_early (H' k)) (s.others q l n) ∙ same_or k at
      (λ e. ap (λ y. is_early (H' y) (H q)) e ∙ ap (λ o. is_early o (H q)) s.first ∙ r.around q c (let h0 = h.0 in omega (arith, h0, e), let h1 = h.1 in omega (arith, h1, e)) down)
      (λ m. same_or k c
      (λ e. absurd (l (one-parent at q c down (let h0 = h.0 in omega (arith, h0, e), let h1 = h.1 in omega (arith, h1, e)))))
      (λ j. ap (λ o. is_early o (H q)) (s.others k m j) ∙ r.others q k h l)))

  sink-around : (q k : ℕ) → IsChild q c → IsChild c k → is_early (H' k) (H' q) ≡ false
  sink-around q k g h =
      let ck = below c k h in
      let atc = below at c down in
      let qat : q ≡ at = one-parent at q c down g in
      ap (λ y. is_early (H' k) (H' y)) qat ∙ ap (is_early (H' k)) s.first
      ∙ ap (λ o. is_early o (H c)) (s.others k (not-above at k (omega (arith, ck, atc))) (not-above c k ck)) ∙ r.others c k h (not-above at c atc)

  pub sink-step : Sinks H' c
  sink-step = record { others = sink-others; around = sink-around }

pub sink-end : (H : ℕ → Option Due) (at : ℕ) → Sinks H at → ((k : ℕ) → IsChild at k → is_early (H k) (H at) ≡ false) → IsHeap H
sink-end H at r h = settled H at (record { others = λ p k c n m. r.others p k c m; around = r.around }) (λ p c. r.others p at c (not-below p at (below p at c))) h

pub settle-rises : (H : ℕ → Option Due) (at p : ℕ) → Settles H at → IsChild p at → is_early (H at) (H p) ≡ true → Rises H at
settle-rises H at p r up early = record {
  others = λ q k c n. same_or q at
      (λ e. let parent = early-some (H at) (H p) early in
      ap (λ y. is_early (H k) (H y)) e
      ∙ through (H at) (H p) (H k) parent.0 parent.1 (early-back (H at) (H p) early) (r.around p k up (let c0 = c.0 in omega (arith, c0, e), let c1 = c.1 in omega (arith, c1, e))))
      (λ m. r.others q k c n m);
  around = r.around;
}

pub settle-sinks : (H : ℕ → Option Due) (at : ℕ) → Settles H at → ((p : ℕ) → IsChild p at → is_early (H at) (H p) ≡ false) → Sinks H at
settle-sinks H at r h = record {
  others = λ q k c n. same_or k at
      (λ e. ap (λ y. is_early (H y) (H q)) e ∙ h q (let c0 = c.0 in omega (arith, c0, e), let c1 = c.1 in omega (arith, c1, e)))
      (λ m. r.others q k c m n);
  around = r.around;
}
