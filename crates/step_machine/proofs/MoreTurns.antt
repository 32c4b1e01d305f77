-- Turns and steps that are enough, and more of them.
use Rattle.std.proofs.Common.{◌≡◌, ◌≢◌, ℕ, suc, zero, ◌+◌, List, sym, ◌∙◌, ap, inl, inr, arith}
use Rattle.step_machine.specs.Machine.{Table, Outcome, rest, run, walk}
use Rattle.step_machine.specs.Machine.Outcome.{Short}
use Rattle.step_machine.proofs.Laws.{Below, run-more, rest-more, walk-more, walk-rest}

-- what isn't short
pub whole-equal : {A P I T : Type 0} (o u : Outcome A P I T) → o ≢ Short → Below o u → o ≡ u
whole-equal o u h b = elim b [ inl s ↦ absurd (h s) | inr e ↦ e ]

-- what stays as it is with one more stays so with any number more
more : {A P I T : Type 0} (go : ℕ → Outcome A P I T) → ((n : ℕ) → Below (go n) (go (suc n))) → (n d : ℕ) → go n ≢ Short → go (n + d) ≡ go n
more go up n zero h = let e : n + 0 ≡ n = omega arith in ap go e
more go up n (suc d) h =
    let e : n + suc d ≡ suc (n + d) = omega arith in
    let ih : go (n + d) ≡ go n = more go up n d h in
    ap go e ∙ sym (whole-equal (go (n + d)) (go (suc (n + d))) (λ s. h (sym ih ∙ s)) (up (n + d))) ∙ ih

module _ {F A P I T : Type 0} (t : Table F A P I T) where
  pub more-run : (n d : ℕ) (f : F) (p : P) (is : List I) → run t n f p is ≢ Short → run t (n + d) f p is ≡ run t n f p is
  more-run n d f p is h = more (λ k. run t k f p is) (λ k. run-more t k f p is) n d h

  pub more-rest : (n d : ℕ) (f : F) (fs : List F) (p : P) (is : List I) → rest t n f fs p is ≢ Short → rest t (n + d) f fs p is ≡ rest t n f fs p is
  more-rest n d f fs p is h = more (λ k. rest t k f fs p is) (λ k. rest-more t k f fs p is) n d h

  pub more-walk : (n d : ℕ) (f : F) (fs : List F) (p : P) (is : List I) → walk t n f fs p is ≢ Short → walk t (n + d) f fs p is ≡ walk t n f fs p is
  more-walk n d f fs p is h = more (λ k. walk t k f fs p is) (λ k. walk-more t k f fs p is) n d h

  pub walk-as-rest : (n : ℕ) (f : F) (fs : List F) (p : P) (is : List I) → walk t n f fs p is ≢ Short → walk t n f fs p is ≡ rest t n f fs p is
  walk-as-rest n f fs p is h = whole-equal (walk t n f fs p is) (rest t n f fs p is) h (walk-rest t n f fs p is)
