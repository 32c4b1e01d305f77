-- What follows a front.
use Rattle.std.proofs.Common.{◌≡◌, ◌≢◌, ℕ, Bool, true, false, eqb, cond, List, [], ◌∷◌, ◌++◌, Option, Some, None, Bor, refl, sym, ap, ◌∙◌}
use Rattle.std.specs.Option.{option_map, MatchOption}
use Rattle.std.proofs.lemmas.Bool.{eqb-true}
use Rattle.std.proofs.lemmas.Bool.Decides.{Decides-eqb}
use Rattle.tree_specs.specs.Texts.Grammar.{◌>>=◌, ◌or◌, strip}

strip-front : (front rest : List ℕ) → strip front (front ++ rest) ≡ Some rest
strip-front [] rest = refl
strip-front (p ∷ ps) rest = rw ((Decides-eqb p p).1 refl) (strip-front ps rest)

pub strip_some : (front line rest : List ℕ) → strip front line ≡ Some rest → line ≡ front ++ rest
strip_some [] line rest e = cc
strip_some (p ∷ ps) [] rest e = absurd cc
strip_some (p ∷ ps) (x ∷ xs) rest e = by_test (eqb x p) refl (strip_some ps xs rest) e
  where
    by_test : (b : Bool) → eqb x p ≡ b → (strip ps xs ≡ Some rest → xs ≡ ps ++ rest) → cond b (strip ps xs) None ≡ Some rest → x ∷ xs ≡ p ∷ (ps ++ rest)
    by_test false h more f = absurd cc
    by_test true h more f = cc (eqb-true x p h, more f)

pub strip_is : (found : Option (Bor (List ℕ))) (front line : List ℕ) → MatchOption found ((rest : List ℕ) → line ≢ front ++ rest) (λ rest. line ≡ front ++ rest.now) → option_map (λ rest. rest.now) found ≡ strip front line
strip_is (Some rest) front line e = sym (ap (strip front) e ∙ strip-front front rest.now)
strip_is None front line none = by_cases (strip front line) refl
  where
    by_cases : (was : Option (List ℕ)) → strip front line ≡ was → None ≡ was
    by_cases None e = refl
    by_cases (Some rest) e = absurd (none rest (strip_some front line rest e))

-- a line that begins with this front, and is read from there
pub record HasFront {A : Type 0} (front : List ℕ) (read : List ℕ → Option A) (line : List ℕ) (result : A) : Type 0 where
  pub rest : List ℕ
  pub line_is : line ≡ front ++ rest
  pub reads : read rest ≡ Some result

pub has_front : {A : Type 0} (front : List ℕ) (read : List ℕ → Option A) (line : List ℕ) (result : A) → (strip front line >>= read) ≡ Some result → HasFront front read line result
has_front {A} front read line result e = by_cases (strip front line) refl e
  where
    by_cases : (found : Option (List ℕ)) → strip front line ≡ found → (found >>= read) ≡ Some result → HasFront front read line result
    by_cases None was f = absurd cc
    by_cases (Some rest) was f = record { rest = rest; line_is = strip_some front line rest was; reads = f }

infixl 5 ◌either◌
-- what one of two readers gives
pub ◌either◌ : {A : Type 0} {P : Type 0} {a b : Option A} {x : A} → (a ≡ Some x → P) → (b ≡ Some x → P) → (a or b) ≡ Some x → P
◌either◌ {a = None} first second e = second e
◌either◌ {a = Some y} first second e = first e
