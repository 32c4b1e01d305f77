-- Which descriptors are open.
use Rattle.std.specs.Prelude.{◌≡◌, ℕ, ◌≤◌, ◌==◌, Bool, false, not, ◌&&◌, ◌||◌, List}
use Rattle.std.specs.List.{list_any}

-- whether a descriptor is among these
abbrev pub is_among : ℕ → List ℕ → Bool
is_among fd fds = list_any (λ d. d == fd) fds

-- the same are open
abbrev pub SameOpen : (ℕ → Bool) → (ℕ → Bool) → Type 0
SameOpen before now = (fd : ℕ) → now fd ≡ before fd

-- this one, from 1 upwards, is open now and wasn't
pub record Opens (before now : ℕ → Bool) (opened : ℕ) : Type 0 where
  pub positive : 1 ≤ opened
  pub vacant : before opened ≡ false
  pub added : (fd : ℕ) → now fd ≡ ((fd == opened) || before fd)

-- this one isn't open now, and all others are as they were
abbrev pub Closes : (ℕ → Bool) → (ℕ → Bool) → ℕ → Type 0
Closes before now closed = (fd : ℕ) → now fd ≡ (not (fd == closed) && before fd)
