-- What the neighbours of each and the head say of a lane.
use Rattle.std.specs.Prelude.{◌≡◌, ℕ, zero, suc, List, [], ◌∷◌, Option, Some, None, true}
use Rattle.linked_lanes.specs.Lane.{first, has, after, before}
use Rattle.linked_lanes.specs.declared.Sides.{Sides}
use Rattle.linked_lanes.specs.declared.Link.{Link}
use Rattle.linked_lanes.specs.declared.Link.TheVariants.{Newer, Older}

-- the neighbours of one in a lane
abbrev pub sides_in : List ℕ → ℕ → Sides
sides_in xs q = record { newer = before xs q; older = after xs q }

-- the head of a lane and the neighbours of each in it
pub record Chain (C : ℕ → Option Sides) (head : Option ℕ) (xs : List ℕ) : Type 0 where
  pub at_head : head ≡ first xs
  pub sides : (q : ℕ) → has xs q ≡ true → C q ≡ Some (sides_in xs q)

-- the head of a lane once one with these neighbours has left it
abbrev pub head_left_by : Option ℕ → Option ℕ → Option ℕ → Option ℕ
head_left_by None older head = older
head_left_by (Some x) older head = head

abbrev pub head_left : Option ℕ → Sides → Option ℕ
head_left head s = head_left_by s.newer s.older head

-- the last of a lane once one with these neighbours has left it
abbrev pub last_left : Option ℕ → Sides → Option ℕ
last_left last s = head_left_by s.older s.newer last

-- the one that stands next behind one with these neighbours
abbrev pub older_of : Option Sides → Option ℕ
older_of None = None
older_of (Some s) = s.older

-- so many of a lane at most, from this one on, by the neighbours
abbrev pub walk : (ℕ → Option Sides) → ℕ → Option ℕ → List ℕ
walk C zero at = []
walk C (suc n) None = []
walk C (suc n) (Some x) = x ∷ walk C n (older_of (C x))

-- the neighbours once another one is noted
abbrev pub noted : Link → Sides → Sides
noted (Newer x) s = record s { newer = x }
noted (Older x) s = record s { older = x }
