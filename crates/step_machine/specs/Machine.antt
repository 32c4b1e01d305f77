-- A machine of small steps whose open works stand on one another. Three tables without recursion say all of it.
use Rattle.std.specs.Prelude.{◌≡◌, ℕ, suc, zero, Bool, true, false, List, [], ◌∷◌, ◌++◌, Option, Some, None, map}

-- What one step of the innermost work does.
pub data Move (F A P T : Type 0) : Type 0 where
  -- it ends, with an answer for the work below it
  Done : A → P → Move F A P T
  -- it goes on
  Go : F → P → Move F A P T
  -- it tells an event and goes on
  Emit : T → F → P → Move F A P T
  -- it asks a question, and this work waits for the input
  Wait : T → F → P → Move F A P T
  -- it puts the first work before itself, and waits as the second
  Call : F → F → P → Move F A P T

-- F the works, A the answers of works, P the pool, I the inputs, T the items that are told and asked
pub record Table (F A P I T : Type 0) : Type 0 where
  pub step : F → P → Move F A P T
  -- the work below, when the one above it has ended
  pub resume : F → A → F
  -- the waiting work with an input over this pool; none where the input does not fit
  pub taken : F → P → I → Option F

-- How a work ends over a list of inputs.
pub data Outcome (A P I T : Type 0) : Type 0 where
  -- its answer, the pool after it, what it told, and the inputs left
  Ended : A → P → List T → List I → Outcome A P I T
  -- no input is left, and the last item is the open question
  Waits : List T → Outcome A P I T
  -- the next input does not fit the question at the end
  Stray : List T → Outcome A P I T
  -- the turns ran out
  Short : Outcome A P I T

-- an item before all others
abbrev pub tell : {A P I T : Type 0} → T → Outcome A P I T → Outcome A P I T
tell t (Ended a p us is) = Ended a p (t ∷ us) is
tell t (Waits us) = Waits (t ∷ us)
tell t (Stray us) = Stray (t ∷ us)
tell t Short = Short

abbrev pub tells : {A P I T : Type 0} → List T → Outcome A P I T → Outcome A P I T
tells [] o = o
tells (t ∷ ts) o = tell t (tells ts o)

-- what follows an end
abbrev pub followed : {A B P I T : Type 0} → Outcome A P I T → (A → P → List I → Outcome B P I T) → Outcome B P I T
followed (Ended a p ts is) k = tells ts (k a p is)
followed (Waits ts) k = Waits ts
followed (Stray ts) k = Stray ts
followed Short k = Short

-- an input for a question
abbrev pub given : {F A P I T : Type 0} → (F → P → List I → Outcome A P I T) → T → P → List I → Option F → Outcome A P I T
given go q p is None = Stray (q ∷ [])
given go q p is (Some f) = tell q (go f p is)

-- a question, and the inputs still to come
abbrev pub asks : {F A P I T : Type 0} → (F → P → I → Option F) → (F → P → List I → Outcome A P I T) → T → F → P → List I → Outcome A P I T
asks taken go q f p [] = Waits (q ∷ [])
asks taken go q f p (i ∷ is) = given go q p is (taken f p i)

module _ {F A P I T : Type 0} (t : Table F A P I T) where
  -- what a move leads to, where `go` runs a work
  abbrev pub after : (F → P → List I → Outcome A P I T) → Move F A P T → List I → Outcome A P I T
  after go (Done a p) is = Ended a p [] is
  after go (Go f p) is = go f p is
  after go (Emit e f p) is = tell e (go f p is)
  after go (Wait q f p) is = asks t.taken go q f p is
  after go (Call g f p) is = followed (go g p is) (λ a p' left. go (t.resume f a) p' left)

  -- a work, recursively: each turn hands on one less
  abbrev pub run : ℕ → F → P → List I → Outcome A P I T
  run zero f p is = Short
  run (suc n) f p is = after (run n) (t.step f p) is

  -- what a stack of works makes of the end of the work before them
  abbrev pub pass : ℕ → List F → Outcome A P I T → Outcome A P I T
  pass n [] o = o
  pass n (g ∷ gs) o = followed o (λ a p is. pass n gs (run n (t.resume g a) p is))

  -- a stack of works, the innermost first
  abbrev pub rest : ℕ → F → List F → P → List I → Outcome A P I T
  rest n f fs p is = pass n fs (run n f p is)

  -- the same a step at a time, with no recursion into a work
  abbrev pub leads : (F → List F → P → List I → Outcome A P I T) → Move F A P T → List F → List I → Outcome A P I T
  leads go (Done a p) [] is = Ended a p [] is
  leads go (Done a p) (g ∷ gs) is = go (t.resume g a) gs p is
  leads go (Go f p) fs is = go f fs p is
  leads go (Emit e f p) fs is = tell e (go f fs p is)
  leads go (Wait q f p) fs is = asks t.taken (λ g p' left. go g fs p' left) q f p is
  leads go (Call g f p) fs is = go g (f ∷ fs) p is

  abbrev pub walk : ℕ → F → List F → P → List I → Outcome A P I T
  walk zero f fs p is = Short
  walk (suc n) f fs p is = leads (walk n) (t.step f p) fs is

-- a stack of works over a pool, the innermost first
pub record State (F P : Type 0) : Type 0 where
  pub now : F
  pub below : List F
  pub pool : P

-- where a step that tells nothing leads; none where it tells, asks or ends all
abbrev pub silent : {F A P I T : Type 0} → Table F A P I T → Move F A P T → List F → Option (State F P)
silent t (Done a p) [] = None
silent t (Done a p) (g ∷ gs) = Some (record { now = t.resume g a; below = gs; pool = p })
silent t (Go f p) fs = Some (record { now = f; below = fs; pool = p })
silent t (Emit e f p) fs = None
silent t (Wait q f p) fs = None
silent t (Call g f p) fs = Some (record { now = g; below = f ∷ fs; pool = p })

-- Over these inputs, and no fewer, a work ends so; after each proper prefix of them it waits, and has told a prefix of what it tells.
pub record EndsBy {A P I T : Type 0} (go : List I → Outcome A P I T) (a : A) (p : P) (ts : List T) (used : List I) : Type 0 where
  pub ends : (more : List I) → go (used ++ more) ≡ Ended a p ts more
  pub waits : (pre : List I) (i : I) (post : List I) → used ≡ pre ++ i ∷ post
      → (us : List T) × (vs : List T) × (go pre ≡ Waits us) × (us ++ vs ≡ ts)

-- the items that a run told
abbrev pub items : {A P I T : Type 0} → Outcome A P I T → List T
items (Ended a p ts is) = ts
items (Waits ts) = ts
items (Stray ts) = ts
items Short = []

-- an input doesn't fit the question at the end
abbrev pub is_stray : {A P I T : Type 0} → Outcome A P I T → Bool
is_stray (Stray ts) = true
is_stray o = false

-- each item by a function of it
abbrev pub map_items : {A P I T U : Type 0} → (T → U) → Outcome A P I T → Outcome A P I U
map_items f (Ended a p ts is) = Ended a p (map f ts) is
map_items f (Waits ts) = Waits (map f ts)
map_items f (Stray ts) = Stray (map f ts)
map_items f Short = Short
