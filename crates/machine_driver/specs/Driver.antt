-- A driver stands between a machine and the outside. It hears each event, answers some questions itself, and passes on others.
-- The machine is known here by its story alone: the items that it tells over a list of inputs.
use Rattle.std.specs.Prelude.{ℕ, suc, zero, List, [], ◌∷◌, ◌++◌, Option, Some, None}

-- what an item is to a driver
pub data Kind (E Q : Type 0) : Type 0 where
  Event : E → Kind E Q
  Question : Q → Kind E Q

-- what an answer of the outside leads to
pub data Given (D I U : Type 0) : Type 0 where
  -- the machine gets this input
  Pass : I → D → Given D I U
  -- the driver tells these items, and the question stays open
  Reply : List U → D → Given D I U
  -- it doesn't fit
  Misfit : Given D I U

-- T the machine's items, E its events, Q its questions, I its inputs; J the answers of the outside, U what the outside sees;
-- D what the driver knows
pub record Driver (D T E Q I J U : Type 0) : Type 0 where
  pub kind : T → Kind E Q
  -- what it knows after an event, and what the outside sees of the event
  pub told : D → E → D
  pub shows : D → E → List U
  -- its own answer to a question, and what it knows then; none where the outside is asked
  pub own : D → Q → Option (I × D)
  -- what the outside sees of a question
  pub asks : D → Q → List U
  -- an answer of the outside
  pub heard : D → Q → J → Given D I U

-- how a machine goes on: its story over any inputs still to come
abbrev pub Story : Type 0 → Type 0 → Type 0
Story I T = List I → List T

abbrev pub tail : {T : Type 0} → List T → List T
tail [] = []
tail (t ∷ ts) = ts

-- how it goes on after an event, and after a question that got this input
abbrev pub later : {I T : Type 0} → Story I T → Story I T
later s is = tail (s is)

abbrev pub answered : {I T : Type 0} → I → Story I T → Story I T
answered i s is = tail (s (i ∷ is))

-- an element before all others, and a list before all others
abbrev pub with_first : {X : Type 0} → X → Option (List X) → Option (List X)
with_first x None = None
with_first x (Some xs) = Some (x ∷ xs)

abbrev pub with_front : {X : Type 0} → List X → Option (List X) → Option (List X)
with_front us None = None
with_front us (Some xs) = Some (us ++ xs)

module _ {D T E Q I J U : Type 0} (driver : Driver D T E Q I J U) where
  -- ---- the inputs of the machine: the outside's answers, with the driver's own filled in

  abbrev pub passed_on : (D → Story I T → List J → Option (List I)) → Story I T → List J → Given D I U → Option (List I)
  passed_on go s js (Pass i d) = with_first i (go d (answered i s) js)
  passed_on go s js (Reply us d) = go d s js
  passed_on go s js Misfit = Some []

  abbrev pub from_outside : (D → Story I T → List J → Option (List I)) → D → Q → Story I T → List J → Option (List I)
  from_outside go d q s [] = Some []
  from_outside go d q s (j ∷ js) = passed_on go s js (driver.heard d q j)

  abbrev pub answer : (D → Story I T → List J → Option (List I)) → D → Q → Story I T → List J → Option (I × D) → Option (List I)
  answer go d q s js (Some a) = with_first a.0 (go a.1 (answered a.0 s) js)
  answer go d q s js None = from_outside go d q s js

  abbrev pub at_item : (D → Story I T → List J → Option (List I)) → (D → Story I T → List J → Option (List I)) → D → Story I T → List J → Kind E Q → Option (List I)
  at_item go on d s js (Event e) = on (driver.told d e) (later s) js
  at_item go on d s js (Question q) = answer go d q s js (driver.own d q)

  -- through the events that come without an input, up to the question after them
  abbrev pub through : (D → Story I T → List J → Option (List I)) → List T → D → Story I T → List J → Option (List I)
  through go [] d s js = Some []
  through go (t ∷ ts) d s js = at_item go (through go ts) d s js (driver.kind t)

  -- the inputs of the machine over these answers of the outside; none where more than n answers come, the driver's own among them
  abbrev pub filled : ℕ → D → Story I T → List J → Option (List I)
  filled zero d s js = None
  filled (suc n) d s js = through (filled n) (s []) d s js

  -- ---- what the outside sees of the machine's items

  abbrev pub shown_after : (D → List J → List U) → (D → List U) → List J → Given D I U → List U
  shown_after go again js (Pass i d) = go d js
  shown_after go again js (Reply us d) = us ++ again d
  shown_after go again js Misfit = []

  abbrev pub shown_answer : (D → List J → List U) → (D → List U) → D → Q → J → List J → Option (I × D) → List U
  shown_answer go again d q j js (Some a) = go a.1 (j ∷ js)
  shown_answer go again d q j js None = shown_after go again js (driver.heard d q j)

  abbrev pub shown_last : (D → List J → List U) → Option (I × D) → List U
  shown_last go (Some a) = go a.1 []
  shown_last go None = []

  -- a question, and what follows it
  abbrev pub shown_question : (D → List J → List U) → Q → List J → D → List U
  shown_question go q [] d = driver.asks d q ++ shown_last go (driver.own d q)
  shown_question go q (j ∷ js) d = driver.asks d q ++ shown_answer go (shown_question go q js) d q j js (driver.own d q)

  abbrev pub shown_item : (D → List J → List U) → D → List J → Kind E Q → List U
  shown_item go d js (Event e) = driver.shows d e ++ go (driver.told d e) js
  shown_item go d js (Question q) = shown_question go q js d

  -- what the outside, which answers so, sees of these items
  abbrev pub shown : List T → D → List J → List U
  shown [] d js = []
  shown (t ∷ ts) d js = shown_item (shown ts) d js (driver.kind t)

  -- ---- the driven story

  abbrev pub shown_of : D → Story I T → List J → Option (List I) → Option (List U)
  shown_of d s js None = None
  shown_of d s js (Some is) = Some (shown (s is) d js)

  -- what the outside sees of the machine's story over the filled inputs; none where more than n answers come
  abbrev pub driven : ℕ → D → Story I T → List J → Option (List U)
  driven n d s js = shown_of d s js (filled n d s js)

abbrev pub items_or_none : {U : Type 0} → Option (List U) → List U
items_or_none None = []
items_or_none (Some us) = us
