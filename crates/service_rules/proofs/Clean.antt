-- The numbers of the service's sessions, requests and tasks are none of its events', and all have been given.
use Rattle.std.proofs.Common.{◌≡◌, ◌≢◌, ℕ, ◌<◌, ◌≤◌, List, [], ◌∷◌, refl, sym, subst, ◌⊎◌, inl, inr, arith}
use Rattle.tree_specs.specs.declared.event.Event.{Event}
use Rattle.tree_specs.specs.declared.event.Event.TheVariants as event
use Rattle.service_rules.specs.declared.task.Run.{Run}
use Rattle.service_rules.specs.declared.task.Run.TheVariants.{Own, Outside}
use Rattle.service_rules.specs.declared.task.Task.{Task}
use Rattle.service_rules.specs.Knowledge.{Connection, Knowledge}
use Rattle.service_rules.specs.Service.{told}
use Rattle.service_rules.proofs.Entries.{found-without}
use Rattle.service_rules.proofs.Numbers.{Frees, Base, IsEvent, Passes, EventIn, events-pass}

-- of each of the service's own runs
abbrev pub AllRuns : (Task → Type 0) → List Run → Type 0
AllRuns P [] = Unit {0}
AllRuns P (Own t ∷ runs) = P t × AllRuns P runs
AllRuns P (Outside ∷ runs) = AllRuns P runs

-- a number that was given, and is no event's
abbrev pub IsFree : Knowledge → ℕ → ℕ → Type 0
IsFree d next x = (x < next) × (IsEvent d x → ⊥)

abbrev pub FreesClean : Knowledge → ℕ → Task → Type 0
FreesClean d next t = (x : ℕ) → Frees t x → IsFree d next x

pub record Clean (d : Knowledge) (next : ℕ) : Type 0 where
  pub base : (x : ℕ) → Base d x → IsFree d next x
  pub events : (x : ℕ) → IsEvent d x → x < next
  pub runs : AllRuns (FreesClean d next) d.runs

pub all-runs : (P Q : Task → Type 0) → ((t : Task) → P t → Q t) → (runs : List Run) → AllRuns P runs → AllRuns Q runs
all-runs P Q h [] a = tt
all-runs P Q h (Own t ∷ runs) a = (h t a.0, all-runs P Q h runs a.1)
all-runs P Q h (Outside ∷ runs) a = all-runs P Q h runs a

-- after later numbers
pub clean-later : (d : Knowledge) (n m : ℕ) → n ≤ m → Clean d n → Clean d m
clean-later d n m h c = record {
  base = λ x b. on x (c.base x b);
  events = λ x w. let l : x < n = c.events x w in omega (arith, h, l);
  runs = all-runs (FreesClean d n) (FreesClean d m) (λ t f x w. on x (f x w)) d.runs c.runs;
}
  where
    on : (x : ℕ) → IsFree d n x → IsFree d m x
    on x f = let l : x < n = f.0 in ((omega (arith, h, l)), f.1)

-- where no other event is known
free-on : (d f : Knowledge) (next : ℕ) → ((x : ℕ) → IsEvent f x → IsEvent d x) → (x : ℕ) → IsFree d next x → IsFree f next x
free-on d f next events x w = (w.0, λ v. w.1 (events x v))

-- and less is known
pub clean-told : (d : Knowledge) (next : ℕ) (ev : Event) → Clean d next → Clean (told d ev) next
clean-told d next (event.Freed x hook) c = record {
  base = λ y b. free-on d (told d (event.Freed x hook)) next events y (c.base y (was y b));
  events = λ y w. c.events y (events y w);
  runs = all-runs (FreesClean d next) (FreesClean (told d (event.Freed x hook)) next) (λ t f y w. free-on d (told d (event.Freed x hook)) next events y (f y w)) d.runs c.runs;
}
  where
    events : (y : ℕ) → IsEvent (told d (event.Freed x hook)) y → IsEvent d y
    events y w = (w.0, w.1, found-without w.0 x d.connections w.1 w.2, w.3)

    was : (y : ℕ) → Base (told d (event.Freed x hook)) y → Base d y
    was y (inl v) = inl (v.0, found-without y x d.connections v.0 v.1)
    was y (inr v) = inr (v.0, found-without y x d.kept v.0 v.1)
clean-told d next _ c = c

-- ---- an own answer

-- with these numbers of the task that ran and of its reply, and a new connection
module _ (d f : Knowledge) (next : ℕ) (New : ℕ → Type 0) (NewKnown : ℕ → Connection → Type 0) (runs : List Run) (c : Clean d next) (passes : Passes d f New NewKnown)
    (mine : (x : ℕ) → New x → IsFree d next x) (fresh : (x : ℕ) → EventIn NewKnown x → (x < next) × ((y : ℕ) → Base d y ⊎ New y → y ≢ x) × AllRuns (λ t. (y : ℕ) → Frees t y → y ≢ x) runs)
    (below : AllRuns (FreesClean d next) runs) (is : f.runs ≡ runs) where
  base-free : (x : ℕ) → Base f x → IsFree f next x
  base-free x b = elim (passes.base x b) [ inl v ↦ on (c.base x v) (inl v) | inr v ↦ on (mine x v) (inr v) ]
    where
      on : IsFree d next x → Base d x ⊎ New x → IsFree f next x
      on w v = (w.0, λ e. elim (events-pass d f New NewKnown passes x e) [ inl u ↦ w.1 u | inr u ↦ (fresh x u).1 x v refl ])

  runs-free : (rs : List Run) → AllRuns (FreesClean d next) rs → ((x : ℕ) → EventIn NewKnown x → AllRuns (λ t. (y : ℕ) → Frees t y → y ≢ x) rs) → AllRuns (FreesClean f next) rs
  runs-free [] a n = tt
  runs-free (Own t ∷ rs) a n = ((λ x w. let v = a.0 x w in (v.0, λ e. elim (events-pass d f New NewKnown passes x e) [ inl u ↦ v.1 u | inr u ↦ (n x u).0 x w refl ])), runs-free rs a.1 (λ x u. (n x u).1))
  runs-free (Outside ∷ rs) a n = runs-free rs a n

  pub clean-passed : Clean f next
  clean-passed = record {
    base = base-free;
    events = λ x e. elim (events-pass d f New NewKnown passes x e) [ inl u ↦ c.events x u | inr u ↦ (fresh x u).0 ];
    runs = subst (AllRuns (FreesClean f next)) (sym is) (runs-free runs below (λ x u. (fresh x u).2));
  }
