-- Each item of the machine fits what was told before it.
use Rattle.std.proofs.Common.{Option, Some, None, is_some, ◌≡◌, ℕ, List, [], ◌∷◌, ◌++◌, Bool, true, false, refl, sym, ◌∙◌, subst, ◌⊎◌, inl, inr}
use Rattle.std.specs.Prelude.{◌||◌, ◌&&◌}
use Rattle.std.specs.List.{list_any}
use Rattle.step_machine.specs.Open.{LastIs}
use Rattle.tree_specs.specs.declared.object.Obj.{Obj}
use Rattle.tree_specs.specs.declared.object.Owner.{Owner}
use Rattle.tree_specs.specs.declared.object.Owner.TheVariants.{Of}
use Rattle.tree_specs.specs.declared.row.Row.{Row}
use Rattle.tree_specs.specs.declared.question.Ask.{Ask}
use Rattle.tree_specs.specs.declared.question.Ask.TheVariants as ask
use Rattle.tree_specs.specs.declared.reply.Reply.{Reply}
use Rattle.tree_specs.specs.declared.event.Event.TheVariants.{Replied, Fired, Accepted, Refused, Moved, Freed, Warned, Unreferenced, Closed, State}
use Rattle.tree_specs.specs.declared.moment.What.{What}
use Rattle.tree_specs.specs.Words.Objects.{same, same_owner}
use Rattle.tree_specs.specs.Tree.Pool.{row_of, is_row, is_object_row, is_owner}
use Rattle.tree_specs.specs.Rules.Items.{Item}
use Rattle.tree_specs.specs.Rules.Items.Item.{Told, Asked}
use Rattle.tree_specs.specs.Promises.Orderly.{is_hook, asks_hook, accepts, frees, judges, uses, Fits, FreedOnce, DroppedOnce, RefusedJustNow, StatesGoUp, drops}
use Rattle.tree_specs.specs.Invariants.Consistent.{IsQuiet}
use Rattle.tree_specs.proofs.Tree.Numbered.{same-true, same_owner-true}
use Rattle.tree_specs.proofs.Promises.Causes.{IsAskedAs, IsHook, IsNoHook}

pub last-more : {T : Type 0} (Q : T → Type 0) (ts : List T) (t : T) → Q t → LastIs Q (ts ++ t ∷ [])
last-more Q [] t h = h
last-more Q (u ∷ []) t h = h
last-more Q (u ∷ v ∷ ts) t h = last-more Q (v ∷ ts) t h

-- a disjunction that holds
either : (a b : Bool) → (a || b) ≡ true → (a ≡ true) ⊎ (b ≡ true)
either true b e = inl refl
either false b e = inr e

-- what an item says beside its destructors and the objects that are to be there
abbrev Others : List Item → Item → Type 0
Others items item = FreedOnce items item × DroppedOnce items item × RefusedJustNow items item × StatesGoUp items item

fits-by : (items : List Item) (item : Item) → ((x : Obj) → judges x item ≡ true → list_any (accepts x) items ≡ false)
    → ((x : Obj) → uses x item ≡ true → list_any (frees x) items ≡ false) → Others items item → Fits items item
fits-by items item once later others = record {
  accepts_once = once;
  freed_once = others.0;
  after_the_end = later;
  dropped_once = others.1;
  refused_just_now = others.2;
  states_go_up = others.3;
}

-- an item that says nothing of a destructor, nor of an object that is to be there
pub fits-replied : (items : List Item) (r : Reply) → RefusedJustNow items (Told (Replied r)) → Fits items (Told (Replied r))
fits-replied items r h = fits-by items (Told (Replied r)) (λ x e. cc) (λ x e. cc) (tt, tt, h, tt)

pub fits-freed : (items : List Item) (x : Obj) (h : ℕ) → FreedOnce items (Told (Freed x h)) → Fits items (Told (Freed x h))
fits-freed items x h once = fits-by items (Told (Freed x h)) (λ y e. cc) (λ y e. cc) (once, tt, tt, tt)

-- that a descriptor is closed says nothing of an object
pub fits-closed : (items : List Item) (fd : ℕ) → Fits items (Told (Closed fd))
fits-closed items fd = fits-by items (Told (Closed fd)) (λ x e. cc) (λ x e. cc) (tt, tt, tt, tt)

-- an object that lives, and whose destructor hasn't accepted
module _ (items : List Item) (x : Obj) (free : list_any (accepts x) items ≡ false) (there : list_any (frees x) items ≡ false) where
  never : (q : Obj → Item → Bool) → list_any (q x) items ≡ false → (y : Obj) → x ≡ y → list_any (q y) items ≡ false
  never q h y e = subst (λ (z : Obj). list_any (q z) items ≡ false) e h

  pub fits-accepted : Fits items (Told (Accepted x))
  fits-accepted = fits-by items (Told (Accepted x)) (λ y e. never accepts free y (of y e)) (λ y e. never frees there y (of y e)) (tt, tt, tt, tt)
    where
      of : (y : Obj) → (same x y || false) ≡ true → x ≡ y
      of y e = elim (either (same x y) false e) [
        | inl t ↦ same-true x y t
        | inr f ↦ cc
      ]

  pub fits-refused : (v : ℕ) → Fits items (Told (Refused x v))
  fits-refused v = fits-by items (Told (Refused x v)) (λ y e. never accepts free y (same-true x y e)) (λ y e. never frees there y (same-true x y e)) (tt, tt, tt, tt)

  pub fits-asked : (q : Ask) → IsAskedAs (IsHook x) q → Fits items (Asked q)
  fits-asked (ask.Routine m) h = fits-by items (Asked (ask.Routine m)) (λ y e. never accepts free y (of y e)) (λ y e. never frees there y (of y e)) (tt, tt, tt, tt)
    where
      both : (a b : Bool) → (a && b) ≡ true → b ≡ true
      both true b e = e
      both false b e = cc

      of : (y : Obj) → ((is_hook m.what && same m.object y) || false) ≡ true → x ≡ y
      of y e = elim (either (is_hook m.what && same m.object y) false e) [
        | inl t ↦ sym h.1 ∙ same-true m.object y (both (is_hook m.what) (same m.object y) t)
        | inr f ↦ cc
      ]
  fits-asked ask.Quiet h = absurd h
  fits-asked _ h = absurd h

-- a question to no destructor
pub fits-question : (items : List Item) (q : Ask) → ((y : Obj) → asks_hook y (Asked q) ≡ false) → Fits items (Asked q)
fits-question items q none = fits-by items (Asked q) (λ y e. (let bad : false ≡ true = rw (none y) at e in cc)) (λ y e. (let bad : false ≡ true = rw (none y) at e in cc)) (tt, tt, tt, tt)

pub fits-quiet : (items : List Item) (q : Ask) → IsQuiet q → Fits items (Asked q)
fits-quiet items ask.Quiet h = fits-question items ask.Quiet (λ y. refl)
fits-quiet items (ask.Routine m) h = absurd h
fits-quiet items _ h = absurd h

pub fits-handler : (items : List Item) (q : Ask) → IsAskedAs IsNoHook q → Fits items (Asked q)
fits-handler items (ask.Routine m) h = fits-question items (ask.Routine m) (λ y. rw h refl)
fits-handler items ask.Quiet h = absurd h
fits-handler items _ h = absurd h

-- a handler begins to run for an object that is there
pub fits-fired : (items : List Item) (w : What) (x : Obj) (routine : ℕ) → list_any (frees x) items ≡ false → Fits items (Told (Fired w x routine))
fits-fired items w x routine there = fits-by items (Told (Fired w x routine)) (λ y e. cc) (λ y e. subst (λ (z : Obj). list_any (frees z) items ≡ false) (same-true x y e) there) (tt, tt, tt, tt)

object-row : (o : Option Row) → is_object_row o ≡ true → is_some o ≡ true
object-row None e = cc
object-row (Some r) e = refl

-- an object goes to another owner, and both are there
pub fits-moved : (items : List Item) (rows : List Row) (c : Obj) (o : Owner) → ((y : Obj) → is_row rows y ≡ true → list_any (frees y) items ≡ false)
    → is_row rows c ≡ true → is_owner rows o ≡ true → Fits items (Told (Moved c o))
fits-moved items rows c o there child owner = fits-by items (Told (Moved c o)) (λ y e. cc) later (tt, tt, tt, tt)
  where
    later : (y : Obj) → (same c y || same_owner o (Of y)) ≡ true → list_any (frees y) items ≡ false
    later y e = elim (either (same c y) (same_owner o (Of y)) e) [
      | inl t ↦ there y (subst (λ (z : Obj). is_row rows z ≡ true) (same-true c y t) child)
      | inr t ↦ there y (object-row (row_of rows y) (subst (λ (z : Owner). is_owner rows z ≡ true) (same_owner-true o (Of y) t) owner))
    ]

-- a request that is there goes to a state
pub fits-state : (items : List Item) (x : Obj) (s : ℕ) → list_any (frees x) items ≡ false → StatesGoUp items (Told (State x s)) → Fits items (Told (State x s))
fits-state items x s there up = fits-by items (Told (State x s)) (λ y e. cc) (λ y e. subst (λ (z : Obj). list_any (frees z) items ≡ false) (same-true x y e) there) (tt, tt, tt, up)

-- a reference is dropped, and its target is there
pub fits-dropped : (items : List Item) (r t : Obj) → list_any (drops r) items ≡ false → list_any (frees t) items ≡ false → Fits items (Told (Unreferenced r t))
fits-dropped items r t once there = fits-by items (Told (Unreferenced r t)) (λ y e. cc) (λ y e. subst (λ (z : Obj). list_any (frees z) items ≡ false) (same-true t y e) there) (tt, once, tt, tt)

-- an object that is there was given to another owner
pub fits-warned : (items : List Item) (x : Obj) → list_any (frees x) items ≡ false → Fits items (Told (Warned x))
fits-warned items x there = fits-by items (Told (Warned x)) (λ y e. cc) (λ y e. subst (λ (z : Obj). list_any (frees z) items ≡ false) (same-true x y e) there) (tt, tt, tt, tt)
