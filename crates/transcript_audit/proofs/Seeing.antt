-- What is kept of the items, and the rules by it.
use Rattle.std.proofs.Common.{◌≡◌, ℕ, Bool, true, false, cond, not, ◌||◌, List, [], ◌∷◌, ◌++◌, Option, Some, None, refl, sym, ap, ◌∙◌}
use Rattle.std.specs.List.{list_any}
use Rattle.tree_specs.specs.declared.object.Obj.{Obj}
use Rattle.tree_specs.specs.declared.object.Owner.TheVariants.{Root, Of}
use Rattle.tree_specs.specs.declared.moment.What.{What}
use Rattle.tree_specs.specs.declared.moment.What.TheVariants.{Hook}
use Rattle.tree_specs.specs.declared.question.Ask.TheVariants.{Routine}
use Rattle.tree_specs.specs.declared.reply.Reply.TheVariants.{No}
use Rattle.tree_specs.specs.declared.reply.Refusal.TheVariants.{Refused as RefusedBy}
use Rattle.tree_specs.specs.declared.event.Event.TheVariants.{Replied, Fired, Accepted, Refused, Moved, Warned, Unreferenced, State}
use Rattle.tree_specs.specs.Rules.Items.{Item}
use Rattle.tree_specs.specs.Rules.Items.Item.{Told, Asked}
use Rattle.tree_specs.specs.Promises.Orderly.{is_hook, accepts, frees, drops, has_state_from}
use Rattle.transcript_lines.specs.Sayings.{fact_of_moment}
use Rattle.audit_rules.specs.Rules.{has_accepted, is_freed, refuses_with, ends_with, broken}
use Rattle.transcript_audit.specs.Kept.{fact_of, seen_in, last_refusal, fact_accepts, fact_frees, fact_drops, fact_sets, seen_after, refusal_after, is_refusal, breach, three_where}

-- ---- one item more

more : {A : Type 0} (p : A → Bool) (before : List A) (x : A) → list_any p (before ++ x ∷ []) ≡ (list_any p before || p x)
more p [] x = or_nothing (p x)
  where
    or_nothing : (a : Bool) → (a || false) ≡ a
    or_nothing true = refl
    or_nothing false = refl
more p (y ∷ before) x = rw (more p before x) (or_assoc (p y) (list_any p before) (p x))
  where
    or_assoc : (a b c : Bool) → (a || (b || c)) ≡ ((a || b) || c)
    or_assoc true b c = refl
    or_assoc false b c = refl

hook_accepts : (what : What) (y x : Obj) → fact_accepts (fact_of_moment what y) x ≡ false
hook_accepts Hook y x = refl
hook_accepts _ y x = refl

hook_frees : (what : What) (y x : Obj) → fact_frees (fact_of_moment what y) x ≡ false
hook_frees Hook y x = refl
hook_frees _ y x = refl

hook_drops : (what : What) (y x : Obj) → fact_drops (fact_of_moment what y) x ≡ false
hook_drops Hook y x = refl
hook_drops _ y x = refl

hook_sets : (k : ℕ) (what : What) (y x : Obj) → fact_sets k (fact_of_moment what y) x ≡ false
hook_sets k Hook y x = refl
hook_sets k _ y x = refl

accepts_is : (item : Item) (x : Obj) → accepts x item ≡ fact_accepts (fact_of item) x
accepts_is (Asked (Routine m)) x = sym (hook_accepts m.what m.object x)
accepts_is (Told (Replied (No (RefusedBy y v)))) x = refl
accepts_is _ x = refl

frees_is : (item : Item) (x : Obj) → frees x item ≡ fact_frees (fact_of item) x
frees_is (Asked (Routine m)) x = sym (hook_frees m.what m.object x)
frees_is (Told (Replied (No (RefusedBy y v)))) x = refl
frees_is _ x = refl

drops_is : (item : Item) (x : Obj) → drops x item ≡ fact_drops (fact_of item) x
drops_is (Asked (Routine m)) x = sym (hook_drops m.what m.object x)
drops_is (Told (Replied (No (RefusedBy y v)))) x = refl
drops_is _ x = refl

sets_is : (k : ℕ) (item : Item) (x : Obj) → has_state_from k x item ≡ fact_sets k (fact_of item) x
sets_is k (Asked (Routine m)) x = sym (hook_sets k m.what m.object x)
sets_is k (Told (Replied (No (RefusedBy y v)))) x = refl
sets_is k _ x = refl

pub seen_more : (before : List Item) (item : Item) (x : Obj) → seen_in (before ++ item ∷ []) x ≡ seen_after (fact_of item) x (seen_in before x)
seen_more before item x =
    rw (
      more (accepts x) before item,
      more (frees x) before item,
      more (drops x) before item,
      more (has_state_from 2 x) before item,
      more (has_state_from 6 x) before item,
      accepts_is item x,
      frees_is item x,
      drops_is item x,
      sets_is 2 item x,
      sets_is 6 item x,
    )
    refl

hook_refuses : (what : What) (x : Obj) → refusal_after (fact_of_moment what x) ≡ None
hook_refuses Hook x = refl
hook_refuses _ x = refl

pub refusal_more : (before : List Item) (item : Item) → last_refusal (before ++ item ∷ []) ≡ refusal_after (fact_of item)
refusal_more [] item = refl
refusal_more (x ∷ []) item = refl
refusal_more (x ∷ y ∷ before) item = refusal_more (y ∷ before) item

refusal_is : (item : Item) (x : Obj) (v : ℕ) → refuses_with x v item ≡ is_refusal (refusal_after (fact_of item)) x v
refusal_is (Asked (Routine m)) x v = ap (λ o. is_refusal o x v) (sym (hook_refuses m.what m.object))
refusal_is (Told (Replied (No (RefusedBy y w)))) x v = refl
refusal_is _ x v = refl

ends_is : (before : List Item) (x : Obj) (v : ℕ) → ends_with (refuses_with x v) before ≡ is_refusal (last_refusal before) x v
ends_is [] x v = refl
ends_is (item ∷ []) x v = refusal_is item x v
ends_is (item ∷ next ∷ rest) x v = ends_is (next ∷ rest) x v

-- ---- the rules by it

abbrev rule : ℕ → Bool → Option ℕ → Option ℕ
rule n b other = cond b (Some n) other

judged : (a b : Bool) → rule 1 a (three_where b) ≡ rule 1 (a || false) (rule 3 ((b || false) || false) None)
judged true b = refl
judged false true = refl
judged false false = refl

used : (b : Bool) → three_where b ≡ rule 3 ((b || false) || false) None
used true = refl
used false = refl

used_two : (a b : Bool) → three_where (a || b) ≡ rule 3 ((a || (b || false)) || false) None
used_two true b = refl
used_two false true = refl
used_two false false = refl

used_root : (a : Bool) → three_where (a || false) ≡ rule 3 ((a || false) || false) None
used_root true = refl
used_root false = refl

dropped : (a b : Bool) → three_where (a || b) ≡ rule 3 ((a || false) || b) None
dropped true b = refl
dropped false true = refl
dropped false false = refl

state_is : (a b : Bool) → rule 3 a (rule 5 b None) ≡ rule 3 ((a || false) || false) (rule 5 b None)
state_is true b = refl
state_is false b = refl

abbrev four_unless : Bool → Option ℕ
four_unless b = cond b None (Some 4)

refused_is : (b : Bool) → four_unless b ≡ rule 4 (not b) None
refused_is true = refl
refused_is false = refl

asked_is : (before : List Item) (what : What) (x : Obj) → breach (seen_in before) (last_refusal before) (fact_of_moment what x)
    ≡ rule 1 (list_any (has_accepted before) (cond (is_hook what) (x ∷ []) [])) (rule 3 (list_any (is_freed before) (cond (is_hook what) (x ∷ []) []) || false) None)
asked_is before Hook x = judged (has_accepted before x) (is_freed before x)
asked_is before _ x = refl

pub breach_is : (before : List Item) (item : Item) → breach (seen_in before) (last_refusal before) (fact_of item) ≡ broken before item
breach_is before (Asked (Routine m)) = asked_is before m.what m.object
breach_is before (Told (Replied (No (RefusedBy x v)))) = refused_is (is_refusal (last_refusal before) x v) ∙ ap (λ b. rule 4 (not b) None) (sym (ends_is before x v))
breach_is before (Told (Fired what x routine)) = used (is_freed before x)
breach_is before (Told (Accepted x)) = judged (has_accepted before x) (is_freed before x)
breach_is before (Told (Refused x v)) = judged (has_accepted before x) (is_freed before x)
breach_is before (Told (Moved x Root)) = used_root (is_freed before x)
breach_is before (Told (Moved x (Of y))) = used_two (is_freed before x) (is_freed before y)
breach_is before (Told (Warned x)) = used (is_freed before x)
breach_is before (Told (Unreferenced reference target)) = dropped (is_freed before target) (list_any (drops reference) before)
breach_is before (Told (State x s)) = state_is (is_freed before x) _
breach_is before _ = refl
