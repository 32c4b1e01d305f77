-- What lines show of items: no Quiet that was answered, and not the reply to a routine's last call. What fits the items fits what is shown.
use Rattle.std.proofs.Common.{◌≡◌, ℕ, Bool, false, ◌||◌, List, [], ◌∷◌, ◌++◌, None, refl, sym, ap, subst, ◌∙◌, append_assoc, append-nil}
use Rattle.std.specs.List.{list_any}
use Rattle.step_machine.specs.Open.{LastIs}
use Rattle.tree_specs.specs.declared.object.Obj.{Obj}
use Rattle.tree_specs.specs.declared.reply.Reply.TheVariants.{No}
use Rattle.tree_specs.specs.declared.reply.Refusal.TheVariants.{Refused as RefusedBy}
use Rattle.tree_specs.specs.declared.event.Event.{Event}
use Rattle.tree_specs.specs.declared.event.Event.TheVariants.{Replied, Refused, Freed, Unreferenced, State}
use Rattle.tree_specs.specs.declared.question.Ask.{Ask}
use Rattle.tree_specs.specs.declared.question.Ask.TheVariants as asks
use Rattle.tree_specs.specs.Rules.Items.{Item}
use Rattle.tree_specs.specs.Rules.Items.Item.{Told, Asked}
use Rattle.tree_specs.specs.Promises.Orderly.{accepts, frees, drops, has_state_from, judges, FreedOnce, DroppedOnce, RefusedJustNow, StatesGoUp, Fits}
use Rattle.transcript_lines.specs.Lines.{plain_ask}
use Rattle.audit_rules.specs.Rules.{broken}
use Rattle.audit_rules.proofs.Breaking.{fits_unbroken}

abbrev pub shown : Item → List Item
shown (Told e) = Told e ∷ []
shown (Asked asks.Quiet) = []
shown (Asked q) = Asked (plain_ask q) ∷ []

unfoldable pub visible : List Item → List Item
visible [] = []
visible (i ∷ is) = shown i ++ visible is

pub visible_more : (before : List Item) (i : Item) → visible (before ++ i ∷ []) ≡ visible before ++ shown i
unfolding visible
visible_more [] i = append-nil (shown i)
visible_more (x ∷ before) i = ap (λ (l : List Item). shown x ++ l) (visible_more before i) ∙ sym (append_assoc (shown x) (visible before) (shown i))

-- ---- tests that no question passes

shown_any : (test : Item → Bool) → ((q : Ask) → test (Asked q) ≡ false) → (i : Item) (is : List Item) → list_any test (shown i ++ is) ≡ (test i || list_any test is)
shown_any test asked (Told e) is = refl
shown_any test asked (Asked asks.Quiet) is = rw (asked asks.Quiet) refl
shown_any test asked (Asked (asks.Routine m)) is = rw (asked (asks.Routine m), asked (plain_ask (asks.Routine m))) refl
shown_any test asked _ is = refl

visible_any : (test : Item → Bool) → ((q : Ask) → test (Asked q) ≡ false) → (before : List Item) → list_any test (visible before) ≡ list_any test before
unfolding visible
visible_any test asked [] = refl
visible_any test asked (i ∷ is) = shown_any test asked i (visible is) ∙ ap (λ b. test i || b) (visible_any test asked is)

accepted : (before : List Item) (x : Obj) → list_any (accepts x) (visible before) ≡ list_any (accepts x) before
accepted before x = visible_any (accepts x) (λ q. refl) before

freed : (before : List Item) (x : Obj) → list_any (frees x) (visible before) ≡ list_any (frees x) before
freed before x = visible_any (frees x) (λ q. refl) before

dropped : (before : List Item) (x : Obj) → list_any (drops x) (visible before) ≡ list_any (drops x) before
dropped before x = visible_any (drops x) (λ q. refl) before

stated : (k : ℕ) (before : List Item) (x : Obj) → list_any (has_state_from k x) (visible before) ≡ list_any (has_state_from k x) before
stated k before x = visible_any (has_state_from k x) (λ q. refl) before

-- ---- the last event is shown as the last

last_behind : (Q : Item → Type 0) (front is : List Item) → LastIs Q is → LastIs Q (front ++ is)
last_behind Q [] is h = h
last_behind Q (i ∷ front) is h = one_before (front ++ is) (last_behind Q front is h)
  where
    one_before : (ts : List Item) → LastIs Q ts → LastIs Q (i ∷ ts)
    one_before [] h = absurd h
    one_before (t ∷ ts) h = h

last_visible : (e : Event) (before : List Item) → LastIs (λ i. i ≡ Told e) before → LastIs (λ i. i ≡ Told e) (visible before)
unfolding visible
last_visible e [] h = absurd h
last_visible e (i ∷ []) h = subst (λ (t : Item). LastIs (λ i. i ≡ Told e) (shown t ++ [])) (sym h) refl
last_visible e (i ∷ j ∷ rest) h = last_behind (λ i. i ≡ Told e) (shown i) (visible (j ∷ rest)) (last_visible e (j ∷ rest) h)

-- ---- what fits the items fits what is shown of them

freed_visible : (before : List Item) (i : Item) → FreedOnce before i → FreedOnce (visible before) i
freed_visible before (Told (Freed x hook)) h = (freed before x ∙ h.0, accepted before x ∙ h.1)
freed_visible before _ h = tt

dropped_visible : (before : List Item) (i : Item) → DroppedOnce before i → DroppedOnce (visible before) i
dropped_visible before (Told (Unreferenced reference target)) h = dropped before reference ∙ h
dropped_visible before _ h = tt

refused_visible : (before : List Item) (i : Item) → RefusedJustNow before i → RefusedJustNow (visible before) i
refused_visible before (Told (Replied (No (RefusedBy x v)))) h = last_visible (Refused x v) before h
refused_visible before _ h = tt

states_visible : (before : List Item) (i : Item) → StatesGoUp before i → StatesGoUp (visible before) i
states_visible before (Told (State x s)) h = (h.0, h.1, stated 6 before x ∙ h.2, λ lt. stated 2 before x ∙ h.3 lt)
states_visible before _ h = tt

fits_visible : (before : List Item) (i : Item) → Fits before i → Fits (visible before) i
fits_visible before i fits = record {
  accepts_once = λ x e. accepted before x ∙ fits.accepts_once x e;
  freed_once = freed_visible before i fits.freed_once;
  after_the_end = λ x e. freed before x ∙ fits.after_the_end x e;
  dropped_once = dropped_visible before i fits.dropped_once;
  refused_just_now = refused_visible before i fits.refused_just_now;
  states_go_up = states_visible before i fits.states_go_up;
}

-- a question judges the same object without the reply to the routine's last call
plain_judges : (q : Ask) (x : Obj) → judges x (Asked (plain_ask q)) ≡ judges x (Asked q)
plain_judges (asks.Routine m) x = refl
plain_judges _ x = refl

fits_plain : (before : List Item) (q : Ask) → Fits before (Asked q) → Fits before (Asked (plain_ask q))
fits_plain before q fits = record {
  accepts_once = λ x e. fits.accepts_once x (sym (plain_judges q x) ∙ e);
  freed_once = tt;
  after_the_end = λ x e. fits.after_the_end x (sym (plain_judges q x) ∙ e);
  dropped_once = tt;
  refused_just_now = tt;
  states_go_up = tt;
}

pub told_shown : (before : List Item) (e : Event) → Fits before (Told e) → broken (visible before) (Told e) ≡ None
told_shown before e fits = fits_unbroken (visible before) (Told e) (fits_visible before (Told e) fits)

pub asked_shown : (before : List Item) (q : Ask) → Fits before (Asked q) → broken (visible before) (Asked (plain_ask q)) ≡ None
asked_shown before q fits = fits_unbroken (visible before) (Asked (plain_ask q)) (fits_plain (visible before) q (fits_visible before (Asked q) fits))
