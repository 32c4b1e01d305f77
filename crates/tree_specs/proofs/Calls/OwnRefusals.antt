-- What a call is refused for before it does anything.
use Rattle.tree_specs.proofs.Tree.Referring.{unreferred, plain-refers}
use Rattle.tree_specs.specs.Tree.Forest.{Distinct}
use Rattle.tree_specs.specs.Invariants.Sound.{IsReferable, Refers}
use Rattle.std.proofs.Common.{nat_eq, ◌≡◌, ℕ, List, [], ◌∷◌, ◌++◌, Option, Some, None, Bool, true, false, refl, sym, ◌∙◌, subst, ap}
use Rattle.tree_specs.specs.Tree.Sums.{size_at}
use Rattle.std.specs.Prelude.{zero, suc, ◌-◌, ◌+◌, ◌^◌, nat_lt, nat_le, length, not, is_some}
use Rattle.tree_specs.specs.declared.object.Obj.{Obj}
use Rattle.tree_specs.specs.declared.object.Owner.{Owner}
use Rattle.tree_specs.specs.declared.object.Owner.TheVariants.{Root, Of}
use Rattle.tree_specs.specs.declared.row.Row.{Row}
use Rattle.tree_specs.specs.declared.call.Call.{Call}
use Rattle.tree_specs.specs.declared.call.Call.TheVariants as call
use Rattle.tree_specs.specs.declared.reply.Reply.TheVariants.{No}
use Rattle.tree_specs.specs.declared.reply.Refusal.{Refusal}
use Rattle.tree_specs.specs.declared.reply.Refusal.TheVariants as refusal
use Rattle.tree_specs.specs.declared.event.Event.TheVariants.{Replied}
use Rattle.tree_specs.specs.Tree.Pool.{Pool, row_of, is_below, owner_of, is_object, is_owner, is_context_row}
use Rattle.tree_specs.specs.Tree.Targets.{is_reference}
use Rattle.tree_specs.specs.Rules.Items.{Item}
use Rattle.tree_specs.specs.Rules.Items.Item.{Told}
use Rattle.tree_specs.specs.declared.test.Test.{Test}
use Rattle.tree_specs.specs.declared.request.Note.{Note}
use Rattle.tree_specs.specs.declared.request.State.{State}
use Rattle.tree_specs.specs.Events.Requests.{is_in_progress, note_of}
use Rattle.tree_specs.specs.Calls.Refusals.{context, of_kind, is_finished, Check, row_limit, refuse_if, refusal_of, refused, refusals, over, fits_in, fits, growing, in_state, object_row, object, owner, room, given_by, held, is_held, is_running}
use Rattle.tree_specs.specs.declared.test.Test.TheVariants.{IsContext, IsSmall, IsObject, IsOwner, IsPlain, IsImmediate, IsDescriptor, IsRequest, IsReferable as IsReferableTest, IsOpen, IsUnwatched, HasRoom, HasNumber, IsInProgress, IsFinished, MayFail, Fits, MayGrow, IsNotDying, IsNotDoomed, IsNotRunning, IsNotInside, IsUnheld, IsUnreferenced, IsInterested, MayGive, IsQueue, IsMovable, IsNotGoing}
use Rattle.tree_specs.specs.Rules.Sequence.{Scene}
use Rattle.tree_specs.specs.Promises.Orderly.{RefusedJustNow}
use Rattle.tree_specs.specs.Promises.Grounded.{AnsweredCall, HeldCall, CausedCall}
use Rattle.tree_specs.specs.Words.Objects.{same, first_context}
use Rattle.tree_specs.proofs.Tree.Numbered.{by_test, same-equal}
use Rattle.tree_specs.proofs.Tree.References.{not-held}
use Rattle.tree_specs.proofs.Calls.Checks.{not-true}

-- a destructor's number is no refusal of a call's own, and what is said to run runs
abbrev pub IsOwn : Pool → Refusal → Type 0
IsOwn p (refusal.Refused x v) = ⊥
IsOwn p (refusal.Running x) = is_running p x ≡ true
IsOwn p why = Unit {0}

abbrev pub AllOwn : Pool → Check → Type 0
AllOwn p [] = Unit {0}
AllOwn p (why ∷ later) = IsOwn p why × AllOwn p later

own-both : (p : Pool) (first second : Check) → AllOwn p first → AllOwn p second → AllOwn p (first ++ second)
own-both p [] second h k = k
own-both p (why ∷ first) second h k = (h.0, own-both p first second h.1 k)

own-if : (p : Pool) (b : Bool) (why : Refusal) → (b ≡ true → IsOwn p why) → AllOwn p (refuse_if b why)
own-if p true why h = (h refl, tt)
own-if p false why h = tt

own-object : (p : Pool) (x : Obj) → AllOwn p (object p x)
own-object p x = each (row_of p.rows x)
  where
    each : (o : Option Row) → AllOwn p (object_row x o)
    each None = (tt, tt)
    each (Some r) = own-if p _ _ (λ t. tt)

own-owner : (p : Pool) (o : Owner) → AllOwn p (owner p o)
own-owner p Root = tt
own-owner p (Of x) = own-object p x

own-room : (p : Pool) (k : ℕ) → AllOwn p (room p k)
own-room p k =
    own-both p (refuse_if (nat_lt row_limit (length p.rows + k)) (refusal.Full (length p.rows))) (refuse_if (nat_le (2 ^ 64) (p.next + k)) refusal.Spent) (own-if p _ _ (λ t. tt)) (own-if p _ _ (λ t. tt))

own-fits : (p : Pool) (n : ℕ) (rs : List Row) (wanted : ℕ) (o : Option Owner) → AllOwn p (fits_in n rs wanted o)
own-fits p n rs wanted None = tt
own-fits p n rs wanted (Some Root) = tt
own-fits p zero rs wanted (Some (Of x)) = tt
own-fits p (suc n) rs wanted (Some (Of x)) = own-both p (over rs wanted x) _ (own-if p _ _ (λ t. tt)) (own-fits p n rs wanted (owner_of rs x))

own-below : (p : Pool) (o : Owner) (wanted : ℕ) → AllOwn p (fits p o wanted)
unfolding fits
own-below p o wanted = own-fits p (length p.rows) p.rows wanted (Some o)

own-growing : (p : Pool) (x : Obj) (size : ℕ) → AllOwn p (growing p x size)
own-growing p x size = by_test (nat_lt (size_at p.rows x) size) (λ t. rw t (own-below p (Of x) (size - size_at p.rows x))) (λ t. rw t tt)

own-given : (p : Pool) (from to : Owner) (x : Obj) → AllOwn p (given_by p from to x)
own-given p from to x = by_test (is_below (owner_of p.rows x) from) (λ t. rw t (own-if p _ (refusal.Loop x to) (λ t. tt))) (λ t. rw t (own-if p _ (refusal.NotParent x from) (λ t. tt)))

own-state : (p : Pool) (x : Obj) (is_right : State → Bool) (n : Option Note) → AllOwn p (in_state x is_right n)
own-state p x is_right None = tt
own-state p x is_right (Some n) = own-if p _ _ (λ t. tt)

own-context : (p : Pool) (c : Obj) → AllOwn p (context p c)
own-context p c = by_test (same c first_context)
    (λ t. rw t tt)
    (λ t. rw t (own-both p (object p c) _ (own-object p c) (own-both p (of_kind is_context_row p c) _ (own-if p _ _ (λ u. tt)) (own-if p _ _ (λ u. tt)))))

own-test : (p : Pool) (t : Test) → AllOwn p (refusal_of p t)
own-test p (IsSmall size) = own-if p _ _ (λ t. tt)
own-test p (IsObject x) = own-object p x
own-test p (IsOwner o) = own-owner p o
own-test p (IsPlain x) = own-if p _ _ (λ t. tt)
own-test p (IsImmediate x) = own-if p _ _ (λ t. tt)
own-test p (IsDescriptor x) = own-if p _ _ (λ t. tt)
own-test p (IsRequest x) = own-if p _ _ (λ t. tt)
own-test p (IsQueue x) = own-if p _ _ (λ t. tt)
own-test p (IsContext c) = own-context p c
own-test p (IsMovable x) = own-if p _ _ (λ t. tt)
own-test p (IsReferableTest x) = own-if p _ _ (λ t. tt)
own-test p (IsOpen fd) = own-if p _ _ (λ t. tt)
own-test p (IsUnwatched fd) = own-if p _ _ (λ t. tt)
own-test p (HasRoom k) = own-room p k
own-test p HasNumber = own-if p _ _ (λ t. tt)
own-test p (IsInProgress x) = own-state p x is_in_progress (note_of p.requests x)
own-test p (IsFinished x) = own-state p x is_finished (note_of p.requests x)
own-test p (MayFail x error) = by_test (nat_eq error 0) (λ t. rw t tt) (λ t. rw t (own-state p x is_in_progress (note_of p.requests x)))
own-test p (Fits o wanted) = own-below p o wanted
own-test p (MayGrow x size) = own-growing p x size
own-test p (IsNotDying x) = own-if p _ _ (λ t. tt)
own-test p (IsNotGoing x) = own-if p _ _ (λ t. tt)
own-test p (IsNotDoomed x) = own-if p _ _ (λ t. tt)
own-test p (IsNotRunning x) = own-if p _ _ (λ t. t)
own-test p (IsNotInside x o) = own-if p _ _ (λ t. tt)
own-test p (IsUnheld x) = own-if p _ _ (λ t. tt)
own-test p (IsUnreferenced x) = own-if p _ _ (λ t. tt)
own-test p (IsInterested o x) = own-if p _ _ (λ t. tt)
own-test p (MayGive from to x) = own-given p from to x

pub own-refused : (p : Pool) (ts : List Test) → AllOwn p (refused p ts)
own-refused p [] = tt
own-refused p (t ∷ []) = own-test p t
own-refused p (t ∷ u ∷ ts) = own-both p (refusal_of p t) (refused p (u ∷ ts)) (own-test p t) (own-refused p (u ∷ ts))

-- ---- what such a refusal needs: nothing

pub own-just-now : (items : List Item) (p : Pool) (why : Refusal) → IsOwn p why → RefusedJustNow items (Told (Replied (No why)))
own-just-now items p (refusal.Refused x v) h = absurd h
own-just-now items p _ h = tt

-- what a call to free says of a refusal
abbrev Says : List Scene → Pool → Obj → Refusal → Type 0
Says scenes p x why = AnsweredCall (call.Free x) p (No why) × HeldCall (call.Free x) p (No why) × CausedCall scenes (call.Free x) p (No why)

-- a free is refused at once where there is no such object, where it is a reference, and where it is held
own-free : (scenes : List Scene) (p : Pool) (x : Obj) (why : Refusal) (later : Check) → Distinct p.rows → Refers p.rows → refusals p (call.Free x) ≡ why ∷ later → Says scenes p x why
own-free scenes p x why later d refers e = each (row_of p.rows x) refl e
  where
    -- what can't be referred to isn't held
    free : (IsReferable (row_of p.rows x) → ⊥) → is_held p x ≡ true → ⊥
    free h t = let bad : true ≡ false = sym t ∙ not-held p x (unreferred p.rows x d h refers) in cc

    by-held : (b : Bool) → is_held p x ≡ b → refuse_if b (refusal.Held x) ≡ why ∷ later → Says scenes p x why
    by-held false h e = cc
    by-held true h e = let w : refusal.Held x ≡ why = cc in subst (Says scenes p x) w ((λ i. same-equal x x refl), ((λ q. h), (λ t. refl)), tt)

    each : (o : Option Row) → row_of p.rows x ≡ o → object_row x o ++ held p x ≡ why ∷ later → Says scenes p x why
    each None k e =
        let w : refusal.NoSuch x.0 ≡ why = cc in
        subst (Says scenes p x) w ((λ i. let bad : false ≡ true = rw k at i in cc), ((λ q. cc), (λ t. absurd (free (λ h. let h' : IsReferable None = rw k at h in h') t))), tt)
    each (Some r) k e = by_test (is_reference r.kind)
        (λ u. let e' : refusal.WrongKind x ∷ held p x ≡ why ∷ later = rw u at e in
        let w : refusal.WrongKind x ≡ why = cc in
        subst (Says scenes p x) w (
          (λ i. let i' : not (is_reference r.kind) ≡ true = rw k at i in let bad : true ≡ false = sym u ∙ not-true (is_reference r.kind) i' in cc),
          ((λ q. cc), (λ t. absurd (free (λ h. let h' : IsReferable (Some r) = rw k at h in let bad : false ≡ true = sym (ap is_some (plain-refers r.kind h'.0)) ∙ u in cc) t))),
          tt,
        ))
        (λ u. let e' : held p x ≡ why ∷ later = rw u at e in by-held (is_held p x) refl e')

-- a refusal that says nothing of a free
abbrev IsAtOnce : Refusal → Type 0
IsAtOnce (refusal.Held x) = ⊥
IsAtOnce (refusal.Running x) = ⊥
IsAtOnce (refusal.Refused x v) = ⊥
IsAtOnce why = Unit {0}

abbrev AllAtOnce : Check → Type 0
AllAtOnce [] = Unit {0}
AllAtOnce (why ∷ later) = IsAtOnce why × AllAtOnce later

at_once-both : (first second : Check) → AllAtOnce first → AllAtOnce second → AllAtOnce (first ++ second)
at_once-both [] second h k = k
at_once-both (why ∷ first) second h k = (h.0, at_once-both first second h.1 k)

at_once-if : (b : Bool) (why : Refusal) → IsAtOnce why → AllAtOnce (refuse_if b why)
at_once-if true why h = (h, tt)
at_once-if false why h = tt

at_once-object : (p : Pool) (x : Obj) → AllAtOnce (object p x)
at_once-object p x = each (row_of p.rows x)
  where
    each : (o : Option Row) → AllAtOnce (object_row x o)
    each None = (tt, tt)
    each (Some r) = at_once-if _ _ tt

at_once-owner : (p : Pool) (o : Owner) → AllAtOnce (owner p o)
at_once-owner p Root = tt
at_once-owner p (Of x) = at_once-object p x

at_once-unlink : (p : Pool) (o : Owner) (x : Obj) → AllAtOnce (refusals p (call.Unlink o x))
at_once-unlink p o x = at_once-both (object p x) _ (at_once-object p x) (at_once-both (owner p o) _ (at_once-owner p o) (at_once-if _ _ tt))

-- an object is no refusal, and neither is an owner
object-none : (p : Pool) (x : Obj) → is_object p.rows x ≡ true → object p x ≡ []
object-none p x h = each (row_of p.rows x) refl
  where
    each : (o : Option Row) → row_of p.rows x ≡ o → object_row x o ≡ []
    each None e = let bad : false ≡ true = rw e at h in cc
    each (Some r) e = let h' : not (is_reference r.kind) ≡ true = rw e at h in rw (not-true (is_reference r.kind) h') refl

owner-none : (p : Pool) (o : Owner) → is_owner p.rows o ≡ true → owner p o ≡ []
owner-none p Root h = refl
owner-none p (Of x) h = object-none p x h

-- an owner that has an interest in an object isn't refused at once, and otherwise neither held, running nor refused is said
own-unlink : (scenes : List Scene) (p : Pool) (o : Owner) (x : Obj) (why : Refusal) (later : Check) → refusals p (call.Unlink o x) ≡ why ∷ later
    → AnsweredCall (call.Unlink o x) p (No why) × HeldCall (call.Unlink o x) p (No why) × CausedCall scenes (call.Unlink o x) p (No why)
own-unlink scenes p o x why later e = let h = said why (subst AllAtOnce e (at_once-unlink p o x)).0 in (answered, h.0, h.1)
  where
    answered : AnsweredCall (call.Unlink o x) p (No why)
    answered m =
        let none : refusals p (call.Unlink o x) ≡ [] = rw (object-none p x m.0, owner-none p o m.1, m.2) refl in
        let bad : why ∷ later ≡ [] = sym e ∙ none in cc

    said : (w : Refusal) → IsAtOnce w → HeldCall (call.Unlink o x) p (No w) × CausedCall scenes (call.Unlink o x) p (No w)
    said (refusal.Held y) h = absurd h
    said (refusal.Running y) h = absurd h
    said (refusal.Refused y v) h = absurd h
    said _ h = (λ q. cc, tt)

pub own-call : (scenes : List Scene) (p : Pool) (c : Call) (why : Refusal) (later : Check) → Distinct p.rows → Refers p.rows → refusals p c ≡ why ∷ later
    → AnsweredCall c p (No why) × HeldCall c p (No why) × CausedCall scenes c p (No why)
own-call scenes p (call.Free x) why later d refers e = own-free scenes p x why later d refers e
own-call scenes p (call.Unlink o x) why later d refers e = own-unlink scenes p o x why later e
own-call scenes p _ why later d refers e = (tt, tt, tt)
