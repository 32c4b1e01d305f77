-- Which descriptors are open is known outside: each that is open in a host, the listener aside, was opened there and not closed since.
use Rattle.std.proofs.Common.{◌≡◌, ℕ, arith, ◌<◌, nat_eq, eq-eqb, eqb-true, Bool, true, false, [], cond, not, Some, None, is_some, refl, sym, ◌∙◌, ap}
use Rattle.std.specs.Ordering.{nat_cmp, eq_by_cmp, is_eq}
use Rattle.std.specs.Cmp.{nat_cmp_total, unsigned_tied, alike_right}
use Rattle.std.specs.FinMap.Entries.{find, find-put, find-where_key}
use Rattle.tree_specs.specs.declared.event.Event.{Event}
use Rattle.tree_specs.specs.declared.event.Event.TheVariants as event
use Rattle.tree_specs.specs.declared.notice.Notice.{Notice}
use Rattle.tree_specs.specs.declared.notice.Notice.TheVariants as notice
use Rattle.tree_specs.specs.declared.frame.Frame.{Frame}
use Rattle.tree_specs.specs.declared.frame.Frame.TheVariants as frame
use Rattle.tree_specs.specs.declared.frame.CallFrame.TheVariants.{Announcing}
use Rattle.tree_specs.specs.declared.frame.OutsideFrame.TheVariants.{Opening}
use Rattle.tree_specs.specs.declared.question.Input.{Input}
use Rattle.tree_specs.specs.declared.question.Input.TheVariants as input
use Rattle.tree_specs.specs.Tree.Pool.{Pool}
use Rattle.tree_specs.specs.Calls.Refusals.{is_open}
use Rattle.tree_specs.specs.Events.Descriptors.{Descriptors, listener_alone, is_open_in, opened, closed, shut}
use Rattle.tree_specs.proofs.Events.DescriptorLaws.{closed-other}
use Rattle.tree_specs.proofs.Tree.Numbered.{by_test}
use Rattle.service_rules.specs.Exchanges.{with_open, without_open}
use Rattle.service_rules.proofs.Works.{CarriesNothing, closes}

-- ---- what is open after one is opened or closed

opened-other : (ds : Descriptors) (fd g : ℕ) → nat_eq g fd ≡ false → is_open_in (opened ds fd) g ≡ is_open_in ds g
opened-other ds fd g t = ap is_some (find-put nat_cmp nat_cmp_total g fd tt ds ∙ ap (λ b. cond b (Some tt) (find nat_cmp g ds)) (unsigned_tied g fd ∙ t))

pub closed-same : (ds : Descriptors) (fd : ℕ) → is_open_in (closed ds fd) fd ≡ false
closed-same ds fd = ap is_some (
    find-where_key nat_cmp (λ k. not (eq_by_cmp nat_cmp fd k)) fd (λ k t. ap (λ r. not (is_eq r)) (sym (alike_right nat_cmp_total fd k fd t))) ds
    ∙ ap (λ b. cond (not b) (find nat_cmp fd ds) None) (unsigned_tied fd fd ∙ eq-eqb fd fd refl))

-- ---- what is known of it outside

-- each of these that is open is one that was opened; descriptors that are accepted are from 1 upwards
abbrev pub AllKnown : (ℕ → Bool) → Descriptors → Type 0
AllKnown known ds = (fd : ℕ) → 0 < fd → is_open_in ds fd ≡ true → known fd ≡ true

-- a host begins with its listener alone
pub listener-known : (known : ℕ → Bool) → AllKnown known listener_alone
listener-known known fd positive is = by_test (nat_eq fd 0)
    (λ t. let e : fd ≡ 0 = eqb-true fd 0 t in absurd (omega (arith, positive, e)))
    (λ t. let bad : false ≡ true = sym (opened-other [] 0 fd t) ∙ is in cc)

-- what is open after an event, and after an answer
abbrev pub known_after : (ℕ → Bool) → Event → ℕ → Bool
known_after known (event.Closed fd) = without_open fd known
known_after known e = known

abbrev pub known_with : (ℕ → Bool) → Input → ℕ → Bool
known_with known (input.Took fd) = with_open fd known
known_with known i = known

module _ (known : ℕ → Bool) (ds : Descriptors) (all : AllKnown known ds) where
  pub with-known : (i : Input) → AllKnown (known_with known i) ds
  with-known (input.Took fd) g positive is = by_test (nat_eq g fd) (λ t. rw t refl) (λ t. rw t (all g positive is))
  with-known _ g positive is = all g positive is

  pub opened-known : (fd : ℕ) → known fd ≡ true → AllKnown known (opened ds fd)
  opened-known fd k g positive is = by_test (nat_eq g fd)
      (λ t. ap known (eqb-true g fd t) ∙ k)
      (λ t. all g positive (sym (opened-other ds fd g t) ∙ is))

  pub closed-known : (fd : ℕ) → AllKnown known (closed ds fd)
  closed-known fd g positive is = by_test (nat_eq g fd)
      (λ t. let bad : true ≡ false = sym is ∙ ap (is_open_in (closed ds fd)) (eqb-true g fd t) ∙ closed-same ds fd in cc)
      (λ t. all g positive (sym (closed-other ds fd g t) ∙ is))

  -- one that is closed is told so
  pub told-known : (fd : ℕ) → is_open_in ds fd ≡ false → AllKnown (without_open fd known) ds
  told-known fd closed g positive is = by_test (nat_eq g fd)
      (λ t. let bad : true ≡ false = sym is ∙ ap (is_open_in ds) (eqb-true g fd t) ∙ closed in cc)
      (λ t. rw t (all g positive is))

pub event-known : (known : ℕ → Bool) (ds : Descriptors) (e : Event) → AllKnown known ds → AllKnown (known_after known e) (shut ds (closes (Some e)))
event-known known ds (event.Closed fd) all = told-known known (closed ds fd) (closed-known known ds all fd) fd (closed-same ds fd)
event-known known ds _ all = all

-- ---- what is known at a moment of a host

-- what is told to be closed is closed
abbrev pub IsClosed : Pool → Notice → Type 0
IsClosed p (notice.Closed fd) = is_open p fd ≡ false
IsClosed p n = Unit {0}

-- a descriptor that is to be opened is known before it is open, and one that is to be told is closed
abbrev pub Expects : (ℕ → Bool) → Pool → Frame → Type 0
Expects known p (frame.Outside (Opening fd)) = known fd ≡ true
Expects known p (frame.Call (Announcing q n r)) = IsClosed p n
Expects known p f = Unit {0}

pub carries-expects : (known : ℕ → Bool) (p : Pool) (f : Frame) → CarriesNothing f → Expects known p f
carries-expects known p (frame.Call (Announcing q n r)) c = absurd c
carries-expects known p (frame.Outside (Opening fd)) c = absurd c
carries-expects known p _ c = tt

pub record Follows (known : ℕ → Bool) (f : Frame) (p : Pool) : Type 0 where
  pub all : AllKnown known p.descriptors
  pub expects : Expects known p f
