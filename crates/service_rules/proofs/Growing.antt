-- An answer of the service's own: what its connections become, and what was said to them.
use Rattle.std.proofs.Common.{◌≡◌, ℕ, zero, suc, ◌≤◌, false, T, List, [], ◌∷◌, ◌++◌, map, length, drop, Option, Some, None, refl, sym, ◌∙◌, ap, subst, append_assoc, ◌⊎◌, inl, inr, arith}
use Rattle.std.specs.Prelude.{unwrap_or}
use Rattle.std.specs.Ordering.{nat_cmp, eq_by_cmp}
use Rattle.std.specs.Cmp.{nat_cmp_total}
use Rattle.std.specs.FinMap.Entries.{find, put, is_sorted, is_sorted-put}
use Rattle.std.proofs.lemmas.List.{append-nil}
use Rattle.tree_specs.specs.declared.object.Obj.{Obj}
use Rattle.tree_specs.proofs.Tree.Numbered.{by_test}
use Rattle.service_rules.specs.Knowledge.{Connection, Knowledge, with_connection}
use Rattle.service_rules.specs.Sent.{Bytes, Ledger, bytes_of, appended, said_to}
use Rattle.service_rules.proofs.Entries.{same-number, found-put, found-other, found-mapped, none-mapped}
use Rattle.service_rules.proofs.Owing.{IsKnown, Goes, whole, Keeps, FreeFd, FreeSession}

pub drop-front : (u x : Bytes) → drop (length u) (u ++ x) ≡ x
drop-front [] x = refl
drop-front (b ∷ u) x = drop-front u x

pub drop-over : (m : ℕ) (u : Bytes) → length u ≤ m → drop m u ≡ []
drop-over zero [] h = refl
drop-over zero (b ∷ u) h = absurd (omega arith)
drop-over (suc m) [] h = refl
drop-over (suc m) (b ∷ u) h = drop-over m u (omega (arith, h))

-- what is said so
abbrev pub speaks : Ledger → Knowledge → Knowledge → Ledger
speaks l d e = record l { said = map (λ (c : ℕ × Connection). said_to l d c) e.connections }

-- a connection that was known; more bytes may stand behind those that were still to go
pub record Grown (d : Knowledge) (rest : ℕ → Bytes → Bytes) (k : ℕ) (c : Connection) : Type 0 where
  pub before : Connection
  pub known : IsKnown d k before
  pub descriptor : c.descriptor ≡ before.descriptor
  pub more : Bytes
  pub unsent : c.unsent ≡ rest k before.unsent ++ more
  pub appended : drop (length before.unsent) c.unsent ≡ more

-- or the new one
pub record Fresh (d : Knowledge) (l : Ledger) (s k : ℕ) (c : Connection) : Type 0 where
  pub session : k ≡ s
  pub empty : c.unsent ≡ []
  pub free : FreeFd d l c.descriptor
  pub unknown : find nat_cmp k d.connections ≡ None
  pub unsaid : find nat_cmp k l.said ≡ None

pub record Becomes (d : Knowledge) (l : Ledger) (next s : ℕ) (rest : ℕ → Bytes → Bytes) (e : Knowledge) : Type 0 where
  pub sorted : T (is_sorted nat_cmp e.connections)
  pub young : (k : ℕ) → next ≤ k → find nat_cmp k e.connections ≡ None
  pub each : (k : ℕ) (c : Connection) → IsKnown e k c → Grown d rest k c ⊎ Fresh d l s k c

module _ (d : Knowledge) (l : Ledger) (next s : ℕ) (rest : ℕ → Bytes → Bytes) (e : Knowledge) (becomes : Becomes d l next s rest e) where
  said-now : (k : ℕ) (c : Connection) → IsKnown e k c → bytes_of (speaks l d e).said k ≡ bytes_of l.said k ++ appended (find nat_cmp k d.connections) c
  said-now k c h = ap (λ (o : Option Bytes). unwrap_or o []) (found-mapped (λ (k : ℕ) (c : Connection). bytes_of l.said k ++ appended (find nat_cmp k d.connections) c) k e.connections c h)

  pub became-goes : Goes d l rest → Goes e (speaks l d e) whole
  became-goes goes k c h = elim (becomes.each k c h) [ inl g ↦ grown g | inr f ↦ fresh f ]
    where
      grown : Grown d rest k c → bytes_of l.taken c.descriptor ++ c.unsent ≡ bytes_of (speaks l d e).said k
      grown g =
          let b : Connection = g.before in
          ap (λ (fd : ℕ). bytes_of l.taken fd ++ c.unsent) g.descriptor
          ∙ ap (λ (u : Bytes). bytes_of l.taken b.descriptor ++ u) g.unsent
          ∙ sym (append_assoc (bytes_of l.taken b.descriptor) (rest k b.unsent) g.more)
          ∙ ap (λ (u : Bytes). u ++ g.more) (goes k b g.known)
          ∙ ap (λ (u : Bytes). bytes_of l.said k ++ u) (sym g.appended)
          ∙ ap (λ (o : Option Connection). bytes_of l.said k ++ appended o c) (sym g.known)
          ∙ sym (said-now k c h)

      fresh : Fresh d l s k c → bytes_of l.taken c.descriptor ++ c.unsent ≡ bytes_of (speaks l d e).said k
      fresh f =
          ap (λ (u : Bytes). u ++ c.unsent) f.free.1
          ∙ sym (ap (λ (o : Option Bytes). unwrap_or o [] ++ c.unsent) f.unsaid)
          ∙ ap (λ (o : Option Connection). bytes_of l.said k ++ appended o c) (sym f.unknown)
          ∙ sym (said-now k c h)

  pub became-keeps : Keeps d l next → Keeps e (speaks l d e) next
  became-keeps keeps = record {
    sorted = becomes.sorted;
    distinct = λ k j c f h i same. apart k j c f same (becomes.each k c h) (becomes.each j f i);
    young = becomes.young;
    unsaid = λ k h. none-mapped (λ (k : ℕ) (c : Connection). bytes_of l.said k ++ appended (find nat_cmp k d.connections) c) k e.connections (becomes.young k h);
  }
    where
      apart : (k j : ℕ) (c f : Connection) → c.descriptor ≡ f.descriptor → Grown d rest k c ⊎ Fresh d l s k c → Grown d rest j f ⊎ Fresh d l s j f → k ≡ j
      apart k j c f same (inl g) (inl h) = keeps.distinct k j g.before h.before g.known h.known (sym g.descriptor ∙ same ∙ h.descriptor)
      apart k j c f same (inl g) (inr h) = absurd (h.free.0 k g.before g.known (sym g.descriptor ∙ same))
      apart k j c f same (inr g) (inl h) = absurd (g.free.0 j h.before h.known (sym h.descriptor ∙ sym same))
      apart k j c f same (inr g) (inr h) = g.session ∙ sym h.session

-- ---- more is said, and nothing else

pub record Appends (d e : Knowledge) : Type 0 where
  pub sorted : T (is_sorted nat_cmp d.connections) → T (is_sorted nat_cmp e.connections)
  pub none : (k : ℕ) → find nat_cmp k d.connections ≡ None → find nat_cmp k e.connections ≡ None
  pub each : (k : ℕ) (c : Connection) → IsKnown e k c → Grown d whole k c

pub grown-same : (d : Knowledge) (k : ℕ) (c b : Connection) (more : Bytes) → IsKnown d k b → c.descriptor ≡ b.descriptor → c.unsent ≡ b.unsent ++ more → Grown d whole k c
grown-same d k c b more h fd u = record { before = b; known = h; descriptor = fd; more = more; unsent = u; appended = ap (drop (length b.unsent)) u ∙ drop-front b.unsent more }

pub appends-nothing : (d e : Knowledge) → e.connections ≡ d.connections → Appends d e
appends-nothing d e is = record {
  sorted = λ h. subst (λ (es : List (ℕ × Connection)). T (is_sorted nat_cmp es)) (sym is) h;
  none = λ k h. ap (find nat_cmp k) is ∙ h;
  each = λ k c h. grown-same d k c c [] (sym (ap (find nat_cmp k) is) ∙ h) refl (sym (append-nil c.unsent));
}

pub appends-then : (d e f : Knowledge) → Appends d e → Appends e f → Appends d f
appends-then d e f a b = record {
  sorted = λ h. b.sorted (a.sorted h);
  none = λ k h. b.none k (a.none k h);
  each = λ k c h. let g = b.each k c h in let i = a.each k g.before g.known in
      grown-same d k c i.before (i.more ++ g.more) i.known (g.descriptor ∙ i.descriptor) (g.unsent ∙ ap (λ (u : Bytes). u ++ g.more) i.unsent ∙ append_assoc i.before.unsent i.more g.more);
}

-- one connection is put in the place of itself
pub put-each : (d : Knowledge) (P : ℕ → Connection → Type 0) (s : Obj) (c : Connection) → P s.0 c → ((k : ℕ) (e : Connection) → eq_by_cmp nat_cmp k s.0 ≡ false → IsKnown d k e → P k e) → (k : ℕ) (e : Connection) → IsKnown (with_connection s c d) k e → P k e
put-each d P s c here others k e h = by_test (eq_by_cmp nat_cmp k s.0)
    (λ t. let is : k ≡ s.0 = same-number k s.0 t in
    let h' : find nat_cmp s.0 (put nat_cmp s.0 c d.connections) ≡ Some e = subst (λ (z : ℕ). find nat_cmp z (put nat_cmp s.0 c d.connections) ≡ Some e) is h in
    let o : Some c ≡ Some e = sym (found-put s.0 c d.connections) ∙ h' in
    let o' : c ≡ e = cc in
    subst (λ (z : ℕ). P z e) (sym is) (subst (λ (z : Connection). P s.0 z) o' here))
    (λ t. others k e t (sym (found-other k s.0 c d.connections t) ∙ h))

pub put-none : (d : Knowledge) (s : Obj) (c b : Connection) → IsKnown d s.0 b → (k : ℕ) → find nat_cmp k d.connections ≡ None → find nat_cmp k (with_connection s c d).connections ≡ None
put-none d s c b known k h = by_test (eq_by_cmp nat_cmp k s.0)
    (λ t. let is : k ≡ s.0 = same-number k s.0 t in let h' : find nat_cmp s.0 d.connections ≡ None = subst (λ (z : ℕ). find nat_cmp z d.connections ≡ None) is h in cc)
    (λ t. found-other k s.0 c d.connections t ∙ h)

pub appends-put : (d : Knowledge) (s : Obj) (c b : Connection) (more : Bytes) → IsKnown d s.0 b → c.descriptor ≡ b.descriptor → c.unsent ≡ b.unsent ++ more → Appends d (with_connection s c d)
appends-put d s c b more known fd u = record {
  sorted = λ h. is_sorted-put nat_cmp nat_cmp_total s.0 c d.connections h;
  none = put-none d s c b known;
  each = put-each d (Grown d whole) s c (grown-same d s.0 c b more known fd u) (λ k e t h. grown-same d k e e [] h refl (sym (append-nil e.unsent)));
}

pub appends-becomes : (d e : Knowledge) (l : Ledger) (next : ℕ) → Keeps d l next → Appends d e → Becomes d l next 0 whole e
appends-becomes d e l next keeps a = record { sorted = a.sorted keeps.sorted; young = λ k h. a.none k (keeps.young k h); each = λ k c h. inl (a.each k c h) }

pub free-still : (d e : Knowledge) (l : Ledger) (fd : ℕ) → Appends d e → FreeFd d l fd → FreeFd e (speaks l d e) fd
free-still d e l fd a free = ((λ k c h same. let g = a.each k c h in free.0 k g.before g.known (sym g.descriptor ∙ same)), free.1)

pub session-still : (d e : Knowledge) (l : Ledger) (next n : ℕ) → Appends d e → FreeSession d l next n → FreeSession e (speaks l d e) next n
session-still d e l next n a free =
    let none : find nat_cmp n e.connections ≡ None = a.none n free.1 in
    (free.0, none, none-mapped (λ (k : ℕ) (c : Connection). bytes_of l.said k ++ appended (find nat_cmp k d.connections) c) n e.connections none)
