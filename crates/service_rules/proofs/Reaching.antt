-- What goes out still does where the outside answers a call: bytes that it takes are those that the reply tells.
use Rattle.std.proofs.Common.{◌≡◌, ◌≢◌, ℕ, zero, suc, ◌≤◌, true, false, cond, List, [], ◌∷◌, ◌++◌, length, drop, take, Option, Some, refl, sym, ◌∙◌, ap, subst, append_assoc, arith}
use Rattle.std.specs.Prelude.{nat_eq, unwrap_or}
use Rattle.std.specs.Ordering.{nat_cmp, eq_by_cmp}
use Rattle.std.specs.FinMap.Entries.{find, put}
use Rattle.std.proofs.lemmas.Bool.{eq-eqb, eqb-true}
use Rattle.std.proofs.lemmas.List.{append-nil}
use Rattle.tree_specs.specs.declared.bounds.TheConstants.{OCTETS_LIMIT}
use Rattle.tree_specs.specs.declared.object.Obj.{Obj}
use Rattle.tree_specs.specs.declared.reply.Reply.TheVariants as reply
use Rattle.tree_specs.proofs.Tree.Numbered.{by_test}
use Rattle.service_rules.specs.declared.task.Serving.TheVariants as serving
use Rattle.service_rules.specs.declared.task.Task.TheVariants as task
use Rattle.service_rules.specs.Knowledge.{Connection, Knowledge}
use Rattle.service_rules.specs.Sent.{Bytes, Ledger, bytes_of}
use Rattle.service_rules.specs.Fair.{is_kept}
use Rattle.service_rules.proofs.Entries.{same-number, itself, found-put, found-other}
use Rattle.service_rules.proofs.Owing.{IsKnown, Goes, whole, Keeps, FreeFd, rest_by}

-- ---- a descriptor is accepted

-- one that isn't kept is no connection's
pub kept-not : (es : List (ℕ × Connection)) (fd : ℕ) → is_kept es fd ≡ false → (k : ℕ) (c : Connection) → find nat_cmp k es ≡ Some c → c.descriptor ≢ fd
kept-not [] fd h k c e same = cc
kept-not (f ∷ fs) fd h k c e same = by_test (nat_eq f.1.descriptor fd)
    (λ t. let h' : true ≡ false = rw t at h in cc)
    (λ t. let h' : is_kept fs fd ≡ false = rw t at h in by_test (eq_by_cmp nat_cmp k f.0)
    (λ u. let e' : Some f.1 ≡ Some c = rw u at e in
    let i : f.1.descriptor ≡ fd = (let j : f.1 ≡ c = cc in ap (λ (z : Connection). z.descriptor) j ∙ same) in
    let j : nat_eq f.1.descriptor fd ≡ true = eq-eqb f.1.descriptor fd i in cc)
    (λ u. let e' : find nat_cmp k fs ≡ Some c = rw u at e in kept-not fs fd h' k c e' same))

abbrev pub accepts_new : ℕ → Ledger → Ledger
accepts_new fd l = record l { taken = put nat_cmp fd [] l.taken }

other-bytes : (fd k : ℕ) (bytes : Bytes) (taken : List (ℕ × Bytes)) → k ≢ fd → bytes_of (put nat_cmp fd bytes taken) k ≡ bytes_of taken k
other-bytes fd k bytes taken ne = by_test (eq_by_cmp nat_cmp k fd)
    (λ t. absurd (ne (same-number k fd t)))
    (λ t. ap (λ (o : Option Bytes). unwrap_or o []) (found-other k fd bytes taken t))

own-bytes : (fd : ℕ) (bytes : Bytes) (taken : List (ℕ × Bytes)) → bytes_of (put nat_cmp fd bytes taken) fd ≡ bytes
own-bytes fd bytes taken = ap (λ (o : Option Bytes). unwrap_or o []) (found-put fd bytes taken)

pub accepted-goes : (d : Knowledge) (l : Ledger) (fd : ℕ) → is_kept d.connections fd ≡ false → Goes d l whole → Goes d (accepts_new fd l) whole
accepted-goes d l fd free g k c h = ap (λ (u : Bytes). u ++ c.unsent) (other-bytes fd c.descriptor [] l.taken (kept-not d.connections fd free k c h)) ∙ g k c h

pub accepted-free : (d : Knowledge) (l : Ledger) (fd : ℕ) → is_kept d.connections fd ≡ false → FreeFd d (accepts_new fd l) fd
accepted-free d l fd free = (kept-not d.connections fd free, own-bytes fd [] l.taken)

-- the ledger says as much
pub keeps-taken : (d : Knowledge) (l : Ledger) (next : ℕ) (taken : List (ℕ × Bytes)) → Keeps d l next → Keeps d (record l { taken = taken }) next
keeps-taken d l next taken k = record { sorted = k.sorted; distinct = k.distinct; young = k.young; unsaid = k.unsaid }

-- ---- bytes are written

abbrev pub writes_more : ℕ → Bytes → ℕ → Ledger → Ledger
writes_more fd bytes n l = record l { taken = put nat_cmp fd (bytes_of l.taken fd ++ take n bytes) l.taken }

take-drop : (n : ℕ) (u : Bytes) → take n u ++ drop n u ≡ u
take-drop zero u = refl
take-drop (suc n) [] = refl
take-drop (suc n) (b ∷ u) = ap (λ z. b ∷ z) (take-drop n u)

-- so many of the first bytes of those that one write takes are the first unsent ones
take-first : (m n : ℕ) (u : Bytes) → n ≤ length (take m u) → take n (take m u) ≡ take n u
take-first m zero u h = refl
take-first zero (suc n) u h = absurd (omega (arith, h))
take-first (suc m) (suc n) [] h = absurd (omega (arith, h))
take-first (suc m) (suc n) (b ∷ u) h = ap (λ z. b ∷ z) (take-first m n u (omega (arith, h)))

-- nothing was written
pub none-written : (d : Knowledge) (l : Ledger) (fd : ℕ) (bytes : Bytes) → Goes d l whole → Goes d (writes_more fd bytes 0 l) whole
none-written d l fd bytes g k c h = by_test (nat_eq c.descriptor fd)
    (λ t. let is : c.descriptor ≡ fd = eqb-true c.descriptor fd t in
    ap (λ (z : ℕ). bytes_of (writes_more fd bytes 0 l).taken z ++ c.unsent) is
    ∙ ap (λ (z : Bytes). z ++ c.unsent) (own-bytes fd (bytes_of l.taken fd ++ []) l.taken ∙ append-nil (bytes_of l.taken fd))
    ∙ ap (λ (z : ℕ). bytes_of l.taken z ++ c.unsent) (sym is)
    ∙ g k c h)
    (λ t. ap (λ (z : Bytes). z ++ c.unsent) (other-bytes fd c.descriptor (bytes_of l.taken fd ++ []) l.taken (λ is. let i : nat_eq c.descriptor fd ≡ true = eq-eqb c.descriptor fd is in cc)) ∙ g k c h)

-- some bytes were
pub written-goes : (d : Knowledge) (l : Ledger) (next : ℕ) (s : Obj) (e : Connection) (n : ℕ) → Keeps d l next → Goes d l whole → IsKnown d s.0 e → n ≤ length (take OCTETS_LIMIT e.unsent)
    → Goes d (writes_more e.descriptor (take OCTETS_LIMIT e.unsent) n l) (rest_by (task.Serve s serving.Write) (reply.Number n))
written-goes d l next s e n keeps g known few k c h = by_test (eq_by_cmp nat_cmp k s.0)
    (λ t. let is : k ≡ s.0 = same-number k s.0 t in
    let h' : find nat_cmp s.0 d.connections ≡ Some c = subst (λ (z : ℕ). find nat_cmp z d.connections ≡ Some c) is h in
    let same : Some c ≡ Some e = sym h' ∙ known in
    let same' : c ≡ e = cc in
    let all : bytes_of l.taken e.descriptor ++ e.unsent ≡ bytes_of l.said k = subst (λ (z : Connection). bytes_of l.taken z.descriptor ++ z.unsent ≡ bytes_of l.said k) same' (g k c h) in
    let here : bytes_of (writes_more e.descriptor (take OCTETS_LIMIT e.unsent) n l).taken e.descriptor ++ cond (eq_by_cmp nat_cmp k s.0) (drop n e.unsent) e.unsent ≡ bytes_of l.said k =
    (ap (λ b. bytes_of (writes_more e.descriptor (take OCTETS_LIMIT e.unsent) n l).taken e.descriptor ++ cond b (drop n e.unsent) e.unsent) t
    ∙ ap (λ (z : Bytes). z ++ drop n e.unsent) (own-bytes e.descriptor (bytes_of l.taken e.descriptor ++ take n (take OCTETS_LIMIT e.unsent)) l.taken)
    ∙ ap (λ (z : Bytes). (bytes_of l.taken e.descriptor ++ z) ++ drop n e.unsent) (take-first OCTETS_LIMIT n e.unsent few)
    ∙ append_assoc (bytes_of l.taken e.descriptor) (take n e.unsent) (drop n e.unsent)
    ∙ ap (λ (z : Bytes). bytes_of l.taken e.descriptor ++ z) (take-drop n e.unsent)
    ∙ all) in
    subst (λ (z : Connection). bytes_of (writes_more e.descriptor (take OCTETS_LIMIT e.unsent) n l).taken z.descriptor ++ cond (eq_by_cmp nat_cmp k s.0) (drop n z.unsent) z.unsent ≡ bytes_of l.said k) (sym same') here)
    (λ t. ap (λ b. bytes_of (writes_more e.descriptor (take OCTETS_LIMIT e.unsent) n l).taken c.descriptor ++ cond b (drop n c.unsent) c.unsent) t
    ∙ ap (λ (z : Bytes). z ++ c.unsent) (other-bytes e.descriptor c.descriptor (bytes_of l.taken e.descriptor ++ take n (take OCTETS_LIMIT e.unsent)) l.taken
    (λ same. let is : k ≡ s.0 = keeps.distinct k s.0 c e h known same in
    let i : eq_by_cmp nat_cmp k s.0 ≡ true = subst (λ (z : ℕ). eq_by_cmp nat_cmp k z ≡ true) is (itself k) in cc))
    ∙ g k c h)
