-- A work that takes inputs and ends waits after each proper prefix of what it took.
use Rattle.std.proofs.Common.{◌≡◌, ℕ, suc, zero, List, [], ◌∷◌, ◌++◌, Option, Some, None, refl, sym, ◌∙◌, ap, ◌⊎◌, inl, inr, append_assoc, subst}
use Rattle.step_machine.specs.Machine.{Move, Table, Outcome, tell, tells, followed, given, after, run, EndsBy}
use Rattle.step_machine.specs.Machine.Move.{Done, Go, Emit, Wait, Call}
use Rattle.step_machine.specs.Machine.Outcome.{Ended, Waits, Stray, Short}

-- cut a list that is two lists: the first part is a proper prefix of the first list, or holds it
abbrev pub Cut : {I : Type 0} (us vs pre : List I) (i : I) (post : List I) → Type 0
Cut {I = I} us vs pre i post =
    ((more : List I) × (us ≡ pre ++ i ∷ more)) ⊎ ((pre' : List I) × (pre ≡ us ++ pre') × (vs ≡ pre' ++ i ∷ post))

pub cut : {I : Type 0} (us vs pre : List I) (i : I) (post : List I) → us ++ vs ≡ pre ++ i ∷ post → Cut us vs pre i post
cut [] vs pre i post e = inr (pre, refl, e)
cut (u ∷ us) vs [] i post e = let h : u ≡ i = cc in inl (us, ap (λ x. x ∷ us) h)
cut (u ∷ us) vs (j ∷ pre) i post e =
    let h : u ≡ j = cc in
    let k : us ++ vs ≡ pre ++ i ∷ post = cc in
    elim (cut us vs pre i post k) [
      | inl m ↦ let e' : us ≡ pre ++ i ∷ m.0 = m.1 in inl (m.0, cc)
      | inr m ↦ let e' : pre ≡ us ++ m.0 = m.1 in inr (m.0, cc, m.2)
    ]

never : {I : Type 0} (pre : List I) (i : I) (post : List I) → [] ≡ pre ++ i ∷ post → ⊥
never [] i post h = cc
never (j ∷ pre) i post h = cc

module _ {A P I T : Type 0} where
  -- what stands of a run that ended with these inputs left
  abbrev pub Used : (List I → Outcome A P I T) → A → P → List T → List I → List I → Type 0
  Used go a p ts is left = (used : List I) × (used ++ left ≡ is) × EndsBy go a p ts used

  EndsBy-tell : (go : List I → Outcome A P I T) (t : T) (a : A) (p : P) (ts : List T) (used : List I)
      → EndsBy go a p ts used → EndsBy (λ is. tell t (go is)) a p (t ∷ ts) used
  EndsBy-tell go t a p ts used h = record {
    ends = λ more. ap (tell t) (h.ends more);
    waits = λ pre i post e. let w = h.waits pre i post e in
        (t ∷ w.0, w.1, ap (tell t) w.2, ap (λ x. t ∷ x) w.3);
  }

  Used-tell : (go : List I → Outcome A P I T) (t : T) (a : A) (p : P) (ts : List T) (is left : List I) (ts' : List T) → t ∷ ts ≡ ts'
      → Used go a p ts is left → Used (λ js. tell t (go js)) a p ts' is left
  Used-tell go t a p ts is left ts' e u =
      (u.0, u.1, subst (λ (x : List T). EndsBy (λ js. tell t (go js)) a p x u.0) e (EndsBy-tell go t a p ts u.0 u.2))

  -- items before an outcome
  pub tells-ended : (us : List T) (a : A) (p : P) (ts : List T) (left : List I) → tells {I = I} us (Ended a p ts left) ≡ Ended a p (us ++ ts) left
  tells-ended [] a p ts left = refl
  tells-ended (u ∷ us) a p ts left = ap (tell u) (tells-ended us a p ts left)

  pub tells-waits : (us ts : List T) → tells {A = A} {P = P} {I = I} us (Waits ts) ≡ Waits (us ++ ts)
  tells-waits [] ts = refl
  tells-waits (u ∷ us) ts = ap (tell u) (tells-waits us ts)

  -- what an outcome with an item before it says of the outcome
  pub ended-tell : (u : T) (o : Outcome A P I T) (a : A) (p : P) (ts : List T) (left : List I) → tell u o ≡ Ended a p ts left
      → (vs : List T) × (o ≡ Ended a p vs left) × (u ∷ vs ≡ ts)
  ended-tell u (Ended b q vs is) a p ts left e =
      let h : u ∷ vs ≡ ts = cc in let e1 : b ≡ a = cc in let e2 : q ≡ p = cc in let e3 : is ≡ left = cc in
      (vs, cc, h)
  ended-tell u (Waits vs) a p ts left e = cc
  ended-tell u (Stray vs) a p ts left e = cc
  ended-tell u Short a p ts left e = cc

  ended-tells : (us : List T) (o : Outcome A P I T) (a : A) (p : P) (ts : List T) (left : List I) → tells us o ≡ Ended a p ts left
      → (vs : List T) × (o ≡ Ended a p vs left) × (us ++ vs ≡ ts)
  ended-tells [] o a p ts left e = (ts, e, refl)
  ended-tells (u ∷ us) o a p ts left e =
      let w = ended-tell u (tells us o) a p ts left e in
      let v = ended-tells us o a p w.0 left w.1 in
      (v.0, v.1, ap (λ x. u ∷ x) v.2 ∙ w.2)

  -- the same work in other words
  pub Used-same : (go go' : List I → Outcome A P I T) → ((js : List I) → go js ≡ go' js) → (a : A) (p : P) (ts : List T) (is left : List I) → Used go' a p ts is left → Used go a p ts is left
  Used-same go go' law a p ts is left u = (
    u.0,
    u.1,
    record {
      ends = λ more. law (u.0 ++ more) ∙ u.2.ends more;
      waits = λ pre i post e. let w = u.2.waits pre i post e in (w.0, w.1, law pre ∙ w.2, w.3);
    },
  )

  -- a work that takes no input
  pub Used-ended : (go : List I → Outcome A P I T) (b : A) (q : P) (us : List T) → ((js : List I) → go js ≡ Ended b q us js)
      → (a : A) (p : P) (ts : List T) (is left : List I) → go is ≡ Ended a p ts left → Used go a p ts is left
  Used-ended go b q us law a p ts is left e =
      let e' : Ended b q us is ≡ Ended a p ts left = sym (law is) ∙ e in
      let e1 : b ≡ a = cc in let e2 : q ≡ p = cc in let e3 : us ≡ ts = cc in let e4 : is ≡ left = cc in (
        [],
        sym e4,
        record {
          ends = λ more. law more ∙ cc;
          waits = λ pre i post h. absurd (never pre i post h);
        },
      )

  asked-waits : (go w : List I → Outcome A P I T) (q : T) (i : I) → go [] ≡ Waits (q ∷ []) → ((js : List I) → go (i ∷ js) ≡ tell q (w js)) → (a : A) (p : P) (vs : List T) (used : List I)
      → EndsBy w a p vs used → (pre : List I) (j : I) (post : List I) → i ∷ used ≡ pre ++ j ∷ post → (us : List T) × (ws : List T) × (go pre ≡ Waits us) × (us ++ ws ≡ q ∷ vs)
  asked-waits go w q i begins goes a p vs used u [] j post s = (q ∷ [], vs, begins, refl)
  asked-waits go w q i begins goes a p vs used u (k ∷ pre) j post s =
      let s1 : i ≡ k = cc in let s2 : used ≡ pre ++ j ∷ post = cc in
      let v = u.waits pre j post s2 in
      (q ∷ v.0, v.1, ap (λ x. go (x ∷ pre)) (sym s1) ∙ goes pre ∙ ap (tell q) v.2, ap (λ x. q ∷ x) v.3)

  -- a question, and what its input leads to
  pub Used-asked : (go w : List I → Outcome A P I T) (q : T) (i : I) → go [] ≡ Waits (q ∷ []) → ((js : List I) → go (i ∷ js) ≡ tell q (w js))
      → ((a : A) (p : P) (vs : List T) (is left : List I) → w is ≡ Ended a p vs left → Used w a p vs is left)
      → (a : A) (p : P) (ts : List T) (is left : List I) → go (i ∷ is) ≡ Ended a p ts left → Used go a p ts (i ∷ is) left
  Used-asked go w q i begins goes ih a p ts is left e =
      let v = ended-tell q (w is) a p ts left (sym (goes is) ∙ e) in
      let u = ih a p v.0 is left v.1 in
      let u' : EndsBy go a p (q ∷ v.0) (i ∷ u.0) = record {
        ends = λ more. goes (u.0 ++ more) ∙ ap (tell q) (u.2.ends more);
        waits = λ pre j post s. asked-waits go w q i begins goes a p v.0 u.0 u.2 pre j post s;
      } in
      (i ∷ u.0, ap (λ x. i ∷ x) u.1, subst (λ (x : List T). EndsBy go a p x (i ∷ u.0)) v.2 u')

  -- an item, and what follows it
  pub Used-told : (go w : List I → Outcome A P I T) (t : T) → ((js : List I) → go js ≡ tell t (w js)) → (is : List I)
      → ((a : A) (p : P) (vs : List T) (left : List I) → w is ≡ Ended a p vs left → Used w a p vs is left)
      → (a : A) (p : P) (ts : List T) (left : List I) → go is ≡ Ended a p ts left → Used go a p ts is left
  Used-told go w t law is ih a p ts left e =
      let v = ended-tell t (w is) a p ts left (sym (law is) ∙ e) in
      Used-same go (λ js. tell t (w js)) law a p ts is left (Used-tell w t a p v.0 is left ts v.2 (ih a p v.0 left v.1))

module _ {A B P I T : Type 0} where
  pub ended-followed : (o : Outcome A P I T) (k : A → P → List I → Outcome B P I T) (b : B) (p : P) (ts : List T) (left : List I) → followed o k ≡ Ended b p ts left
      → (a : A) × (q : P) × (us vs : List T) × (mid : List I) × (o ≡ Ended a q us mid) × (k a q mid ≡ Ended b p vs left) × (us ++ vs ≡ ts)
  ended-followed (Ended a q us mid) k b p ts left e =
      let w = ended-tells us (k a q mid) b p ts left e in
      (a, q, us, w.0, mid, refl, w.1, w.2)
  ended-followed (Waits us) k b p ts left e = cc
  ended-followed (Stray us) k b p ts left e = cc
  ended-followed Short k b p ts left e = cc

  EndsBy-followed : (go : List I → Outcome A P I T) (k : A → P → List I → Outcome B P I T) (a : A) (q : P) (us : List T) (used : List I)
      (b : B) (p : P) (vs : List T) (used' : List I)
      → EndsBy go a q us used → EndsBy (k a q) b p vs used' → EndsBy (λ is. followed (go is) k) b p (us ++ vs) (used ++ used')
  EndsBy-followed go k a q us used b p vs used' h h' = record {
    ends = λ more. ap (λ is. followed (go is) k) (append_assoc used used' more) ∙ ap (λ o. followed o k) (h.ends (used' ++ more)) ∙ ap (tells us) (h'.ends more) ∙ tells-ended us b p vs more;
    waits = λ pre i post e. elim (cut used used' pre i post e) [
      | inl m ↦ let w = h.waits pre i m.0 m.1 in (w.0, w.1 ++ vs, ap (λ o. followed o k) w.2, sym (append_assoc w.0 w.1 vs) ∙ ap (λ x. x ++ vs) w.3)
      | inr m ↦ let w = h'.waits m.0 i post m.2 in
          (us ++ w.0, w.1, ap (λ is. followed (go is) k) m.1 ∙ ap (λ o. followed o k) (h.ends m.0) ∙ ap (tells us) w.2 ∙ tells-waits us w.0, append_assoc us w.0 w.1 ∙ ap (λ x. us ++ x) w.3)
    ];
  }

  -- a work, and what follows its end
  pub Used-followed : (go : List I → Outcome A P I T) (k : A → P → List I → Outcome B P I T) (is : List I)
      → ((a : A) (q : P) (us : List T) (mid : List I) → go is ≡ Ended a q us mid → Used go a q us is mid)
      → ((a : A) (q : P) (us : List T) (mid : List I) → go is ≡ Ended a q us mid → (b : B) (p : P) (vs : List T) (left : List I) → k a q mid ≡ Ended b p vs left → Used (k a q) b p vs mid left)
      → (b : B) (p : P) (ts : List T) (left : List I) → followed (go is) k ≡ Ended b p ts left → Used (λ js. followed (go js) k) b p ts is left
  Used-followed go k is ih jh b p ts left e =
      let w = ended-followed (go is) k b p ts left e in
      let u = ih w.0 w.1 w.2 w.4 w.5 in
      let v = jh w.0 w.1 w.2 w.4 w.5 b p w.3 left w.6 in (
        u.0 ++ v.0,
        append_assoc u.0 v.0 left ∙ ap (λ x. u.0 ++ x) v.1 ∙ u.1,
        subst (λ (x : List T). EndsBy (λ js. followed (go js) k) b p x (u.0 ++ v.0)) w.7 (EndsBy-followed go k w.0 w.1 w.2 u.0 b p w.3 v.0 u.2 v.2),
      )

module _ {F A P I T : Type 0} (t : Table F A P I T) where
  -- the same of a move, if it holds of what the move goes on with
  uses-after : (n : ℕ) → ((f : F) (p : P) (is : List I) (a : A) (p' : P) (ts : List T) (left : List I) → run t n f p is ≡ Ended a p' ts left → Used (run t n f p) a p' ts is left)
      → (m : Move F A P T) (is : List I) (a : A) (p' : P) (ts : List T) (left : List I)
      → after t (run t n) m is ≡ Ended a p' ts left → Used (after t (run t n) m) a p' ts is left
  uses-after n ih (Done b p) is a p' ts left e = Used-ended (after t (run t n) (Done b p)) b p [] (λ js. refl) a p' ts is left e
  uses-after n ih (Go f p) is a p' ts left e = ih f p is a p' ts left e
  uses-after n ih (Emit e f p) is a p' ts left h = Used-told (after t (run t n) (Emit e f p)) (run t n f p) e (λ js. refl) is (λ b q vs l k. ih f p is b q vs l k) a p' ts left h
  uses-after n ih (Wait q f p) [] a p' ts left h = cc
  uses-after n ih (Wait q f p) (i ∷ is) a p' ts left h = each (t.taken f p i) refl
    where
      each : (o : Option F) → t.taken f p i ≡ o → Used (after t (run t n) (Wait q f p)) a p' ts (i ∷ is) left
      each None e = let h' : Stray (q ∷ []) ≡ Ended a p' ts left = rw e at h in cc
      each (Some g) e = Used-asked (after t (run t n) (Wait q f p)) (run t n g p) q i refl (λ js. ap (given (run t n) q p js) e) (λ b r vs js l k. ih g p js b r vs l k) a p' ts is left h
  uses-after n ih (Call g f p) is a p' ts left h = Used-followed (run t n g p) (λ b q mid. run t n (t.resume f b) q mid) is
      (λ b q us mid k. ih g p is b q us mid k) (λ b q us mid k c r vs l k'. ih (t.resume f b) q mid c r vs l k') a p' ts left h

  -- a work that ended took a prefix of the inputs, and waits after each proper prefix of it
  pub uses : (n : ℕ) (f : F) (p : P) (is : List I) (a : A) (p' : P) (ts : List T) (left : List I)
      → run t n f p is ≡ Ended a p' ts left → Used (run t n f p) a p' ts is left
  uses zero f p is a p' ts left e = cc
  uses (suc n) f p is a p' ts left e = uses-after n (uses n) (t.step f p) is a p' ts left e
