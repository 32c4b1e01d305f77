-- What is told in one call after another.
use Rattle.std.proofs.Common.{◌≡◌, List, [], ◌++◌, Option, Some, None, refl, sym}
use Rattle.std.proofs.lemmas.List.{append-nil, append_assoc}
use Rattle.outside.specs.Tellings.{Tells}

pub tells_same : {A : Type 0} (told : Option (List A)) → Tells told told []
tells_same None = refl
tells_same (Some told) = sym (append-nil told)

-- an end that tells nothing now has told all that it may
pub tells_nothing : {A : Type 0} (old new : Option (List A)) (more : List A) → new ≡ None → Tells old new more
tells_nothing None new more e = e
tells_nothing (Some told) None more e = tt
tells_nothing {A = A} (Some told) (Some all) more e = absurd (is_none e)
  where
    is_none : ◌≡◌ {A = Option (List A)} (Some all) None → ⊥
    is_none e = cc

pub tells_then : {A : Type 0} (a b c : Option (List A)) (x y : List A) → Tells a b x → Tells b c y → Tells a c (x ++ y)
tells_then None None c x y p q = q
tells_then {A = A} None (Some m) c x y p q = absurd (is_none p)
  where
    is_none : ◌≡◌ {A = Option (List A)} (Some m) None → ⊥
    is_none e = cc
tells_then (Some l) None c x y p q = tells_nothing (Some l) c (x ++ y) q
tells_then (Some l) (Some m) None x y p q = tt
tells_then (Some l) (Some m) (Some n) x y p q = rw (q, p) (append_assoc l x y)
