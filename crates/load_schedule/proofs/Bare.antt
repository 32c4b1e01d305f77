-- Pools in which no object has a destructor, and none is a request or a queue.
use Rattle.std.proofs.Common.{◌≡◌, Bool, true, false, List, [], ◌∷◌, Option, Some, None, refl, subst}
use Rattle.tree_specs.specs.declared.object.Obj.{Obj}
use Rattle.tree_specs.specs.declared.object.Owner.{Owner}
use Rattle.tree_specs.specs.declared.row.Row.{Row}
use Rattle.tree_specs.specs.declared.call.Call.{Call}
use Rattle.tree_specs.specs.declared.call.Call.TheVariants as calls
use Rattle.tree_specs.specs.declared.question.Ask.{Ask}
use Rattle.tree_specs.specs.Words.Objects.{same}
use Rattle.tree_specs.specs.Tree.Targets.{newest_ref}
use Rattle.tree_specs.specs.Tree.Pool.{Pool, row_of, changed, without, in_front, remove, place, let_go}
use Rattle.tree_specs.specs.Calls.Refusals.{Check, refusals_at, is_request, is_queue}
use Rattle.tree_specs.specs.Calls.Plans.{Plan, plan, planned_at, frees, changed_by, unless_refused}
use Rattle.tree_specs.specs.Calls.Plans.Plan.{Does, Frees, Unlinks}
use Rattle.tree_specs.proofs.Tree.Numbered.{by_test}

-- an object has no destructor, and is neither a request nor a queue
abbrev IsBareRow : Row → Type 0
IsBareRow r = (r.hook ≡ 0) × (is_request r.kind ≡ false) × (is_queue r.kind ≡ false)

abbrev AreBareRows : List Row → Type 0
AreBareRows [] = Unit {0}
AreBareRows (r ∷ rs) = IsBareRow r × AreBareRows rs

pub bare-row : (rs : List Row) (x : Obj) (r : Row) → row_of rs x ≡ Some r → AreBareRows rs → IsBareRow r
bare-row [] x r e h = cc
bare-row (s ∷ rs) x r e h = by_test (same s.serial x)
    (λ t.
    let e' : Some s ≡ Some r = rw t at e in
    let is : s ≡ r = cc in
    subst (λ (q : Row). IsBareRow q) is h.0)
    (λ t. let e' : row_of rs x ≡ Some r = rw t at e in bare-row rs x r e' h.1)

bare-changed : (f : Row → Row) (rs : List Row) (x : Obj) → ((r : Row) → IsBareRow r → IsBareRow (f r)) → AreBareRows rs → AreBareRows (changed f rs x)
bare-changed f [] x keeps h = tt
bare-changed f (r ∷ rs) x keeps h = by_test (same r.serial x)
    (λ t. rw t (keeps r h.0, h.1))
    (λ t. rw t (h.0, bare-changed f rs x keeps h.1))

bare-without : (rs : List Row) (x : Obj) → AreBareRows rs → AreBareRows (without rs x)
bare-without [] x h = tt
bare-without (r ∷ rs) x h = by_test (same r.serial x) (λ t. rw t h.1) (λ t. rw t (h.0, bare-without rs x h.1))

bare-front : (row : Option Row) (o : Owner) (rs : List Row) → ((r : Row) → row ≡ Some r → IsBareRow r) → AreBareRows rs → AreBareRows (in_front row o rs)
bare-front None o rs k h = h
bare-front (Some r) o rs k h = (k r refl, h)

abbrev pub IsBare : Pool → Type 0
IsBare p = AreBareRows p.rows

pub bare-removed : (p : Pool) (x : Obj) → IsBare p → IsBare (remove p x)
bare-removed p x h = bare-without p.rows x h

pub bare-placed : (p : Pool) (o : Owner) (x : Obj) → IsBare p → IsBare (place p o x)
bare-placed p o x h = bare-front (row_of p.rows x) o (without p.rows x) (λ r e. bare-row p.rows x r e h) (bare-without p.rows x h)

pub bare-let_go : (p : Pool) (x : Obj) (f : Row → Row) → ((r : Row) → IsBareRow r → IsBareRow (f r)) → IsBare p → IsBare (let_go p x f)
bare-let_go p x f keeps h = bare-changed f p.rows x keeps h

-- ---- calls

-- the calls of which such a schedule is made: they give no object a destructor, make no request or queue, and ask for nothing
abbrev pub is_calm : Call → Bool
is_calm (calls.New o size name) = true
is_calm (calls.Free x) = true
is_calm (calls.Steal o x) = true
is_calm (calls.Reference o x) = true
is_calm (calls.Unlink o x) = true
is_calm (calls.Count o) = true
is_calm _ = false

-- what is done gives no destructor and makes no request or queue either, and nothing is asked
abbrev pub IsCalm : Plan → Type 0
IsCalm (Does c notice r) = (q : Pool) → IsBare q → IsBare (changed_by c q)
IsCalm (Frees x) = Unit {0}
IsCalm (Unlinks o x) = Unit {0}
IsCalm _ = ⊥

calm-frees : (r : Option Obj) (x : Obj) → IsCalm (frees r x)
calm-frees None x = tt
calm-frees (Some r) x = tt

calm-plan : (p : Pool) (c : Call) → is_calm c ≡ true → IsCalm (plan p c)
calm-plan p (calls.New o size name) e = λ q h. ((refl, refl, refl), h)
calm-plan p (calls.Free x) e = calm-frees (newest_ref p.rows x) x
calm-plan p (calls.Steal o x) e = λ q h. bare-placed q o x h
calm-plan p (calls.Reference o x) e = λ q h. ((refl, refl, refl), h)
calm-plan p (calls.Unlink o x) e = tt
calm-plan p (calls.Count o) e = λ q h. h
calm-plan p _ e = cc

calm-unless : (checks : Check) (w : Plan) → IsCalm w → IsCalm (unless_refused checks w)
calm-unless [] w h = h
calm-unless (why ∷ later) w h = λ q k. k

pub calm-planned : (q : Ask) (p : Pool) (c : Call) → is_calm c ≡ true → IsCalm (planned_at q p c)
calm-planned q p c e = calm-unless (refusals_at q p c) (plan p c) (calm-plan p c e)
