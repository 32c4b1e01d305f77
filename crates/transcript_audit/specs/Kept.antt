-- What is kept of the items so far, and which rule the next item breaks by it.
use Rattle.std.specs.Prelude.{ℕ, Bool, true, false, ◌&&◌, ◌||◌, nat_lt, nat_le, nat_eq, if◌then◌else◌, List, [], ◌∷◌, Option, Some, None}
use Rattle.tree_specs.specs.declared.object.Obj.{Obj}
use Rattle.tree_specs.specs.declared.object.Owner.{Owner}
use Rattle.tree_specs.specs.declared.object.Owner.TheVariants.{Root, Of}
use Rattle.tree_specs.specs.Words.Objects.{same}
use Rattle.tree_specs.specs.Rules.Items.{Item}
use Rattle.tree_specs.specs.Rules.Items.Item.{Told, Asked}
use Rattle.transcript_lines.specs.declared.said.Fact.{Fact}
use Rattle.transcript_lines.specs.declared.said.Fact.TheVariants.{Nothing, Uses, Asks, Accepts, Refuses, RefusesCall, Moves, Frees, Drops, Sets}
use Rattle.transcript_lines.specs.Sayings.{fact_of_event, fact_of_ask}
use Rattle.audit_rules.specs.Rules.{has_accepted, is_freed, is_dropped, is_over, is_received, has_wrong_hook, is_no_state}
use Rattle.transcript_audit.specs.declared.seen.Seen.{Seen}

abbrev pub fact_of : Item → Fact
fact_of (Told e) = fact_of_event e
fact_of (Asked q) = fact_of_ask q

-- what these items told of an object
abbrev pub seen_in : List Item → Obj → Seen
seen_in before x = record { accepted = has_accepted before x; freed = is_freed before x; dropped = is_dropped before x; over = is_over before x; received = is_received before x }

-- the object whose destructor has returned a number, and the number
abbrev pub refusal_after : Fact → Option (Obj × ℕ)
refusal_after (Refuses x v) = Some (x, v)
refusal_after fact = None

-- the same of the last item
abbrev pub last_refusal : List Item → Option (Obj × ℕ)
last_refusal [] = None
last_refusal (item ∷ []) = refusal_after (fact_of item)
last_refusal (item ∷ next ∷ rest) = last_refusal (next ∷ rest)

-- ---- the next item

abbrev pub fact_accepts : Fact → Obj → Bool
fact_accepts (Accepts y) x = same y x
fact_accepts fact x = false

abbrev pub fact_frees : Fact → Obj → Bool
fact_frees (Frees y hook) x = same y x
fact_frees fact x = false

abbrev pub fact_drops : Fact → Obj → Bool
fact_drops (Drops reference target) x = same reference x
fact_drops fact x = false

abbrev pub fact_sets : ℕ → Fact → Obj → Bool
fact_sets k (Sets y state) x = same y x && nat_le k state
fact_sets k fact x = false

-- what is seen of an object after it
abbrev pub seen_after : Fact → Obj → Seen → Seen
seen_after fact x s = record {
  accepted = s.accepted || fact_accepts fact x;
  freed = s.freed || fact_frees fact x;
  dropped = s.dropped || fact_drops fact x;
  over = s.over || fact_sets 2 fact x;
  received = s.received || fact_sets 6 fact x;
}

-- ---- the rule that it breaks

abbrev pub is_refusal : Option (Obj × ℕ) → Obj → ℕ → Bool
is_refusal None x v = false
is_refusal (Some (y, w)) x v = same y x && nat_eq w v

abbrev pub three_where : Bool → Option ℕ
three_where true = Some 3
three_where false = None

abbrev pub owner_is_freed : (Obj → Seen) → Owner → Bool
owner_is_freed seen Root = false
owner_is_freed seen (Of x) = (seen x).freed

abbrev pub broken_judged : Seen → Option ℕ
broken_judged s = if s.accepted then Some 1 else three_where s.freed

abbrev pub broken_freed : Seen → ℕ → Option ℕ
broken_freed s hook = if s.freed || has_wrong_hook s.accepted hook then Some 2 else None

abbrev pub broken_state : Seen → ℕ → Option ℕ
broken_state s state = if s.freed then Some 3 else if is_no_state state || (s.received || (nat_lt state 6 && s.over)) then Some 5 else None

-- the least number of a rule that is broken where this comes next
abbrev pub breach : (Obj → Seen) → Option (Obj × ℕ) → Fact → Option ℕ
breach seen refused Nothing = None
breach seen refused (Uses x) = three_where (seen x).freed
breach seen refused (Asks x) = broken_judged (seen x)
breach seen refused (Accepts x) = broken_judged (seen x)
breach seen refused (Refuses x v) = broken_judged (seen x)
breach seen refused (RefusesCall x v) = if is_refusal refused x v then None else Some 4
breach seen refused (Moves x owner) = three_where ((seen x).freed || owner_is_freed seen owner)
breach seen refused (Frees x hook) = broken_freed (seen x) hook
breach seen refused (Drops reference target) = three_where ((seen target).freed || (seen reference).dropped)
breach seen refused (Sets x state) = broken_state (seen x) state
