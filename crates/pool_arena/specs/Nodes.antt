-- A table of heads, and below each a tree of nodes, through which one goes by the bits of a key.
use Rattle.std.specs.Prelude.{◌≡◌, ◌≢◌, ℕ, zero, suc, ◌-◌, ◌<◌, ◌≤◌, ◌/◌, ◌%◌, ◌==◌, ◌^◌, List, length, Option, Some, None, if◌then◌else◌, slice_get, slice_index_or, bit_and, option_map}
use Rattle.std.specs.Int.{w64, trailing_zeros}
use Rattle.std.specs.Option.{option_and_then, unwrap_or}
use Rattle.pool_arena.specs.declared.node.Node.{Node}

-- a link that leads nowhere, and so many nodes at most
abbrev pub nowhere : ℕ
nowhere = 4294967295

-- where the head of a key stands among so many
abbrev pub home : ℕ → ℕ → ℕ
home many key = bit_and key (many - 1)

-- the bits of a key by which it goes on from its head: those that didn't lead there, where so many heads are a power of two
unfoldable pub rest_of : ℕ → ℕ → ℕ
rest_of many key = key / 2 ^ (trailing_zeros w64 many % 64)

-- the link at the head of a key
abbrev pub head : List ℕ → ℕ → ℕ
head heads key = slice_index_or heads (home (length heads) key) nowhere

-- ---- one node

-- the link that a key with these bits follows
abbrev pub next : ℕ → Node → ℕ
next rest node = if rest % 2 == 0 then node.even else node.odd

-- it leads to no others
pub record IsLeaf (node : Node) : Type 0 where
  pub even : node.even ≡ nowhere
  pub odd : node.odd ≡ nowhere

-- with another link for the keys with these bits
abbrev pub leading : ℕ → ℕ → Node → Node
leading rest link node = if rest % 2 == 0 then record node { even = link } else record node { odd = link }

-- with these, and with no links
abbrev pub fresh : ℕ → ℕ → Node
fresh key slot = record { key = key; slot = Some slot; even = nowhere; odd = nowhere }

-- with these, and with the links that it had
abbrev pub filled : ℕ → ℕ → Node → Node
filled key slot node = record node { key = key; slot = Some slot }

-- with no slot, and with the links that it had
abbrev pub vacated : Node → Node
vacated node = record node { slot = None }

-- ---- nodes

-- the key and the slot that a node holds, if it holds any
abbrev pub pair_of : Node → Option (ℕ × ℕ)
pair_of node = option_map (λ slot. (node.key, slot)) node.slot

-- the key and the slot that are held at an index
abbrev pub pair_at : List Node → ℕ → Option (ℕ × ℕ)
pair_at nodes i = option_and_then pair_of (slice_get nodes i)

-- the link that a key with these bits follows from an index
abbrev pub link_at : List Node → ℕ → ℕ → ℕ
link_at nodes i rest = unwrap_or (option_map (next rest) (slice_get nodes i)) nowhere

-- the node at an index is of this key, held or not
abbrev pub IsOf : List Node → ℕ → ℕ → Type 0
IsOf nodes key i = (node : Node) × (slice_get nodes i ≡ Some node) × (node.key ≡ key)

-- a key that comes by a link and has these bits left gets to an index in so many steps, past nodes of other keys
abbrev pub LeadsIn : ℕ → List Node → ℕ → ℕ → ℕ → ℕ → Type 0
LeadsIn zero nodes key link rest i = (link ≡ i) × IsOf nodes key i
LeadsIn (suc n) nodes key link rest i = (node : Node) × (slice_get nodes link ≡ Some node) × (node.key ≢ key) × LeadsIn n nodes key (next rest node) (rest / 2) i

-- the same, in some number of steps
abbrev pub Leads : List Node → ℕ → ℕ → ℕ → ℕ → Type 0
Leads nodes key link rest i = (n : ℕ) × LeadsIn n nodes key link rest i

-- a key gets from its head to an index
abbrev pub IsFound : List ℕ → List Node → ℕ → ℕ → Type 0
IsFound heads nodes key i = Leads nodes key (head heads key) (rest_of (length heads) key) i

-- a key gets from the first link to the second past nodes of other keys which all come before the second, so that it
-- also does where only later nodes are others
abbrev pub IsOnTheWay : List Node → ℕ → ℕ → ℕ → ℕ → ℕ → Type 0
IsOnTheWay nodes key from bits link rest = (others : List Node) → ((j : ℕ) → j < link → slice_get others j ≡ slice_get nodes j) → (i : ℕ) → Leads others key link rest i → Leads others key from bits i

-- a key gets to an index once the node there is of this key, where only nodes from there on are others
abbrev pub IsReachable : List ℕ → List Node → ℕ → ℕ → Type 0
IsReachable heads nodes key i = (others : List Node) → ((j : ℕ) → j < i → slice_get others j ≡ slice_get nodes j) → IsOf others key i → IsFound heads others key i

-- no node holds the key
abbrev pub IsNowhere : List Node → ℕ → Type 0
IsNowhere nodes key = (i slot : ℕ) → pair_at nodes i ≡ Some (key, slot) → ⊥

-- each key that is held is found, links lead to later nodes only, and each index is a link
pub record IsKept (heads : List ℕ) (nodes : List Node) : Type 0 where
  pub found : (key slot i : ℕ) → pair_at nodes i ≡ Some (key, slot) → IsFound heads nodes key i
  pub rising : (i : ℕ) (node : Node) → slice_get nodes i ≡ Some node → (i < node.even) × (i < node.odd)
  pub few : length nodes ≤ nowhere
