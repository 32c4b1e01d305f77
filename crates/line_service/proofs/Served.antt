-- A line that is a call is one of the calls that lines do.
use Rattle.std.proofs.Common.{◌≡◌, ℕ, take, Option, Some, None, IsSomeAnd, List, subst}
use Rattle.tree_specs.specs.declared.object.Obj.{Obj}
use Rattle.tree_specs.specs.Texts.Grammar.{words}
use Rattle.service_rules.specs.declared.order.Order.{Order}
use Rattle.service_rules.specs.Knowledge.{Connection, Knowledge, connection_of}
use Rattle.service_rules.specs.Lines.{IsServed, line_of}
use Rattle.service_rules.proofs.Served.{IfWanted, words-served}
use Rattle.service_desk.specs.Fronts.{Asks, HasOrder}

line-served : (text : List ℕ) (tag : ℕ) (o : Order) → line_of text ≡ Some (tag, o) → IsServed o
unfolding line_of
line-served text tag o e = subst IfWanted e (words-served (words text))

pub asks_served : (s : Obj) (n tag : ℕ) (o : Order) (d : Knowledge) → HasOrder s n tag o d → IsServed o
asks_served s n tag o d h = go (connection_of d s) h
  where
    go : (found : Option Connection) → IsSomeAnd found (Asks n tag o) → IsServed o
    go None k = absurd k
    go (Some c) k = line-served (take n c.came) tag o k.says
