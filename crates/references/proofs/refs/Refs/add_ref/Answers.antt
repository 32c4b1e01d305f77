use Rattle.std.proofs.Common.{◌≡◌, ◌<◌, Bool, true, false, None, Some, cond, nat_eq, ◌∷◌, length, refl, sym, ap, subst, ◌∙◌, arith}
use Rattle.std.specs.FinMap as map
use Rattle.std.specs.Option.{option_map}
use Rattle.pool_arena.proofs.Keeps.{get-with_entry}
use Rattle.linked_lanes.specs.Lane.{is_at}
use Rattle.references.specs.Pairs.{Pairs, pair, IsAbove, most}
use Rattle.references.specs.Linked.{pairs_in, with_newer}
use Rattle.references.proofs.Linking.{Keeps, linked-keeps, keeps-linked, pairs-kept, few-there, none-above, add-keeps}
use Rattle.references.proofs.refs.Refs.add_ref.Goals as goal

pub join-older-requires-clause-few : goal.join-older-requires-clause-few
join-older-requires-clause-few c = λ h e.
    let few : length (pairs_in c.self.inside.nodes.pairs) < most = subst (λ (p : Pairs). length p.pairs < most) (sym c.self.view_is) c.requires.few in
    let l = few-there _ _ _ (linked-keeps _ _ c.self.invariant) c.args.target.0 h e in
    omega (arith, few, l)

pub add-requires-clause-vacant : goal.add-requires-clause-vacant
add-requires-clause-vacant c =
    let above = subst (λ (p : Pairs). IsAbove c.args.reference p.pairs) (sym c.self.view_is) c.requires.newest in
    c.set_link.ensures.nodes c.args.reference.0
    ∙ ap (λ o. cond (is_at c.join-older.result c.args.reference.0) (option_map (with_newer (Some c.args.reference.0)) o) o) (none-above _ _ _ (linked-keeps _ _ c.self.invariant) c.args.reference.0 above)
    ∙ both (is_at c.join-older.result c.args.reference.0)
  where
    both : (b : Bool) → cond b (option_map (with_newer (Some c.args.reference.0)) None) None ≡ None
    both true = refl
    both false = refl

added : (c : goal.After-add) → Keeps (map.get c.add.new.self.pairs) (map.get c.join-older.new.heads.pairs) (pair c.args.reference c.args.target ∷ pairs_in c.self.inside.nodes.pairs)
added c =
    add-keeps _ _ _ _ _ (linked-keeps _ _ c.self.invariant) c.args.reference.0 c.args.target.0 c.join-older.result
    (subst (λ (p : Pairs). IsAbove c.args.reference p.pairs) (sym c.self.view_is) c.requires.newest) c.join-older.ensures.older
    (λ q. ap (λ m. map.get m q) c.add.ensures.pairs ∙ get-with_entry _ _ (Some _) q ∙ ap (cond (nat_eq c.args.reference.0 q) _) (c.set_link.ensures.nodes q))
    c.join-older.ensures.heads

pub invariant_of-self : goal.invariant_of-self
invariant_of-self c =
    let few : length (pairs_in c.self.inside.nodes.pairs) < most = subst (λ (p : Pairs). length p.pairs < most) (sym c.self.view_is) c.requires.few in
    keeps-linked _ _ _ (added c) (omega (arith, few))

pub returns-clause-pairs : goal.returns-clause-pairs
returns-clause-pairs c = pairs-kept _ c.join-older.new.heads.pairs _ (added c) ∙ ap (λ (p : Pairs). pair c.args.reference c.args.target ∷ p.pairs) c.self.view_is
