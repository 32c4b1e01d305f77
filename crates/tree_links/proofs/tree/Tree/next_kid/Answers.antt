use Rattle.std.proofs.Common.{◌≡◌, ℕ, List, Option, Some, None, true, refl, ap, sym, ◌∙◌}
use Rattle.std.specs.Option.{option_map}
use Rattle.tree_specs.specs.declared.object.Owner.{Owner}
use Rattle.tree_specs.specs.declared.row.Row.{Row}
use Rattle.tree_specs.specs.Tree.Pool.{next_kid, row_of, owner_in, is_below, kid_behind, behind}
use Rattle.tree_specs.proofs.Tree.Numbered.{same_owner-equal}
use Rattle.tree_links.specs.Links.{Links}
use Rattle.linked_lanes.specs.Lane.{has}
use Rattle.linked_lanes.specs.Chain.{sides_in}
use Rattle.tree_links.specs.Nodes.{Nodes, Holds, children, kin_in, row_in, next_in, next_where}
use Rattle.tree_specs.specs.Tree.Forest.{Distinct as Once}
use Rattle.std.specs.FinMap as map
use Rattle.tree_links.specs.declared.node.Node.{Node}
use Rattle.linked_lanes.specs.declared.Sides.{Sides}
use Rattle.tree_links.proofs.Listing.{obj, first-child, lane-after, children-has}
use Rattle.tree_links.proofs.tree.Tree.next_kid.Goals as goal

some-next : (p : Owner) (o : Option ℕ) → next_where (Some p) o ≡ option_map obj o
some-next p None = refl
some-next p (Some x) = refl

told : (m : Nodes) (front root : Option ℕ) (rows : List Row) (x : ℕ) (v : Node) → Once rows → Holds m front root rows → Some v ≡ map.get m x → next_in v ≡ next_kid rows (obj x)
told m front root rows x v d h e = go v.row.owner refl
  where
    at : row_of rows (obj x) ≡ Some v.row
    at = sym (h.row x) ∙ ap (option_map row_in) (sym e)

    go : (o : Option Owner) → v.row.owner ≡ o → next_in v ≡ next_kid rows (obj x)
    go None q = ap (λ (w : Option Owner). next_where w v.kin.older) q ∙ sym (ap (λ w. kid_behind rows (obj x) (owner_in w)) at ∙ ap (kid_behind rows (obj x)) q)
    go (Some p) q =
        let in_lane : has (children rows p) x ≡ true = children-has rows p x d ∙ ap (λ w. is_below (owner_in w) p) at ∙ ap (λ w. is_below w p) q ∙ same_owner-equal p p refl in
        let s : Some v.kin ≡ Some (sides_in (children rows p) x) = ap (option_map kin_in) e ∙ (h.linked.kin p).sides x in_lane in
        let s' : v.kin ≡ sides_in (children rows p) x = cc in
        ap (λ (w : Option Owner). next_where w v.kin.older) q ∙ some-next p v.kin.older
        ∙ ap (λ (t : Sides). option_map obj t.older) s'
        ∙ ap (option_map obj) (lane-after (λ r. is_below r.owner p) rows (obj x) v.row at (ap (λ w. is_below w p) q ∙ same_owner-equal p p refl))
        ∙ sym (first-child (behind rows (obj x)) p)
        ∙ sym (ap (λ w. kid_behind rows (obj x) (owner_in w)) at ∙ ap (kid_behind rows (obj x)) q)

pub returns-in-Some : goal.returns-in-Some
returns-in-Some c =
    c.next_in.ensures ∙ told _ _ _ _ c.args.x.0 c.in-Some.node.now c.self.invariant.tree.forest.distinct c.self.invariant.holds c.in-Some.ensures
    ∙ ap (λ (t : Links). next_kid t.rows c.args.x) c.self.view_is
