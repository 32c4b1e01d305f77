use Rattle.std.proofs.Common.{◌≡◌, List, Bool, sym, ap, ◌∙◌, arith}
use Rattle.tree_specs.specs.declared.object.Obj.{Obj}
use Rattle.tree_specs.specs.declared.object.Owner.{Owner}
use Rattle.tree_specs.specs.declared.row.Row.{Row}
use Rattle.tree_specs.specs.Tree.Pool.{is_below, owner_of, newest_ref_of}
use Rattle.tree_specs.specs.Tree.Forest.{Distinct}
use Rattle.references.specs.declared.refs.Pair.{Pair}
use Rattle.references.specs.Pairs.{Descends, count_to, first_to}
use Rattle.references.specs.Rows.{AreRefsOf}
use Rattle.references.specs.Linked.{first_passing}
use Rattle.references.proofs.Rows.{first_newest_of}
use Rattle.references.proofs.Passing.{passes-first, passes-none, passes-end, passes-here, passes-later}
use Rattle.references.proofs.Children.{at-first, at-next, at-end}
use Rattle.references.proofs.refs.Refs.first_owned.Goals as goal

abbrev owned : List Row → Owner → Obj → Bool
owned rows o r = is_below (owner_of rows r) o

-- the walk over the references finds the newest that the owner has
walked : (rs : List Row) (ps : List Pair) (o : Owner) (x : Obj) → Descends ps → Distinct rs → AreRefsOf ps rs → first_passing (owned rs o) ps (count_to ps x) (first_to ps x) ≡ newest_ref_of rs o x
walked rs ps o x descends distinct refs = passes-first (owned rs o) ps x descends ∙ first_newest_of rs ps o x descends distinct refs

pub loop-left-init : goal.loop-left-init
loop-left-init c = (
  ap (first_passing (owned c.args.tree.now.rows c.args.owner) c.args.self.now.pairs _) c.refs_to-at.ensures.first
      ∙ ap (λ n. first_passing (owned c.args.tree.now.rows c.args.owner) c.args.self.now.pairs n (first_to c.args.self.now.pairs c.args.target)) c.refs_to-at.ensures.count,
  at-first c.args.self.now.pairs c.args.tree.now.rows c.args.owner c.args.target c.first_kid-child.result c.requires.distinct c.requires.refs c.first_kid-child.ensures,
)

pub returns-then-left-eq0 : goal.returns-then-left-eq0
returns-then-left-eq0 c =
    sym (passes-end (owned c.args.tree.now.rows c.args.owner) c.args.self.now.pairs _ _ (omega (arith, c.refs_to-at.ensures.count, c.if-left-eq0.true)))
    ∙ walked c.args.tree.now.rows c.args.self.now.pairs c.args.owner c.args.target c.refs_to-at.ensures.sound.descends c.requires.distinct c.requires.refs

pub returns-in_default : goal.returns-in_default
returns-in_default c =
    sym (passes-none (owned c.args.tree.now.rows c.args.owner) c.args.self.now.pairs c.loop-left.left c.loop-left.at c.in_default.is)
    ∙ c.loop-left.invariant.0 ∙ walked c.args.tree.now.rows c.args.self.now.pairs c.args.owner c.args.target c.refs_to-at.ensures.sound.descends c.requires.distinct c.requires.refs

pub returns-then-owns : goal.returns-then-owns
returns-then-owns c =
    sym (passes-here (owned c.args.tree.now.rows c.args.owner) c.args.self.now.pairs c.loop-left.left c.loop-left.at c.in-Some.reference c.loop-left-test.true c.in-Some.is (sym c.owns.ensures ∙ c.if-owns.true))
    ∙ c.loop-left.invariant.0 ∙ walked c.args.tree.now.rows c.args.self.now.pairs c.args.owner c.args.target c.refs_to-at.ensures.sound.descends c.requires.distinct c.requires.refs

pub returns-in_default-child : goal.returns-in_default-child
returns-in_default-child c = at-end c.args.self.now.pairs c.args.tree.now.rows c.args.owner c.args.target c.loop-left.child c.loop-left.newest c.loop-left.invariant.1 c.in_default-child.is

pub loop-left-preserved : goal.loop-left-preserved
loop-left-preserved c = (
  ap (first_passing (owned c.args.tree.now.rows c.args.owner) c.args.self.now.pairs _) c.next_ref-at.ensures
      ∙ sym (passes-later (owned c.args.tree.now.rows c.args.owner) c.args.self.now.pairs c.loop-left.left c.loop-left.at c.in-Some.reference c.loop-left-test.true c.in-Some.is (sym c.owns.ensures ∙ c.if-owns.false))
      ∙ c.loop-left.invariant.0,
  at-next c.args.self.now.pairs c.args.tree.now.rows c.args.owner c.args.target c.in-Some-child.kid c.loop-left.child c.loop-left.newest c.next_kid-child.result c.with_child-newest.result c.requires.distinct c.loop-left.invariant.1 c.in-Some-child.is c.next_kid-child.ensures c.with_child-newest.ensures,
)

pub returns : goal.returns
returns c =
    sym (passes-end (owned c.args.tree.now.rows c.args.owner) c.args.self.now.pairs c.loop-left.left c.loop-left.at c.loop-left-test.false)
    ∙ c.loop-left.invariant.0 ∙ walked c.args.tree.now.rows c.args.self.now.pairs c.args.owner c.args.target c.refs_to-at.ensures.sound.descends c.requires.distinct c.requires.refs
