use Rattle.std.proofs.Common.{◌≡◌, ℕ, ◌≤◌, List, [], length, Option, take, add-one, refl, sym, ap, ◌∙◌, rules}
use Rattle.std.specs.Option.{option_map}
use Rattle.std.proofs.lemmas.List.{take_all}
use Rattle.tree_specs.specs.declared.watch.Watch.{Watch}
use Rattle.tree_specs.specs.declared.wants.Want.{Want}
use Rattle.tree_specs.specs.Events.Rotation.{ready_for, ring_in}
use Rattle.fd_events.specs.declared.coming.Coming.{Coming}
use Rattle.fd_events.specs.declared.lane.Lane.{Lane}
use Rattle.fd_events.specs.Picking.{first_event, sooner}
use Rattle.fd_events.proofs.Soonest.{event_of, first_coming, first-none, first-all}
use Rattle.fd_events.proofs.Stamped.{stamp_by, one-more-kept}
use Rattle.fd_events.proofs.lane.Lane.first_coming.Goals as goal

pub loop-want-init : goal.loop-want-init
loop-want-init c = λ ws cs k. sym (first-none (stamp_by c.args.self.now) (ready_for []) (ring_in ws c.args.c) (λ q. refl))

pub loop-want-preserved : goal.loop-want-preserved
loop-want-preserved c = λ ws cs k.
    c.sooner-first.ensures ∙ (λ i. sooner (c.loop-want.invariant ws cs k i) (c.coming.ensures i))
    ∙ sym (one-more-kept c.args.self.now c.args.holders.now.pairs ws cs k c.args.c c.requires.stamps c.args.ready.now c.loop-want.want-index _ c.requires.rises c.loop-want-test.true)
    ∙ ap (λ n. first_coming (stamp_by c.args.self.now) (ready_for (take n c.args.ready.now)) (ring_in ws c.args.c)) (sym (add-one c.loop-want.want-index))

-- once all have been looked at
all : (l : Lane) (ws : List Watch) (vs : List Want) (n : ℕ) (first : Option Coming) → first ≡ first_coming (stamp_by l) (ready_for (take n vs)) ws → length vs ≤ n → option_map event_of first ≡ first_event ws vs
all l ws vs n first e m =
    ap (option_map event_of) (e ∙ ap (λ us. first_coming (stamp_by l) (ready_for us) ws) (take_all n vs m))
    ∙ first-all (stamp_by l) vs ws

pub returns : goal.returns
returns c = λ ws cs k.
    let told : c.map.result ≡ option_map event_of c.loop-want.first = search rules in
    told ∙ all c.args.self.now (ring_in ws c.args.c) c.args.ready.now c.loop-want.want-index c.loop-want.first (c.loop-want.invariant ws cs k) c.loop-want-test.false
