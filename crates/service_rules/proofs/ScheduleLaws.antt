-- A schedule in pool mode is judged as it is by the rules of the tree alone, and gives the same transcript.
use Rattle.std.proofs.Common.{◌≡◌, List, ◌∷◌, Option, Some, None, sym, ◌∙◌, ap}
use Rattle.std.specs.Prelude.{if◌then◌else◌}
use Rattle.std.specs.Option.{option_map}
use Rattle.tree_specs.specs.declared.question.Input.{Input}
use Rattle.tree_specs.specs.declared.schedule.Header.{Header}
use Rattle.tree_specs.specs.declared.schedule.Mode.TheVariants.{Pool}
use Rattle.tree_specs.specs.declared.schedule.Version.{Version}
use Rattle.tree_specs.specs.Texts.Lines.{Line}
use Rattle.tree_specs.specs.Texts.Runners.{Runner, Judged, judged_after, judged_lines, runner_after, transcript_by, transcript_lines}
use Rattle.tree_specs.specs.Texts.Schedule.{header_of, hosts_alone, pools, says}
use Rattle.service_rules.specs.Schedules.{runner_in, runner_of}

same-runner : (v : Version) (first : Line) → header_of first.text ≡ Some (says v Pool) → runner_after runner_of first ≡ runner_after pools first
same-runner v first h =
    ap (λ (m : Option Header). if first.ended then option_map (λ h. runner_in h.version h.mode) m else None) h
    ∙ sym (ap (λ (m : Option Header). if first.ended then hosts_alone m else None) h)

pub same-judged : (v : Version) (first : Line) (rest : List Line) → header_of first.text ≡ Some (says v Pool) → judged_lines runner_of (first ∷ rest) ≡ judged_lines pools (first ∷ rest)
unfolding judged_lines
same-judged v first rest h = ap (judged_after pools first rest) (same-runner v first h)

pub same-transcript : (v : Version) (first : Line) (rest : List Line) → header_of first.text ≡ Some (says v Pool) → transcript_lines runner_of (first ∷ rest) ≡ transcript_lines pools (first ∷ rest)
unfolding transcript_lines
same-transcript v first rest h =
    ap (λ (j : Judged Input). transcript_by runner_of (runner_after runner_of first) j.inputs) (same-judged v first rest h)
    ∙ ap (λ (r : Option (Runner Input)). transcript_by pools r (judged_lines pools (first ∷ rest)).inputs) (same-runner v first h)
