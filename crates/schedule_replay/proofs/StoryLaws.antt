-- What a replay writes of a schedule whose first line is a header is the text of a story that is orderly and grounded.
use Rattle.std.proofs.Common.{◌≡◌, ◌≢◌, ℕ, List, [], ◌∷◌, inl, inr, Option, Some, None, refl, sym, ◌∙◌, ap, subst, arith}
use Rattle.std.specs.Option.{option_map}
use Rattle.std.specs.Prelude.{IfSome}
use Rattle.tree_specs.specs.declared.question.Input.{Input}
use Rattle.tree_specs.specs.declared.schedule.Header.{Header}
use Rattle.tree_specs.specs.declared.schedule.Mode.{Mode}
use Rattle.tree_specs.specs.declared.schedule.Version.{Version}
use Rattle.tree_specs.specs.declared.schedule.Mode.TheVariants.{Pool, Service}
use Rattle.tree_specs.specs.declared.schedule.Reason.{Reason}
use Rattle.tree_specs.specs.declared.schedule.Reason.TheVariants.{Form}
use Rattle.tree_specs.specs.Rules.Story.{story}
use Rattle.tree_specs.specs.Texts.Lines.{Line, lines}
use Rattle.tree_specs.specs.Texts.Runners.{header_reason, judged_lines, transcript_by, transcript_lines}
use Rattle.tree_specs.specs.Texts.Text.{body_text, transcript}
use Rattle.tree_specs.proofs.Promises.StoryOrder.{story-orderly, story-grounded}
use Rattle.machine_driver.specs.Driver.{items_or_none, shown_of}
use Rattle.service_rules.specs.Knowledge.{nothing_known}
use Rattle.service_rules.specs.Schedules.{runner_in, judge, inputs_of, transcript_of}
use Rattle.service_rules.specs.Schedules.{runner_of as runs}
use Rattle.service_rules.specs.Service.{inputs_behind, machine, service_story, station}
use Rattle.service_rules.proofs.Orderliness.{service-orderly}
use Rattle.schedule_replay.specs.declared.ran.Ran.{Ran}
use Rattle.schedule_replay.specs.declared.ran.Ran.TheVariants as rans
use Rattle.schedule_replay.specs.Runs.{WritesText, IsDone, IsBad, Replays, mode_in}
use Rattle.schedule_replay.specs.Stories.{WritesStory, WritesStoryIn}
use Rattle.schedule_replay.proofs.WholeLaws.{runs-or-none}

-- where the first line isn't refused a host or a service runs the others
story-text : (ls : List Line) → ((why : Reason) → (judged_lines runs ls).refused ≢ Some (1, why))
    → (v : Version) × (mode : Mode) × (mode_in ls ≡ Some mode) × (transcript_lines runs ls ≡ transcript_by runs (Some (runner_in v mode)) (judged_lines runs ls).inputs)
unfolding judged_lines transcript_lines
story-text [] later = absurd (later Form refl)
story-text (first ∷ rest) later = elim (runs-or-none first) [ inl none ↦ absurd (later (header_reason first) (rw none refl)) | inr some ↦ (some.0.version, some.0.mode, ap (λ (o : Option Header). option_map (λ h. h.mode) o) some.1, rw some.2 refl) ]

abbrev line_in : Option (ℕ × Reason) → ℕ
line_in None = 0
line_in (Some refused) = refused.0

-- no transcript without an item
nothing-told : {A : Type 0} (held now : Option (List ℕ)) → WritesText (transcript []) held now → A
unfolding body_text
nothing-told held now text = absurd text

-- a service's story that has a text is there
behind-it : (is : List Input) (held now : Option (List ℕ)) → WritesText (transcript (service_story is)) held now → (behind : List Input) × (inputs_behind is ≡ Some behind)
behind-it is held now text = each (inputs_behind is) refl text
  where
    each : (o : Option (List Input)) → inputs_behind is ≡ o → WritesText (transcript (items_or_none (shown_of station nothing_known machine is o))) held now → (behind : List Input) × (inputs_behind is ≡ Some behind)
    each None e text = nothing-told held now text
    each (Some js) e text = (js, e)

story-in : (v : Version) (mode : Mode) (is : List Input) (held now : Option (List ℕ)) → WritesText (transcript_by runs (Some (runner_in v mode)) is) held now → WritesStoryIn (Some mode) is held now
story-in v Pool is held now text = record {
  scenes = story 1 is;
  inputs = refl;
  text = text;
  orderly = story-orderly 1 is (omega arith);
  grounded = story-grounded 1 is (omega arith);
}
story-in v Service is held now text =
    let b = behind-it is held now text in
    record { text = text; orderly = service-orderly is; behind = b.0; filled = b.1; grounded = story-grounded 1 b.0 (omega arith) }

writes-story : (bytes : List ℕ) (held now : Option (List ℕ)) → ((why : Reason) → judge bytes ≢ Some (1, why)) → WritesText (transcript_of bytes) held now → WritesStory bytes held now
writes-story bytes held now later text =
    let s = story-text (lines bytes) later in
    subst (λ (m : Option Mode). WritesStoryIn m (inputs_of bytes) held now) (sym s.2)
    (story-in s.0 s.1 (inputs_of bytes) held now (subst (λ (o : Option (List ℕ)). WritesText o held now) s.3 text))

pub done-story : (left : Option (List ℕ)) (rest held now : Option (List ℕ)) (ran : Ran) → IfSome left (λ bytes. Replays bytes rest held now ran) → ran ≡ rans.Done → IfSome left (λ bytes. WritesStory bytes held now)
done-story None rest held now ran h e = tt
done-story (Some bytes) rest held now ran h e =
    let d : IsDone bytes rest held now = subst (Replays bytes rest held now) e h in
    writes-story bytes held now (λ why f. let bad : None ≡ Some (1, why) = sym d.accepted ∙ f in cc) d.text

pub bad-story : (left : Option (List ℕ)) (rest held now : Option (List ℕ)) (ran : Ran) (line : ℕ) (reason : Reason) → IfSome left (λ bytes. Replays bytes rest held now ran) → ran ≡ rans.BadSchedule line reason
    → line ≢ 1 → IfSome left (λ bytes. WritesStory bytes held now)
bad-story None rest held now ran line reason h e later = tt
bad-story (Some bytes) rest held now ran line reason h e later =
    let d : IsBad bytes line reason held now = subst (Replays bytes rest held now) e h in
    writes-story bytes held now (λ why f. let same : Some (line, reason) ≡ Some (1, why) = sym d.refused ∙ f in let one : line ≡ 1 = ap line_in same in later one) d.text
