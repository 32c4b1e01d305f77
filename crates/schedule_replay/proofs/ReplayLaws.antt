-- What a replay writes and answers, by what its stages play.
use Rattle.std.proofs.Common.{◌≡◌, ℕ, false, List, [], ◌∷◌, ◌++◌, Option, Some, None, sym, ap, subst, ◌∙◌, arith}
use Rattle.std.specs.Prelude.{IfSome}
use Rattle.tree_specs.specs.declared.question.Ask.{Ask}
use Rattle.tree_specs.specs.Texts.Lines.{lines}
use Rattle.tree_specs.specs.Texts.Grammar.{input_of}
use Rattle.tree_specs.specs.Texts.Schedule.{misfit}
use Rattle.tree_specs.specs.Texts.Text.{end_text}
use Rattle.schedule_replay.specs.declared.ran.Ran.{Ran}
use Rattle.schedule_replay.specs.declared.ran.Ran.TheVariants as rans
use Rattle.schedule_replay.specs.declared.stage.Stage.{Stage}
use Rattle.schedule_replay.specs.declared.stage.Stage.TheVariants.{Header, Pool, Service}
use Rattle.schedule_replay.specs.Hosts.{host_standing}
use Rattle.schedule_replay.specs.Stations.{station_standing}
use Rattle.schedule_replay.specs.Played.{Plays}
use Rattle.schedule_replay.specs.Replays.{Replayed, with_front, replayed_lines}
use Rattle.schedule_replay.specs.Runs.{Replays, IsCutTranscript}
use Rattle.schedule_replay.specs.Stages.{IsAtHeader, replayed_all, plays, text_in, ready}
use Rattle.schedule_replay.specs.Standings.{runner_of}
use Rattle.schedule_replay.proofs.HeaderLaws.{headless, not-accepted, nothing-written}
use Rattle.schedule_replay.proofs.TextLaws.{front-nil}
use Rattle.schedule_replay.proofs.RunLaws.{no-more}
use Rattle.schedule_replay.proofs.WholeLaws.{header-ends, judge_is, text_is, is_done, is_bad, is_front}

-- ---- where a read failed

at-first : (whole text : List ℕ) → whole ≡ [] → replayed_all (lines whole) ≡ with_front text headless → IsCutTranscript whole text
at-first whole text none e = subst (λ (l : List ℕ). IsCutTranscript l text) (sym none) (nothing-written replayed_all whole text (header-ends false [] (omega arith)) none e)

later : (whole text : List ℕ) (q : Ask) → replayed_all (lines whole) ≡ record { text = Some (text ++ end_text q); refused = None } → IsCutTranscript whole text
later [] text q e = not-accepted replayed_all (Some (text ++ end_text q)) (header-ends false [] (omega arith)) e
later (x ∷ xs) text q e = (judge_is (x ∷ xs) (Some (text ++ end_text q)) None e, q, text_is (x ∷ xs) (Some (text ++ end_text q)) None e)

-- what was done of whole lines is their transcript without its last line
cut-text : (s : Stage) (n : ℕ) (whole text : List ℕ) → ready s n → text_in s ≡ [] → (n ≡ 1 → whole ≡ []) → replayed_all (lines whole) ≡ with_front text (plays s n []) → IsCutTranscript whole text
cut-text (Header alloc) n whole text first empty begun e = at-first whole text (begun first) (e ∙ ap (with_front text) (header-ends false [] (omega arith)))
cut-text (Pool play) n whole text waits empty begun e =
    let r : Replayed = replayed_lines (runner_of (input_of play.version) misfit (host_standing play.machine)) n [] in
    later whole text waits.question (e ∙ ap (λ (l : List ℕ). with_front text (with_front l r)) empty ∙ ap (with_front text) (sym (front-nil r) ∙ no-more (input_of play.version) misfit (host_standing play.machine) waits n))
cut-text (Service play) n whole text waits empty begun e =
    let r : Replayed = replayed_lines (runner_of (input_of play.version) misfit (station_standing play.machine)) n [] in
    later whole text waits.question (e ∙ ap (λ (l : List ℕ). with_front text (with_front l r)) empty ∙ ap (with_front text) (sym (front-nil r) ∙ no-more (input_of play.version) misfit (station_standing play.machine) waits n))

-- ---- by how it ended

pub replays : (first : Stage) (bytes : List ℕ) (left held now : Option (List ℕ)) (ran : Ran) → IsAtHeader first → Plays plays text_in ready first bytes left held now ran → Replays bytes left held now ran
replays (Header alloc) bytes left held now rans.Done h p = is_done bytes left held now p.text p.read p.played p.put
replays (Header alloc) bytes left held now rans.ReadFault h p = record {
  whole = p.whole;
  line = p.line;
  read = p.read;
  within = p.within;
  text = p.text;
  put = p.put;
  cut = cut-text p.player p.number p.whole p.text p.waits p.empty p.begun p.played;
}
replays (Header alloc) bytes left held now (rans.BadSchedule line reason) h p = is_bad bytes held now p.text line reason p.played p.put
replays (Header alloc) bytes left held now rans.WriteFault h p = is_front bytes held now p.front p.begins p.put
replays (Header alloc) bytes left held now rans.Memory h p = is_front bytes held now p.front p.begins p.put
replays (Pool play) bytes left held now ran h p = absurd h
replays (Service play) bytes left held now ran h p = absurd h

pub replays-known : (first : Stage) (known left held now : Option (List ℕ)) (ran : Ran) → IsAtHeader first → IfSome known (λ bytes. Plays plays text_in ready first bytes left held now ran) → IfSome known (λ bytes. Replays bytes left held now ran)
replays-known first None left held now ran h p = tt
replays-known first (Some bytes) left held now ran h p = replays first bytes left held now ran h p
