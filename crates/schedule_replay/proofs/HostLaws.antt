-- A host as whoever runs lines by it sees it.
use Rattle.std.proofs.Common.{◌≡◌, ℕ, true, List, [], ◌∷◌, ◌++◌, Option, Some, None, Result, Ok, OnOk, refl, sym, ap, subst, ◌∙◌}
use Rattle.std.proofs.lemmas.List.{append-nil}
use Rattle.tree_specs.specs.declared.call.Call.{Call}
use Rattle.tree_specs.specs.declared.event.Event.{Event}
use Rattle.tree_specs.specs.declared.event.Event.TheVariants.{Replied}
use Rattle.tree_specs.specs.declared.question.Ask.TheVariants.{Quiet}
use Rattle.tree_specs.specs.declared.question.Input.{Input}
use Rattle.tree_specs.specs.declared.question.Input.TheVariants as input
use Rattle.tree_specs.specs.declared.reply.Reply.{Reply}
use Rattle.tree_specs.specs.declared.schedule.Reason.TheVariants.{NotAsked, Token}
use Rattle.tree_specs.specs.Machine.View.{View, rest_of, strays_of, question_of}
use Rattle.tree_specs.specs.Texts.Runners.{unless_stray}
use Rattle.tree_specs.specs.Texts.Schedule.{misfit, open_question}
use Rattle.tree_specs.specs.Texts.Text.{event_text, answered_text, reply_text, body_text}
use Rattle.host_core.specs.declared.fault.OfferFault.{OfferFault}
use Rattle.tree_stories.proofs.Strays.{unanswered}
use Rattle.host_core.specs.Promises as promises
use Rattle.host_core.proofs.Reaching.{no-reason}
use Rattle.host_core.proofs.Straying.{taken-fits}
use Rattle.schedule_replay.specs.Hosts.{host_standing, CallsAtOnce}
use Rattle.schedule_replay.specs.Questions.{answered_of}
use Rattle.schedule_replay.specs.Replays.{behind}
use Rattle.schedule_replay.specs.Standings.{Waits, Follows, once, unfit, TakesInput, Nexts}
use Rattle.schedule_replay.proofs.ItemLaws.{told-first, question-told, asked-first, question-asked, last-question, last-text}
use Rattle.schedule_replay.proofs.RunLaws.{follows-none, follows-then, on-ok, why-now}

-- ---- the open question, and what is told

pub host_waits : (v : View) → promises.Waits v → Waits (host_standing v)
host_waits v w = record { question = w.question; asked_now = w.open_now; open_now = ap open_question w.last ∙ last-question w.question; last = ap body_text w.last ∙ last-text w.question }

next-told : (v w : View) (e : Event) → promises.NextLaw (Some e) v w → Follows (event_text e) (host_standing v) (host_standing w)
next-told v w e h = record {
  tells = λ is. ap body_text (h.1 is) ∙ told-first e (rest_of w is);
  open_after = λ is. ap open_question (h.1 is) ∙ question-told e (rest_of w is);
  strays = h.2;
}

next-none : (v w : View) → promises.NextLaw None v w → Follows [] (host_standing v) (host_standing w) × Waits (host_standing w)
next-none v w h = subst (λ (u : View). Follows [] (host_standing v) (host_standing u) × Waits (host_standing u)) (sym h.1) (follows-none (host_standing v), host_waits v h.0)

-- ---- an answer that was taken

pub not-asked : (v : View) → Waits (host_standing v) → (i : Input) → misfit (question_of v) i ≡ Some NotAsked → unfit misfit (host_standing v) i ≡ Some NotAsked
not-asked v w i m = why-now misfit (host_standing v) w i (Some NotAsked) m

-- it was asked for, and yet doesn't fit
pub taken-token : (v : View) → Waits (host_standing v) → (i : Input) (fd : ℕ) → promises.taken_by (question_of v) v.pool i ≡ Some fd → strays_of v (i ∷ []) ≡ true → unfit misfit (host_standing v) i ≡ Some Token
taken-token v w i fd t s = why-now misfit (host_standing v) w i None (no-reason (misfit (question_of v) i) (taken-fits (question_of v) v.pool i fd t)) ∙ ap (unless_stray None) s

fits-now : (v w : View) (i : Input) → Waits (host_standing v) → promises.TakesAnswer v i w → unfit misfit (host_standing v) i ≡ None
fits-now v w i ready taken = why-now misfit (host_standing v) ready i None taken.fits ∙ ap (unless_stray None) (taken.strays [] ∙ unanswered w)

follows-answer : (v w : View) (i : Input) → promises.TakesAnswer v i w → Follows (answered_of (question_of v)) (once i (host_standing v)) (host_standing w)
follows-answer v w i taken = record {
  tells = λ is.
      let m = taken.more is in
      ap body_text (taken.goes_on is) ∙ asked-first taken.question (rest_of w is) m.0 m.1 m.2 ∙ ap (λ (l : List ℕ). behind l (body_text (rest_of w is))) (sym (ap answered_of taken.open_before));
  open_after = λ is.
      let m = taken.more is in
      ap open_question (taken.goes_on is) ∙ question-asked taken.question (rest_of w is) m.0 m.1 m.2;
  strays = taken.strays;
}

takes-input : (v w : View) (i : Input) → Waits (host_standing v) → promises.TakesAnswer v i w → TakesInput misfit (host_standing v) i (host_standing w)
takes-input v w i ready taken = record { fits = fits-now v w i ready taken; follows = follows-answer v w i taken }

-- ---- a call of the host's own caller

-- its question has no line
quiet-text : (v : View) → question_of v ≡ Some Quiet → answered_of (question_of v) ≡ []
unfolding answered_text
quiet-text v e = rw e refl

follows-call : (v w : View) (c : Call) → question_of v ≡ Some Quiet → promises.TakesAnswer v (input.Call c) w → Follows [] (once (input.Call c) (host_standing v)) (host_standing w)
follows-call v w c quiet taken = subst (λ (l : List ℕ). Follows l (once (input.Call c) (host_standing v)) (host_standing w)) (quiet-text v quiet) (follows-answer v w (input.Call c) taken)

pub calls-on : (v w : View) (c : Call) (before : List ℕ) → Waits (host_standing v) → question_of v ≡ Some Quiet → promises.TakesAnswer v (input.Call c) w → CallsAtOnce v c before w before
calls-on v w c before ready quiet taken = record { written = []; text = sym (append-nil before); fits = fits-now v w (input.Call c) ready taken; follows = follows-call v w c quiet taken }

replied-text : (r : Reply) → event_text (Replied r) ≡ reply_text r
unfolding event_text
replied-text r = refl

pub calls-replied : (v w : View) (c : Call) (r : Reply) (before after : List ℕ) → Waits (host_standing v) → question_of v ≡ Some Quiet → promises.RepliesAtOnce v c r w → after ≡ before ++ reply_text r → CallsAtOnce v c before w after
calls-replied v w c r before after ready quiet h e = record {
  written = event_text (Replied r);
  text = e ∙ ap (λ (l : List ℕ). before ++ l) (sym (replied-text r));
  fits = fits-now v h.between (input.Call c) ready h.taken;
  follows = follows-then [] (event_text (Replied r)) (once (input.Call c) (host_standing v)) (host_standing h.between) (host_standing w) (follows-call v h.between c quiet h.taken) (next-told h.between w (Replied r) h.told);
}

-- ---- each answer of a host

pub host_next : (o : Option Event) (v w : View) → promises.NextLaw o v w → Nexts event_text (Ok o) (host_standing v) (host_standing w)
host_next None v w h = next-none v w h
host_next (Some e) v w h = next-told v w e h

pub host_takes : (r : Result (Unit {0}) OfferFault) (v w : View) (i : Input) → Waits (host_standing v) → OnOk r (promises.TakesAnswer v i w) → OnOk r (TakesInput misfit (host_standing v) i (host_standing w))
host_takes r v w i ready h = on-ok r (takes-input v w i ready) h
