use Rattle.std.proofs.Common.{rules, arith, ℕ, ◌≡◌, ◌∙◌, ap, subst, sym, Some, None, Ok, inr}
use Rattle.command_words.specs.CommandLine.Asked.{Audit, Convert, Load, Replay, Serve}
use Rattle.command_words.specs.declared.command.Command.{Command}
use Rattle.audit_rules.specs.Flaws.{flaw}
use Rattle.serving.specs.Stations.{ends}
use Rattle.host_app.specs.Mains.{names, Loads, Says}
use Rattle.host_app.specs.Serves.{Serves}
use Rattle.host_app.specs.Statuses.{status_text}
use Rattle.host_app.proofs.AuditLaws.{none-ends}
use Rattle.host_app.proofs.MainLaws.{Accepted, Shaped, asked-once, audit-none, converts-by, converts-none, converts-same, kept-front, load-none, loads-by, loads-same, memory-complete, run-complete, replay-front, says-by, serves-by, serves-none, serves-same}
use Rattle.host_app.proofs.main_call.host_main.Goals as goal
use Rattle.host_app.proofs.main_call.host_main.Goals.{in-Ok-Replay, in-Ok-Convert, in-Ok-Audit, in-Ok-Serve, in-Ok-Load, in-Err-Usage, in-Err-Memory}

pub returns-clause-memory_front : goal.returns-clause-memory_front
returns-clause-memory_front g c = λ named memory. elim c.match-read_words.branch [
  | in-Ok-Replay w ↦ rw w.out-is (replay-front (g.S.Source.left c.args.input.now) (g.S.Source.left w.replay.new.input) (g.K.Sink.held c.args.out.now) (g.K.Sink.held w.replay.new.out) w.replay.result c.match-read_words.status
      (w.status-is ∙ w.from-status.ensures) w.replay.ensures.replays memory)
  | in-Ok-Convert w ↦
      let is : names c.args.words.now ≡ Some Convert = search rules in
      asked-once _ _ _ is named (λ e. cc)
  | in-Ok-Audit w ↦
      let is : names c.args.words.now ≡ Some Audit = search rules in
      asked-once _ _ _ is named (λ e. cc)
  | in-Ok-Serve w ↦
      let is : names c.args.words.now ≡ Some (Serve w.in-Ok-Serve.path.now w.in-Ok-Serve.answers) = search rules in
      asked-once _ _ _ is named (λ e. cc)
  | in-Ok-Load w ↦
      let is : names c.args.words.now ≡ Some (Load w.in-Ok-Load.number w.in-Ok-Load.count) = search rules in
      asked-once _ _ _ is named (λ e. cc)
  | in-Err-Usage w ↦ kept-front (g.S.Source.left c.args.input.now) (g.K.Sink.held c.args.out.now) (g.K.Sink.held c.match-read_words.out) (ap g.K.Sink.held w.out-is)
  | in-Err-Memory w ↦ kept-front (g.S.Source.left c.args.input.now) (g.K.Sink.held c.args.out.now) (g.K.Sink.held c.match-read_words.out) (ap g.K.Sink.held w.out-is)
]

pub returns-clause-loads : goal.returns-clause-loads
returns-clause-loads g c = λ number count named. elim c.match-read_words.branch [
  | in-Ok-Replay w ↦
      let is : names c.args.words.now ≡ Some Replay = search rules in
      asked-once _ _ _ is named (λ e. cc)
  | in-Ok-Convert w ↦
      let is : names c.args.words.now ≡ Some Convert = search rules in
      asked-once _ _ _ is named (λ e. cc)
  | in-Ok-Audit w ↦
      let is : names c.args.words.now ≡ Some Audit = search rules in
      asked-once _ _ _ is named (λ e. cc)
  | in-Ok-Serve w ↦
      let is : names c.args.words.now ≡ Some (Serve w.in-Ok-Serve.path.now w.in-Ok-Serve.answers) = search rules in
      asked-once _ _ _ is named (λ e. cc)
  | in-Ok-Load w ↦
      let is : names c.args.words.now ≡ Some (Load w.in-Ok-Load.number w.in-Ok-Load.count) = search rules in
      let done : Loads w.in-Ok-Load.number w.in-Ok-Load.count (g.K.Sink.held c.args.out.now) (g.K.Sink.held c.match-read_words.out) c.match-read_words.status =
      rw w.out-is (loads-by w.in-Ok-Load.number w.in-Ok-Load.count (g.K.Sink.held c.args.out.now) (g.K.Sink.held w.load.new.out) w.load.result c.match-read_words.status (w.status-is ∙ w.from-status-in-Ok-Load.ensures) w.load.ensures.lines) in
      loads-same w.in-Ok-Load.number w.in-Ok-Load.count number count (g.K.Sink.held c.args.out.now) (g.K.Sink.held c.match-read_words.out) c.match-read_words.status (sym is ∙ named) done
  | in-Err-Usage w ↦
      let none : names c.args.words.now ≡ None = search rules in
      asked-once _ _ _ none named (λ e. cc)
  | in-Err-Memory w ↦ load-none number count (g.K.Sink.held c.args.out.now) (g.K.Sink.held c.match-read_words.out) c.match-read_words.status (ap g.K.Sink.held w.out-is) w.status-is
]

pub returns-clause-serves : goal.returns-clause-serves
returns-clause-serves g c = λ path answers named. elim c.match-read_words.branch [
  | in-Ok-Replay w ↦
      let is : names c.args.words.now ≡ Some Replay = search rules in
      asked-once _ _ _ is named (λ e. cc)
  | in-Ok-Convert w ↦
      let is : names c.args.words.now ≡ Some Convert = search rules in
      asked-once _ _ _ is named (λ e. cc)
  | in-Ok-Audit w ↦
      let is : names c.args.words.now ≡ Some Audit = search rules in
      asked-once _ _ _ is named (λ e. cc)
  | in-Ok-Serve w ↦
      let is : names c.args.words.now ≡ Some (Serve w.in-Ok-Serve.path.now w.in-Ok-Serve.answers) = search rules in
      let before = ends (g.L.Link.told c.args.link.now) (g.C.Clock.told c.args.clock.now) (g.R.Routines.told c.args.routines.now) (g.K.Sink.held c.args.out.now) in
      let after = ends (g.L.Link.told w.serve_lines.new.link) (g.C.Clock.told w.serve_lines.new.clock) (g.R.Routines.told w.serve_lines.new.routines) (g.K.Sink.held w.serve_lines.new.out) in
      serves-same w.in-Ok-Serve.path.now path w.in-Ok-Serve.answers answers c.match-read_words.status before _ (sym is ∙ named)
      (rw (w.link-is, w.clock-is, w.routines-is, w.out-is)
      (subst (λ (n : ℕ). Serves w.in-Ok-Serve.path.now n c.match-read_words.status before after) w.from.ensures
      (serves-by w.in-Ok-Serve.path.now w.from.result w.serve_lines.result c.match-read_words.status before after (w.status-is ∙ w.from-status-in-Ok-Serve.ensures) w.serve_lines.ensures.serves w.serve_lines.ensures.stops)))
  | in-Ok-Load w ↦
      let is : names c.args.words.now ≡ Some (Load w.in-Ok-Load.number w.in-Ok-Load.count) = search rules in
      asked-once _ _ _ is named (λ e. cc)
  | in-Err-Usage w ↦
      let none : names c.args.words.now ≡ None = search rules in
      asked-once _ _ _ none named (λ e. cc)
  | in-Err-Memory w ↦ rw (w.link-is, w.clock-is, w.routines-is, w.out-is) (serves-none path answers c.match-read_words.status _ w.status-is)
]

pub serve_lines-requires : goal.serve_lines-requires
serve_lines-requires g c =
    let few = c.in-Ok-Serve.ensures.served c.in-Ok-Serve.path c.in-Ok-Serve.answers (ap (λ (command : Command). Ok command) c.in-Ok-Serve.field-0-is) in
    omega (arith, few.2, c.from.ensures)

pub returns-clause-complete : goal.returns-clause-complete
returns-clause-complete g c = λ named.
    let left = g.S.Source.left c.args.input.now in
    let reads = g.S.Source.faults in
    let writes = g.K.Sink.faults in
    elim c.match-read_words.branch [
      | in-Ok-Replay w ↦ rw (w.input-is, w.out-is) (run-complete Accepted left (reads c.args.input.now) (reads w.replay.new.input) (writes c.args.out.now) (writes w.replay.new.out) w.replay.result c.match-read_words.status
          (w.status-is ∙ w.from-status.ensures) w.replay.ensures.complete)
      | in-Ok-Convert w ↦
          let is : names c.args.words.now ≡ Some Convert = search rules in
          asked-once _ _ _ is named (λ e. cc)
      | in-Ok-Audit w ↦
          let is : names c.args.words.now ≡ Some Audit = search rules in
          asked-once _ _ _ is named (λ e. cc)
      | in-Ok-Serve w ↦
          let is : names c.args.words.now ≡ Some (Serve w.in-Ok-Serve.path.now w.in-Ok-Serve.answers) = search rules in
          asked-once _ _ _ is named (λ e. cc)
      | in-Ok-Load w ↦
          let is : names c.args.words.now ≡ Some (Load w.in-Ok-Load.number w.in-Ok-Load.count) = search rules in
          asked-once _ _ _ is named (λ e. cc)
      | in-Err-Usage w ↦
          let none : names c.args.words.now ≡ None = search rules in
          asked-once _ _ _ none named (λ e. cc)
      | in-Err-Memory w ↦ memory-complete Accepted left (reads c.args.input.now) (reads c.match-read_words.input) (writes c.args.out.now) (writes c.match-read_words.out) c.match-read_words.status w.status-is
    ]

pub returns-clause-said : goal.returns-clause-said
returns-clause-said g c = λ other.
    let text = status_text c.match-read_words.status in
    let e = c.say.ensures in
    let held = g.E.Sink.held in
    let room = g.E.Sink.room in
    let faults = g.E.Sink.faults in
    let said : Says (held c.match-read_words.err) (held c.say.new.err) (room c.match-read_words.err) (faults c.match-read_words.err) (faults c.say.new.err) text =
    says-by (held c.match-read_words.err) (held c.say.new.err) (room c.match-read_words.err) (room c.say.new.err) (faults c.match-read_words.err) (faults c.say.new.err) c.say.result text e.bytes e.cause e.room in
    elim c.match-read_words.branch [
      | in-Ok-Replay w ↦ rw w.err-is at said
      | in-Ok-Convert w ↦ rw w.err-is at said
      | in-Ok-Audit w ↦ rw w.err-is at said
      | in-Ok-Serve w ↦ rw w.err-is at said
      | in-Ok-Load w ↦ rw w.err-is at said
      | in-Err-Usage w ↦ absurd (other w.status-is)
      | in-Err-Memory w ↦ rw w.err-is at said
    ]

pub returns-clause-audit_memory : goal.returns-clause-audit_memory
returns-clause-audit_memory g c = λ named memory.
    let left = g.S.Source.left c.args.input.now in
    let held = g.K.Sink.held in
    elim c.match-read_words.branch [
      | in-Ok-Replay w ↦
          let is : names c.args.words.now ≡ Some Replay = search rules in
          asked-once _ _ _ is named (λ e. cc)
      | in-Ok-Convert w ↦
          let is : names c.args.words.now ≡ Some Convert = search rules in
          asked-once _ _ _ is named (λ e. cc)
      | in-Ok-Audit w ↦ rw w.out-is (w.audit_transcript-status.ensures.memory_front (sym w.status-is ∙ memory))
      | in-Ok-Serve w ↦
          let is : names c.args.words.now ≡ Some (Serve w.in-Ok-Serve.path.now w.in-Ok-Serve.answers) = search rules in
          asked-once _ _ _ is named (λ e. cc)
      | in-Ok-Load w ↦
          let is : names c.args.words.now ≡ Some (Load w.in-Ok-Load.number w.in-Ok-Load.count) = search rules in
          asked-once _ _ _ is named (λ e. cc)
      | in-Err-Usage w ↦ audit-none left (held c.args.out.now) (held c.match-read_words.out) (ap held w.out-is)
      | in-Err-Memory w ↦ audit-none left (held c.args.out.now) (held c.match-read_words.out) (ap held w.out-is)
    ]

pub returns-clause-audit_complete : goal.returns-clause-audit_complete
returns-clause-audit_complete g c = λ named.
    let left = g.S.Source.left c.args.input.now in
    let reads = g.S.Source.faults in
    let writes = g.K.Sink.faults in
    elim c.match-read_words.branch [
      | in-Ok-Replay w ↦
          let is : names c.args.words.now ≡ Some Replay = search rules in
          asked-once _ _ _ is named (λ e. cc)
      | in-Ok-Convert w ↦
          let is : names c.args.words.now ≡ Some Convert = search rules in
          asked-once _ _ _ is named (λ e. cc)
      | in-Ok-Audit w ↦ rw (w.input-is, w.out-is, w.status-is) w.audit_transcript-status.ensures.complete
      | in-Ok-Serve w ↦
          let is : names c.args.words.now ≡ Some (Serve w.in-Ok-Serve.path.now w.in-Ok-Serve.answers) = search rules in
          asked-once _ _ _ is named (λ e. cc)
      | in-Ok-Load w ↦
          let is : names c.args.words.now ≡ Some (Load w.in-Ok-Load.number w.in-Ok-Load.count) = search rules in
          asked-once _ _ _ is named (λ e. cc)
      | in-Err-Usage w ↦
          let none : names c.args.words.now ≡ None = search rules in
          asked-once _ _ _ none named (λ e. cc)
      | in-Err-Memory w ↦ memory-complete (λ bytes. flaw bytes ≡ None) left (reads c.args.input.now) (reads c.match-read_words.input) (writes c.args.out.now) (writes c.match-read_words.out) c.match-read_words.status w.status-is
    ]

pub returns-clause-audit_flawed : goal.returns-clause-audit_flawed
returns-clause-audit_flawed g c = λ named.
    let left = g.S.Source.left c.args.input.now in
    elim c.match-read_words.branch [
      | in-Ok-Replay w ↦
          let is : names c.args.words.now ≡ Some Replay = search rules in
          asked-once _ _ _ is named (λ e. cc)
      | in-Ok-Convert w ↦
          let is : names c.args.words.now ≡ Some Convert = search rules in
          asked-once _ _ _ is named (λ e. cc)
      | in-Ok-Audit w ↦ rw (w.input-is, w.status-is) w.audit_transcript-status.ensures.flawed
      | in-Ok-Serve w ↦
          let is : names c.args.words.now ≡ Some (Serve w.in-Ok-Serve.path.now w.in-Ok-Serve.answers) = search rules in
          asked-once _ _ _ is named (λ e. cc)
      | in-Ok-Load w ↦
          let is : names c.args.words.now ≡ Some (Load w.in-Ok-Load.number w.in-Ok-Load.count) = search rules in
          asked-once _ _ _ is named (λ e. cc)
      | in-Err-Usage w ↦
          let none : names c.args.words.now ≡ None = search rules in
          asked-once _ _ _ none named (λ e. cc)
      | in-Err-Memory w ↦ none-ends left _ _ _ (λ line rule. inr w.status-is)
    ]

pub returns-clause-converts : goal.returns-clause-converts
returns-clause-converts g c = λ named.
    let left = g.S.Source.left in
    let held = g.K.Sink.held in
    elim c.match-read_words.branch [
      | in-Ok-Replay w ↦
          let is : names c.args.words.now ≡ Some Replay = search rules in
          asked-once _ _ _ is named (λ e. cc)
      | in-Ok-Convert w ↦ rw (w.input-is, w.out-is) (converts-by (left c.args.input.now) (left w.convert.new.input) (held c.args.out.now) (held w.convert.new.out) w.convert.result c.match-read_words.status
          (w.status-is ∙ w.from-status-in-Ok-Convert.ensures) w.convert.ensures.converts)
      | in-Ok-Audit w ↦
          let is : names c.args.words.now ≡ Some Audit = search rules in
          asked-once _ _ _ is named (λ e. cc)
      | in-Ok-Serve w ↦
          let is : names c.args.words.now ≡ Some (Serve w.in-Ok-Serve.path.now w.in-Ok-Serve.answers) = search rules in
          asked-once _ _ _ is named (λ e. cc)
      | in-Ok-Load w ↦
          let is : names c.args.words.now ≡ Some (Load w.in-Ok-Load.number w.in-Ok-Load.count) = search rules in
          asked-once _ _ _ is named (λ e. cc)
      | in-Err-Usage w ↦
          let none : names c.args.words.now ≡ None = search rules in
          asked-once _ _ _ none named (λ e. cc)
      | in-Err-Memory w ↦ converts-none (left c.args.input.now) _ (held c.args.out.now) (held c.match-read_words.out) c.match-read_words.status (ap held w.out-is) w.status-is
    ]

pub returns-clause-converts_same : goal.returns-clause-converts_same
returns-clause-converts_same g c = λ named done.
    converts-same (g.S.Source.left c.args.input.now) _ (g.K.Sink.held c.args.out.now) _ c.match-read_words.status (returns-clause-converts g c named) done

pub returns-clause-converts_complete : goal.returns-clause-converts_complete
returns-clause-converts_complete g c = λ named.
    let left = g.S.Source.left c.args.input.now in
    let reads = g.S.Source.faults in
    let writes = g.K.Sink.faults in
    elim c.match-read_words.branch [
      | in-Ok-Replay w ↦
          let is : names c.args.words.now ≡ Some Replay = search rules in
          asked-once _ _ _ is named (λ e. cc)
      | in-Ok-Convert w ↦ rw (w.input-is, w.out-is) (run-complete Shaped left (reads c.args.input.now) (reads w.convert.new.input) (writes c.args.out.now) (writes w.convert.new.out) w.convert.result c.match-read_words.status
          (w.status-is ∙ w.from-status-in-Ok-Convert.ensures) w.convert.ensures.complete)
      | in-Ok-Audit w ↦
          let is : names c.args.words.now ≡ Some Audit = search rules in
          asked-once _ _ _ is named (λ e. cc)
      | in-Ok-Serve w ↦
          let is : names c.args.words.now ≡ Some (Serve w.in-Ok-Serve.path.now w.in-Ok-Serve.answers) = search rules in
          asked-once _ _ _ is named (λ e. cc)
      | in-Ok-Load w ↦
          let is : names c.args.words.now ≡ Some (Load w.in-Ok-Load.number w.in-Ok-Load.count) = search rules in
          asked-once _ _ _ is named (λ e. cc)
      | in-Err-Usage w ↦
          let none : names c.args.words.now ≡ None = search rules in
          asked-once _ _ _ none named (λ e. cc)
      | in-Err-Memory w ↦ memory-complete Shaped left (reads c.args.input.now) (reads c.match-read_words.input) (writes c.args.out.now) (writes c.match-read_words.out) c.match-read_words.status w.status-is
    ]
