-- Whatever words clap takes name a command.
use Rattle.std.proofs.Common.{◌≡◌, ◌≢◌, ◌||◌, Bool, true, false, not, List, [], Option, Some, None, codes, cond, refl, sym}
use Rattle.std.proofs.Common.{subst, is_some, option_map, true≢false}
use Rattle.std.specs.List.{list_any}
use Rattle.std.specs.Option.{option_map_or}
use Rattle.std.specs.Str.{bytes_eq}
use Rattle.std.proofs.lemmas.Slice.Eq.{bytes_eq-Decides}
use Rattle.clap.specs.Facts.{explicit_source}
use Rattle.clap.specs.Kinds.{check_kinds}
use Rattle.clap.specs.Walk.{Row, Text, finished, nothing_held, settled, walk, walk_from}
use Rattle.clap.specs.Simple.{Shape, entered, names_of, rows_at, subcommand_of}
use Rattle.clap.specs.Faults.{check_fault, defaults_fault, entered_fault, fault_of, level_fault, settle_fault, walk_fault}
use Rattle.clap.proofs.SimpleLemmas.{is_nil}
use Rattle.command_words.specs.CommandLine.{Asked, command_line, command_of, is_taken, named_command}
use Rattle.command_words.proofs.BuiltLine.{audit_built, convert_built, help_built, line_built, load_built, replay_built, serve_built}
use Rattle.command_words.proofs.LevelLaws.{both_pass}
use Rattle.command_words.proofs.ReadLaws.{load_is_read, serve_is_read}
use Rattle.command_words.proofs.NumberLaws.{by_test}
use Rattle.command_words.proofs.StopLaws.{is_at_help, walk_stop}

-- a subcommand that is wanted and isn't there is a fault
missing : (given wanted : Bool) → check_kinds (not given) true wanted ≢ []
missing true wanted e = absurd cc
missing false wanted e = absurd cc

-- and the command line wants one
no_subcommand : (rows : List Row) → check_fault line_built.top rows false ≢ []
no_subcommand rows e = missing (list_any (λ (r : Row). explicit_source r.source) rows) false e

-- the subcommand, by which of their names was met
abbrev chosen : Bool → Bool → Bool → Bool → Bool → Bool → Option Shape
chosen is_replay is_convert is_audit is_serve is_load is_help =
    cond is_replay (Some replay_built)
    (cond is_convert (Some convert_built)
    (cond is_audit (Some audit_built)
    (cond is_serve (Some serve_built) (cond is_load (Some load_built) (cond is_help (Some help_built) None)))))

-- a subcommand that takes the words and isn't `help` is a command
chosen_is_named : (is_replay is_convert is_audit is_serve is_load is_help : Bool) (words : List Text) (rows : List Row) → is_help ≡ false
    → option_map_or (λ s. level_fault s [] nothing_held words false []) (chosen is_replay is_convert is_audit is_serve is_load is_help) [] ≡ []
    → check_fault line_built.top rows
    (is_some (option_map (λ s. rows_at s words) (chosen is_replay is_convert is_audit is_serve is_load is_help))) ≡ []
    → is_some (named_command (option_map (λ s. rows_at s words) (chosen is_replay is_convert is_audit is_serve is_load is_help))) ≡ true
chosen_is_named true is_convert is_audit is_serve is_load is_help words rows no_help below check = refl
chosen_is_named false true is_audit is_serve is_load is_help words rows no_help below check = refl
chosen_is_named false false true is_serve is_load is_help words rows no_help below check = refl
chosen_is_named false false false true is_load is_help words rows no_help below check = serve_is_read words below
chosen_is_named false false false false true is_help words rows no_help below check = load_is_read words below
chosen_is_named false false false false false true words rows no_help below check = absurd cc
chosen_is_named false false false false false false words rows no_help below check = absurd (no_subcommand rows check)

-- where the name isn't `help`, `help` isn't the name
not_help : (name : Text) → bytes_eq name (codes "help") ≡ false → (bytes_eq (codes "help") name || false) ≡ false
not_help name other = by_test (bytes_eq (codes "help") name)
    (λ is.
    let same = (bytes_eq-Decides (codes "help") name).0 is in
    absurd (true≢false (subst (λ t. bytes_eq t (codes "help") ≡ false) (sym same) other)))
    (λ is. rw is refl)

-- where the walk stopped is a command
stop_is_named : (stop : Option (Text × List Text)) (rows : List Row) → is_at_help stop ≡ false
    → entered_fault line_built stop ≡ [] → check_fault line_built.top rows (is_some (entered line_built stop)) ≡ []
    → is_some (named_command (entered line_built stop)) ≡ true
stop_is_named None rows other below check = absurd (no_subcommand rows check)
stop_is_named (Some p) rows other below check =
    let is_replay = bytes_eq (codes "replay") p.0 || false in
    let is_convert = bytes_eq (codes "convert") p.0 || false in
    let is_audit = bytes_eq (codes "audit") p.0 || false in
    let is_serve = bytes_eq (codes "serve") p.0 || false in
    let is_load = bytes_eq (codes "load") p.0 || false in
    let is_help = bytes_eq (codes "help") p.0 || false in
    chosen_is_named is_replay is_convert is_audit is_serve is_load is_help p.1 rows (not_help p.0 other) below check

-- words that aren't refused name a command
line_is_named : (words : List Text) → fault_of command_line words ≡ []
    → is_some (named_command (subcommand_of command_line words)) ≡ true
line_is_named words e =
    let top = line_built.top in
    let names = names_of line_built in
    let end = walk top.rules names nothing_held words in
    let walking = both_pass (walk_fault top names (walk_from nothing_held) words) _ e in
    let entering = both_pass (entered_fault line_built end.stopped) _ walking.1 in
    let settling = both_pass (settle_fault top.rules top.args_override_self end.held) _ entering.1 in
    let checking = both_pass (defaults_fault (settled top.rules end.held).rows top.rules) _ settling.1 in
    let no_help = walk_stop top refl names (walk_from nothing_held) words walking.0 refl in
    stop_is_named end.stopped (finished top.rules end.held) no_help entering.0 checking.1

where_taken : (taken : Bool) (c : Option Asked) → taken ≡ true → is_some c ≡ true → cond taken c None ≢ None
where_taken true (Some x) is some e = absurd cc
where_taken true None is some e = absurd cc
where_taken false c is some e = absurd cc

-- words that are taken name a command
pub taken_is_named : (words : List Text) → is_taken words ≡ true → command_of words ≢ None
taken_is_named words taken =
    let named = line_is_named words (is_nil (fault_of command_line words) taken) in
    where_taken (is_taken words) (named_command (subcommand_of command_line words)) taken named
