-- The command line, as clap sees it, and what words ask for.
use Rattle.std.specs.Prelude.{ℕ, true, pos, Bool, List, ◌==◌, length, Option, Some, None, codes, if◌then◌else◌, option_and_then}
use Rattle.std.specs.Str.{bytes_eq}
use Rattle.std.specs.Str.Parse.{digits_value, without_leading_plus}
use Rattle.clap.specs.Words.{App, Row, Rule, Text, fault_of, first_of, new_app, new_rule, one_of, subcommand_of, with_rule, with_subcommand}
use Rattle.clap.specs.Simple.{on_top}
use Rattle.clap.specs.ValueTests.{is_unsigned_in}
use Rattle.clap.specs.Walk.{nonempty}
use Rattle.clap.specs.declared.builder.value_parser.ValueParser.{ValueParser}
use Rattle.clap.specs.declared.builder.value_parser.ValueParser.TheVariants as parsers
use Rattle.command_words.specs.declared.command.Command.{Command}
use Rattle.command_words.specs.declared.command.Command.TheVariants as commands
use Rattle.command_words.specs.declared.command.TheConstants.{ANSWERS_LIMIT, COUNT_LIMIT}

-- ---- the command line

-- an argument that has to be there
abbrev pub required_rule : Text → ValueParser → Rule
required_rule name parser = record (new_rule name) { required = true; parser = Some parser }

-- a number from this one to that one
abbrev pub number_rule : Text → ℕ → ℕ → Rule
number_rule name least most = required_rule name (parsers.Signed (pos least) (pos most))

abbrev pub replay_app : App
replay_app = new_app (codes "replay")

abbrev pub convert_app : App
convert_app = new_app (codes "convert")

abbrev pub audit_app : App
audit_app = new_app (codes "audit")

abbrev pub serve_app : App
serve_app = with_rule (with_rule (new_app (codes "serve")) (required_rule (codes "PATH") parsers.NonEmptyString)) (number_rule (codes "ANSWERS") 1 1000000000)

abbrev pub load_app : App
load_app = with_rule (with_rule (new_app (codes "load")) (number_rule (codes "NUMBER") 0 4294967295)) (number_rule (codes "COUNT") 0 1000000)

-- one of the commands is to be named
abbrev pub top_app : App
top_app = on_top (λ s. record s { no_binary_name = true; arg_required_else_help = true; subcommand_required = true }) (new_app (codes "tvhost"))

abbrev pub command_line : App
command_line =
    with_subcommand (with_subcommand (with_subcommand (with_subcommand (with_subcommand top_app replay_app.top) convert_app.top) audit_app.top) serve_app.top)
    load_app.top

-- ---- what words ask for

-- a command, whose path is a text wherever it lies
pub data Asked : Type 0 where
  Replay : Asked
  Convert : Asked
  Audit : Asked
  Serve : Text → ℕ → Asked
  Load : ℕ → ℕ → Asked

abbrev pub asked_by : Command → Asked
asked_by commands.Replay = Replay
asked_by commands.Convert = Convert
asked_by commands.Audit = Audit
asked_by (commands.Serve path answers) = Serve path.now answers
asked_by (commands.Load number count) = Load number count

-- clap refuses the words for no other cause than want of memory
abbrev pub is_taken : List Text → Bool
is_taken words = length (fault_of command_line words) == 0

abbrev pub number_if : Bool → Text → Option ℕ
number_if is_number text = if is_number then Some (digits_value 10 (without_leading_plus text)) else None

-- the value of an argument, where it is a number from this one to that one
abbrev pub number_in : ℕ → ℕ → Text → List Row → Option ℕ
number_in least most name rows = option_and_then (λ text. number_if (is_unsigned_in least most text) text) (one_of name rows)

-- the value of an argument, where it isn't empty
abbrev pub text_in : Text → List Row → Option Text
text_in name rows = option_and_then nonempty (first_of name rows)

abbrev pub serve_of : Option Text → Option ℕ → Option Asked
serve_of (Some path) (Some answers) = Some (Serve path answers)
serve_of _ answers = None

abbrev pub serve_in : List Row → Option Asked
serve_in rows = serve_of (text_in (codes "PATH") rows) (number_in 1 ANSWERS_LIMIT (codes "ANSWERS") rows)

abbrev pub load_of : Option ℕ → Option ℕ → Option Asked
load_of (Some number) (Some count) = Some (Load number count)
load_of _ count = None

abbrev pub load_in : List Row → Option Asked
load_in rows = load_of (number_in 0 4294967295 (codes "NUMBER") rows) (number_in 0 COUNT_LIMIT (codes "COUNT") rows)

abbrev pub named_command : Option (Text × List Row) → Option Asked
named_command None = None
named_command (Some p) =
    if bytes_eq p.0 (codes "replay") then Some Replay
    else (if bytes_eq p.0 (codes "convert") then Some Convert
    else (if bytes_eq p.0 (codes "audit") then Some Audit
    else (if bytes_eq p.0 (codes "serve") then serve_in p.1 else load_in p.1)))

-- the command that the words name, which follow the program's name; none where they aren't taken
abbrev pub command_of : List Text → Option Asked
command_of words = if is_taken words then named_command (subcommand_of command_line words) else None
