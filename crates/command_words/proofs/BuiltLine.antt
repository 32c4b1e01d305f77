-- The command line and its subcommands, as clap builds them.
use Rattle.std.specs.Prelude.{◌≡◌, ℕ, pos, true, false, List, codes, Some, None, refl}
use Rattle.std.specs.Str.{bytes_eq}
use Rattle.clap.specs.Values.{reading_of}
use Rattle.clap.specs.Walk.{Row, Rule, Text}
use Rattle.clap.specs.Simple.{App, Shape, built, built_leaf, filled, help_shape, inherited, marked_built, new_app, with_index, with_leaf_noted, with_rule}
use Rattle.clap.specs.declared.builder.value_parser.ValueParser.{ValueParser}
use Rattle.clap.specs.declared.builder.value_parser.ValueParser.TheVariants as parsers
use Rattle.clap.specs.declared.parser.matches.ValueSource.TheVariants.{CommandLine}
use Rattle.command_words.specs.CommandLine.{audit_app, command_line, convert_app, replay_app, required_rule}

abbrev pub line_built : App
line_built = built command_line

-- a subcommand, with what it has from the command line
abbrev subcommand_built : App → Shape
subcommand_built a = built_leaf (inherited (with_leaf_noted (marked_built command_line.top)) a.top)

abbrev pub replay_built : Shape
replay_built = subcommand_built replay_app

abbrev pub convert_built : Shape
convert_built = subcommand_built convert_app

abbrev pub audit_built : Shape
audit_built = subcommand_built audit_app

abbrev pub help_built : Shape
help_built = built_leaf help_shape

-- ---- commands of two arguments

-- an argument that has to be there
pub record Field : Type 0 where
  pub name : Text
  pub parser : ValueParser

abbrev field_rule : Field → Rule
field_rule f = required_rule f.name f.parser

-- such an argument at its place
abbrev pub field_built : ℕ → Field → Rule
field_built position f = with_index position (filled (field_rule f))

-- a command with this name and these two
abbrev pub pair_built : Text → Field → Field → Shape
pair_built name first second =
    subcommand_built (with_rule (with_rule (new_app name) (field_rule first)) (field_rule second))

-- the row of an argument that has these values
abbrev pub row_with : Field → List Text → Row
row_with f values = record {
  id = f.name;
  values = values;
  count = None;
  source = Some CommandLine;
  reading = reading_of f.parser;
}

-- their names tell the two apart
pub record AreApart (first second : Field) : Type 0 where
  pub first_name : bytes_eq first.name first.name ≡ true
  pub second_name : bytes_eq second.name second.name ≡ true
  pub names : bytes_eq first.name second.name ≡ false
  pub names_back : bytes_eq second.name first.name ≡ false

-- a number from this one to that one
abbrev pub number_parser : ℕ → ℕ → ValueParser
number_parser least most = parsers.Signed (pos least) (pos most)

abbrev pub path_field : Field
path_field = record { name = codes "PATH"; parser = parsers.NonEmptyString }

abbrev pub answers_field : Field
answers_field = record { name = codes "ANSWERS"; parser = number_parser 1 1000000000 }

pub serve_apart : AreApart path_field answers_field
serve_apart = record { first_name = refl; second_name = refl; names = refl; names_back = refl }

abbrev pub serve_built : Shape
serve_built = pair_built (codes "serve") path_field answers_field

abbrev pub number_field : Field
number_field = record { name = codes "NUMBER"; parser = number_parser 0 4294967295 }

abbrev pub count_field : Field
count_field = record { name = codes "COUNT"; parser = number_parser 0 1000000 }

pub load_apart : AreApart number_field count_field
load_apart = record { first_name = refl; second_name = refl; names = refl; names_back = refl }

abbrev pub load_built : Shape
load_built = pair_built (codes "load") number_field count_field
