-- What words ask for is in its range.
use Rattle.std.proofs.Common.{◌≡◌, ◌≤◌, ◌<◌, ℕ, Bool, List, [], ◌∷◌, Option, Some, None, true, false, cond, length, codes, subst, arith, option_map, option_and_then}
use Rattle.std.specs.Prelude.{IfSome}
use Rattle.std.specs.Str.{bytes_eq}
use Rattle.clap.specs.ValueTests.{is_unsigned_in}
use Rattle.clap.specs.Walk.{Row, Text, first_of, nonempty, one_of}
use Rattle.command_words.specs.declared.command.Command.{Command}
use Rattle.command_words.specs.CommandLine.{Asked, asked_by, load_in, load_of, named_command, number_if, number_in, serve_in, serve_of, text_in}
use Rattle.command_words.specs.CommandLine.Asked.{Replay, Convert, Audit, Serve, Load}
use Rattle.command_words.proofs.NumberLaws.{by_test, within}

-- its numbers are in their ranges, and its path isn't empty
abbrev pub IsInRange : Asked → Type 0
IsInRange Replay = Unit {0}
IsInRange Convert = Unit {0}
IsInRange Audit = Unit {0}
IsInRange (Serve path answers) = (0 < length path) × (1 ≤ answers) × (answers ≤ 1000000000)
IsInRange (Load number count) = count ≤ 1000000

-- a text that is read as a number has one in the range
text_in_range : (least most : ℕ) (text : Option Text)
    → IfSome (option_and_then (λ t. number_if (is_unsigned_in least most t) t) text) (λ n. (least ≤ n) × (n ≤ most))
text_in_range least most None = tt
text_in_range least most (Some t) = by_test (is_unsigned_in least most t)
    (λ is. let w = within least most t is in rw is (w.1, w.2))
    (λ is. rw is tt)

is_nonempty : (text : Option Text) → IfSome (option_and_then nonempty text) (λ t. 0 < length t)
is_nonempty None = tt
is_nonempty (Some []) = tt
is_nonempty (Some (x ∷ xs)) = omega arith

serve_in_range : (path : Option Text) (answers : Option ℕ) → IfSome path (λ t. 0 < length t)
    → IfSome answers (λ n. (1 ≤ n) × (n ≤ 1000000000)) → IfSome (serve_of path answers) IsInRange
serve_in_range (Some path) (Some answers) p a = (p, a.0, a.1)
serve_in_range (Some path) None p a = tt
serve_in_range None answers p a = tt

load_in_range : (number count : Option ℕ) → IfSome count (λ n. (0 ≤ n) × (n ≤ 1000000))
    → IfSome (load_of number count) IsInRange
load_in_range (Some number) (Some count) c = c.1
load_in_range (Some number) None c = tt
load_in_range None count c = tt

rows_in_range : (is_replay is_convert is_audit is_serve : Bool) (rows : List Row)
    → IfSome (cond is_replay (Some Replay) (cond is_convert (Some Convert) (cond is_audit (Some Audit) (cond is_serve (serve_in rows) (load_in rows))))) IsInRange
rows_in_range true is_convert is_audit is_serve rows = tt
rows_in_range false true is_audit is_serve rows = tt
rows_in_range false false true is_serve rows = tt
rows_in_range false false false true rows =
    serve_in_range (text_in (codes "PATH") rows) (number_in 1 1000000000 (codes "ANSWERS") rows)
    (is_nonempty (first_of (codes "PATH") rows)) (text_in_range 1 1000000000 (one_of (codes "ANSWERS") rows))
rows_in_range false false false false rows =
    load_in_range (number_in 0 4294967295 (codes "NUMBER") rows) (number_in 0 1000000 (codes "COUNT") rows)
    (text_in_range 0 1000000 (one_of (codes "COUNT") rows))

named_in_range : (met : Option (Text × List Row)) → IfSome (named_command met) IsInRange
named_in_range None = tt
named_in_range (Some p) = rows_in_range (bytes_eq p.0 (codes "replay")) (bytes_eq p.0 (codes "convert")) (bytes_eq p.0 (codes "audit")) (bytes_eq p.0 (codes "serve")) p.1

-- so is a command that stands for what the words ask for
pub command_in_range : (met : Option (Text × List Row)) (c : Option Command) (one : Command) → option_map asked_by c ≡ named_command met
    → c ≡ Some one → IsInRange (asked_by one)
command_in_range met c one e is =
    let asked : IfSome (option_map asked_by c) IsInRange = rw e (named_in_range met) in
    subst (λ (o : Option Command). IfSome (option_map asked_by o) IsInRange) is asked
