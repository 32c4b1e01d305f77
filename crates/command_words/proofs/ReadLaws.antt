-- What clap takes for an argument, the command reads; so it reads the words of a `serve` and of a load.
use Rattle.std.proofs.Common.{◌≡◌, ◌≤◌, ◌<◌, ◌^◌, ◌==◌, ◌≤ℤ◌, true, false, List, [], ◌∷◌, Option, Some, None, codes}
use Rattle.std.proofs.Common.{length, zero, suc, pos, neg_ℤ, ℕ, refl, arith, is_some, slice_get, option_map, option_and_then, find, leb→le}
use Rattle.std.specs.Prelude.{nat_lt}
use Rattle.std.specs.Option.{option_map_or}
use Rattle.std.specs.Str.{bytes_eq}
use Rattle.std.specs.Str.Parse.{IsNumeral, digits_value}
use Rattle.std.proofs.lemmas.Bool.{ne_eqb}
use Rattle.std.proofs.lemmas.Str.Parse.{digit_from_value}
use Rattle.clap.specs.Lexer.{without_minus}
use Rattle.clap.specs.Values.{IsSignedIn, read_as}
use Rattle.clap.specs.ValueTests.{accepts, is_unsigned_in}
use Rattle.clap.specs.Walk.{Row, Text, nonempty, nothing_held, row_text, rows_after}
use Rattle.clap.specs.Faults.{level_fault}
use Rattle.clap.specs.declared.builder.value_parser.Reading.{Reading}
use Rattle.clap.proofs.ValueTestLemmas.{accepts-Accepts}
use Rattle.command_words.specs.CommandLine.{load_in, load_of, number_if, number_in, serve_in, serve_of, text_in}
use Rattle.command_words.proofs.BuiltLine.{answers_field, count_field, load_apart, load_built, number_field, number_parser, path_field, serve_apart, serve_built}
use Rattle.command_words.proofs.NumberLaws.{by_test, is_within}
use Rattle.command_words.proofs.PairLaws.{Test, is_read, pair_is_read, passes}

-- ---- numbers

-- a number that isn't below zero with a minus in front is zero
none_below_zero : (n : ℕ) → pos 0 ≤ℤ neg_ℤ (pos n) → n ≡ 0
none_below_zero zero le = refl
none_below_zero (suc n) le = absurd le.le

-- nor is it at or above anything but zero
none_from : (least n : ℕ) → pos least ≤ℤ neg_ℤ (pos n) → (least ≡ 0) × (n ≡ 0)
none_from zero n le = (refl, none_below_zero n le)
none_from (suc least) zero le = absurd (omega (arith, leb→le (suc least) 0 le.le))
none_from (suc least) (suc n) le = absurd le.le

-- the order of numbers is that of integers
pos_le : (m n : ℕ) → pos m ≤ℤ pos n → m ≤ n
pos_le m n le = leb→le m n le.le

-- digits whose number is in the range pass as such a number
digits_are_within : (least most : ℕ) (text : Text) → most < 2 ^ 32 → IsNumeral 10 text → least ≤ digits_value 10 text
    → digits_value 10 text ≤ most → is_unsigned_in least most text ≡ true
digits_are_within least most [] small numeral ge le = absurd (omega (arith, numeral.0))
digits_are_within least most (d ∷ ds) small numeral ge le =
    let digit = digit_from_value d numeral.1.0 in
    let plus : (d == 43) ≡ false = ne_eqb _ _ (λ e. omega (arith, digit)) in
    is_within least most (d ∷ ds) small (rw plus numeral) (rw plus ge) (rw plus le)

-- without its minus, a signed number in the range is an unsigned one
signed_is_within : (least most d : ℕ) (ds : Text) → most < 2 ^ 32 → IsSignedIn (pos least) (pos most) (d ∷ ds)
    → is_unsigned_in least most (without_minus (d ∷ ds)) ≡ true
signed_is_within least most d ds small signed = by_test (d == 45)
    (λ minus.
    let parts = rw minus at signed in
    let none = none_from least (digits_value 10 ds) parts.2 in
    rw minus (digits_are_within least most ds small parts.0 (omega (arith, none.0)) (omega (arith, none.1))))
    (λ plain.
    let parts = rw plain at signed in
    rw plain (is_within least most (d ∷ ds) small parts.0 (pos_le _ _ parts.2) (pos_le _ _ parts.3)))

-- so is a text that the parser of an argument takes
accepted_is_within : (least most : ℕ) (text : Text) → most < 2 ^ 32 → accepts false (number_parser least most) text ≡ true
    → is_unsigned_in least most (without_minus text) ≡ true
accepted_is_within least most [] small e =
    let signed = accepts-Accepts false (number_parser least most) [] e in
    absurd (omega (arith, signed.0.0))
accepted_is_within least most (d ∷ ds) small e =
    signed_is_within least most d ds small (accepts-Accepts false (number_parser least most) (d ∷ ds) e)

-- the command reads such a number
abbrev reads_number : ℕ → ℕ → Test
reads_number least most how text = is_unsigned_in least most (read_as how text)

value_is_number : (least most : ℕ) (how : Reading) (values : List Text)
    → option_map_or (reads_number least most how) (slice_get values 0) false ≡ true
    → is_some (option_and_then (λ t. number_if (is_unsigned_in least most t) t)
    (option_map (read_as how) (slice_get values 0))) ≡ true
value_is_number least most how [] e = absurd cc
value_is_number least most how (v ∷ vs) e = rw e refl

row_is_number : (least most : ℕ) (o : Option Row) → option_map_or (passes (reads_number least most)) o false ≡ true
    → is_some (option_and_then (λ t. number_if (is_unsigned_in least most t) t) (option_and_then row_text o)) ≡ true
row_is_number least most None e = absurd cc
row_is_number least most (Some r) e = value_is_number least most r.reading r.values e

number_is_read : (least most : ℕ) (name : Text) (rows : List Row) → is_read (reads_number least most) name rows ≡ true
    → is_some (number_in least most name rows) ≡ true
number_is_read least most name rows e = row_is_number least most (find (λ r. bytes_eq r.id name) rows) e

-- ---- paths

-- the command reads a path that isn't empty
abbrev reads_path : Test
reads_path how text = nat_lt 0 (length text)

value_is_text : (how : Reading) (values : List Text) → option_map_or (reads_path how) (slice_get values 0) false ≡ true
    → is_some (option_and_then nonempty (slice_get values 0)) ≡ true
value_is_text how [] e = absurd cc
value_is_text how ([] ∷ vs) e = absurd cc
value_is_text how ((x ∷ xs) ∷ vs) e = refl

row_is_text : (o : Option Row) → option_map_or (passes reads_path) o false ≡ true
    → is_some (option_and_then nonempty (option_and_then (λ (r : Row). slice_get r.values 0) o)) ≡ true
row_is_text None e = absurd cc
row_is_text (Some r) e = value_is_text r.reading r.values e

path_is_read : (name : Text) (rows : List Row) → is_read reads_path name rows ≡ true
    → is_some (text_in name rows) ≡ true
path_is_read name rows e = row_is_text (find (λ r. bytes_eq r.id name) rows) e

-- ---- commands

-- a path and its answers make a `serve`
some_serve : (path : Option Text) (answers : Option ℕ) → is_some path ≡ true → is_some answers ≡ true
    → is_some (serve_of path answers) ≡ true
some_serve (Some path) (Some answers) p a = refl
some_serve (Some path) None p a = absurd cc
some_serve None answers p a = absurd cc

-- words that clap takes for a `serve` have a path and answers
pub serve_is_read : (words : List Text) → level_fault serve_built [] nothing_held words false [] ≡ []
    → is_some (serve_in (rows_after serve_built.rules [] words)) ≡ true
serve_is_read words e =
    let rows = rows_after serve_built.rules [] words in
    let parts = pair_is_read (codes "serve") path_field answers_field serve_apart
    reads_path (reads_number 1 1000000000) (λ v accepted. accepted)
    (λ v accepted. accepted_is_within 1 1000000000 v (omega arith) accepted) words e in
    some_serve (text_in (codes "PATH") rows) (number_in 1 1000000000 (codes "ANSWERS") rows)
    (path_is_read (codes "PATH") rows parts.0) (number_is_read 1 1000000000 (codes "ANSWERS") rows parts.1)

-- two numbers make a load
some_load : (number count : Option ℕ) → is_some number ≡ true → is_some count ≡ true
    → is_some (load_of number count) ≡ true
some_load (Some number) (Some count) n c = refl
some_load (Some number) None n c = absurd cc
some_load None count n c = absurd cc

-- words that clap takes for a load have a number and a count
pub load_is_read : (words : List Text) → level_fault load_built [] nothing_held words false [] ≡ []
    → is_some (load_in (rows_after load_built.rules [] words)) ≡ true
load_is_read words e =
    let rows = rows_after load_built.rules [] words in
    let parts = pair_is_read (codes "load") number_field count_field load_apart
    (reads_number 0 4294967295) (reads_number 0 1000000)
    (λ v accepted. accepted_is_within 0 4294967295 v (omega arith) accepted)
    (λ v accepted. accepted_is_within 0 1000000 v (omega arith) accepted) words e in
    some_load (number_in 0 4294967295 (codes "NUMBER") rows) (number_in 0 1000000 (codes "COUNT") rows)
    (number_is_read 0 4294967295 (codes "NUMBER") rows parts.0) (number_is_read 0 1000000 (codes "COUNT") rows parts.1)
