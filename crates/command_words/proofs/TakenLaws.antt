-- The words of a `serve` and of a load are taken, whatever the path and the numbers are.
use Rattle.std.proofs.Common.{◌≡◌, ◌≢◌, ◌≤◌, ◌<◌, ◌^◌, ◌∙◌, ◌==◌, ◌≤ℤ◌, ℕ, true, false, List, [], ◌∷◌, Some, None, codes}
use Rattle.std.proofs.Common.{fold, pos, FitsSigned, w64, is_some, refl, ap, arith, rules, length, slice_get}
use Rattle.std.specs.Str.{bytes_eq}
use Rattle.std.specs.Str.Parse.{IsNumeral, digits_value}
use Rattle.std.specs.Fmt.{decimal}
use Rattle.std.proofs.lemmas.Bool.{lt-ltb, ne_eqb}
use Rattle.std.proofs.lemmas.Fmt.{decimal_is_IsNumeral}
use Rattle.std.proofs.lemmas.Str.Parse.{digit_from_value}
use Rattle.clap.specs.Lexer.{long_of, short_of, without_minus}
use Rattle.clap.specs.Kinds.{or_else}
use Rattle.clap.specs.Walk.{Held, Row, Rule, Text, Walk, arg_by_index, finished, nothing_held, rows_after, settled, to_positional}
use Rattle.clap.specs.Walk.{value, walk, walk_from, walked, with_default}
use Rattle.clap.specs.Simple.{Shape, entered, names_of, subcommand_of}
use Rattle.clap.specs.Faults.{check_fault, defaults_fault, entered_fault, fault_of, level_fault, settle_fault, step_fault, turn_fault}
use Rattle.clap.specs.Faults.{walk_fault}
use Rattle.clap.specs.ValueTests.{accepts, is_unsigned_in}
use Rattle.clap.proofs.OnLiterals.{clap_on_literals}
use Rattle.clap.proofs.ValueTestLemmas.{Accepts-accepts}
use Rattle.command_words.specs.CommandLine.{command_line, command_of, number_if}
use Rattle.command_words.specs.CommandLine.Asked.{Serve, Load}
use Rattle.command_words.proofs.BuiltLine.{AreApart, Field, answers_field, count_field, line_built, load_apart, number_field}
use Rattle.command_words.proofs.BuiltLine.{number_parser, pair_built, path_field, row_with, serve_apart}
use Rattle.command_words.proofs.DefaultLaws.{all_finished, no_defaults_fault}
use Rattle.command_words.proofs.NumberLaws.{is_within}

-- ---- a word that is a value

-- the word is neither `--` nor an option
pub record IsPlain (text : Text) : Type 0 where
  pub no_end : bytes_eq text (45 ∷ 45 ∷ []) ≡ false
  pub no_long : long_of text ≡ None
  pub no_short : short_of text ≡ None

-- a word with no hyphen in front is plain
plain_word : (d : ℕ) (ds : Text) → (d == 45) ≡ false → IsPlain (d ∷ ds)
plain_word d ds e = record { no_end = rw e refl; no_long = rw e refl; no_short = rw e refl }

-- the walk of a command with no subcommand, before the value at this place
abbrev before_value : ℕ → Held → Walk
before_value position h = record (walk_from h) { position = position }

-- a plain word goes to the argument at its place
walked_value : (c : List Rule) (position : ℕ) (text : Text) (h : Held) → IsPlain text
    → walked c [] (before_value position h) text
    ≡ to_positional c (arg_by_index c position) text (before_value position h) h
unfolding walked
walked_value c position text h plain = rw (plain.no_end, plain.no_long, plain.no_short) refl

-- it fails only where that argument does
value_fault : (s : Shape) (position : ℕ) (text : Text) (h : Held) → IsPlain text
    → turn_fault s [] (before_value position h) text ≡ step_fault s position h value
value_fault s position text h plain = rw (plain.no_end, plain.no_long, plain.no_short) refl

-- ---- a command of two arguments

module _ (name : Text) (first second : Field) (apart : AreApart first second) where
  abbrev pair : Shape
  pair = pair_built name first second

  -- what is held after the first word
  abbrev held_after_one : Text → Held
  held_after_one one = record nothing_held { pending = Some (first.name, one ∷ []) }

  -- and after the second
  abbrev held_after_two : Text → Text → Held
  held_after_two one two = record nothing_held {
    rows = row_with first (one ∷ []) ∷ [];
    pending = Some (second.name, two ∷ []);
  }

  -- the first word is the value of the first argument
  walked_one : (one : Text) → IsPlain one
      → walked pair.rules [] (walk_from nothing_held) one ≡ before_value 2 (held_after_one one)
  walked_one one plain = walked_value pair.rules 1 one nothing_held plain

  -- the second is the value of the second
  walked_two : (one two : Text) → IsPlain two
      → walked pair.rules [] (before_value 2 (held_after_one one)) two
      ≡ before_value 3 (held_after_two one two)
  walked_two one two plain =
      walked_value pair.rules 2 two (held_after_one one) plain
      ∙ rw (apart.names, apart.first_name) refl

  -- the walk over both
  walk_two : (one two : Text) → IsPlain one → IsPlain two
      → walk pair.rules [] nothing_held (one ∷ two ∷ []) ≡ before_value 3 (held_after_two one two)
  walk_two one two p q =
      ap (λ w. walked pair.rules [] w two) (walked_one one p) ∙ walked_two one two q

  -- none of the two words fails
  walk_two_fault : (one two : Text) → IsPlain one → IsPlain two → accepts false first.parser one ≡ true
      → walk_fault pair [] (walk_from nothing_held) (one ∷ two ∷ []) ≡ []
  unfolding walk_fault
  walk_two_fault one two p q accepted =
      let at_first = value_fault pair 1 one nothing_held p in
      let at_second = value_fault pair 2 two (held_after_one one) q in
      rw (at_first, walked_one one p, at_second, apart.names, apart.first_name, accepted) refl

  -- the rows of both
  abbrev both_rows : Text → Text → List Row
  both_rows one two = row_with first (one ∷ []) ∷ row_with second (two ∷ []) ∷ []

  -- at the end of the walk the second gets its row
  settled_two : (one two : Text)
      → settled pair.rules (held_after_two one two) ≡ record nothing_held { rows = both_rows one two }
  settled_two one two = rw (apart.names, apart.second_name, apart.names, apart.names) refl

  finished_two : (one two : Text) → finished pair.rules (held_after_two one two) ≡ both_rows one two
  finished_two one two =
      ap (λ h. fold with_default h.rows pair.rules) (settled_two one two)
      ∙ all_finished (both_rows one two) pair.rules (refl, (refl, (refl, tt)))

  -- and doesn't fail
  settle_two_fault : (one two : Text) → accepts false second.parser two ≡ true
      → settle_fault pair.rules false (held_after_two one two) ≡ []
  settle_two_fault one two accepted = rw (apart.names, apart.second_name, apart.names, accepted) refl

  -- no required argument is missing
  check_two : (one two : Text) → check_fault pair (both_rows one two) false ≡ []
  check_two one two = rw (apart.first_name, apart.names, apart.second_name) refl

  -- so nothing fails after the walk
  end_fault : (one two : Text) → accepts false second.parser two ≡ true
      → or_else (settle_fault pair.rules false (held_after_two one two))
      (or_else (defaults_fault (settled pair.rules (held_after_two one two)).rows pair.rules)
      (check_fault pair (finished pair.rules (held_after_two one two)) false)) ≡ []
  end_fault one two accepted =
      let h = held_after_two one two in
      ap (λ k. or_else k (or_else (defaults_fault (settled pair.rules h).rows pair.rules) (check_fault pair (finished pair.rules h) false)))
      (settle_two_fault one two accepted)
      ∙ ap (λ k. or_else k (check_fault pair (finished pair.rules h) false))
      (no_defaults_fault (settled pair.rules h).rows pair.rules (refl, (refl, (refl, tt))))
      ∙ ap (λ rows. check_fault pair rows false) (finished_two one two) ∙ check_two one two

  -- so the command takes both words
  pair_fault : (one two : Text) → IsPlain one → IsPlain two
      → accepts false first.parser one ≡ true → accepts false second.parser two ≡ true
      → level_fault pair [] nothing_held (one ∷ two ∷ []) false [] ≡ []
  pair_fault one two p q one_accepted two_accepted =
      let walking = walk_two_fault one two p q one_accepted in
      rw (walking, walk_two one two p q) (end_fault one two two_accepted)

  -- and has them as its rows
  pair_rows : (one two : Text) → IsPlain one → IsPlain two
      → rows_after pair.rules [] (one ∷ two ∷ [])
      ≡ row_with first (one ∷ []) ∷ row_with second (two ∷ []) ∷ []
  pair_rows one two p q =
      ap (λ (w : Walk). finished pair.rules w.held) (walk_two one two p q) ∙ finished_two one two

-- ---- the command line

module _ (name : Text) (first second : Field) (apart : AreApart first second)
    (stops : (one two : Text) → (walk line_built.top.rules (names_of line_built) nothing_held (name ∷ one ∷ two ∷ [])).stopped
    ≡ Some (name, one ∷ two ∷ []))
    (passes : (one two : Text) → level_fault line_built.top (names_of line_built) nothing_held (name ∷ one ∷ two ∷ []) true [] ≡ [])
    (enters : (one two : Text) → entered line_built (Some (name, one ∷ two ∷ []))
    ≡ Some (name, rows_after (pair_built name first second).rules [] (one ∷ two ∷ [])))
    (enters_fault : (one two : Text) → entered_fault line_built (Some (name, one ∷ two ∷ []))
    ≡ level_fault (pair_built name first second) [] nothing_held (one ∷ two ∷ []) false []) where
  -- clap refuses none of the words
  words_fault : (one two : Text) → IsPlain one → IsPlain two
      → accepts false first.parser one ≡ true → accepts false second.parser two ≡ true
      → fault_of command_line (name ∷ one ∷ two ∷ []) ≡ []
  words_fault one two p q one_accepted two_accepted =
      let names = names_of line_built in
      let words = name ∷ one ∷ two ∷ [] in
      let below = enters_fault one two ∙ pair_fault name first second apart one two p q one_accepted two_accepted in
      ap (λ stop. level_fault line_built.top names nothing_held words (is_some (entered line_built stop))
      (entered_fault line_built stop)) (stops one two)
      ∙ rw (enters one two, below) (passes one two)

  -- and hands on the command with its rows
  words_rows : (one two : Text) → IsPlain one → IsPlain two
      → subcommand_of command_line (name ∷ one ∷ two ∷ [])
      ≡ Some (name, row_with first (one ∷ []) ∷ row_with second (two ∷ []) ∷ [])
  words_rows one two p q =
      ap (entered line_built) (stops one two) ∙ enters one two
      ∙ ap (λ (rows : List Row). Some (name, rows)) (pair_rows name first second apart one two p q)

-- ---- a number

-- the text is a value that the parser takes, and that is read as this number
pub record IsNumberText (least most n : ℕ) (text : Text) : Type 0 where
  pub plain : IsPlain text
  pub accepted : accepts false (number_parser least most) text ≡ true
  pub as_written : without_minus text ≡ text
  pub number : number_if (is_unsigned_in least most text) text ≡ Some n

-- a number in the range fits an `i64`
bounds_of : (least n most : ℕ) → least ≤ n → n ≤ most → most < 2 ^ 32
    → FitsSigned w64 (pos n) × (pos least ≤ℤ pos n) × (pos n ≤ℤ pos most)
bounds_of least n most ge le small = (search rules, search rules, search rules)

-- digits are such a text
number_text : (least most n : ℕ) (text : Text) → most < 2 ^ 32 → least ≤ n → n ≤ most
    → IsNumeral 10 text → digits_value 10 text ≡ n → IsNumberText least most n text
number_text least most n [] small ge le numeral same = absurd (omega (arith, numeral.0))
number_text least most n (d ∷ ds) small ge le numeral same =
    let digit = digit_from_value d numeral.1.0 in
    let minus : (d == 45) ≡ false = ne_eqb _ _ (λ e. omega (arith, digit)) in
    let plus : (d == 43) ≡ false = ne_eqb _ _ (λ e. omega (arith, digit)) in
    let bounds = bounds_of least n most ge le small in
    let within : is_unsigned_in least most (d ∷ ds) ≡ true =
    is_within least most (d ∷ ds) small (rw plus numeral) (rw plus (omega (arith, same, ge))) (rw plus (omega (arith, same, le))) in
    record {
      plain = plain_word d ds minus;
      accepted = Accepts-accepts false (number_parser least most) (d ∷ ds)
          (rw (minus, plus, same) (numeral, bounds.0, bounds.1, bounds.2));
      as_written = rw minus refl;
      number = rw (within, plus, same) refl;
    }

-- a number in decimal is such a text
decimal_text : (least most n : ℕ) → most < 2 ^ 32 → least ≤ n → n ≤ most → IsNumberText least most n (decimal n)
decimal_text least most n small ge le =
    let read = decimal_is_IsNumeral n (omega arith) in
    number_text least most n (decimal n) small ge le read.0 read.1

-- ---- the command `serve`

abbrev serve_words : Text → Text → List Text
serve_words path answers = codes "serve" ∷ path ∷ answers ∷ []

-- the walk of the command line stops at `serve`
stop_at_serve : (path answers : Text)
    → (walk line_built.top.rules (names_of line_built) nothing_held (serve_words path answers)).stopped
    ≡ Some (codes "serve", path ∷ answers ∷ [])
unfolding walked
stop_at_serve path answers = refl

-- and passes where `serve` does
serve_passes : (path answers : Text)
    → level_fault line_built.top (names_of line_built) nothing_held (serve_words path answers) true [] ≡ []
unfolding clap_on_literals
serve_passes path answers = refl

-- a path that is taken and a number have the command `serve`
serve_named : (d : ℕ) (ds answers : Text) (n : ℕ) → (d == 45) ≡ false → IsNumberText 1 1000000000 n answers
    → command_of (serve_words (d ∷ ds) answers) ≡ Some (Serve (d ∷ ds) n)
serve_named d ds answers n plain g =
    let path_plain = plain_word d ds plain in
    let fault = words_fault (codes "serve") path_field answers_field serve_apart stop_at_serve serve_passes
    (λ path answers. refl) (λ path answers. refl) (d ∷ ds) answers path_plain g.plain
    (lt-ltb 0 (length (d ∷ ds)) (omega arith)) g.accepted in
    let rows = words_rows (codes "serve") path_field answers_field serve_apart stop_at_serve serve_passes
    (λ path answers. refl) (λ path answers. refl) (d ∷ ds) answers path_plain g.plain in
    rw (fault, rows, g.as_written, g.number) refl

-- a path with no hyphen in front and answers in decimal have the command `serve`
pub serve_of_path : (path : Text) (answers : ℕ) → 0 < length path → slice_get path 0 ≢ Some 45
    → 1 ≤ answers → answers ≤ 1000000000 → command_of (serve_words path (decimal answers)) ≡ Some (Serve path answers)
serve_of_path [] answers some plain ge le = absurd (omega (arith, some))
serve_of_path (d ∷ ds) answers some plain ge le =
    serve_named d ds (decimal answers) answers (ne_eqb d 45 (λ e. plain (ap (λ (x : ℕ). Some x) e)))
    (decimal_text 1 1000000000 answers (omega arith) ge le)

-- ---- the command `load`

abbrev load_words : Text → Text → List Text
load_words number count = codes "load" ∷ number ∷ count ∷ []

-- the walk of the command line stops at `load`
stop_at_load : (number count : Text)
    → (walk line_built.top.rules (names_of line_built) nothing_held (load_words number count)).stopped
    ≡ Some (codes "load", number ∷ count ∷ [])
unfolding walked
stop_at_load number count = refl

-- and passes where `load` does
load_passes : (number count : Text)
    → level_fault line_built.top (names_of line_built) nothing_held (load_words number count) true [] ≡ []
unfolding clap_on_literals
load_passes number count = refl

-- two such texts have the load of their numbers
load_named : (number count : Text) (m n : ℕ) → IsNumberText 0 4294967295 m number → IsNumberText 0 1000000 n count
    → command_of (load_words number count) ≡ Some (Load m n)
load_named number count m n f g =
    let fault = words_fault (codes "load") number_field count_field load_apart stop_at_load load_passes
    (λ number count. refl) (λ number count. refl) number count f.plain g.plain f.accepted g.accepted in
    let rows = words_rows (codes "load") number_field count_field load_apart stop_at_load load_passes
    (λ number count. refl) (λ number count. refl) number count f.plain g.plain in
    rw (fault, rows, f.as_written, g.as_written, f.number, g.number) refl

-- a load of two numbers in decimal has these numbers
pub load_of_decimals : (number count : ℕ) → number ≤ 4294967295 → count ≤ 1000000
    → command_of (load_words (decimal number) (decimal count)) ≡ Some (Load number count)
load_of_decimals number count number_le count_le =
    let m = decimal_text 0 4294967295 number (omega arith) (omega arith) number_le in
    let n = decimal_text 0 1000000 count (omega arith) (omega arith) count_le in
    load_named (decimal number) (decimal count) number count m n
