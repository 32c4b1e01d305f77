-- Where clap takes the words of a command of two arguments, their rows hold values that the command reads.
use Rattle.std.proofs.Common.{◌≡◌, ◌&&◌, ◌||◌, ◌++◌, Bool, true, false, not, List, [], ◌∷◌, cond, find}
use Rattle.std.proofs.Common.{length, ℕ, refl, IfSome, slice_get, ◌∙◌}
use Rattle.std.specs.List.{AllByRecursion, list_all}
use Rattle.std.specs.Option.{option_map_or}
use Rattle.std.specs.Str.{bytes_eq}
use Rattle.std.proofs.lemmas.List.Folds.{list_all-append}
use Rattle.clap.specs.Kinds.{check_kinds, range_kinds}
use Rattle.clap.specs.Values.{reading_of, refused_kind}
use Rattle.clap.specs.ValueTests.{accepts}
use Rattle.clap.specs.Walk.{Row, Rule, Text, at_row, finished, more_values, nothing_held, rows_after}
use Rattle.clap.specs.Walk.{settled, walk, walk_from, without}
use Rattle.clap.specs.Simple.{Shape, filled, help_rule}
use Rattle.clap.specs.Takes.{is_given}
use Rattle.clap.specs.Faults.{check_fault, defaults_fault, level_fault, repeat_fault, settle_fault, walk_fault}
use Rattle.clap.specs.declared.builder.value_parser.Reading.{Reading}
use Rattle.clap.specs.declared.error.kind.ErrorKind.{ErrorKind}
use Rattle.clap.specs.declared.parser.matches.ValueSource.{ValueSource}
use Rattle.clap.specs.declared.parser.matches.ValueSource.TheVariants.{CommandLine}
use Rattle.clap.proofs.WalkLemmas.{both}
use Rattle.command_words.proofs.BuiltLine.{AreApart, Field, field_built, pair_built, row_with}
use Rattle.command_words.proofs.LevelLaws.{UseKeeps, both_pass, settled_keeps, walk_keeps}
use Rattle.command_words.proofs.DefaultLaws.{all_finished}
use Rattle.command_words.proofs.NumberLaws.{by_test}

-- ---- rows

-- the command reads a value by this test
abbrev pub Test : Type 0
Test = Reading → Text → Bool

-- the first value of the row passes
abbrev pub passes : Test → Row → Bool
passes reads r = option_map_or (reads r.reading) (slice_get r.values 0) false

-- the argument has a row, whose first value passes
abbrev pub is_read : Test → Text → List Row → Bool
is_read reads name rows = option_map_or (passes reads) (find (λ r. bytes_eq r.id name) rows) false

-- where the row is this argument's, it passes
abbrev is_read_as : Text → Test → Row → Bool
is_read_as name reads r = not (bytes_eq r.id name) || passes reads r

both_true : (a b : Bool) → a ≡ true → b ≡ true → (a && b) ≡ true
both_true a b p q = rw (p, q) refl

-- from what a named row holds to what it holds
where_named : (a b c : Bool) → (b ≡ true → c ≡ true) → (not a || b) ≡ true → (not a || c) ≡ true
where_named true b c step e = step e
where_named false b c step e = refl

as_named : (a b : Bool) → a ≡ true → (not a || b) ≡ true → b ≡ true
as_named true b is e = e
as_named false b is e = absurd cc

always : (a b : Bool) → b ≡ true → (not a || b) ≡ true
always true b e = e
always false b e = refl

-- more values leave the first one where it is
more_texts : (reads : Test) (how : Reading) (values more : List Text)
    → option_map_or (reads how) (slice_get values 0) false ≡ true
    → option_map_or (reads how) (slice_get (values ++ more) 0) false ≡ true
more_texts reads how [] more e = absurd cc
more_texts reads how (v ∷ vs) more e = e

-- what is found among things that all have Q has Q
find_has : {X : Type 0} (Q : X → Type 0) (test : X → Bool) (xs : List X) → AllByRecursion Q xs → IfSome (find test xs) Q
find_has Q test [] all = tt
find_has Q test (x ∷ xs) all = by_test (test x) (λ is. rw is all.0) (λ is. rw is (find_has Q test xs all.1))

-- where no required argument is missing, both were given
both_given : (first second : Bool) → check_kinds false false (not first || (not second || false)) ≡ []
    → (first ≡ true) × (second ≡ true)
both_given true true e = (refl, refl)
both_given true false e = absurd cc
both_given false second e = absurd cc

-- a value that isn't refused is accepted
accepted_value : (b : Bool) (kind : ErrorKind) → cond b [] (kind ∷ []) ≡ [] → b ≡ true
accepted_value true kind e = refl
accepted_value false kind e = absurd cc

-- ---- both arguments

-- what the parser of the argument takes, the command reads
abbrev pub Reads : Test → Field → Type 0
Reads reads f = (v : Text) → accepts false f.parser v ≡ true → reads (reading_of f.parser) v ≡ true

module _ (name : Text) (first second : Field) (apart : AreApart first second) (reads_first reads_second : Test) where
  abbrev pair : Shape
  pair = pair_built name first second

  abbrev is_good : Row → Bool
  is_good r = is_read_as first.name reads_first r && is_read_as second.name reads_second r

  abbrev AllGood : List Row → Type 0
  AllGood rows = list_all is_good rows ≡ true

  -- a good row with more values is good
  more_good : (source : ValueSource) (more : List Text) (r : Row) → is_good r ≡ true → AllGood (more_values source more r)
  more_good source more r e =
      let parts = both (is_read_as first.name reads_first r) _ e in
      let step_first = more_texts reads_first r.reading r.values more in
      let good_first = where_named (bytes_eq r.id first.name) _ _ step_first parts.0 in
      let step_second = more_texts reads_second r.reading r.values more in
      let good_second = where_named (bytes_eq r.id second.name) _ _ step_second parts.1 in
      both_true _ true (both_true _ _ good_first good_second) refl

  -- a change of one row that keeps it good keeps all good
  at_row_good : (id : Text) (change : Row → List Row) (missing : List Row)
      → ((r : Row) → is_good r ≡ true → AllGood (change r)) → AllGood missing
      → (rows : List Row) → AllGood rows → AllGood (at_row id change missing rows)
  at_row_good id change missing changed new [] ok = new
  at_row_good id change missing changed new (r ∷ rs) ok =
      let parts = both (is_good r) _ ok in
      by_test (bytes_eq r.id id)
      (λ is. rw is (list_all-append is_good (change r) rs ∙ both_true _ _ (changed r parts.0) parts.1))
      (λ is. rw is (both_true _ _ parts.0 (at_row_good id change missing changed new rs parts.1)))

  -- a use of an argument keeps all good, where its new row is good
  field_keeps : (position : ℕ) (f : Field)
      → ((v : Text) (vs : List Text) → accepts false f.parser v ≡ true → is_good (row_with f (v ∷ vs)) ≡ true)
      → UseKeeps false AllGood (field_built position f)
  field_keeps position f new [] rows e ok = absurd cc
  field_keeps position f new (v ∷ vs) rows e ok =
      let in_range = both_pass (range_kinds 1 1 (length (v ∷ vs))) _ e in
      let once = both_pass (repeat_fault false f.name rows) _ in_range.1 in
      let taken = both_pass (cond (accepts false f.parser v) [] (refused_kind f.parser ∷ [])) _ once.1 in
      let new_good = new v vs (accepted_value (accepts false f.parser v) (refused_kind f.parser) taken.0) in
      let others_good = at_row_good f.name (λ r. []) [] (λ r e. refl) refl rows ok in
      at_row_good f.name (more_values CommandLine (v ∷ vs)) (row_with f (v ∷ vs) ∷ [])
      (more_good CommandLine (v ∷ vs)) (both_true _ true new_good refl) (without f.name rows) others_good

  module _ (first_reads : Reads reads_first first) (second_reads : Reads reads_second second) where
    first_keeps : UseKeeps false AllGood (field_built 1 first)
    first_keeps = field_keeps 1 first
        (λ v vs accepted. both_true _ _ (always (bytes_eq first.name first.name) _ (first_reads v accepted))
        (rw apart.names refl))

    second_keeps : UseKeeps false AllGood (field_built 2 second)
    second_keeps = field_keeps 2 second
        (λ v vs accepted. both_true _ _ (rw apart.names_back refl)
        (always (bytes_eq second.name second.name) _ (second_reads v accepted)))

    -- each argument keeps all good; the third is `--help`, which makes no row
    pair_keeps : (test : Rule → Bool)
        → IfSome (find test pair.rules)
        (UseKeeps pair.args_override_self AllGood)
    pair_keeps test =
        let help_keeps : UseKeeps false AllGood (filled help_rule) = λ values rows e ok. ok in
        find_has (UseKeeps false AllGood) test pair.rules
        (first_keeps, (second_keeps, (help_keeps, tt)))

    -- the row of an argument that was given passes
    given_is_read : (id : Text) (reads : Test) → ((r : Row) → is_good r ≡ true → is_read_as id reads r ≡ true)
        → (rows : List Row) → AllGood rows → is_given id rows ≡ true → is_read reads id rows ≡ true
    given_is_read id reads good [] ok given = absurd cc
    given_is_read id reads good (r ∷ rs) ok given =
        let parts = both (is_good r) _ ok in
        by_test (bytes_eq r.id id)
        (λ is. rw is (as_named (bytes_eq r.id id) (passes reads r) is (good r parts.0)))
        (λ is. rw is (given_is_read id reads good rs parts.1 (rw is at given)))

    -- rows that clap takes hold both
    rows_are_read : (rows : List Row) → AllGood rows → check_fault pair rows false ≡ []
        → (is_read reads_first first.name rows ≡ true) × (is_read reads_second second.name rows ≡ true)
    rows_are_read rows ok e =
        let given = both_given (is_given first.name rows) (is_given second.name rows) e in
        let parts = λ (r : Row) (good : is_good r ≡ true). both (is_read_as first.name reads_first r) _ good in (
          given_is_read first.name reads_first (λ r good. (parts r good).0) rows ok given.0,
          given_is_read second.name reads_second (λ r good. (parts r good).1) rows ok given.1,
        )

    -- words that clap takes for the command have both
    pub pair_is_read : (words : List Text)
        → level_fault pair [] nothing_held words false [] ≡ []
        → (is_read reads_first first.name (rows_after pair.rules [] words) ≡ true)
        × (is_read reads_second second.name (rows_after pair.rules [] words) ≡ true)
    pair_is_read words e =
        let end = (walk pair.rules [] nothing_held words).held in
        let walking = both_pass (walk_fault pair [] (walk_from nothing_held) words) _ e in
        let settling = both_pass (settle_fault pair.rules pair.args_override_self end) _ walking.1 in
        let checking = both_pass (defaults_fault (settled pair.rules end).rows pair.rules) _ settling.1 in
        let end_good : AllGood end.rows =
        walk_keeps pair AllGood pair_keeps [] (walk_from nothing_held) words walking.0 refl in
        let good : AllGood (settled pair.rules end).rows =
        settled_keeps pair.rules pair.args_override_self AllGood pair_keeps end settling.0 end_good in
        let same = all_finished (settled pair.rules end).rows pair.rules (refl, (refl, (refl, tt))) in
        rows_are_read (finished pair.rules end) (rw same good) checking.1
