-- The subcommand at which a walk stops is not `help`, where none of its turns fails.
use Rattle.std.proofs.Common.{◌≡◌, ◌&&◌, Bool, true, false, not, List, [], ◌∷◌, Option, Some, None, codes, cond, fold, ℕ}
use Rattle.std.proofs.Common.{refl, is_some}
use Rattle.std.specs.Str.{bytes_eq}
use Rattle.clap.specs.Lexer.{long_of, short_of}
use Rattle.clap.specs.Kinds.{or_else}
use Rattle.clap.specs.Walk.{Held, Names, Outcome, Rule, Step, Text, Waiting, Walk, after_flag, after_step, arg_by_index}
use Rattle.clap.specs.Walk.{arg_by_long, bundle, done, idle, long_met, long_or_other, next, option, plain, plain_word}
use Rattle.clap.specs.Walk.{positional, refused, short_or_plain, subcommand, subcommand_met, subcommand_or_other}
use Rattle.clap.specs.Walk.{to_positional, trailing, value, waits, walked, walked_from, word_met}
use Rattle.clap.specs.Simple.{Shape}
use Rattle.clap.specs.Faults.{other_fault, step_fault, turn_fault, walk_fault, word_fault}
use Rattle.clap.specs.declared.error.kind.ErrorKind.TheVariants as kind
use Rattle.command_words.proofs.LevelLaws.{both_pass}

-- the step is into the subcommand `help`
abbrev is_help_step : Step → Bool
is_help_step (subcommand name) = bytes_eq name (codes "help")
is_help_step _ = false

-- the walk stopped at `help`
abbrev pub is_at_help : Option (Text × List Text) → Bool
is_at_help None = false
is_at_help (Some p) = bytes_eq p.0 (codes "help")

-- a word that asks for help is a fault
not_asked : (is_help is_disabled : Bool) → is_disabled ≡ false
    → cond (is_help && not is_disabled) (kind.DisplayHelp ∷ kind.InvalidSubcommand ∷ []) [] ≡ [] → is_help ≡ false
not_asked true true enabled e = absurd cc
not_asked true false enabled e = absurd cc
not_asked false is_disabled enabled e = refl

module _ (s : Shape) (enabled : s.disable_help_subcommand ≡ false) where
  -- a word that is no subcommand's name is no step into one
  plain_step : (waiting : Waiting) (word : Text) (h : Held) → is_help_step (plain_word s.rules waiting word h).1 ≡ false
  plain_step idle word h = refl
  plain_step (option id) word h = refl
  plain_step positional word h = refl

  after_flag_step : (waiting : Waiting) (word : Text) (h : Held) (o : Outcome)
      → is_help_step (after_flag s.rules waiting word h o).1 ≡ false
  after_flag_step waiting word h done = refl
  after_flag_step waiting word h (waits id) = refl
  after_flag_step waiting word h plain = plain_step waiting word h
  after_flag_step waiting word h refused = plain_step waiting word h

  short_or_plain_step : (flags : Option Text) (waiting : Waiting) (word : Text) (h : Held)
      → is_help_step (short_or_plain s.rules waiting word flags h).1 ≡ false
  short_or_plain_step None waiting word h = plain_step waiting word h
  short_or_plain_step (Some flags) waiting word h =
      let met = bundle s.rules flags h in
      after_flag_step waiting word met.0 met.1

  long_or_other_step : (name : Option (Text × Option Text)) (waiting : Waiting) (word : Text) (h : Held)
      → is_help_step (long_or_other s.rules waiting word name h).1 ≡ false
  long_or_other_step None waiting word h = short_or_plain_step (short_of word) waiting word h
  long_or_other_step (Some p) waiting word h =
      let met = long_met s.rules (arg_by_long s.rules p.0) p.1 h in
      after_flag_step waiting word met.0 met.1

  end_or_flag_step : (is_end : Bool) (waiting : Waiting) (position : ℕ) (word : Text) (h : Held)
      → is_help_step (cond is_end (h, trailing position) (long_or_other s.rules waiting word (long_of word) h)).1 ≡ false
  end_or_flag_step true waiting position word h = refl
  end_or_flag_step false waiting position word h = long_or_other_step (long_of word) waiting word h

  -- a word that doesn't fail is no step into `help`
  other_step : (name : Option Text) (waiting : Waiting) (position : ℕ) (word : Text) (h : Held)
      → other_fault s name word h ≡ []
      → is_help_step (subcommand_or_other s.rules name waiting position word h).1 ≡ false
  other_step None waiting position word h e = end_or_flag_step (bytes_eq word (45 ∷ 45 ∷ [])) waiting position word h
  other_step (Some name) waiting position word h e =
      not_asked (bytes_eq name (codes "help")) s.disable_help_subcommand enabled e

  word_step : (names : Names) (is_trailing : Bool) (waiting : Waiting) (position : ℕ) (word : Text) (h : Held)
      → word_fault s names is_trailing waiting word h ≡ []
      → is_help_step (word_met s.rules names is_trailing waiting position word h).1 ≡ false
  word_step names true waiting position word h e = refl
  word_step names false waiting position word h e =
      other_step (subcommand_met names waiting word) waiting position word h e

  -- a step that is none into `help` stops at no `help`
  to_positional_stop : (o : Option Rule) (word : Text) (w : Walk) (h : Held) → is_at_help w.stopped ≡ false
      → is_at_help (to_positional s.rules o word w h).stopped ≡ false
  to_positional_stop None word w h ok = ok
  to_positional_stop (Some a) word w h ok = refl

  step_stop : (step : Step) (word : Text) (w : Walk) (h : Held) → is_at_help w.stopped ≡ false
      → is_help_step step ≡ false → is_at_help (after_step s.rules word w h step).stopped ≡ false
  step_stop (next waiting) word w h ok e = ok
  step_stop (trailing position) word w h ok e = ok
  step_stop (subcommand name) word w h ok e = e
  step_stop value word w h ok e = to_positional_stop (arg_by_index s.rules w.position) word w h ok

  -- nor does a turn
  turn_stop : (stop : Option (Text × List Text)) (names : Names) (w : Walk) (word : Text)
      → (let met = word_met s.rules names w.is_trailing w.waiting w.position word w.held in
      cond (is_some stop) []
      (or_else (word_fault s names w.is_trailing w.waiting word w.held) (step_fault s w.position met.0 met.1)) ≡ [])
      → stop ≡ w.stopped → is_at_help stop ≡ false → is_at_help (walked_from s.rules names stop w word).stopped ≡ false
  turn_stop (Some p) names w word e same ok = ok
  turn_stop None names w word e same ok =
      let met = word_met s.rules names w.is_trailing w.waiting w.position word w.held in
      let parts = both_pass (word_fault s names w.is_trailing w.waiting word w.held) _ e in
      let no_help = word_step names w.is_trailing w.waiting w.position word w.held parts.0 in
      step_stop met.1 word w met.0 (rw (← same) refl) no_help

  walked_stop : (names : Names) (w : Walk) (word : Text) → turn_fault s names w word ≡ [] → is_at_help w.stopped ≡ false
      → is_at_help (walked s.rules names w word).stopped ≡ false
  unfolding walked
  walked_stop names w word e ok = turn_stop w.stopped names w word e refl ok

  -- nor the walk
  pub walk_stop : (names : Names) (w : Walk) (words : List Text) → walk_fault s names w words ≡ []
      → is_at_help w.stopped ≡ false → is_at_help (fold (walked s.rules names) w words).stopped ≡ false
  unfolding walk_fault
  walk_stop names w [] e ok = ok
  walk_stop names w (word ∷ rest) e ok =
      let parts = both_pass (turn_fault s names w word) _ e in
      walk_stop names (walked s.rules names w word) rest parts.1 (walked_stop names w word parts.0 ok)
