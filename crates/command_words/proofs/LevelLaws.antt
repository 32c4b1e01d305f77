-- What a walk over the words of a command keeps of its rows, where none of its turns fails.
use Rattle.std.proofs.Common.{◌≡◌, ◌&&◌, ℕ, zero, suc, Bool, true, false, List, [], ◌∷◌, Option, Some, None, cond, fold}
use Rattle.std.proofs.Common.{length, refl, subst, drop, is_some, IfSome, find, chars, encode_utf8, slice_get}
use Rattle.std.specs.Option.{option_map_or}
use Rattle.std.specs.Str.{bytes_eq}
use Rattle.clap.specs.Lexer.{long_of, short_of}
use Rattle.clap.specs.Kinds.{Kinds, or_else}
use Rattle.clap.specs.Walk.{Held, Names, Outcome, Row, Rule, Step, Text, Waiting, Walk, after_flag, after_step, arg_by_id}
use Rattle.clap.specs.Walk.{arg_by_index, arg_by_long, arg_by_short, attached_value, bundle, bundle_met, bundle_step, done}
use Rattle.clap.specs.Walk.{flag_met, idle, is_pending, long_met, long_or_other, next, option, option_met, option_word, plain}
use Rattle.clap.specs.Walk.{plain_word, positional, reacted, refused, settled, settled_rows, short_met, short_or_plain}
use Rattle.clap.specs.Walk.{subcommand, subcommand_met, subcommand_or_other, takes_several, takes_values, to_positional}
use Rattle.clap.specs.Walk.{trailing, used, used_by_id, value, waits, walked, walked_from, word_met}
use Rattle.clap.specs.Simple.{Shape}
use Rattle.clap.specs.Faults.{bundle_fault, bundle_step_fault, flag_word_fault, flags_fault, long_fault, option_fault}
use Rattle.clap.specs.Faults.{other_fault, positional_fault, react_fault, settle_fault, short_fault, step_fault, stray_fault}
use Rattle.clap.specs.Faults.{turn_fault, use_fault, walk_fault, word_fault}
use Rattle.clap.specs.declared.error.kind.ErrorKind.TheVariants as kind

-- where the first step that fails is looked for in vain, both pass
pub both_pass : (a b : Kinds) → or_else a b ≡ [] → (a ≡ []) × (b ≡ [])
both_pass [] b e = (refl, e)
both_pass (k ∷ ks) b e = absurd cc

-- a use of the argument that doesn't fail keeps P
abbrev pub UseKeeps : Bool → (List Row → Type 0) → Rule → Type 0
UseKeeps again P a =
    (values : List Text) (rows : List Row) → use_fault again a values rows ≡ [] → P rows → P (used a values rows)

-- ---- one word

module _ (c : List Rule) (again : Bool) (P : List Row → Type 0)
    (kept : (test : Rule → Bool) → IfSome (find test c) (UseKeeps again P)) where
  -- a use of the argument that was looked for keeps P
  by_id_keeps : (o : Option Rule) → IfSome o (UseKeeps again P) → (values : List Text) (rows : List Row)
      → option_map_or (λ a. use_fault again a values rows) o [] ≡ [] → P rows → P (used_by_id o values rows)
  by_id_keeps None use_keeps values rows e ok = ok
  by_id_keeps (Some a) use_keeps values rows e ok = use_keeps values rows e ok

  -- a use of what is pending keeps P
  settled_rows_keep : (p : Option (Text × List Text)) (rows : List Row)
      → option_map_or (λ p. option_map_or (λ a. use_fault again a p.1 rows) (arg_by_id c p.0) []) p [] ≡ []
      → P rows → P (settled_rows c p rows)
  settled_rows_keep None rows e ok = ok
  settled_rows_keep (Some p) rows e ok = by_id_keeps (arg_by_id c p.0) (kept (λ a. bytes_eq a.id p.0)) p.1 rows e ok

  pub settled_keeps : (h : Held) → settle_fault c again h ≡ [] → P h.rows → P (settled c h).rows
  settled_keeps h e ok = settled_rows_keep h.pending h.rows e ok

  -- and so does a use of an argument after it
  reacted_keeps : (a : Rule) → UseKeeps again P a → (values : List Text) (h : Held)
      → react_fault c again a values h ≡ [] → P h.rows → P (reacted c a values h).rows
  reacted_keeps a use_keeps values h e ok =
      let parts = both_pass (settle_fault c again h) _ e in
      use_keeps values (settled c h).rows parts.1 (settled_keeps h parts.0 ok)

  -- an option keeps P
  option_keeps : (a : Rule) → UseKeeps again P a → (v : Option Text) (h : Held)
      → option_fault c again a v h ≡ [] → P h.rows → P (option_met c a v h).0.rows
  option_keeps a use_keeps (Some v) h e ok = reacted_keeps a use_keeps (v ∷ []) h e ok
  option_keeps a use_keeps None h e ok = settled_keeps h e ok

  -- a flag keeps P
  flag_keeps : (a : Rule) → UseKeeps again P a → (v : Option Text) (h : Held)
      → cond (is_some v) (kind.TooManyValues ∷ []) (react_fault c again a [] h) ≡ [] → P h.rows
      → P (flag_met c a v h).0.rows
  flag_keeps a use_keeps (Some v) h e ok = ok
  flag_keeps a use_keeps None h e ok = reacted_keeps a use_keeps [] h e ok

  -- so a long name keeps P, whether it takes values or not
  option_or_flag_keeps : (takes : Bool) (a : Rule) → UseKeeps again P a → (v : Option Text) (h : Held)
      → cond takes (option_fault c again a v h)
      (cond (is_some v) (kind.TooManyValues ∷ []) (react_fault c again a [] h)) ≡ []
      → P h.rows → P (cond takes (option_met c a v h) (flag_met c a v h)).0.rows
  option_or_flag_keeps true a use_keeps v h e ok = option_keeps a use_keeps v h e ok
  option_or_flag_keeps false a use_keeps v h e ok = flag_keeps a use_keeps v h e ok

  long_keeps : (o : Option Rule) → IfSome o (UseKeeps again P) → (v : Option Text) (h : Held)
      → long_fault c again o v h ≡ [] → P h.rows → P (long_met c o v h).0.rows
  long_keeps None use_keeps v h e ok = ok
  long_keeps (Some a) use_keeps v h e ok = option_or_flag_keeps (takes_values a) a use_keeps v h e ok

  -- a short name keeps P, where the flags that follow it in its word do: `fault` and `more` are of these
  option_or_flags_keep : (takes : Bool) (a : Rule) → UseKeeps again P a → (v : Option Text) (h : Held)
      → (fault : Held → Kinds) (more : Held → Held × Outcome)
      → ((g : Held) → fault g ≡ [] → P g.rows → P (more g).0.rows)
      → cond takes (option_fault c again a v h) (or_else (react_fault c again a [] h) (fault (reacted c a [] h))) ≡ []
      → P h.rows → P (cond takes (option_met c a v h) (more (reacted c a [] h))).0.rows
  option_or_flags_keep true a use_keeps v h fault more more_keeps e ok = option_keeps a use_keeps v h e ok
  option_or_flags_keep false a use_keeps v h fault more more_keeps e ok =
      let parts = both_pass (react_fault c again a [] h) _ e in
      more_keeps (reacted c a [] h) parts.1 (reacted_keeps a use_keeps [] h parts.0 ok)

  short_keeps : (o : Option Rule) → IfSome o (UseKeeps again P) → (rest : Text) (h : Held)
      → (fault : Held → Kinds) (more : Held → Held × Outcome)
      → ((g : Held) → fault g ≡ [] → P g.rows → P (more g).0.rows)
      → short_fault c again o rest h fault ≡ [] → P h.rows → P (short_met c o rest h more).0.rows
  short_keeps None use_keeps rest h fault more more_keeps e ok = ok
  short_keeps (Some a) use_keeps rest h fault more more_keeps e ok =
      option_or_flags_keep (takes_values a) a use_keeps (attached_value rest) h fault more more_keeps e ok

  -- one character of a bundle of flags keeps P, where those after it do
  bundle_step_keeps : (x : Option ℕ) (flags : Text) (skip : ℕ) (so_far : Outcome) (h : Held)
      → (fault : Text → ℕ → Held → Kinds) (more : Text → ℕ → Outcome → Held → Held × Outcome)
      → ((t : Text) (n : ℕ) (o : Outcome) (g : Held) → fault t n g ≡ [] → P g.rows → P (more t n o g).0.rows)
      → bundle_step_fault c again x flags skip h fault ≡ [] → P h.rows
      → P (bundle_step c x flags skip so_far h more).0.rows
  bundle_step_keeps None flags skip so_far h fault more more_keeps e ok = ok
  bundle_step_keeps (Some x) flags zero so_far h fault more more_keeps e ok =
      let rest = drop (length (encode_utf8 x)) flags in
      short_keeps (arg_by_short c x) (kept _) rest h (fault rest 0) (more rest 0 done) (more_keeps rest 0 done) e ok
  bundle_step_keeps (Some x) flags (suc skip) so_far h fault more more_keeps e ok =
      more_keeps (drop (length (encode_utf8 x)) flags) skip so_far h e ok

  -- a bundle of flags keeps P
  bundle_keeps : (k : ℕ) (flags : Text) (skip : ℕ) (so_far : Outcome) (h : Held)
      → flags_fault c again k flags skip h ≡ [] → P h.rows → P (bundle_met c k flags skip so_far h).0.rows
  unfolding flags_fault bundle_met
  bundle_keeps zero flags skip so_far h e ok = ok
  bundle_keeps (suc k) flags skip so_far h e ok =
      bundle_step_keeps (slice_get (chars flags) 0) flags skip so_far h (flags_fault c again k) (bundle_met c k)
      (bundle_keeps k) e ok

  -- a word that is no flag leaves the rows as they are
  option_word_rows : (o : Option Rule) (id word : Text) (h : Held) → h.rows ≡ (option_word o id word h).0.rows
  option_word_rows None id word h = refl
  option_word_rows (Some a) id word h = refl

  plain_rows : (waiting : Waiting) (word : Text) (h : Held) → h.rows ≡ (plain_word c waiting word h).0.rows
  plain_rows idle word h = refl
  plain_rows (option id) word h = option_word_rows (arg_by_id c id) id word h
  plain_rows positional word h = refl

  -- and so does what comes after a flag in the same word
  after_flag_rows : (waiting : Waiting) (word : Text) (h : Held) (o : Outcome)
      → h.rows ≡ (after_flag c waiting word h o).0.rows
  after_flag_rows waiting word h done = refl
  after_flag_rows waiting word h (waits id) = refl
  after_flag_rows waiting word h plain = plain_rows waiting word h
  after_flag_rows waiting word h refused = plain_rows waiting word h

  -- a word keeps P that is flags, or none
  short_or_plain_keeps : (flags : Option Text) (waiting : Waiting) (word : Text) (h : Held)
      → option_map_or (λ f. bundle_fault c again f h) flags [] ≡ [] → P h.rows
      → P (short_or_plain c waiting word flags h).0.rows
  short_or_plain_keeps None waiting word h e ok = subst P (plain_rows waiting word h) ok
  short_or_plain_keeps (Some flags) waiting word h e ok =
      let met = bundle c flags h in
      let met_keeps = bundle_keeps (length flags) flags h.skip plain (record h { skip = 0 }) e ok in
      subst P (after_flag_rows waiting word met.0 met.1) met_keeps

  -- and one that is a long name, or none
  pub long_or_other_keeps : (name : Option (Text × Option Text)) (waiting : Waiting) (word : Text) (h : Held)
      → flag_word_fault c again name word h ≡ [] → P h.rows → P (long_or_other c waiting word name h).0.rows
  long_or_other_keeps None waiting word h e ok = short_or_plain_keeps (short_of word) waiting word h e ok
  long_or_other_keeps (Some p) waiting word h e ok =
      let met = long_met c (arg_by_long c p.0) p.1 h in
      let met_keeps = long_keeps (arg_by_long c p.0) (kept _) p.1 h e ok in
      subst P (after_flag_rows waiting word met.0 met.1) met_keeps

-- ---- the walk

module _ (s : Shape) (P : List Row → Type 0)
    (kept : (test : Rule → Bool) → IfSome (find test s.rules) (UseKeeps s.args_override_self P)) where
  -- `--` keeps P, and so does any other word
  end_or_flag_keeps : (is_end : Bool) (waiting : Waiting) (position : ℕ) (word : Text) (h : Held)
      → cond is_end [] (flag_word_fault s.rules s.args_override_self (long_of word) word h) ≡ [] → P h.rows
      → P (cond is_end (h, trailing position) (long_or_other s.rules waiting word (long_of word) h)).0.rows
  end_or_flag_keeps true waiting position word h e ok = ok
  end_or_flag_keeps false waiting position word h e ok =
      long_or_other_keeps s.rules s.args_override_self P kept (long_of word) waiting word h e ok

  -- a subcommand's name keeps P
  other_keeps : (name : Option Text) (waiting : Waiting) (position : ℕ) (word : Text) (h : Held)
      → other_fault s name word h ≡ [] → P h.rows → P (subcommand_or_other s.rules name waiting position word h).0.rows
  other_keeps None waiting position word h e ok =
      end_or_flag_keeps (bytes_eq word (45 ∷ 45 ∷ [])) waiting position word h e ok
  other_keeps (Some name) waiting position word h e ok = ok

  -- each word keeps P until it goes to a positional
  word_keeps : (names : Names) (is_trailing : Bool) (waiting : Waiting) (position : ℕ) (word : Text) (h : Held)
      → word_fault s names is_trailing waiting word h ≡ [] → P h.rows
      → P (word_met s.rules names is_trailing waiting position word h).0.rows
  word_keeps names true waiting position word h e ok = ok
  word_keeps names false waiting position word h e ok =
      other_keeps (subcommand_met names waiting word) waiting position word h e ok

  -- and there, where it may end what is pending
  more_or_settled_keeps : (more : Bool) (h : Held) → cond more [] (settle_fault s.rules s.args_override_self h) ≡ []
      → P h.rows → P (cond more h (settled s.rules h)).rows
  more_or_settled_keeps true h e ok = ok
  more_or_settled_keeps false h e ok = settled_keeps s.rules s.args_override_self P kept h e ok

  to_positional_keeps : (o : Option Rule) (word : Text) (w : Walk) (h : Held)
      → option_map_or (λ a. positional_fault s.rules s.args_override_self a h) o (stray_fault s) ≡ [] → P h.rows
      → P (to_positional s.rules o word w h).held.rows
  to_positional_keeps None word w h e ok = ok
  to_positional_keeps (Some a) word w h e ok =
      more_or_settled_keeps (is_pending a h.pending && takes_several a) h e ok

  -- each step keeps P
  step_keeps : (step : Step) (word : Text) (w : Walk) (h : Held) → step_fault s w.position h step ≡ [] → P h.rows
      → P (after_step s.rules word w h step).held.rows
  step_keeps (next waiting) word w h e ok = ok
  step_keeps (trailing position) word w h e ok = ok
  step_keeps (subcommand name) word w h e ok = ok
  step_keeps value word w h e ok = to_positional_keeps (arg_by_index s.rules w.position) word w h e ok

  -- each turn keeps P
  turn_keeps : (stop : Option (Text × List Text)) (names : Names) (w : Walk) (word : Text)
      → (let met = word_met s.rules names w.is_trailing w.waiting w.position word w.held in
      cond (is_some stop) []
      (or_else (word_fault s names w.is_trailing w.waiting word w.held) (step_fault s w.position met.0 met.1)) ≡ [])
      → P w.held.rows → P (walked_from s.rules names stop w word).held.rows
  turn_keeps (Some p) names w word e ok = ok
  turn_keeps None names w word e ok =
      let met = word_met s.rules names w.is_trailing w.waiting w.position word w.held in
      let parts = both_pass (word_fault s names w.is_trailing w.waiting word w.held) _ e in
      let met_keeps = word_keeps names w.is_trailing w.waiting w.position word w.held parts.0 ok in
      step_keeps met.1 word w met.0 parts.1 met_keeps

  walked_keeps : (names : Names) (w : Walk) (word : Text) → turn_fault s names w word ≡ [] → P w.held.rows
      → P (walked s.rules names w word).held.rows
  unfolding walked
  walked_keeps names w word e ok = turn_keeps w.stopped names w word e ok

  -- so a walk keeps P
  pub walk_keeps : (names : Names) (w : Walk) (words : List Text) → walk_fault s names w words ≡ [] → P w.held.rows
      → P (fold (walked s.rules names) w words).held.rows
  unfolding walk_fault
  walk_keeps names w [] e ok = ok
  walk_keeps names w (word ∷ rest) e ok =
      let parts = both_pass (turn_fault s names w word) _ e in
      walk_keeps names (walked s.rules names w word) rest parts.1 (walked_keeps names w word parts.0 ok)
