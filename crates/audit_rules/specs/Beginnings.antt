-- How transcripts begin, and which line of some bytes is by this the first that has a flaw.
use Rattle.std.specs.Prelude.{◌≡◌, ℕ, zero, suc, ◌<◌, ◌≤◌, ◌⊎◌, true, List, [], ◌∷◌, ◌++◌, length, flat_map, Some}
use Rattle.std.specs.List.{list_all}
use Rattle.tree_specs.specs.Rules.Items.{Item}
use Rattle.tree_specs.specs.Promises.Orderly.{Orderly}
use Rattle.tree_specs.specs.Texts.Text.{header, item_text, transcript}
use Rattle.tree_specs.specs.Texts.Lines.{Line, lines, lines_limit}
use Rattle.audit_rules.specs.Rules.{broken}
use Rattle.audit_rules.specs.Transcripts.{is_sound_item}

-- these are the first lines of the transcript of these items
pub record Begins (items : List Item) (front : List Line) : Type 0 where
  pub sound : list_all is_sound_item items ≡ true
  pub text : List ℕ
  pub is_text : transcript items ≡ Some text
  pub rest : List Line
  pub cut : lines text ≡ front ++ rest

-- they are those of some transcript
abbrev pub BeginTranscript : List Line → Type 0
BeginTranscript front = (items : List Item) × Begins items front

-- The lines before this one tell items that are orderly, and the line tells one that breaks rule k, and none of less number.
pub record BreaksRule (before : List Line) (line : Line) (k : ℕ) : Type 0 where
  pub told : List Item
  pub told_before : lines (header ++ flat_map (λ i. item_text i) told) ≡ before
  pub orderly : Orderly told
  pub item : Item
  pub breaks : broken told item ≡ Some k
  pub more : List Item
  pub begins : Begins (told ++ item ∷ more) (before ++ line ∷ [])

-- Behind these lines these are left of the text, and the first of them has flaw k: it is missing where a transcript has more
-- lines, it is one too many, or no transcript has it there; or else it breaks a rule.
abbrev pub FlawBehind : List Line → List Line → ℕ → Type 0
FlawBehind before [] zero = (line : Line) × BeginTranscript (before ++ line ∷ [])
FlawBehind before [] (suc k) = ⊥
FlawBehind before (line ∷ rest) zero = (lines_limit ≤ length before) ⊎ (BeginTranscript (before ++ line ∷ []) → ⊥)
FlawBehind before (line ∷ rest) (suc k) = (length before < lines_limit) × BreaksRule before line (suc k)

-- Line n is the first that has a flaw, and k is the flaw: the lines before it begin the transcript of an orderly story.
pub record IsFirstFlaw (bytes : List ℕ) (n k : ℕ) : Type 0 where
  pub before : List Line
  pub rest : List Line
  pub cut : lines bytes ≡ before ++ rest
  pub number : n ≡ suc (length before)
  pub few : length before ≤ lines_limit
  pub story : List Item
  pub orderly : Orderly story
  pub begun : Begins story before
  pub flaw : FlawBehind before rest k
