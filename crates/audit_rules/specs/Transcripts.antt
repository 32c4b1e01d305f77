-- The transcripts of orderly stories.
use Rattle.std.specs.Prelude.{◌≡◌, ℕ, ◌≤◌, Bool, true, ◌&&◌, List, length, Some}
use Rattle.std.specs.List.{list_all}
use Rattle.tree_specs.specs.declared.reply.Reply.TheVariants.{Rows as RowsOf}
use Rattle.tree_specs.specs.declared.event.Event.TheVariants.{Replied}
use Rattle.tree_specs.specs.Words.Ranges.{is_number}
use Rattle.tree_specs.specs.Rules.Items.{Item}
use Rattle.tree_specs.specs.Rules.Items.Item.{Told, Asked}
use Rattle.tree_specs.specs.Promises.Orderly.{Orderly}
use Rattle.tree_specs.specs.Texts.Text.{transcript}
use Rattle.tree_specs.specs.Texts.Lines.{lines, lines_limit}
use Rattle.transcript_lines.specs.Lines.{is_sound_line}
use Rattle.transcript_lines.specs.Lines.Line.{Row, Tells, Asks}

-- each number, name and list of bytes of an item has the range of its type
abbrev pub is_sound_item : Item → Bool
is_sound_item (Told (Replied (RowsOf rows))) = is_number (length rows) && list_all (λ r. is_sound_line (Row r)) rows
is_sound_item (Told e) = is_sound_line (Tells e)
is_sound_item (Asked q) = is_sound_line (Asks q)

-- An orderly story, whoever tells it, has these bytes as its transcript, and they are not too many lines.
pub record IsOrderlyText (bytes : List ℕ) : Type 0 where
  pub items : List Item
  pub sound : list_all is_sound_item items ≡ true
  pub orderly : Orderly items
  pub text : transcript items ≡ Some bytes
  pub short : length (lines bytes) ≤ lines_limit
