-- The text of items, one after another, and the question that is open after them.
use Rattle.std.proofs.Common.{◌≡◌, List, [], ◌∷◌, Some, refl}
use Rattle.tree_specs.specs.declared.event.Event.{Event}
use Rattle.tree_specs.specs.declared.question.Ask.{Ask}
use Rattle.tree_specs.specs.Rules.Items.{Item}
use Rattle.tree_specs.specs.Rules.Items.Item.{Told, Asked}
use Rattle.tree_specs.specs.Texts.Schedule.{open_question}
use Rattle.tree_specs.specs.Texts.Text.{event_text, answered_text, item_text, end_text, body_text}
use Rattle.schedule_replay.specs.Replays.{behind}

pub told-first : (e : Event) (l : List Item) → body_text (Told e ∷ l) ≡ behind (event_text e) (body_text l)
unfolding body_text item_text
told-first e [] = refl
told-first e (j ∷ rest) = refl

pub question-told : (e : Event) (l : List Item) → open_question (Told e ∷ l) ≡ open_question l
unfolding open_question
question-told e [] = refl
question-told e (j ∷ rest) = refl

pub asked-first : (q : Ask) (l : List Item) (j : Item) (rest : List Item) → l ≡ j ∷ rest → body_text (Asked q ∷ l) ≡ behind (answered_text q) (body_text l)
unfolding body_text item_text
asked-first q l j rest e = rw e refl

pub question-asked : (q : Ask) (l : List Item) (j : Item) (rest : List Item) → l ≡ j ∷ rest → open_question (Asked q ∷ l) ≡ open_question l
unfolding open_question
question-asked q l j rest e = rw e refl

pub last-question : (q : Ask) → open_question (Asked q ∷ []) ≡ Some q
unfolding open_question
last-question q = refl

pub last-text : (q : Ask) → body_text (Asked q ∷ []) ≡ Some (end_text q)
unfolding body_text
last-text q = refl
