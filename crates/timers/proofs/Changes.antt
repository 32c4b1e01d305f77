-- What one more change in the history leaves of the times and of the contexts.
use Rattle.std.proofs.Common.{◌≡◌, List, [], ◌∷◌, ◌++◌, ap, ◌∙◌}
use Rattle.std.proofs.lemmas.Grind.{fold-append}
use Rattle.tree_specs.specs.declared.object.Obj.{Obj}
use Rattle.tree_specs.specs.declared.due.Due.{Due}
use Rattle.timers.specs.declared.change.Change.{Change}
use Rattle.timers.specs.Changes.{changed, recontexted, dues_of, contexts_of}

module _ (before after : List (Change × Unit {0})) (change : Change) (noted : after ≡ before ++ (change, tt) ∷ []) where
  pub dues-noted : dues_of after ≡ changed (dues_of before) change
  dues-noted = ap dues_of noted ∙ fold-append (λ (ds : List Due) (e : Change × Unit {0}). changed ds e.0) [] before ((change, tt) ∷ [])

  pub contexts-noted : contexts_of after ≡ recontexted (contexts_of before) change
  contexts-noted = ap contexts_of noted ∙ fold-append (λ (cs : List Obj) (e : Change × Unit {0}). recontexted cs e.0) [] before ((change, tt) ∷ [])
