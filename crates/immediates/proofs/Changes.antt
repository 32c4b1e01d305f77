-- What one more change in the history leaves of the list and of the contexts.
use Rattle.std.proofs.Common.{◌≡◌, List, [], ◌∷◌, ◌++◌, ap, ◌∙◌}
use Rattle.std.proofs.lemmas.Grind.{fold-append}
use Rattle.tree_specs.specs.declared.object.Obj.{Obj}
use Rattle.tree_specs.specs.declared.coming.Coming.{Coming}
use Rattle.immediates.specs.declared.change.Change.{Change}
use Rattle.immediates.specs.Changes.{changed, recontexted, coming_of, contexts_of}

module _ (before after : List (Change × Unit {0})) (change : Change) (noted : after ≡ before ++ (change, tt) ∷ []) where
  pub coming-noted : coming_of after ≡ changed (coming_of before) change
  coming-noted = ap coming_of noted ∙ fold-append (λ (xs : List Coming) (e : Change × Unit {0}). changed xs e.0) [] before ((change, tt) ∷ [])

  pub contexts-noted : contexts_of after ≡ recontexted (contexts_of before) change
  contexts-noted = ap contexts_of noted ∙ fold-append (λ (cs : List Obj) (e : Change × Unit {0}). recontexted cs e.0) [] before ((change, tt) ∷ [])
