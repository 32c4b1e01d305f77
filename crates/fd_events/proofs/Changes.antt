-- What one more change in the history leaves of the list and of the contexts.
use Rattle.std.proofs.Common.{◌≡◌, List, [], ◌∷◌, ◌++◌, ap, ◌∙◌}
use Rattle.std.proofs.lemmas.Grind.{fold-append}
use Rattle.tree_specs.specs.declared.object.Obj.{Obj}
use Rattle.tree_specs.specs.declared.watch.Watch.{Watch}
use Rattle.fd_events.specs.declared.change.Change.{Change}
use Rattle.fd_events.specs.Changes.{changed, recontexted, watches_of, contexts_of}

module _ (before after : List (Change × Unit {0})) (change : Change) (noted : after ≡ before ++ (change, tt) ∷ []) where
  pub watches-noted : watches_of after ≡ changed (watches_of before) change
  watches-noted = ap watches_of noted ∙ fold-append (λ (ws : List Watch) (e : Change × Unit {0}). changed ws e.0) [] before ((change, tt) ∷ [])

  pub contexts-noted : contexts_of after ≡ recontexted (contexts_of before) change
  contexts-noted = ap contexts_of noted ∙ fold-append (λ (cs : List Obj) (e : Change × Unit {0}). recontexted cs e.0) [] before ((change, tt) ∷ [])
