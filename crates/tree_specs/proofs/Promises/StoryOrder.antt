-- Every story is orderly and grounded.
use Rattle.std.proofs.Common.{ℕ, ◌≤◌, List, [], ◌∷◌, length, Option, None, sym, subst, map}
use Rattle.step_machine.specs.History.{EachFits}
use Rattle.step_machine.specs.Machine.{Move}
use Rattle.step_machine.specs.Machine.{Move as Do}
use Rattle.step_machine.specs.Noted.{noted_move, with_note}
use Rattle.step_machine.proofs.Ends.{Leads}
use Rattle.step_machine.proofs.History.{FitsOn, each-fits, EachFits-map, EachFits-weaker}
use Rattle.tree_specs.specs.declared.question.Input.{Input}
use Rattle.tree_specs.specs.declared.question.Ask.TheVariants.{Quiet}
use Rattle.tree_specs.specs.declared.frame.Frame.{Frame}
use Rattle.tree_specs.specs.declared.frame.Frame.TheVariants as frame
use Rattle.tree_specs.specs.declared.frame.CallFrame.TheVariants.{Asking, Doing, Announcing, Telling, Returning}
use Rattle.tree_specs.specs.declared.frame.FreeFrame.TheVariants.{Unlinking, Releasing, Giving, Beginning, Hooked, Judged, Preparing, Draining, Prepared, Dooming, Leaving, Looping, AfterChild, Ending}
use Rattle.tree_specs.specs.declared.frame.Answer.{Answer}
use Rattle.tree_specs.specs.Tree.Pool.{Pool, empty}
use Rattle.tree_specs.specs.Rules.Items.{Item}
use Rattle.tree_specs.specs.Rules.Sequence.{CallStart, Scene}
use Rattle.tree_specs.specs.Rules.Story.{story, turns, items}
use Rattle.tree_specs.specs.Machine.Table.{table, notes, step, taken}
use Rattle.tree_specs.specs.Invariants.Consistent.{IsConsistent}
use Rattle.tree_specs.specs.Promises.Orderly.{Fits, Orderly}
use Rattle.tree_specs.specs.Promises.Grounded.{IsGrounded, Grounded}
use Rattle.tree_specs.specs.Machine.Meaning.{noted_table}
use Rattle.tree_specs.proofs.Rules.TextLaws.{all-lawful, accepts-items}
use Rattle.tree_specs.proofs.Rules.Rest.{whole-kept}
use Rattle.tree_specs.proofs.Promises.Causes.{NotedWork, item_of, told}
use Rattle.tree_specs.proofs.Promises.Fine.{work_of, IsFine, Known, FineBy, taken-noted}
use Rattle.tree_specs.proofs.Promises.FineCallers.{asking-fine, telling-fine, returning-fine, doing-fine, announcing-fine}
use Rattle.tree_specs.proofs.Promises.FineFrees.{hooked-fine, leaving-fine, judged-fine, looping-fine, tried-fine}
use Rattle.tree_specs.proofs.Promises.FineDrops.{ending-fine, beginning-fine, dooming-fine, unlinking-fine, releasing-fine, giving-fine}
use Rattle.tree_specs.proofs.Promises.FineTurns.{turn-fine}
use Rattle.tree_specs.proofs.Promises.FineOutside.{outside-fine}
use Rattle.tree_specs.proofs.Promises.FineRequests.{preparing-fine, draining-fine, prepared-fine, request-fine}
use Rattle.tree_specs.proofs.Rules.StoryLaws.{asking, begin-whole, story-walk}

abbrev WholeAt : Frame → List Frame → Pool → Type 0
WholeAt f fs p = IsConsistent (record { innermost = f; below = fs; pool = p })

-- what holds between two steps
abbrev Holds : List Scene → NotedWork → List NotedWork → Pool → Type 0
Holds scenes w ws p = WholeAt w.work (map work_of ws) p × Known scenes w ws p

fine : (scenes : List Scene) (f : Frame) (b : Option CallStart) (ws : List NotedWork) (p : Pool) → WholeAt f (map work_of ws) p → Known scenes (with_note b f) ws p → FineBy scenes f b p (step f p) ws
fine scenes (frame.Call (Asking q)) b ws p whole known = asking-fine scenes q b ws p whole known
fine scenes (frame.Call (Doing q c)) b ws p whole known = doing-fine scenes q c b ws p whole.sound known
fine scenes (frame.Call (Announcing q notice r)) b ws p whole known = announcing-fine scenes q notice r b ws p known
fine scenes (frame.Call (Telling q r)) b ws p whole known = telling-fine scenes q r b ws p known
fine scenes (frame.Call (Returning v)) b ws p whole known = returning-fine scenes v b ws p whole.sound.waiting known
fine scenes (frame.Free (Unlinking o x)) b ws p whole known = unlinking-fine scenes b ws p o x whole known
fine scenes (frame.Free (Releasing x)) b ws p whole known = releasing-fine scenes b ws p x whole known
fine scenes (frame.Free (Giving x o)) b ws p whole known = giving-fine scenes b ws p x o whole known
fine scenes (frame.Free (Beginning x)) b ws p whole known = beginning-fine scenes b ws p x whole known
fine scenes (frame.Free (Hooked x h)) b ws p whole known = hooked-fine scenes b ws p x h whole known
fine scenes (frame.Free (Judged x h v)) b ws p whole known = judged-fine scenes b ws p x h v whole known
fine scenes (frame.Free (Preparing x)) b ws p whole known = preparing-fine scenes b ws p x known
fine scenes (frame.Free (Draining x)) b ws p whole known = draining-fine scenes b ws p x known
fine scenes (frame.Free (Prepared x)) b ws p whole known = prepared-fine scenes b ws p x whole known
fine scenes (frame.Free (Dooming x)) b ws p whole known = dooming-fine scenes b ws p x whole known
fine scenes (frame.Free (Leaving x h)) b ws p whole known = leaving-fine scenes b ws p x h whole known
fine scenes (frame.Free (Looping x purpose)) b ws p whole known = looping-fine scenes b ws p x purpose whole known
fine scenes (frame.Free (AfterChild x c noted purpose a)) b ws p whole known = tried-fine scenes b ws p x c noted purpose a whole known
fine scenes (frame.Free (Ending a)) b ws p whole known = ending-fine scenes b ws p a whole known
fine scenes (frame.Turn f) b ws p whole known = turn-fine scenes b ws p f whole known
fine scenes (frame.Outside f) b ws p whole known = outside-fine scenes b ws p f whole known
fine scenes (frame.Request f) b ws p whole known = request-fine scenes b ws p f whole known
fine scenes _ b ws p whole known = absurd whole.sound.rests

both : (scenes : List Scene) (f : Frame) (b : Option CallStart) (ws : List NotedWork) (p : Pool) (m : Move Frame Answer Pool Item) → Leads table (λ g gs q j. WholeAt g gs q) m (map work_of ws) 1
    → FineBy scenes f b p m ws → FitsOn noted_table IsFine Holds scenes (noted_move notes f b p m) ws
both scenes f b [] p (Do.Done a q) l k = tt
both scenes f b (w ∷ ws) p (Do.Done a q) l k = (l, k)
both scenes f b ws p (Do.Go g q) l k = (l, k)
both scenes f b ws p (Do.Emit e g q) l k = (k.0, (l, k.1))
both scenes f b ws p (Do.Wait e g q) l k = (
  k.0,
  λ i h s.
      let t = taken-noted (notes.after f p b) (taken g q i) h s in
      (subst (λ (w : NotedWork). WholeAt w.work (map work_of ws) q) (sym t.2) (l i t.0 t.1), k.1 i h s),
)
both scenes f b ws p (Do.Call g h q) l k = (l, k)

kept : (scenes : List Scene) (w : NotedWork) (ws : List NotedWork) (p : Pool) → Holds scenes w ws p → FitsOn noted_table IsFine Holds scenes (noted_table.step w p) ws
kept scenes w ws p h = both scenes w.work w.note ws p (step w.work p) (whole-kept (record { innermost = w.work; below = map work_of ws; pool = p }) 1 h.0) (fine scenes w.work w.note ws p h.0 h.1)

-- nothing is told as yet
at-first : (first : ℕ) → Known [] asking [] (empty first)
at-first first = record {
  past = record { gone = λ x e. cc; dropped = λ x e. cc; spent = λ x e. cc; states = λ x k e. cc; accounts = tt; all_account = tt };
  stacked = tt;
  cause = tt;
}

-- each scene of a story is fine after those before it
story-fine : (first : ℕ) (is : List Input) → 1 ≤ first → EachFits IsFine (story first is)
story-fine first is h = subst (EachFits IsFine) (story-walk first is h) (each-fits noted_table IsFine Holds kept (turns 0 (length is)) asking [] (empty first) is (begin-whole first h, at-first first))

pub story-orderly : (first : ℕ) (is : List Input) → 1 ≤ first → Orderly (items (story first is))
story-orderly first is h = EachFits-map item_of Fits (story first is) (EachFits-weaker IsFine (λ before s. Fits (told before) s.item) (λ before s f. f.0) (story first is) (story-fine first is h))

pub story-grounded : (first : ℕ) (is : List Input) → 1 ≤ first → Grounded (story first is) is
story-grounded first is h = record {
  each = EachFits-weaker IsFine IsGrounded (λ before s f. f.1) (story first is) (story-fine first is h);
  accepts = accepts-items ((all-lawful (turns 0 (length is))).calls.asked Quiet (empty first) None) is;
}
