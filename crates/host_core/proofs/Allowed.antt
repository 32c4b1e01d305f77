-- What follows where a call is refused, and where it isn't.
use Rattle.std.proofs.Common.{◌≡◌, Option, Some, None, List, [], ◌∷◌, ◌++◌, true, Ok, Err, refl}
use Rattle.tree_specs.specs.declared.object.Obj.{Obj}
use Rattle.tree_specs.specs.declared.object.Owner.{Owner}
use Rattle.tree_specs.specs.declared.question.Ask.{Ask}
use Rattle.tree_specs.specs.declared.call.Call.{Call}
use Rattle.tree_specs.specs.declared.reply.Refusal.{Refusal}
use Rattle.tree_specs.specs.declared.reply.Reply.TheVariants as reply
use Rattle.tree_specs.specs.declared.test.Test.TheVariants.{IsObject, IsOwner, IsContext, IsNotDying, IsNotInside, MayGive}
use Rattle.tree_specs.specs.Words.Objects.{same, first_context}
use Rattle.tree_specs.specs.Tree.Pool.{Pool, is_below, is_usable, owner_of}
use Rattle.tree_specs.specs.Calls.Refusals.{Check, ◌before◌, checked, tests, refusals}
use Rattle.tree_specs.specs.Calls.Passed.{Passed, AllPassed, First, Stays, Itself, ItsRef}
use Rattle.tree_specs.specs.Calls.Plans.{Plan, plan, unless_refused}
use Rattle.tree_specs.specs.Machine.Table.{call_step, plan_step, replied, release_object, over_step}
use Rattle.tree_specs.proofs.Calls.Checks.{all-pass, may-place}
use Rattle.tree_specs.proofs.Tree.Numbered.{by_test}
use Rattle.tree_specs.proofs.Calls.Plans.{ref-placed}
use Rattle.tree_specs.specs.declared.frame.Frame.{Frame}
use Rattle.tree_specs.specs.Invariants.Sound.{Sound}
use Rattle.tree_links.specs.Links.{MayPlace}
use Rattle.destructors.proofs.Grounds.{placeable}
use Rattle.object_pool.specs.Objects.{RefsMayGo}
use Rattle.host_core.specs.declared.motion.Motion.{Motion}
use Rattle.host_core.specs.declared.motion.Motion.TheVariants.{Frees as FreesMotion, Unlinks as UnlinksMotion}
use Rattle.tree_specs.specs.declared.frame.Errand.{Errand}
use Rattle.tree_specs.specs.Calls.Plans.Plan.{Frees as FreesOf, Unlinks as UnlinksOf}
use Rattle.host_core.specs.Requests.{IsFreeing, IsReleaseBy}
use Rattle.step_machine.specs.Machine.{Move as Do}
use Rattle.tree_specs.specs.declared.frame.Frame.TheVariants as frame
use Rattle.tree_specs.specs.declared.frame.FreeFrame.TheVariants.{Beginning, Unlinking}
use Rattle.tree_specs.specs.declared.frame.RequestFrame.TheVariants.{Releasing}

pub refused_step : (check : Check) (q : Ask) (c : Call) (p : Pool) (why : Refusal) → checked check ≡ Err why → call_step check q c p ≡ replied q (reply.No why) p
refused_step [] q c p why e = cc
refused_step (other ∷ more) q c p why e = let e' : other ≡ why = cc in rw e' refl

pub allowed_step : (check : Check) (q : Ask) (c : Call) (p : Pool) → checked check ≡ Ok tt → call_step check q c p ≡ plan_step q (plan p c) p
allowed_step [] q c p e = refl
allowed_step (why ∷ more) q c p e = cc

-- one check before others
pub refused_first : (first later : Check) (why : Refusal) → checked first ≡ Err why → checked (first ++ later) ≡ Err why
refused_first [] later why e = cc
refused_first (other ∷ more) later why e = e

pub allowed_first : (first later : Check) → checked first ≡ Ok tt → checked (first ++ later) ≡ checked later
allowed_first [] later e = refl
allowed_first (other ∷ more) later e = cc

-- two checks, or three, before others
pub refused_two : (a b later : Check) (why : Refusal) → checked (a before b) ≡ Err why → checked (a before b before later) ≡ Err why
refused_two [] b later why e = refused_first b later why e
refused_two (other ∷ more) b later why e = e

pub allowed_two : (a b later : Check) → checked (a before b) ≡ Ok tt → checked (a before b before later) ≡ checked later
allowed_two [] b later e = allowed_first b later e
allowed_two (other ∷ more) b later e = cc

pub refused_three : (a b c later : Check) (why : Refusal) → checked (a before b before c) ≡ Err why → checked (a before b before c before later) ≡ Err why
refused_three [] b c later why e = refused_two b c later why e
refused_three (other ∷ more) b c later why e = e

pub allowed_three : (a b c later : Check) → checked (a before b before c) ≡ Ok tt → checked (a before b before c before later) ≡ checked later
allowed_three [] b c later e = allowed_two b c later e
allowed_three (other ∷ more) b c later e = cc

none-first : (check : Check) → checked check ≡ Ok tt → check ≡ []
none-first [] e = refl
none-first (why ∷ later) e = cc

-- a call that isn't refused passes all its tests
pub all_passed : (p : Pool) (c : Call) → checked (refusals p c) ≡ Ok tt → AllPassed p (tests c)
all_passed p c e = all-pass p (tests c) (none-first (refusals p c) e)

-- ---- what passed tests allow together

pub may_go : (p : Pool) (o : Owner) (x : Obj) → Passed p (IsObject x) → Passed p (IsOwner o) → Passed p (IsNotDying x) → Passed p (IsNotInside x o) → MayPlace p.rows x o
may_go p o x is there staying outside = placeable p o x (may-place p o x is there staying outside)

pub may_go_itself : (p : Pool) (from to : Owner) (x : Obj) → Passed p (IsObject x) → Passed p (IsOwner to) → Passed p (IsNotDying x) → Passed p (MayGive from to x) → is_below (owner_of p.rows x) from ≡ true → MayPlace p.rows x to
may_go_itself p from to x is there staying (Itself own outside) below = may_go p to x is there staying outside
may_go_itself p from to x is there staying (ItsRef r other n) below = cc

-- something may come in a context
pub may_use : (p : Pool) (context : Obj) → Passed p (IsContext context) → is_usable p.rows context ≡ true
may_use p context (First e) = rw e refl
may_use p context (Stays kind mark) = by_test (same context first_context) (λ t. rw t refl) (λ t. rw (t, kind, mark) refl)

-- a reference goes wherever there is an owner
pub refs-go : (f : Frame) (fs : List Frame) (p : Pool) → Sound f fs p → RefsMayGo p.rows
refs-go f fs p s = λ r t o is there. placeable p o r (ref-placed f fs p o t r s is there)

-- ---- what a request was made with

pub allowed_release : (check : Check) (plan : Plan) (m : Option Motion) → checked check ≡ Ok tt → IsReleaseBy plan m → IsReleaseBy (unless_refused check plan) m
allowed_release [] plan m e r = r
allowed_release (why ∷ later) plan m e r = cc

pub refused_release : (check : Check) (plan : Plan) (why : Refusal) → checked check ≡ Err why → IsReleaseBy (unless_refused check plan) None
refused_release [] plan why e = cc
refused_release (other ∷ later) plan why e = refl

pub release_frees : (x : Obj) (plan : Plan) (errand : Errand) (p : Pool) → IsReleaseBy plan (Some (FreesMotion x)) → Do.Call (frame.Free (Beginning x)) (frame.Request (Releasing x)) p ≡ release_object plan errand p
release_frees x (FreesOf y) errand p r = let e : x ≡ y = cc in rw e refl
release_frees x (UnlinksOf o y) errand p r = cc
release_frees x _ errand p r = cc

pub release_unlinks : (o : Owner) (x : Obj) (plan : Plan) (errand : Errand) (p : Pool) → IsReleaseBy plan (Some (UnlinksMotion o x)) → Do.Call (frame.Free (Unlinking o x)) (frame.Request (Releasing x)) p ≡ release_object plan errand p
release_unlinks o x (FreesOf y) errand p r = cc
release_unlinks o x (UnlinksOf owner y) errand p r = let e : x ≡ y = cc in let e' : o ≡ owner = cc in rw (e, e') refl
release_unlinks o x _ errand p r = cc

pub release_none : (plan : Plan) (errand : Errand) (p : Pool) → IsReleaseBy plan None → over_step errand p ≡ release_object plan errand p
release_none (FreesOf x) errand p r = cc
release_none (UnlinksOf o x) errand p r = cc
release_none _ errand p r = refl

pub freeing_release : (plan : Plan) (m : Motion) → IsReleaseBy plan (Some m) → IsFreeing m
freeing_release (FreesOf x) m r = let e : m ≡ FreesMotion x = cc in rw e tt
freeing_release (UnlinksOf o x) m r = let e : m ≡ UnlinksMotion o x = cc in rw e tt
freeing_release _ m r = cc
