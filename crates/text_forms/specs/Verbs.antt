-- Verbs by the shape of their fields: the calls that they make, and how a reader goes through their words.
use Rattle.std.specs.Prelude.{ℕ, ◌≡◌, Bool, true, false, List, [], Option, Some, None, filter, length}
use Rattle.tree_specs.specs.declared.object.Obj.{Obj}
use Rattle.tree_specs.specs.declared.object.Owner.{Owner}
use Rattle.tree_specs.specs.declared.object.Owner.TheVariants.{Root}
use Rattle.tree_specs.specs.declared.call.Call.{Call}
use Rattle.tree_specs.specs.declared.call.Call.TheVariants as calls
use Rattle.tree_specs.specs.declared.schedule.Version.{Version}
use Rattle.tree_specs.specs.declared.schedule.Version.TheVariants.{One, Two}
use Rattle.tree_specs.specs.Calls.Spelling.{spelling, Reading, Form, forms, takes_number, of_object, object_in_context, of_owner, owner_and_object, of_descriptor, object_and_number, object_and_routine}
use Rattle.tree_specs.specs.Calls.Spelling.Numeral.{Number32, Positive32, Time, FdFlags, Length}
use Rattle.tree_specs.specs.Calls.Spelling.Reading.{NoMore, TakesOwner, TakesObject, TakesNumeral, EndsInName, EndsInBytes, EndsInContext}
use Rattle.tree_specs.specs.Texts.Grammar.{form_in, taken}
use Rattle.text_forms.specs.declared.verb.ContextVerb.{ContextVerb}
use Rattle.text_forms.specs.declared.verb.ContextVerb.TheVariants as context
use Rattle.text_forms.specs.declared.verb.ObjectContextVerb.{ObjectContextVerb}
use Rattle.text_forms.specs.declared.verb.ObjectContextVerb.TheVariants as object_context
use Rattle.text_forms.specs.declared.verb.ObjectVerb.{ObjectVerb}
use Rattle.text_forms.specs.declared.verb.ObjectVerb.TheVariants as object
use Rattle.text_forms.specs.declared.verb.OwnerVerb.{OwnerVerb}
use Rattle.text_forms.specs.declared.verb.OwnerVerb.TheVariants as owner
use Rattle.text_forms.specs.declared.verb.OwnerObjectVerb.{OwnerObjectVerb}
use Rattle.text_forms.specs.declared.verb.OwnerObjectVerb.TheVariants as owner_object
use Rattle.text_forms.specs.declared.verb.NumberVerb.{NumberVerb}
use Rattle.text_forms.specs.declared.verb.NumberVerb.TheVariants as number
use Rattle.text_forms.specs.declared.verb.RoutineVerb.{RoutineVerb}
use Rattle.text_forms.specs.declared.verb.RoutineVerb.TheVariants as routine
use Rattle.text_forms.specs.declared.verb.DescriptorVerb.{DescriptorVerb}
use Rattle.text_forms.specs.declared.verb.DescriptorVerb.TheVariants as descriptor
use Rattle.text_forms.specs.declared.verb.SizeVerb.{SizeVerb}
use Rattle.text_forms.specs.declared.verb.SizeVerb.TheVariants as size
use Rattle.text_forms.specs.declared.verb.Verb.{Verb}
use Rattle.text_forms.specs.declared.verb.Verb.TheVariants as verbs

-- ---- the calls of the verbs that have one shape

abbrev pub context_call : ContextVerb → Obj → Call
context_call context.Pending c = calls.Pending c
context_call context.Turn c = calls.Turn c

abbrev pub object_call : ObjectVerb → Obj → Call
object_call object.Free x = calls.Free x
object_call object.Freekids x = calls.Freekids x
object_call object.Unhook x = calls.Unhook x
object_call object.Parent x = calls.Parent x
object_call object.Unschedule x = calls.Unschedule x
object_call object.Getflags x = calls.Getflags x
object_call object.Autoclose x = calls.Autoclose x
object_call object.Cancel x = calls.Cancel x
object_call object.Done x = calls.Done x
object_call object.Oom x = calls.Oom x
object_call object.Iserror x = calls.Iserror x
object_call object.Progress x = calls.Progress x
object_call object.Received x = calls.Received x
object_call object.Start x = calls.Start x
object_call object.Stop x = calls.Stop x
object_call object.Length x = calls.Length x
object_call object.Running x = calls.Running x

abbrev pub object_context_call : ObjectContextVerb → Obj → Obj → Call
object_context_call object_context.Defer x c = calls.Defer x c
object_context_call object_context.Post x c = calls.Post x c

abbrev pub owner_call : OwnerVerb → Owner → Call
owner_call owner.Total o = calls.Total o
owner_call owner.Count o = calls.Count o
owner_call owner.Sum o = calls.Sum o
owner_call owner.Report o = calls.Report o
owner_call owner.Context o = calls.Context o
owner_call owner.Immediate o = calls.Immediate o

abbrev pub owner_object_call : OwnerObjectVerb → Owner → Obj → Call
owner_object_call owner_object.Steal o x = calls.Steal o x
owner_object_call owner_object.Move o x = calls.Move o x
owner_object_call owner_object.Reference o x = calls.Reference o x
owner_object_call owner_object.Unlink o x = calls.Unlink o x

abbrev pub number_call : NumberVerb → Obj → ℕ → Call
number_call number.Resize x n = calls.Resize x n
number_call number.Limit x n = calls.Limit x n
number_call number.Error x n = calls.Error x n

abbrev pub routine_call : RoutineVerb → Obj → ℕ → Call
routine_call routine.Cleanup x r = calls.Cleanup x r
routine_call routine.Setcancel x r = calls.Setcancel x r

abbrev pub descriptor_call : DescriptorVerb → ℕ → Call
descriptor_call descriptor.Close fd = calls.Close fd
descriptor_call descriptor.Accept fd = calls.Accept fd

abbrev pub size_call : SizeVerb → Owner → ℕ → List ℕ → Call
size_call size.New o n name = calls.New o n name
size_call size.Req o n name = calls.Req o n name

-- ---- what each verb is read with, and its word

-- the fields that come after a verb, and the call that they make
abbrev pub reading_of : Verb → Reading
reading_of (verbs.Context verb) = EndsInContext (context_call verb)
reading_of (verbs.Object verb) = of_object (object_call verb)
reading_of (verbs.ObjectContext verb) = object_in_context (object_context_call verb)
reading_of (verbs.Owner verb) = of_owner (owner_call verb)
reading_of (verbs.OwnerObject verb) = owner_and_object (owner_object_call verb)
reading_of (verbs.Number verb) = object_and_number (number_call verb)
reading_of (verbs.Routine verb) = object_and_routine (routine_call verb)
reading_of (verbs.Descriptor verb) = of_descriptor (descriptor_call verb)
reading_of (verbs.Size verb) = TakesOwner (λ o. takes_number (λ n. EndsInName (λ name. size_call verb o n name)))
reading_of verbs.Reparent = TakesOwner (λ from. owner_and_object (λ to x. calls.Reparent from to x))
reading_of verbs.Hook = TakesObject (λ x. TakesNumeral Positive32 (λ r. NoMore (calls.Hook x r)))
reading_of verbs.Rename = TakesObject (λ x. EndsInName (λ name. calls.Rename x name))
reading_of verbs.Schedule = TakesObject (λ x. TakesNumeral Number32 (λ r. takes_number (λ n. EndsInContext (calls.Schedule x r n))))
reading_of verbs.Timer = TakesOwner (λ o. TakesNumeral Time (λ t. TakesNumeral Positive32 (λ r. takes_number (λ n. EndsInContext (calls.Timer o t r n)))))
reading_of verbs.Fd = TakesOwner (λ o. TakesNumeral Number32 (λ fd. TakesNumeral FdFlags (λ flags. TakesNumeral Positive32 (λ r. takes_number (λ n. EndsInContext (calls.Fd o fd flags r n))))))
reading_of verbs.Flags = TakesObject (λ x. TakesNumeral FdFlags (λ flags. NoMore (calls.Flags x flags)))
reading_of verbs.Endtime = TakesObject (λ x. TakesNumeral Time (λ t. EndsInContext (calls.Endtime x t)))
reading_of verbs.Read = TakesNumeral Number32 (λ fd. TakesNumeral Length (λ len. NoMore (calls.Read fd len)))
reading_of verbs.Write = TakesNumeral Number32 (λ fd. EndsInBytes (λ bytes. calls.Write fd bytes))
reading_of verbs.Callback = TakesObject (λ x. TakesNumeral Number32 (λ r. takes_number (λ n. NoMore (calls.Callback x r n))))
reading_of verbs.Queue = TakesOwner (λ o. EndsInName (λ name. calls.Queue o name))
reading_of verbs.Enqueue = TakesObject (λ queue. TakesObject (λ x. TakesNumeral Positive32 (λ r. takes_number (λ n. EndsInContext (calls.Enqueue queue x r n)))))
reading_of verbs.Now = NoMore calls.Now

abbrev no_object : Obj
no_object = record { 0 = 0 }

-- a call of this verb, whatever its fields
abbrev pub some_call : Verb → Call
some_call (verbs.Context verb) = context_call verb no_object
some_call (verbs.Object verb) = object_call verb no_object
some_call (verbs.ObjectContext verb) = object_context_call verb no_object no_object
some_call (verbs.Owner verb) = owner_call verb Root
some_call (verbs.OwnerObject verb) = owner_object_call verb Root no_object
some_call (verbs.Number verb) = number_call verb no_object 0
some_call (verbs.Routine verb) = routine_call verb no_object 0
some_call (verbs.Descriptor verb) = descriptor_call verb 0
some_call (verbs.Size verb) = size_call verb Root 0 []
some_call verbs.Reparent = calls.Reparent Root Root no_object
some_call verbs.Hook = calls.Hook no_object 0
some_call verbs.Rename = calls.Rename no_object []
some_call verbs.Schedule = calls.Schedule no_object 0 0 no_object
some_call verbs.Timer = calls.Timer Root 0 0 0 no_object
some_call verbs.Fd = calls.Fd Root 0 0 0 0 no_object
some_call verbs.Flags = calls.Flags no_object 0
some_call verbs.Endtime = calls.Endtime no_object 0 no_object
some_call verbs.Read = calls.Read 0 0
some_call verbs.Write = calls.Write 0 []
some_call verbs.Callback = calls.Callback no_object 0 0
some_call verbs.Queue = calls.Queue Root []
some_call verbs.Enqueue = calls.Enqueue no_object no_object 0 0 no_object
some_call verbs.Now = calls.Now

abbrev pub word_of : Verb → List ℕ
word_of verb = (spelling One (some_call verb)).verb

-- version 1 has all verbs but the one that makes a context
abbrev pub has_verb : Version → Verb → Bool
has_verb One (verbs.Owner owner.Context) = false
has_verb v verb = true

-- the forms of version 2 whose verbs have such a number of letters
abbrev pub forms_of : (ℕ → Bool) → List Form
forms_of letters = filter (λ f. letters (length f.verb)) (forms Two)

-- a word is this verb, or the verb of none of these forms
abbrev pub IsVerbIn : List Form → Option Verb → List ℕ → Type 0
IsVerbIn fs None word = form_in fs word ≡ None
IsVerbIn fs (Some verb) word = word ≡ word_of verb

-- a word is this verb, which the version has, or no verb of the version
abbrev pub IsVerb : Version → Option Verb → List ℕ → Type 0
IsVerb v None word = form_in (forms v) word ≡ None
IsVerb v (Some verb) word = form_in (forms v) word ≡ Some (reading_of verb)

-- the call of this verb whose fields the words begin with, and the words that it leaves
unfoldable pub fields_read : Version → Verb → List (List ℕ) → Option (Call × List (List ℕ))
fields_read v verb words = taken v (reading_of verb) words
