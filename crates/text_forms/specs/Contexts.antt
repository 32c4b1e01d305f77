-- The context that a call says last, where it says one.
use Rattle.std.specs.Prelude.{Bool, true, false, List, [], ◌∷◌, Option, Some, None}
use Rattle.tree_specs.specs.declared.object.Obj.{Obj}
use Rattle.tree_specs.specs.declared.call.Call.{Call}
use Rattle.tree_specs.specs.declared.schedule.Version.{Version}
use Rattle.tree_specs.specs.declared.schedule.Version.TheVariants.{Two}
use Rattle.tree_specs.specs.Calls.Spelling.{Field, in_context, spelling}
use Rattle.tree_specs.specs.Calls.Spelling.Field.{TheContext}

-- the context among fields, where there is one
abbrev pub context_among : List Field → Option Obj
context_among [] = None
context_among (TheContext c ∷ fs) = Some c
context_among (f ∷ fs) = context_among fs

-- the context that a call is in, where it is a call in a context
abbrev pub context_of : Call → Option Obj
context_of c = context_among (spelling Two c).fields

abbrev pub is_said : Option Obj → Bool
is_said None = false
is_said (Some c) = true

-- a call that says its context, where the version has contexts
abbrev pub is_in_context : Call → Bool
is_in_context c = is_said (context_of c)

abbrev pub where_said : Version → Option Obj → List Field
where_said v None = []
where_said v (Some c) = in_context v c

-- what a call says of its context in a version
abbrev pub said_context : Version → Call → List Field
said_context v c = where_said v (context_of c)
