-- Texts of rules that break what is said of refusals.
use Rattle.tree_specs.specs.declared.object.Obj.{Obj}
use Rattle.tree_specs.specs.declared.row.Mark.TheVariants as mark
use Rattle.tree_specs.specs.declared.call.Call.{Call}
use Rattle.tree_specs.specs.declared.call.Call.TheVariants.{Steal}
use Rattle.tree_specs.specs.declared.reply.Reply.{Reply}
use Rattle.tree_specs.specs.declared.reply.Reply.TheVariants.{Ok, No}
use Rattle.tree_specs.specs.declared.reply.Refusal.TheVariants.{Loop}
use Rattle.tree_specs.specs.declared.free_step.FreeReply.{FreeReply}
use Rattle.tree_specs.specs.declared.free_step.FreeReply.TheVariants.{Running}
use Rattle.tree_specs.specs.Tree.Pool.{place, set_mark}
use Rattle.tree_specs.specs.Rules.Sequence.{Work, ◌>>◌, gives, change}

-- a free that marks a quiet object as asked and answers that it runs
abbrev pub marks_a_quiet_object : Obj → Work FreeReply
marks_a_quiet_object x = do
  change (λ p. set_mark p x mark.Asked)
  gives Running

-- a steal that is refused after the object was put below the new owner
abbrev pub steals_though_refused : Call → Work Reply
steals_though_refused (Steal o x) = do
  change (λ p. place p o x)
  gives (No (Loop x o))
steals_though_refused c = gives Ok
