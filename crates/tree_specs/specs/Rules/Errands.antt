-- What the errands of requests lead to: which reply, and what follows a routine.
use Rattle.std.specs.Prelude.{ℕ, nat_eq, Bool, true, false, if◌then◌else◌}
use Rattle.tree_specs.specs.declared.frame.Errand.{Errand}
use Rattle.tree_specs.specs.declared.frame.Errand.TheVariants.{Finish, Receive}
use Rattle.tree_specs.specs.declared.moment.What.{What}
use Rattle.tree_specs.specs.declared.moment.What.TheVariants as what
use Rattle.tree_specs.specs.declared.reply.Reply.{Reply}
use Rattle.tree_specs.specs.declared.reply.Reply.TheVariants.{Ok, Number}
use Rattle.tree_specs.specs.declared.request.State.TheVariants.{UserError}

-- the reply at the end; only a failure with a number tells one
abbrev pub reply_to : Errand → Reply
reply_to (Finish UserError) = Number 1
reply_to errand = Ok

-- a routine that cancels has done so where it returns another number than 0
abbrev pub cancelled_reply : ℕ → Reply
cancelled_reply v = if nat_eq v 0 then Number 0 else Number 1

abbrev pub is_receive : Errand → Bool
is_receive Receive = true
is_receive errand = false

-- after a cleanup the errand goes on; after a routine that cancels, or a callback, it is over
abbrev pub after_routine : {A : Type 0} → What → A → A → A → A
after_routine what.Cleanup goes_on cancelled over = goes_on
after_routine what.Cancel goes_on cancelled over = cancelled
after_routine w goes_on cancelled over = over
