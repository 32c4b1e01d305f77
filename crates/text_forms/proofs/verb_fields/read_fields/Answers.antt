-- What reads the same in each version.
use Rattle.text_forms.specs.Verbs.{fields_read}
use Rattle.text_forms.proofs.verb_fields.read_fields.Goals as goal

pub returns-in-Object : goal.returns-in-Object
unfolding fields_read
returns-in-Object c = rw c.in-Object.is (c.read_object.ensures c.args.version)

pub returns-in-Owner : goal.returns-in-Owner
unfolding fields_read
returns-in-Owner c = rw c.in-Owner.is (c.read_owner.ensures c.args.version)

pub returns-in-OwnerObject : goal.returns-in-OwnerObject
unfolding fields_read
returns-in-OwnerObject c = rw c.in-OwnerObject.is (c.read_owner_object.ensures c.args.version)

pub returns-in-Number : goal.returns-in-Number
unfolding fields_read
returns-in-Number c = rw c.in-Number.is (c.read_number.ensures c.args.version)

pub returns-in-Routine : goal.returns-in-Routine
unfolding fields_read
returns-in-Routine c = rw c.in-Routine.is (c.read_routine.ensures c.args.version)

pub returns-in-Descriptor : goal.returns-in-Descriptor
unfolding fields_read
returns-in-Descriptor c = rw c.in-Descriptor.is (c.read_descriptor.ensures c.args.version)

pub returns-in-Reparent : goal.returns-in-Reparent
unfolding fields_read
returns-in-Reparent c = rw c.in-Reparent.is (c.read_reparent.ensures c.args.version)

pub returns-in-Hook : goal.returns-in-Hook
unfolding fields_read
returns-in-Hook c = rw c.in-Hook.is (c.read_hook.ensures c.args.version)

pub returns-in-Flags : goal.returns-in-Flags
unfolding fields_read
returns-in-Flags c = rw c.in-Flags.is (c.read_flags.ensures c.args.version)

pub returns-in-Read : goal.returns-in-Read
unfolding fields_read
returns-in-Read c = rw c.in-Read.is (c.read_read.ensures c.args.version)

pub returns-in-Write : goal.returns-in-Write
unfolding fields_read
returns-in-Write c = rw c.in-Write.is (c.read_write.ensures c.args.version)

pub returns-in-Callback : goal.returns-in-Callback
unfolding fields_read
returns-in-Callback c = rw c.in-Callback.is (c.read_callback.ensures c.args.version)
