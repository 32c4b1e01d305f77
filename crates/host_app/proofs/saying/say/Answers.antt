use Rattle.host_app.proofs.saying.say.Goals as goal

pub returns-in-ReadFault-clause-bytes : goal.returns-in-ReadFault-clause-bytes
returns-in-ReadFault-clause-bytes g c = rw c.in-ReadFault.is c.put_all.ensures.bytes

pub returns-in-WriteFault-clause-bytes : goal.returns-in-WriteFault-clause-bytes
returns-in-WriteFault-clause-bytes g c = rw c.in-WriteFault.is c.put_all-in-WriteFault.ensures.bytes

pub returns-in-LinkFault-clause-bytes : goal.returns-in-LinkFault-clause-bytes
returns-in-LinkFault-clause-bytes g c = rw c.in-LinkFault.is c.put_all-in-LinkFault.ensures.bytes
