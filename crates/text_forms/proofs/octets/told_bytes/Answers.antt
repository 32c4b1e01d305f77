use Rattle.std.proofs.Common.{arith}
use Rattle.text_forms.proofs.Hexadecimal.{are_bytes_from}
use Rattle.text_forms.proofs.octets.told_bytes.Goals as goal

pub returns-clause-bytes : goal.returns-clause-bytes
returns-clause-bytes c = are_bytes_from c.args.bytes.now (λ i. omega (arith, c.type_inv.bytes i))
