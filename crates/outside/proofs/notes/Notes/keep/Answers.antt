use Rattle.std.proofs.Common.{◌-◌, ap, sym, length, arith}
use Rattle.outside.proofs.NoteLaws.{keeps_bytes, tells_one_more}
use Rattle.outside.proofs.notes.Notes.keep.Goals as goal

pub invariant_of-self : goal.invariant_of-self
invariant_of-self c = (
  omega (arith, c.self.invariant.0, c.push_reserved.ensures.len, c.push_reserved.ensures.capacity),
  omega (arith, c.self.invariant.1, c.append_reserved.ensures.len, c.append_reserved.ensures.capacity),
  keeps_bytes _ _ _ _ _ _ c.push_reserved.ensures.items c.append_reserved.ensures.items c.self.invariant.2 c.requires.same,
)

pub returns : goal.returns
returns c = rw (sym c.self.view_is)
    (ap (λ told. record { told = told; calls_left = c.self.inside.calls_left - 1; bytes_left = c.self.inside.bytes_left - length c.args.bytes.now })
    (tells_one_more c.self.inside.tells _ _ _ _ _ _ c.push_reserved.ensures.items c.append_reserved.ensures.items c.self.invariant.2 c.requires.same))
