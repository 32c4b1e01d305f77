use Rattle.std.proofs.Common.{◌≡◌, true, false, refl, sym, ap, ◌∙◌, arith}
use Rattle.tree_specs.specs.Tree.Pool.{Pool, row_of, is_context_row}
use Rattle.object_pool.proofs.Keeping.{never}
use Rattle.object_pool.proofs.pool.ObjectPool.new.Goals as goal

pub invariant_of-result : goal.invariant_of-result
invariant_of-result c =
    let rows = ap (λ (p : Pool). p.rows) c.new-3.ensures.rows in
    record {
      references = rw (c.new-4.ensures, rows) (λ r. refl);
      limits = rw (c.new-5.ensures, rows) (record { limits = λ x. refl; bound = tt; sums = tt });
      kept = rw c.new-2.ensures c.new-3.ensures.works;
      room = rw (c.new-2.ensures, c.new-3.ensures.works, rows) (omega arith);
      given = rw c.in_ok-events.ensures (record { times = tt; ring = tt; requests = tt; queues = tt; entries = tt });
      contexts = λ x is. (let none : is_context_row (row_of c.new-3.result.rows x) ≡ false = rw rows refl in let bad : false ≡ true = sym none ∙ is in cc);
      call = never;
      placed = never;
      reference = never;
      limit = never;
      event = never;
      context = never;
    }
