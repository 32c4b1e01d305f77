-- The report of an owner: a row for itself and for all that is below it, depth first, each owner before its children.
use Rattle.std.specs.Prelude.{ℕ, suc, zero, ◌+◌, List, [], ◌∷◌, length, flat_map, Option, Some, None, codes, if◌then◌else◌}
use Rattle.tree_specs.specs.declared.object.Obj.{Obj}
use Rattle.tree_specs.specs.declared.object.Owner.{Owner}
use Rattle.tree_specs.specs.declared.object.Owner.TheVariants.{Root, Of}
use Rattle.tree_specs.specs.declared.kind.Kind.{Kind}
use Rattle.tree_specs.specs.declared.kind.Kind.TheVariants.{Plain, Reference, Timer, Immediate, Descriptor, Request, Queue, Entry, Context}
use Rattle.tree_specs.specs.declared.report.RowKind.{RowKind}
use Rattle.tree_specs.specs.declared.report.RowKind.TheVariants as row_kinds
use Rattle.tree_specs.specs.declared.report.ReportRow.{ReportRow}
use Rattle.tree_specs.specs.declared.row.Row.{Row}
use Rattle.tree_specs.specs.Tree.Pool.{row_of, kids}
use Rattle.tree_specs.specs.Tree.Targets.{target_of, is_target}
use Rattle.tree_specs.specs.Tree.Inside.{total}

abbrev pub row_kind : Kind → RowKind
row_kind Plain = row_kinds.Plain
row_kind (Reference target) = row_kinds.Reference
row_kind Timer = row_kinds.Timer
row_kind Immediate = row_kinds.Immediate
row_kind Descriptor = row_kinds.Fd
row_kind Request = row_kinds.Request
row_kind Queue = row_kinds.Queue
row_kind Entry = row_kinds.Entry
row_kind Context = row_kinds.Context

abbrev pub target_number : Option Obj → ℕ
target_number None = 0
target_number (Some target) = target.0

-- how many references there are to an object
abbrev pub count_refs : List Row → Obj → ℕ
count_refs rs x = total (λ r. if is_target (target_of r.kind) x then 1 else 0) rs

abbrev pub root_row : ReportRow
root_row = record { depth = 0; id = 0; kind = row_kinds.Root; size = 0; refs = 0; target = 0; name = codes "null_context" }

abbrev pub report_row : List Row → ℕ → Row → ReportRow
report_row rs depth r = record {
  depth = depth;
  id = r.serial.0;
  kind = row_kind r.kind;
  size = r.size;
  refs = count_refs rs r.serial;
  target = target_number (target_of r.kind);
  name = r.name;
}

-- a row, and what is below it
abbrev pub with_below : List Row → ℕ → Option Row → List ReportRow → List ReportRow
with_below rs depth None below = []
with_below rs depth (Some r) below = report_row rs depth r ∷ below

-- the rows of these objects and of all that is below them; no chain of owners has more than n of them
abbrev pub report_each : ℕ → List Row → ℕ → List Obj → List ReportRow
report_each zero rs depth xs = []
report_each (suc n) rs depth xs = flat_map (λ x. with_below rs depth (row_of rs x) (report_each n rs (depth + 1) (kids rs (Of x)))) xs

-- what is below an owner
abbrev pub report_below : List Row → Owner → List ReportRow
report_below rs p = report_each (length rs) rs 1 (kids rs p)

abbrev pub report : List Row → Owner → List ReportRow
report rs Root = root_row ∷ report_below rs Root
report rs (Of x) = with_below rs 0 (row_of rs x) (report_below rs (Of x))
