use Rattle.std.proofs.Common.{◌+◌, ◌<◌, ◌++◌, length, get_or, sym, ap, ◌∙◌, subst, arith}
use Rattle.layouts.specs.Plans.{row_at}
use Rattle.dual.proofs.Steps.{edges_more, edges_within}
use Rattle.reader.specs.Tables.{Span}
use Rattle.reader.specs.declared.table.Row.{Row}
use Rattle.reader.proofs.Tables.{edge_cells_more, span_of, spans_more}
use Rattle.reader.proofs.table.Table.of.Goals as goal

pub copy_row-requires-clause-room : goal.copy_row-requires-clause-room
copy_row-requires-clause-room g c =
    let p = g.L.Layout.plan c.args.layout.now in
    let l = ap length c.loop-row.invariant.cells in
    let m = edges_more p.rows c.loop-row.row (omega arith) in
    let w = edges_within p.rows (c.loop-row.row + 1) in
    omega (arith, p.few_edges)

pub loop-row-preserved : goal.loop-row-preserved
loop-row-preserved g c =
    let rows = (g.L.Layout.plan c.args.layout.now).rows in
    let r = c.loop-row.row in
    let h : r < length rows = omega arith in
    let row : Row = record { start = c.len-start.result; end = c.len-end.result } in
    let e = c.copy_row.ensures ∙ ap (λ xs. xs ++ row_at rows r) c.loop-row.invariant.cells ∙ sym (edge_cells_more rows r h) in
    let s = span_of rows r c.len-start.result c.len-end.result h (c.len-start.ensures.value ∙ ap length c.loop-row.invariant.cells) (c.len-end.ensures.value ∙ ap length e) in
    record {
      cells = e;
      count = omega (arith, c.push.ensures.len, c.loop-row.invariant.count);
      each = λ k d l. subst (λ (list : _). Span rows k (get_or list k d).start (get_or list k d).end) (sym c.push.ensures.items)
          (spans_more rows c.loop-row.rows.items r row c.loop-row.invariant.count s c.loop-row.invariant.each k d l);
    }
