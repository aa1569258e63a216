use Rattle.std.proofs.Common.{rules}
use Rattle.layouts.specs.ListPlan.{length_rows, row_is, row_span}
use Rattle.desk.proofs.kept.KeptList.row.Goals as goal

pub returns-in_err-end : goal.returns-in_err-end
returns-in_err-end c = search (rules, length_rows)

pub returns : goal.returns
returns c = search (rules, length_rows, row_is)

pub slice_bounds-result-count : goal.slice_bounds-result-count
slice_bounds-result-count c = search (rules, row_span)

pub slice_bounds-result-start : goal.slice_bounds-result-start
slice_bounds-result-start c = search (rules, row_span)

pub slice_bounds-result-end : goal.slice_bounds-result-end
slice_bounds-result-end c = search (rules, row_span)
