use Rattle.std.proofs.Common.{◌≡◌, true, length, drop}
use Rattle.layouts.specs.Lists.{rise_above, last_end, rows_from, rows_of, rows_rise}
use Rattle.layouts.proofs.listed.rows_rise.Given as goal

abbrev pub invariant-loop-end : goal.invariant-loop-end
invariant-loop-end l =
    (rows_rise l.cells (rows_from l.start (drop l.end-index l.ends) l.entries) ≡ rows_rise l.cells (rows_of l.ends l.entries))
    × (rise_above l.start (drop l.end-index l.ends) ≡ true)
    × (last_end l.start (drop l.end-index l.ends) ≡ length l.entries)
