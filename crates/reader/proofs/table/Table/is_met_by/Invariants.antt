use Rattle.std.proofs.Common.{◌≡◌, true, take}
use Rattle.dual.specs.Bound.{codeword}
use Rattle.model.specs.Words.{bits}
use Rattle.reader.proofs.table.Table.is_met_by.Given as goal

-- the rows so far are met
abbrev pub invariant-loop-row : goal.invariant-loop-row
invariant-loop-row g l = codeword (take l.row-index (g.L.Layout.plan l.self.layout.now).rows) (bits l.word) ≡ true
