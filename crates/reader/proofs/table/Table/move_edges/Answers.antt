use Rattle.std.proofs.Common.{◌≡◌, ℕ, ◌<◌, false, length, get_or, sym, refl, ap, ◌∙◌, arith}
use Rattle.std.proofs.lemmas.List.{length-map, get_or-map}
use Rattle.layouts.specs.Plans.{edge_cells}
use Rattle.dual.specs.Bound.{at}
use Rattle.model.specs.Moves.{moved_edge}
use Rattle.model.specs.Words.{marked, bits}
use Rattle.reader.proofs.Fits.{cell_inside}
use Rattle.reader.proofs.Moved.{bit_at, moves_step}
use Rattle.reader.proofs.table.Table.move_edges.Goals as goal

pub bounds-word-from : goal.bounds-word-from
bounds-word-from g c =
    let p = g.L.Layout.plan c.args.self.now.layout.now in
    let i : ℕ = c.loop-i.i in
    cell_inside p i _ _ (omega (arith, c.loop-i-test.true, c.requires.multipliers)) (c.from.ensures ∙ ap (λ xs. get_or xs i 0) c.edge_cells-cells.ensures) c.requires.word

pub loop-i-preserved : goal.loop-i-preserved
loop-i-preserved g c =
    let i : ℕ = c.loop-i.i in
    let word = c.args.word.now in
    let p = g.L.Layout.plan c.args.self.now.layout.now in
    let cells = edge_cells p.rows in
    let here : c.from.result ≡ get_or cells i 0 = c.from.ensures ∙ ap (λ xs. get_or xs i 0) c.edge_cells-cells.ensures in
    let h : i < length cells = omega (arith, c.loop-i-test.true, c.requires.multipliers) in
    let inside : get_or cells i 0 < length word = cell_inside p i _ _ h refl c.requires.word in
    let hz : i < length c.args.marks.now = omega (arith, c.requires.marks) in
    let bit = λ (e : ℕ). get_or (bits word) e false in
    let lx : length (at (bits word) cells) ≡ length cells = length-map cells bit in
    let lz : length (bits c.args.marks.now) ≡ length c.args.marks.now = length-map c.args.marks.now marked in
    moves_step g.W.Weight.kind c.args.step (at (bits word) cells) (bits c.args.marks.now) c.loop-i.multipliers i _ _ c.index-multipliers-i.result c.moved_edge.result
    (omega arith) (omega arith) (omega (arith, c.requires.multipliers, c.loop-i.auto.multipliers))
    (get_or-map bit cells i 0 false h ∙ bit_at word (get_or cells i 0) inside ∙ ap (λ e. marked (get_or word e 0)) (sym here)) (bit_at c.args.marks.now i hz) c.index-multipliers-i.is (c.moved_edge.ensures ∙ ap (moved_edge g.W.Weight.kind c.args.step (marked (get_or word c.from.result 0)) (marked (get_or c.args.marks.now i 0))) (sym c.index-multipliers-i.is))
    ∙ c.loop-i.invariant
