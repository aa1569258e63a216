use Rattle.std.proofs.Common.{◌≡◌, ℕ, ◌+◌, ◌*◌, ◌^◌, ◌<◌, ◌≤◌, [], ◌∷◌, length, get_or, sym, ◌∙◌, subst, arith, rules}
use Rattle.std.proofs.lemmas.List.{length-append}
use Rattle.std.proofs.lemmas.Slice.Zip.{zip_turn}
use Rattle.layouts.specs.Plans.{edge_cells}
use Rattle.reader.proofs.Fits.{cell_inside}
use Rattle.reader.proofs.Sizes.{slack_step}
use Rattle.reader.proofs.table.Table.slacken.Goals as goal

pub bounds-left-cell : goal.bounds-left-cell
bounds-left-cell g c =
    let p = g.L.Layout.plan c.args.self.now.layout.now in
    let i : ℕ = length c.loop-cell.yielded in
    let t = zip_turn (edge_cells p.rows) c.args.multipliers.now c.loop-cell.yielded c.into_iter-cell-iterator.result c.loop-cell.cell-iterator c.next.new.self c.next.result
    (search rules) (search rules) c.loop-cell.yielded_by (c.in-Some.cell, c.in-Some.multiplier) c.in-Some.is c.next.ensures.steps in
    let e : c.from-cell.result ≡ get_or (edge_cells p.rows) i 0 = c.from-cell.ensures ∙ t.2 0 in
    let hl : c.from-cell.result < length c.loop-cell.left = cell_inside p i _ _ t.0 e (c.loop-cell.auto.left ∙ c.requires.left) in
    hl

pub bounds-left-cell-in-loop-cell : goal.bounds-left-cell-in-loop-cell
bounds-left-cell-in-loop-cell g c =
    let p = g.L.Layout.plan c.args.self.now.layout.now in
    let i : ℕ = length c.loop-cell.yielded in
    let t = zip_turn (edge_cells p.rows) c.args.multipliers.now c.loop-cell.yielded c.into_iter-cell-iterator.result c.loop-cell.cell-iterator c.next.new.self c.next.result
    (search rules) (search rules) c.loop-cell.yielded_by (c.in-Some.cell, c.in-Some.multiplier) c.in-Some.is c.next.ensures.steps in
    let e : c.from-cell.result ≡ get_or (edge_cells p.rows) i 0 = c.from-cell.ensures ∙ t.2 0 in
    let hl : c.from-cell.result < length c.loop-cell.left = cell_inside p i _ _ t.0 e (c.loop-cell.auto.left ∙ c.requires.left) in
    hl

pub loop-cell-preserved : goal.loop-cell-preserved
loop-cell-preserved g c =
    let k = g.W.Weight.kind in
    let p = g.L.Layout.plan c.args.self.now.layout.now in
    let i : ℕ = length c.loop-cell.yielded in
    let m = c.in-Some.multiplier.now in
    let t = zip_turn (edge_cells p.rows) c.args.multipliers.now c.loop-cell.yielded c.into_iter-cell-iterator.result c.loop-cell.cell-iterator c.next.new.self c.next.result
    (search rules) (search rules) c.loop-cell.yielded_by (c.in-Some.cell, c.in-Some.multiplier) c.in-Some.is c.next.ensures.steps in
    let e : c.from-cell.result ≡ get_or (edge_cells p.rows) i 0 = c.from-cell.ensures ∙ t.2 0 in
    let hl : c.from-cell.result < length c.loop-cell.left = cell_inside p i _ _ t.0 e (c.loop-cell.auto.left ∙ c.requires.left) in
    let sm : k.size m ≤ 2 ^ 18 = subst (λ w. k.size w ≤ 2 ^ 18) (sym (t.3 m)) (c.requires.small i m t.1) in
    let step = slack_step k (edge_cells p.rows) c.args.multipliers.now c.loop-cell.left i c.from-cell.result (2 ^ 23 + i * 2 ^ 18) m c.index-left-cell.result c.minus.result
    t.0 t.1 e hl (t.3 m) c.index-left-cell.is sm c.minus.ensures.difference c.loop-cell.invariant.1 (omega (arith, p.few_edges)) in
    rw (length-append c.loop-cell.yielded ((c.in-Some.cell, c.in-Some.multiplier) ∷ [])) (step.0 ∙ c.loop-cell.invariant.0, omega (arith, step.1))
