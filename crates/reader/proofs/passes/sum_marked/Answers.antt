use Rattle.std.proofs.Common.{◌≡◌, ℕ, true, false, [], ◌∷◌, length, get_or, refl, arith, rules}
use Rattle.std.proofs.lemmas.Bool.Decides.{nat_tests}
use Rattle.std.proofs.lemmas.List.{length-append}
use Rattle.std.proofs.lemmas.Slice.Zip.{zip_turn}
use Rattle.model.specs.Words.{marked}
use Rattle.reader.proofs.Turns.{sum_adds, sum_passes}
use Rattle.reader.proofs.passes.sum_marked.Goals as goal

pub loop-mark-preserved-then-mark-ne0 : goal.loop-mark-preserved-then-mark-ne0
loop-mark-preserved-then-mark-ne0 g c =
    let i : ℕ = length c.loop-mark.yielded in
    let t = zip_turn c.args.marks.now c.args.list.now c.loop-mark.yielded c.into_iter-mark-iterator.result c.loop-mark.mark-iterator c.next.new.self c.next.result
    (search rules) (search rules) c.loop-mark.yielded_by (c.in-Some.mark, c.in-Some.w) c.in-Some.is c.next.ensures.steps in
    let e = t.2 0 in
    let b : marked (get_or c.args.marks.now i 0) ≡ true = grind (arith, nat_tests) in
    rw (length-append c.loop-mark.yielded ((c.in-Some.mark, c.in-Some.w) ∷ []))
    (sum_adds g.W.Weight.kind c.args.marks.now c.args.list.now i c.in-Some.w.now c.loop-mark.sum c.plus-sum.result t.0 t.1 (t.3 c.in-Some.w.now) b c.plus-sum.ensures.sum
    c.requires.small c.loop-mark.invariant.0 c.loop-mark.invariant.1)

pub loop-mark-preserved : goal.loop-mark-preserved
loop-mark-preserved g c =
    let i : ℕ = length c.loop-mark.yielded in
    let t = zip_turn c.args.marks.now c.args.list.now c.loop-mark.yielded c.into_iter-mark-iterator.result c.loop-mark.mark-iterator c.next.new.self c.next.result
    (search rules) (search rules) c.loop-mark.yielded_by (c.in-Some.mark, c.in-Some.w) c.in-Some.is c.next.ensures.steps in
    let e = t.2 0 in
    let b : marked (get_or c.args.marks.now i 0) ≡ false = grind (arith, nat_tests) in
    rw (length-append c.loop-mark.yielded ((c.in-Some.mark, c.in-Some.w) ∷ []))
    (sum_passes g.W.Weight.kind c.args.marks.now c.args.list.now i c.in-Some.w.now c.loop-mark.sum c.loop-mark.sum t.0 t.1 (t.3 c.in-Some.w.now) b refl
    c.loop-mark.invariant.0 c.loop-mark.invariant.1)
