use Rattle.std.proofs.Common.{length, get_or, set, ap, ◌∙◌, rules}
use Rattle.std.proofs.lemmas.List.FromFn.{fill_by_all}
use Rattle.std.proofs.lemmas.List.Edits.{fill_by_more}
use Rattle.tickets.specs.Packs.{cell_bit}
use Rattle.tickets.proofs.words.unpack.Goals as goal

pub loop-i-preserved : goal.loop-i-preserved
loop-i-preserved c k h =
    let step = fill_by_more (cell_bit c.args.packed.now) c.loop-i.word c.loop-i.i 0 (search rules) c.loop-i.invariant k h in
    ap (λ b. get_or (set c.loop-i.word c.loop-i.i b) k 0) c.bit_of.ensures ∙ step

pub returns : goal.returns
returns c = fill_by_all (cell_bit c.args.packed.now) c.loop-i.word (length c.args.word.now) 0 (search rules) (λ k h. c.loop-i.invariant k (search rules))
