use Rattle.std.proofs.Common.{length, get_or, set, ap, ◌∙◌, rules, arith}
use Rattle.std.proofs.lemmas.List.FromFn.{fill_by_all}
use Rattle.std.proofs.lemmas.List.Edits.{fill_by_more}
use Rattle.tickets.specs.Packs.{octet, packed_length}
use Rattle.tickets.proofs.words.Word.pack.Goals as goal

pub loop-j-preserved : goal.loop-j-preserved
loop-j-preserved c k h =
    let step = fill_by_more (octet c.args.self.now.bytes.now) c.loop-j.out c.loop-j.j 0 (search rules) c.loop-j.invariant k h in
    ap (λ b. get_or (set c.loop-j.out c.loop-j.j b) k 0) c.octet.ensures ∙ step

pub returns : goal.returns
returns c =
    fill_by_all (octet c.args.self.now.bytes.now) c.loop-j.out (packed_length (length c.args.self.now.bytes.now)) 0 (search rules) (λ k h. c.loop-j.invariant k (omega (arith, c.requires)))
