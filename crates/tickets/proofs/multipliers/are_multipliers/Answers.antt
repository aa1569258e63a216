use Rattle.std.proofs.Common.{◌≡◌, ◌+◌, ◌*◌, length, is_some, ap, sym, ◌∙◌, subst, rules}
use Rattle.std.specs.Iterator.Runs.{IsChunksExactRun}
use Rattle.std.specs.Slice.Iter.{chunks_exact_rest, chunks_exact_size}
use Rattle.tickets.specs.Reads.{multiplier_at}
use Rattle.tickets.proofs.Chunked.{all_chunks}
use Rattle.tickets.proofs.Records.{records_tested, records_length}
use Rattle.tickets.proofs.multipliers.are_multipliers.Goals as goal

pub returns-then-eq : goal.returns-then-eq
returns-then-eq g c =
    let kind = g.W.Weight.kind in
    let codec = g.W.TicketWeight.codec in
    let part = c.args.part.now in
    let all = c.all.ensures.runs in
    let p = all.0 in
    let size : chunks_exact_size p.from ≡ 2 + codec.width = ap chunks_exact_size all.1 ∙ c.chunks_exact.ensures.size ∙ c.record_len-len.ensures in
    let rest : chunks_exact_rest p.from ≡ part = ap chunks_exact_rest all.1 ∙ c.chunks_exact.ensures.rest in
    let long : length part ≡ c.args.edges * (2 + codec.width) = (search rules) ∙ ap (λ n. c.args.edges * n) c.record_len-len.ensures in
    records_tested kind codec c.all.result c.args.edges part long
    (all_chunks p _ _ (λ bs. is_some (multiplier_at kind codec bs)) c.args.edges (2 + codec.width) part c.all.result all.2
    (subst (λ n. IsChunksExactRun p n part) size (subst (IsChunksExactRun p (chunks_exact_size p.from)) rest (c.chunks_exact.ensures.runs p p.seen (search rules))))
    (λ a r f' h. search rules) (λ x b h. search rules) (search rules) long)

pub returns-else-eq : goal.returns-else-eq
returns-else-eq g c =
    let codec = g.W.TicketWeight.codec in
    let other : (length c.args.part.now ≡ c.args.edges * c.record_len-len.result → ⊥) = search rules in
    c.if-eq.false
    ∙ sym (records_length g.W.Weight.kind codec c.args.edges c.args.part.now (λ e. other (e ∙ ap (λ n. c.args.edges * n) (sym c.record_len-len.ensures))))
