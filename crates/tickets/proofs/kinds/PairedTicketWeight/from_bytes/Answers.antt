use Rattle.std.proofs.Common.{◌≡◌, ℕ, true, of_z, ap, ◌∙◌, inl, inr, arith, rules}
use Rattle.std.specs.Int.{w32}
use Rattle.std.proofs.lemmas.Bool.{eq-eqb}
use Rattle.tickets.proofs.Uncut.{halves, paired_read}
use Rattle.tickets.proofs.kinds.PairedTicketWeight.from_bytes.Goals as goal
use Rattle.tickets.proofs.kinds.PairedTicketWeight.from_bytes.Goals.{then-grey, else-grey}

pub returns : goal.returns
returns c =
    let w = c.new-weight.result in
    let read = halves c.args.bytes.now c.in_ok-front.front.now c.in_ok-front.back.now c.in_ok-grey.grey c.in_ok-dark.dark (search rules) (search rules) (search rules) (search rules) (search rules) in
    c.then_some.ensures
    ∙ paired_read c.args.bytes.now w c.in_ok-grey.grey c.in_ok-dark.dark c.if-grey.then_some read (search rules) (search rules)
    (λ e. elim c.if-grey.branch [ then-grey h ↦ (search rules, search rules) | else-grey h ↦ search rules ])
    (λ e. elim c.if-grey.branch [ then-grey h ↦ inr (λ f. let t : c.if-grey.then_some ≡ true = h.then_some-is ∙ eq-eqb _ _ (ap (of_z w32) (h.dark.ensures ∙ f)) in let z : ◌≡◌ {A = ℕ} 0 1 = cc in omega arith) | else-grey h ↦ inl (λ f. search rules) ])
