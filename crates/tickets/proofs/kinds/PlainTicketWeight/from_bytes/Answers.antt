use Rattle.std.proofs.Common.{◌∙◌, rules}
use Rattle.tickets.proofs.Uncut.{plain_read}
use Rattle.tickets.proofs.kinds.PlainTicketWeight.from_bytes.Goals as goal

pub returns : goal.returns
returns c =
    c.then_some.ensures ∙ plain_read c.args.bytes.now c.new-weight.result c.in_ok-number.number _ (search rules) (search rules) (λ e. search rules) (λ e f. search rules)
