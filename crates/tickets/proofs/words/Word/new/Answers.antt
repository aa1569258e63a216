use Rattle.std.proofs.Common.{rules}
use Rattle.tickets.proofs.Packing.{bits_from}
use Rattle.tickets.proofs.words.Word.new.Goals as goal

pub invariant_of-result : goal.invariant_of-result
invariant_of-result c = record { bits = bits_from c.args.bytes.now (search rules) }
