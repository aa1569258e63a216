-- What a writer does with its output.
use Rattle.std.specs.Prelude.{◌≡◌, ℕ, ◌+◌, List, length}
use Rattle.tickets.specs.declared.writer.TicketWriter.{TicketWriter}
use Rattle.tickets.specs.Packs.{splice}

-- the same output has the bytes at the place, and the place is behind them
pub record Puts (old new : TicketWriter) (bs : List ℕ) : Type 0 where
  pub same_output : new.out.ghost_name ≡ old.out.ghost_name
  pub room : length new.out.now ≡ length old.out.now
  pub bytes : new.out.now ≡ splice old.out.now old.at bs
  pub place : new.at ≡ old.at + length bs
