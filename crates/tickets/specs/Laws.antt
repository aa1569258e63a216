-- What holds of tickets of every kind and over every layout.
use Rattle.std.specs.Prelude.{◌≡◌, ℕ, List, length}
use Rattle.weights.specs.Kinds.{Kind}
use Rattle.tickets.specs.Codecs.{Codec}
use Rattle.tickets.specs.Packs.{Octets}
use Rattle.tickets.specs.Reads.{read_refusal, word_read, multipliers_read}
use Rattle.tickets.specs.Tickets.{Counts, ticket, ticket_size, write_refusal}

-- a ticket that may be written has the size that the counts give, and is read, as the same word and multipliers
abbrev pub ReadsBack : {W : Type 0} → Kind W → Codec W → Type 0
ReadsBack {W} k c =
    (n : Counts) (x : List ℕ) (ms : List W) (room : ℕ) → write_refusal k c n x ms room ≡ 0
    → (length (ticket c n x ms) ≡ ticket_size c n) × (read_refusal k c n (ticket c n x ms) (length ms) ≡ 0) × (word_read n (ticket c n x ms) ≡ x) × (multipliers_read k c n (ticket c n x ms) ≡ ms)

-- bytes that are read at all are the ticket of what is read, which may be written
abbrev pub OnlyWritten : {W : Type 0} → Kind W → Codec W → Type 0
OnlyWritten k c =
    (n : Counts) (bs : List ℕ) (m : ℕ) → Octets bs → read_refusal k c n bs m ≡ 0
    → (bs ≡ ticket c n (word_read n bs) (multipliers_read k c n bs)) × (write_refusal k c n (word_read n bs) (multipliers_read k c n bs) (length bs) ≡ 0)

-- two different byte strings never read as the same ticket
abbrev pub NeverAlike : {W : Type 0} → Kind W → Codec W → Type 0
NeverAlike k c =
    (n : Counts) (bs cs : List ℕ) (l m : ℕ) → Octets bs → Octets cs → read_refusal k c n bs l ≡ 0 → read_refusal k c n cs m ≡ 0
    → word_read n bs ≡ word_read n cs → multipliers_read k c n bs ≡ multipliers_read k c n cs → bs ≡ cs
