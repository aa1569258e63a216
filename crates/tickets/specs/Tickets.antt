-- The ticket, byte by byte.
use Rattle.std.specs.Prelude.{ℕ, ◌+◌, ◌*◌, ◌/◌, ◌%◌, ◌^◌, ◌≤◌, cond, not, ◌||◌, List, [], ◌∷◌, ◌++◌, length, ◌==◌, nat_lt}
use Rattle.std.specs.List.{flat_map}
use Rattle.layouts.specs.Plans.{Plan, edges as edges_of}
use Rattle.weights.specs.Kinds.{Kind}
use Rattle.weights.specs.Sizes.{beyond}
use Rattle.tickets.specs.Packs.{Bits, no_bits, packed_length, packed}
use Rattle.tickets.specs.Codecs.{Codec}

-- what a head says of the layout
pub record Counts : Type 0 where
  pub cells : ℕ
  pub rows : ℕ
  pub edges : ℕ

abbrev pub counts : Plan → Counts
counts p = record { cells = p.cells; rows = length p.rows; edges = edges_of p.rows }

-- the two bytes with which each record begins
abbrev pub head_mark : List ℕ
head_mark = 0x4C ∷ 0x48 ∷ []

abbrev pub word_mark : List ℕ
word_mark = 0x4C ∷ 0x57 ∷ []

abbrev pub multiplier_mark : List ℕ
multiplier_mark = 0x4C ∷ 0x4D ∷ []

-- the records, and the ticket
abbrev pub head_bytes : ℕ → Counts → List ℕ
head_bytes kind n = head_mark ++ (kind ∷ n.cells ∷ n.rows ∷ n.edges / 256 ∷ n.edges % 256 ∷ [])

abbrev pub word_bytes : List ℕ → List ℕ
word_bytes x = word_mark ++ packed x

abbrev pub multiplier_bytes : {W : Type 0} → Codec W → W → List ℕ
multiplier_bytes c m = multiplier_mark ++ c.put m

unfoldable pub ticket : {W : Type 0} → Codec W → Counts → List ℕ → List W → List ℕ
ticket c n x ms = head_bytes c.kind_byte n ++ (word_bytes x ++ flat_map (multiplier_bytes c) ms)

-- how many bytes a ticket over these counts takes
abbrev pub ticket_size : {W : Type 0} → Codec W → Counts → ℕ
ticket_size c n = 9 + packed_length n.cells + n.edges * (2 + c.width)

-- 13: a word that is not one bit a cell; 12: multipliers not one an edge, or beyond size 2^18; 20: an output of fewer bytes than the ticket
abbrev pub write_refusal : {W : Type 0} → Kind W → Codec W → Counts → List ℕ → List W → ℕ → ℕ
write_refusal k c n x ms room =
    cond (not (length x == n.cells) || no_bits x) 13
    (cond (not (length ms == n.edges) || beyond k (2 ^ 18) ms) 12
    (cond (nat_lt room (length (ticket c n x ms))) 20 0))

-- what the writer stands on once nothing is declined
pub record Writable {W : Type 0} (c : Codec W) (x : List ℕ) (ms : List W) (room : ℕ) : Type 0 where
  pub bits : Bits x
  pub few : length x ≤ 128
  pub fits : 9 + packed_length (length x) + length ms * (2 + c.width) ≤ room
