-- What is read from a ticket, record by record.
use Rattle.std.specs.Prelude.{ℕ, zero, suc, ◌+◌, ◌*◌, ◌^◌, Bool, cond, not, ◌&&◌, List, [], ◌∷◌, length, take, drop, is_some, Some, None, Option, ◌==◌, nat_le, slice_index}
use Rattle.refusals.specs.Numbers.{or_else}
use Rattle.weights.specs.Kinds.{Kind}
use Rattle.tickets.specs.Packs.{packed_length, unpacked, clear}
use Rattle.tickets.specs.Codecs.{Codec}
use Rattle.tickets.specs.Tickets.{Counts, head_mark, word_mark, multiplier_mark}
use Rattle.tickets.specs.declared.head.Head.{Head}

-- whether bytes begin with a mark
abbrev pub marked : List ℕ → List ℕ → Bool
marked mark bs = nat_le 2 (length bs) && (slice_index bs 0 == slice_index mark 0 && slice_index bs 1 == slice_index mark 1)

-- whether bytes begin with a head
abbrev pub headed : List ℕ → Bool
headed bs = nat_le 7 (length bs) && marked head_mark bs

-- what a head says, and the head at the front of bytes
abbrev pub head_of : List ℕ → Head
head_of bs = record { kind = slice_index bs 2; cells = slice_index bs 3; rows = slice_index bs 4; edges = 256 * slice_index bs 5 + slice_index bs 6 }

abbrev pub head_at : List ℕ → Option Head
head_at bs = cond (headed bs) (Some (head_of bs)) None

-- whether a head says this kind and these counts
abbrev pub says : ℕ → Counts → Head → Bool
says kind n h = h.kind == kind && (h.cells == n.cells && (h.rows == n.rows && h.edges == n.edges))

-- the packed word at the front of bytes: its mark, then the bytes of n cells, unused bits zero
abbrev pub word_part : ℕ → List ℕ → Option (List ℕ)
word_part n bs =
    cond (marked word_mark bs && (nat_le (2 + packed_length n) (length bs) && clear n (take (packed_length n) (drop 2 bs))))
    (Some (take (packed_length n) (drop 2 bs))) None

-- a multiplier is at most 2^18 in size
abbrev pub small : {W : Type 0} → Kind W → Option W → Option W
small k (Some w) = cond (nat_le (k.size w) (2 ^ 18)) (Some w) None
small k None = None

-- the multiplier at the front of bytes
abbrev pub multiplier_at : {W : Type 0} → Kind W → Codec W → List ℕ → Option W
multiplier_at k c bs = cond (marked multiplier_mark bs && nat_le (2 + c.width) (length bs)) (small k (c.get (take c.width (drop 2 bs)))) None

abbrev pub followed : {W : Type 0} → Option W → Option (List W) → Option (List W)
followed (Some w) (Some ws) = Some (w ∷ ws)
followed (Some w) None = None
followed None o = None

-- n multipliers, and nothing behind them
abbrev pub multipliers_in : {W : Type 0} → Kind W → Codec W → ℕ → List ℕ → Option (List W)
multipliers_in k c zero bs = cond (length bs == 0) (Some []) None
multipliers_in k c (suc n) bs = followed (multiplier_at k c bs) (multipliers_in k c n (drop (2 + c.width) bs))

-- what a ticket holds: the packed word, its cells, the multiplier records, and the multipliers
abbrev pub packed_word : Counts → List ℕ → List ℕ
packed_word n bs = take (packed_length n.cells) (drop 9 bs)

abbrev pub word_read : Counts → List ℕ → List ℕ
word_read n bs = unpacked n.cells (packed_word n bs)

abbrev pub records_part : Counts → List ℕ → List ℕ
records_part n bs = drop (9 + packed_length n.cells) bs

abbrev pub or_empty : {W : Type 0} → Option (List W) → List W
or_empty (Some ws) = ws
or_empty None = []

abbrev pub multipliers_read : {W : Type 0} → Kind W → Codec W → Counts → List ℕ → List W
multipliers_read k c n bs = or_empty (multipliers_in k c n.edges (records_part n bs))

-- 15: head short or its mark wrong; 16: kind or counts not those expected; 17: the word record is not of the form
abbrev pub parts_refusal : ℕ → Counts → List ℕ → ℕ
parts_refusal kind n bs =
    cond (not (headed bs)) 15
    (cond (not (says kind n (head_of bs))) 16
    (cond (is_some (word_part n.cells (drop 7 bs))) 0 17))

-- 22: a work list of m weights is not one an edge; then 15, 16 and 17 as above, and 17 where the multipliers are not of the form
abbrev pub read_refusal : {W : Type 0} → Kind W → Codec W → Counts → List ℕ → ℕ → ℕ
read_refusal k c n bs m =
    cond (not (m == n.edges)) 22
    (or_else (parts_refusal c.kind_byte n bs)
    (cond (is_some (multipliers_in k c n.edges (records_part n bs))) 0 17))
