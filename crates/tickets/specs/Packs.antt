-- A word as a ticket holds it: eight cells a byte, the first in the top bit.
use Rattle.std.specs.Prelude.{ℕ, ◌+◌, ◌-◌, ◌*◌, ◌/◌, ◌%◌, ◌^◌, ◌<◌, ◌≤◌, Bool, false, ◌||◌, List, [], ◌∷◌, ◌++◌, map, length, take, drop, ◌==◌, nat_lt, slice_index}
use Rattle.std.specs.List.{range_with_len}

-- bytes: numbers below 256
abbrev pub Octets : List ℕ → Type 0
Octets bs = (i : ℕ) → slice_index bs i < 256

-- a word: one bit a cell, 0 for blank and 1 for dark
abbrev pub Bits : List ℕ → Type 0
Bits x = (k : ℕ) → slice_index x k ≤ 1

-- whether a byte is above 1, so that they are no word
abbrev pub no_bits : List ℕ → Bool
no_bits [] = false
no_bits (b ∷ bs) = nat_lt 1 b || no_bits bs

-- byte j of a packed word: cells 8j to 8j + 7; a cell that is not there counts 0
abbrev pub octet : List ℕ → ℕ → ℕ
octet x j =
    128 * slice_index x (8 * j) + 64 * slice_index x (8 * j + 1) + 32 * slice_index x (8 * j + 2) + 16 * slice_index x (8 * j + 3)
    + 8 * slice_index x (8 * j + 4) + 4 * slice_index x (8 * j + 5) + 2 * slice_index x (8 * j + 6) + slice_index x (8 * j + 7)

-- how many bytes n cells take
abbrev pub packed_length : ℕ → ℕ
packed_length n = (n + 7) / 8

abbrev pub packed : List ℕ → List ℕ
packed x = map (octet x) (range_with_len 0 (packed_length (length x)))

-- the bit of cell k in packed bytes
abbrev pub cell_bit : List ℕ → ℕ → ℕ
cell_bit bs k = slice_index bs (k / 8) / 2 ^ (7 - k % 8) % 2

-- the word of n cells in packed bytes
abbrev pub unpacked : ℕ → List ℕ → List ℕ
unpacked n bs = map (cell_bit bs) (range_with_len 0 n)

-- whether the unused bits are zero: those of the last byte behind cell n - 1
abbrev pub clear : ℕ → List ℕ → Bool
clear n bs = slice_index bs (n / 8) % 2 ^ (8 - n % 8) == 0

-- a list with other elements from a place on
abbrev pub splice : {A : Type 0} → List A → ℕ → List A → List A
splice xs at bs = take at xs ++ (bs ++ drop (at + length bs) xs)
