-- One signed part of a weight: a number of 32 bits in two's complement, high byte first.
use Rattle.std.specs.Prelude.{ℕ, ◌+◌, ◌*◌, ◌/◌, ◌%◌, List, [], ◌∷◌, ℤ, slice_index}
use Rattle.std.specs.Int.{w32}
use Rattle.std.proofs.Common.{to_z, of_z}

-- the four bytes of a number below 2^32
abbrev pub number_bytes : ℕ → List ℕ
number_bytes n = (n / 16777216 % 256) ∷ (n / 65536 % 256) ∷ (n / 256 % 256) ∷ (n % 256) ∷ []

-- the number of the first four bytes
abbrev pub number_of_bytes : List ℕ → ℕ
number_of_bytes bs = slice_index bs 0 * 16777216 + slice_index bs 1 * 65536 + slice_index bs 2 * 256 + slice_index bs 3

-- `of_z w32` is two's complement: z itself, or 2^32 + z where z is negative; `to_z w32` takes it back
abbrev pub part_bytes : ℤ → List ℕ
part_bytes z = number_bytes (of_z w32 z)

abbrev pub part_of : List ℕ → ℤ
part_of bs = to_z w32 (number_of_bytes bs)
