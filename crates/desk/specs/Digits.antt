-- What a word of decimal digits says. Assumes nothing.
use Rattle.std.specs.Prelude.{◌≡◌, ℕ, ◌+◌, ◌-◌, ◌*◌, ◌<◌, true, List, length, fold, slice_index}
use Rattle.std.specs.Char.{is_ascii_digit}

-- some bytes, and each is a decimal digit
abbrev pub Digits : List ℕ → Type 0
Digits bs = (0 < length bs) × ((k : ℕ) → k < length bs → is_ascii_digit (slice_index bs k) ≡ true)

-- the number that digits say
abbrev pub said : List ℕ → ℕ
said bs = fold (λ n b. n * 10 + (b - 48)) 0 bs
