use Rattle.std.proofs.Common.{◌≡◌, ℕ, ◌-◌, ◌^◌, ◌<◌, min, true, get_or, take}
use Rattle.std.specs.Char.{is_ascii_digit}
use Rattle.desk.specs.Digits.{said}
use Rattle.desk.proofs.words.digits.Given as goal

abbrev pub invariant-loop-byte : goal.invariant-loop-byte
invariant-loop-byte l =
    ((k : ℕ) → k < l.byte-index → is_ascii_digit (get_or l.bytes k 0) ≡ true)
    × (l.value ≡ min (said (take l.byte-index l.bytes)) (2 ^ 64 - 1))
