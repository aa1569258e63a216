-- A part is read back from its bytes, and from no others.
use Rattle.std.specs.Prelude.{◌≡◌, ℕ, ◌+◌, ◌*◌, ◌/◌, ◌%◌, ◌^◌, ◌<◌, ◌≤◌, Bool, true, false, cond, List, [], ◌∷◌, ◌++◌, length, drop, ℤ, pos, negsuc, Some, None, Option, FitsSigned, slice_index, unsigned_abs, refl}
use Rattle.std.proofs.Common.{sym, ap, ◌∙◌, arith, to_z, of_z}
use Rattle.std.specs.Int.{w32}
use Rattle.std.proofs.lemmas.Nat.{shr-shr}
use Rattle.std.proofs.lemmas.Int.{to_z-of_z, of_z-to_z}
use Rattle.tickets.specs.Packs.{Octets}
use Rattle.tickets.specs.Parts.{number_bytes, number_of_bytes, part_bytes, part_of}

fits_part : (z : ℤ) → unsigned_abs z ≤ 2 ^ 30 → FitsSigned w32 z
fits_part (pos n) h = record { sfits = omega arith }
fits_part (negsuc n) h = record { sfits = omega arith }

bits_below : (z : ℤ) → unsigned_abs z ≤ 2 ^ 30 → of_z w32 z < 2 ^ 32
bits_below (pos n) h = omega arith
bits_below (negsuc n) h = omega arith

digit : (n q : ℕ) → n / 256 ≡ q → n ≡ q * 256 + n % 256
digit n q e = omega arith

number_back : (n : ℕ) → n < 2 ^ 32 → n / 16777216 % 256 * 16777216 + n / 65536 % 256 * 65536 + n / 256 % 256 * 256 + n % 256 ≡ n
number_back n h =
    let a = digit n (n / 256) refl in
    let b = digit (n / 256) (n / 65536) (shr-shr n 8 8) in
    let c = digit (n / 65536) (n / 16777216) (shr-shr n 16 8) in
    let d : n / 16777216 % 256 ≡ n / 16777216 = omega arith in
    omega arith

-- the bytes of a part, whatever follows them
pub part_back : (z : ℤ) (bs : List ℕ) → unsigned_abs z ≤ 2 ^ 30 → part_of (part_bytes z ++ bs) ≡ z
part_back z bs h = ap (to_z w32) (number_back (of_z w32 z) (bits_below z h)) ∙ to_z-of_z w32 z (fits_part z h)

number_only : (a b c d : ℕ) → a < 256 → b < 256 → c < 256 → d < 256 → number_bytes (a * 16777216 + b * 65536 + c * 256 + d) ≡ a ∷ b ∷ c ∷ d ∷ []
number_only a b c d p q r s =
    let e : (a * 16777216 + b * 65536 + c * 256 + d) / 16777216 % 256 ≡ a = omega arith in
    let f : (a * 16777216 + b * 65536 + c * 256 + d) / 65536 % 256 ≡ b = omega arith in
    let g : (a * 16777216 + b * 65536 + c * 256 + d) / 256 % 256 ≡ c = omega arith in
    let i : (a * 16777216 + b * 65536 + c * 256 + d) % 256 ≡ d = omega arith in
    cc

four : (bs : List ℕ) → 4 ≤ length bs → bs ≡ slice_index bs 0 ∷ slice_index bs 1 ∷ slice_index bs 2 ∷ slice_index bs 3 ∷ drop 4 bs
four [] h = absurd (omega arith)
four (a ∷ []) h = absurd (omega arith)
four (a ∷ b ∷ []) h = absurd (omega arith)
four (a ∷ b ∷ c ∷ []) h = absurd (omega arith)
four (a ∷ b ∷ c ∷ d ∷ bs) h = refl

-- only the bytes of a part read as it
pub part_only : (bs : List ℕ) → Octets bs → 4 ≤ length bs → bs ≡ part_bytes (part_of bs) ++ drop 4 bs
part_only bs o h =
    let below : number_of_bytes bs < 2 ^ 32 = omega (arith, o 0, o 1, o 2, o 3) in
    four bs h
    ∙ ap (λ l. l ++ drop 4 bs) (sym (ap number_bytes (of_z-to_z w32 (number_of_bytes bs) below) ∙ number_only (slice_index bs 0) (slice_index bs 1) (slice_index bs 2) (slice_index bs 3) (o 0) (o 1) (o 2) (o 3)))

-- a choice that came out as some value
pub held : {X : Type 0} (b : Bool) (o : Option X) (w : X) → cond b o None ≡ Some w → (b ≡ true) × (o ≡ Some w)
held true o w e = (refl, e)
held false o w e = absurd (let z : ◌≡◌ {A = ℕ} 0 1 = cc in omega arith)
