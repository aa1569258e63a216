-- Packing a word and unpacking it undo each other.
use Rattle.std.proofs.Common.{◌≡◌, ℕ, zero, suc, ◌+◌, ◌-◌, ◌*◌, ◌/◌, ◌%◌, ◌^◌, ◌<◌, ◌≤◌, Bool, true, false, not, ◌||◌, ltb, List, [], ◌∷◌, map, length, get_or, sym, refl, ap, ◌∙◌, inl, inr, add-zero, arith}
use native.Mathlib.Nat.{zero-div, zero-mod}
use Rattle.std.proofs.lemmas.Nat.{field_of, mod-pow-add, shr-shr}
use Rattle.std.proofs.lemmas.List.FromFn.{length-map-range_with_len, get_or-map-range_with_len, fill_by_all}
use Rattle.std.proofs.lemmas.List.{get_or_past}
use Rattle.std.proofs.lemmas.Bool.{ltb-false, le-ltb, or_parts, eqb-true, eq-eqb, cases_lt, cases_Bool}
use Rattle.std.proofs.lemmas.List.Elements.{All-from_get_or}
use Rattle.std.specs.Prelude.{IsTrue, All, ◌↔◌}
use Rattle.std.specs.List.{range_with_len}
use Rattle.tickets.specs.Packs.{Octets, Bits, no_bits, octet, packed_length, packed, cell_bit, unpacked, clear}

pub bits_from : (x : List ℕ) → no_bits x ≡ false → Bits x
bits_from [] e k = omega arith
bits_from (b ∷ x) e zero = ltb-false 1 b (or_parts (ltb 1 b) (no_bits x) e).0
bits_from (b ∷ x) e (suc k) = bits_from x (or_parts (ltb 1 b) (no_bits x) e).1 k

pub bits_to : (x : List ℕ) → Bits x → no_bits x ≡ false
bits_to [] h = refl
bits_to (b ∷ x) h = ap (λ t. t || no_bits x) (le-ltb 1 b (h 0)) ∙ bits_to x (λ k. h (suc k))

-- a test that each byte is at most 1
pub word_test : (r : Bool) (x : List ℕ) → (IsTrue r ↔ All (λ b. b ≤ 1) x) → r ≡ not (no_bits x)
word_test true x h = sym (ap not (bits_to x bits))
  where
    bits : Bits x
    bits k = elim (cases_lt k (length x)) [ inl low ↦ h.0 refl k 0 low | inr past ↦ omega (arith, get_or_past x k 0 past) ]
word_test false x h = elim (cases_Bool (no_bits x)) [
  | inl t ↦ sym (ap not t)
  | inr f ↦ absurd (let e : false ≡ true = h.1 (All-from_get_or (λ b. b ≤ 1) x 0 (λ k low. bits_from x f k)) in let z : ◌≡◌ {A = ℕ} 0 1 = cc in omega arith)
]

-- the eight cells of byte j
eight : List ℕ → ℕ → List ℕ
eight x j = get_or x (8 * j) 0 ∷ get_or x (8 * j + 1) 0 ∷ get_or x (8 * j + 2) 0 ∷ get_or x (8 * j + 3) 0 ∷ get_or x (8 * j + 4) 0 ∷ get_or x (8 * j + 5) 0 ∷ get_or x (8 * j + 6) 0 ∷ get_or x (8 * j + 7) 0 ∷ []

eight_at : (x : List ℕ) (j r : ℕ) → r < 8 → get_or (eight x j) r 0 ≡ get_or x (8 * j + r) 0
unfolding eight
eight_at x j zero h = ap (λ k. get_or x k 0) (sym (add-zero (8 * j)))
eight_at x j (suc zero) h = refl
eight_at x j (suc (suc zero)) h = refl
eight_at x j (suc (suc (suc zero))) h = refl
eight_at x j (suc (suc (suc (suc zero)))) h = refl
eight_at x j (suc (suc (suc (suc (suc zero))))) h = refl
eight_at x j (suc (suc (suc (suc (suc (suc zero)))))) h = refl
eight_at x j (suc (suc (suc (suc (suc (suc (suc zero))))))) h = refl
eight_at x j (suc (suc (suc (suc (suc (suc (suc (suc r)))))))) h = absurd (omega arith)

-- the bit of a cell in the byte of its eight
module _ (x : List ℕ) (o : Bits x) (j : ℕ) where
  eight_bits : (r : ℕ) → r < 8 → octet x j / 2 ^ (7 - r) % 2 ≡ get_or (eight x j) r 0
  unfolding eight
  eight_bits zero h = omega (arith, o (8 * j), o (8 * j + 1), o (8 * j + 2), o (8 * j + 3), o (8 * j + 4), o (8 * j + 5), o (8 * j + 6), o (8 * j + 7))
  eight_bits (suc zero) h = omega (arith, o (8 * j), o (8 * j + 1), o (8 * j + 2), o (8 * j + 3), o (8 * j + 4), o (8 * j + 5), o (8 * j + 6), o (8 * j + 7))
  eight_bits (suc (suc zero)) h = omega (arith, o (8 * j), o (8 * j + 1), o (8 * j + 2), o (8 * j + 3), o (8 * j + 4), o (8 * j + 5), o (8 * j + 6), o (8 * j + 7))
  eight_bits (suc (suc (suc zero))) h = omega (arith, o (8 * j), o (8 * j + 1), o (8 * j + 2), o (8 * j + 3), o (8 * j + 4), o (8 * j + 5), o (8 * j + 6), o (8 * j + 7))
  eight_bits (suc (suc (suc (suc zero)))) h = omega (arith, o (8 * j), o (8 * j + 1), o (8 * j + 2), o (8 * j + 3), o (8 * j + 4), o (8 * j + 5), o (8 * j + 6), o (8 * j + 7))
  eight_bits (suc (suc (suc (suc (suc zero))))) h = omega (arith, o (8 * j), o (8 * j + 1), o (8 * j + 2), o (8 * j + 3), o (8 * j + 4), o (8 * j + 5), o (8 * j + 6), o (8 * j + 7))
  eight_bits (suc (suc (suc (suc (suc (suc zero)))))) h = omega (arith, o (8 * j), o (8 * j + 1), o (8 * j + 2), o (8 * j + 3), o (8 * j + 4), o (8 * j + 5), o (8 * j + 6), o (8 * j + 7))
  eight_bits (suc (suc (suc (suc (suc (suc (suc zero))))))) h = omega (arith, o (8 * j), o (8 * j + 1), o (8 * j + 2), o (8 * j + 3), o (8 * j + 4), o (8 * j + 5), o (8 * j + 6), o (8 * j + 7))
  eight_bits (suc (suc (suc (suc (suc (suc (suc (suc r)))))))) h = absurd (omega arith)

  octet_bit : (r : ℕ) → r < 8 → octet x j / 2 ^ (7 - r) % 2 ≡ get_or x (8 * j + r) 0
  octet_bit r h = eight_bits r h ∙ eight_at x j r h

pub unpack_pack : (x : List ℕ) → Bits x → unpacked (length x) (packed x) ≡ x
unpack_pack x o = sym (fill_by_all (cell_bit (packed x)) x (length x) 0 refl each)
  where
    each : (k : ℕ) → k < length x → get_or x k 0 ≡ cell_bit (packed x) k
    each k h =
        let at : get_or (packed x) (k / 8) 0 ≡ octet x (k / 8) = get_or-map-range_with_len (octet x) 0 (packed_length (length x)) (k / 8) (k / 8) 0 (omega arith) (omega arith) in
        let whole : 8 * (k / 8) + k % 8 ≡ k = omega arith in
        sym (ap (λ b. b / 2 ^ (7 - k % 8) % 2) at ∙ octet_bit x o (k / 8) (k % 8) (omega arith) ∙ ap (λ i. get_or x i 0) whole)

-- where the eight cells from s on are blank, the bits behind s are zero
eight_clear : (x : List ℕ) (j s : ℕ) → s < 8 → ((r : ℕ) → s ≤ r → r < 8 → get_or (eight x j) r 0 ≡ 0) → octet x j % 2 ^ (8 - s) ≡ 0
unfolding eight
eight_clear x j zero h z = omega (arith, z 0 (omega arith) (omega arith), z 1 (omega arith) (omega arith), z 2 (omega arith) (omega arith), z 3 (omega arith) (omega arith), z 4 (omega arith) (omega arith), z 5 (omega arith) (omega arith), z 6 (omega arith) (omega arith), z 7 (omega arith) (omega arith))
eight_clear x j (suc zero) h z = omega (arith, z 1 (omega arith) (omega arith), z 2 (omega arith) (omega arith), z 3 (omega arith) (omega arith), z 4 (omega arith) (omega arith), z 5 (omega arith) (omega arith), z 6 (omega arith) (omega arith), z 7 (omega arith) (omega arith))
eight_clear x j (suc (suc zero)) h z = omega (arith, z 2 (omega arith) (omega arith), z 3 (omega arith) (omega arith), z 4 (omega arith) (omega arith), z 5 (omega arith) (omega arith), z 6 (omega arith) (omega arith), z 7 (omega arith) (omega arith))
eight_clear x j (suc (suc (suc zero))) h z = omega (arith, z 3 (omega arith) (omega arith), z 4 (omega arith) (omega arith), z 5 (omega arith) (omega arith), z 6 (omega arith) (omega arith), z 7 (omega arith) (omega arith))
eight_clear x j (suc (suc (suc (suc zero)))) h z = omega (arith, z 4 (omega arith) (omega arith), z 5 (omega arith) (omega arith), z 6 (omega arith) (omega arith), z 7 (omega arith) (omega arith))
eight_clear x j (suc (suc (suc (suc (suc zero))))) h z = omega (arith, z 5 (omega arith) (omega arith), z 6 (omega arith) (omega arith), z 7 (omega arith) (omega arith))
eight_clear x j (suc (suc (suc (suc (suc (suc zero)))))) h z = omega (arith, z 6 (omega arith) (omega arith), z 7 (omega arith) (omega arith))
eight_clear x j (suc (suc (suc (suc (suc (suc (suc zero))))))) h z = omega (arith, z 7 (omega arith) (omega arith))
eight_clear x j (suc (suc (suc (suc (suc (suc (suc (suc s)))))))) h z = absurd (omega arith)

clear_at : (x : List ℕ) (n : ℕ) → n ≡ length x → get_or (packed x) (n / 8) 0 % 2 ^ (8 - n % 8) ≡ 0
clear_at x n e = elim (cases_lt (n / 8) (packed_length (length x))) [ inl low ↦ here low | inr past ↦ behind past ]
  where
    behind : packed_length (length x) ≤ n / 8 → get_or (packed x) (n / 8) 0 % 2 ^ (8 - n % 8) ≡ 0
    behind past =
        ap (λ b. b % 2 ^ (8 - n % 8)) (get_or_past (packed x) (n / 8) 0 (simp (length-map-range_with_len (octet x) 0 (packed_length (length x))) past)) ∙ zero-mod (2 ^ (8 - n % 8))

    here : n / 8 < packed_length (length x) → get_or (packed x) (n / 8) 0 % 2 ^ (8 - n % 8) ≡ 0
    here low =
        let blank : (r : ℕ) → n % 8 ≤ r → get_or x (8 * (n / 8) + r) 0 ≡ 0 = λ r h. get_or_past x (8 * (n / 8) + r) 0 (omega arith) in
        ap (λ b. b % 2 ^ (8 - n % 8)) (get_or-map-range_with_len (octet x) 0 (packed_length (length x)) (n / 8) (n / 8) 0 low (omega arith))
        ∙ eight_clear x (n / 8) (n % 8) (omega arith) (λ r h l. eight_at x (n / 8) r l ∙ blank r h)

pub clear_packed : (x : List ℕ) → clear (length x) (packed x) ≡ true
clear_packed x = eq-eqb (get_or (packed x) (length x / 8) 0 % 2 ^ (8 - length x % 8)) 0 (clear_at x (length x) refl)

-- bits below place k are zero, so bit k is
low_bit : (n j k : ℕ) → n % 2 ^ (suc j + k) ≡ 0 → n / 2 ^ k % 2 ≡ 0
low_bit n j k e =
    let f : n / 2 ^ k % 2 ^ suc j ≡ 0 = sym (field_of n (suc j) k) ∙ ap (λ m. m / 2 ^ k) e ∙ zero-div (2 ^ k) in
    let one : j + 1 ≡ suc j = omega arith in
    let g = mod-pow-add (n / 2 ^ k) j 1 in
    let p : n / 2 ^ k % 2 ^ (j + 1) ≡ 0 = ap (λ i. n / 2 ^ k % 2 ^ i) one ∙ f in
    omega arith

zero_bit : (b r : ℕ) → b ≡ 0 → b / 2 ^ (7 - r) % 2 ≡ 0
zero_bit b r e = ap (λ m. m / 2 ^ (7 - r) % 2) e ∙ ap (λ m. m % 2) (zero-div (2 ^ (7 - r)))

-- behind the last cell there is nothing
pub cell_beyond : (n : ℕ) (bs : List ℕ) (k : ℕ) → length bs ≡ packed_length n → clear n bs ≡ true → n ≤ k → cell_bit bs k ≡ 0
cell_beyond n bs k l e h = elim (cases_lt (k / 8) (length bs)) [ inl low ↦ here low | inr past ↦ zero_bit (get_or bs (k / 8) 0) (k % 8) (get_or_past bs (k / 8) 0 past) ]
  where
    here : k / 8 < length bs → cell_bit bs k ≡ 0
    here low =
        let same : k / 8 ≡ n / 8 = omega arith in
        let unused = eqb-true (get_or bs (n / 8) 0 % 2 ^ (8 - n % 8)) 0 e in
        let split : suc (k % 8 - n % 8) + (7 - k % 8) ≡ 8 - n % 8 = omega arith in
        ap (λ i. get_or bs i 0 / 2 ^ (7 - k % 8) % 2) same
        ∙ low_bit (get_or bs (n / 8) 0) (k % 8 - n % 8) (7 - k % 8) (ap (λ i. get_or bs (n / 8) 0 % 2 ^ i) split ∙ unused)

-- the word that was unpacked has each cell's bit, and 0 behind the last
pub cell_unpacked : (n : ℕ) (bs : List ℕ) (k : ℕ) → length bs ≡ packed_length n → clear n bs ≡ true → get_or (unpacked n bs) k 0 ≡ cell_bit bs k
cell_unpacked n bs k l e = elim (cases_lt k n) [
  | inl low ↦ get_or-map-range_with_len (cell_bit bs) 0 n k k 0 low (omega arith)
  | inr past ↦ get_or_past (unpacked n bs) k 0 (simp (length-map-range_with_len (cell_bit bs) 0 n) past) ∙ sym (cell_beyond n bs k l e past)
]

byte_whole : (b : ℕ) → b < 256 → 128 * (b / 128 % 2) + 64 * (b / 64 % 2) + 32 * (b / 32 % 2) + 16 * (b / 16 % 2) + 8 * (b / 8 % 2) + 4 * (b / 4 % 2) + 2 * (b / 2 % 2) + b / 1 % 2 ≡ b
byte_whole b h =
    let e1 = shr-shr b 1 1 in let e2 = shr-shr b 2 1 in let e3 = shr-shr b 3 1 in let e4 = shr-shr b 4 1 in let e5 = shr-shr b 5 1 in let e6 = shr-shr b 6 1 in
    omega arith

place_bit : (bs : List ℕ) (j r : ℕ) → r < 8 → cell_bit bs (8 * j + r) ≡ get_or bs j 0 / 2 ^ (7 - r) % 2
place_bit bs j r h =
    let q : (8 * j + r) / 8 ≡ j = omega arith in
    let m : (8 * j + r) % 8 ≡ r = omega arith in
    ap (λ i. get_or bs i 0 / 2 ^ (7 - (8 * j + r) % 8) % 2) q ∙ ap (λ i. get_or bs j 0 / 2 ^ (7 - i) % 2) m

pub pack_unpack : (n : ℕ) (bs : List ℕ) → Octets bs → length bs ≡ packed_length n → clear n bs ≡ true → packed (unpacked n bs) ≡ bs
pack_unpack n bs o l e =
    let long : length (unpacked n bs) ≡ n = length-map-range_with_len (cell_bit bs) 0 n in
    ap (λ m. map (octet (unpacked n bs)) (range_with_len 0 (packed_length m))) long ∙ sym (fill_by_all (octet (unpacked n bs)) bs (packed_length n) 0 l each)
  where
    cell : (j r : ℕ) → r < 8 → get_or (unpacked n bs) (8 * j + r) 0 ≡ get_or bs j 0 / 2 ^ (7 - r) % 2
    cell j r h = cell_unpacked n bs (8 * j + r) l e ∙ place_bit bs j r h

    each : (j : ℕ) → j < packed_length n → get_or bs j 0 ≡ octet (unpacked n bs) j
    each j h =
        let c0 : get_or (unpacked n bs) (8 * j) 0 ≡ get_or bs j 0 / 128 % 2 = ap (λ i. get_or (unpacked n bs) i 0) (sym (add-zero (8 * j))) ∙ cell j 0 (omega arith) in
        let c1 = cell j 1 (omega arith) in
        let c2 = cell j 2 (omega arith) in
        let c3 = cell j 3 (omega arith) in
        let c4 = cell j 4 (omega arith) in
        let c5 = cell j 5 (omega arith) in
        let c6 = cell j 6 (omega arith) in
        let c7 = cell j 7 (omega arith) in
        let b = byte_whole (get_or bs j 0) (o j) in
        omega arith

pub bits_unpacked : (n : ℕ) (bs : List ℕ) → Bits (unpacked n bs)
bits_unpacked n bs k = elim (cases_lt k n) [
  | inl low ↦ omega (arith, get_or-map-range_with_len (cell_bit bs) 0 n k k 0 low (omega arith))
  | inr past ↦ omega (arith, get_or_past (unpacked n bs) k 0 (simp (length-map-range_with_len (cell_bit bs) 0 n) past))
]
