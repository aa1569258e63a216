-- What was written piece behind piece is written as one.
use Rattle.std.proofs.Common.{◌≡◌, ℕ, ◌+◌, ◌-◌, ◌*◌, ◌<◌, ◌≤◌, List, [], ◌∷◌, ◌++◌, length, get_or, take, drop, sym, ap, ◌∙◌, suc-mul, add-mul, one-mul, zero-mul, add-zero, arith}
use Rattle.std.specs.List.{flat_map}
use Rattle.std.proofs.lemmas.Nat.{mul-le}
use Rattle.std.proofs.lemmas.List.{append_assoc, length-append, length-take-le, take-append-drop, take_at, drop_at, drop-drop, take_more, flat_map_more}
use Rattle.std.proofs.lemmas.List.FromFn.{length-map-range_with_len}
use Rattle.tickets.specs.Packs.{splice, octet, packed, packed_length}

module _ {A : Type 0} where
  pub splice_none : (xs : List A) (a : ℕ) → splice xs a [] ≡ xs
  splice_none xs a = ap (λ k. take a xs ++ drop k xs) (add-zero a) ∙ take-append-drop a xs

  pub splice_join : (xs bs cs : List A) (a n : ℕ) → n ≡ a + length bs → n ≤ length xs → splice (splice xs a bs) n cs ≡ splice xs a (bs ++ cs)
  splice_join xs bs cs a n e h =
      let front = take a xs ++ bs in
      let rest = drop (a + length bs) xs in
      let low : a ≤ length xs = omega arith in
      let long : length (take a xs ++ bs) ≡ n = length-append (take a xs) bs ∙ ap (λ k. k + length bs) (length-take-le a xs low) ∙ sym e in
      let seam : splice xs a bs ≡ front ++ rest = sym (append_assoc (take a xs) bs rest) in
      let end : a + length bs + length cs ≡ a + length (bs ++ cs) = omega (arith, length-append bs cs) in
      ap (λ l. splice l n cs) seam
      ∙ ap (λ l. l ++ (cs ++ drop (n + length cs) (front ++ rest))) (take_at front rest n long)
      ∙ ap (λ l. front ++ (cs ++ l)) (sym (drop-drop (length cs) n (front ++ rest)) ∙ ap (drop (length cs)) (drop_at front rest n long) ∙ drop-drop (length cs) (a + length bs) xs)
      ∙ append_assoc (take a xs) bs (cs ++ drop (a + length bs + length cs) xs)
      ∙ ap (λ l. take a xs ++ l) (sym (append_assoc bs cs (drop (a + length bs + length cs) xs)) ∙ ap (λ k. (bs ++ cs) ++ drop k xs) end)

-- the front of an array, as the code takes it
pub front_part : (n m : ℕ) (xs ys : List ℕ) → n ≡ m → take m xs ≡ ys → take (n - 0) xs ≡ ys
front_part n m xs ys e f = ap (λ k. take k xs) (let s : n - 0 ≡ m = omega arith in s) ∙ f

-- room for one more record
pub record_room : (width start i len at m : ℕ) → at ≡ start + i * width → i < len → start + len * width ≤ m → at + width ≤ m
record_room width start i len at m e h r =
    let more : (i + 1) * width ≤ len * width = mul-le (i + 1) width len width (omega arith) (omega arith) in
    omega (arith, add-mul i 1 width, one-mul width)

pub record_next : (width start i at : ℕ) → at ≡ start + i * width → at + width ≡ start + (i + 1) * width
record_next width start i at e = omega (arith, add-mul i 1 width, one-mul width)

module _ {W : Type 0} (f : W → List ℕ) (width : ℕ) (each : (w : W) → length (f w) ≡ width) where
  pub joined_length : (ws : List W) → length (flat_map f ws) ≡ length ws * width
  joined_length [] = sym (zero-mul width)
  joined_length (w ∷ ws) = length-append (f w) (flat_map f ws) ∙ omega (arith, each w, joined_length ws, suc-mul (length ws) width)

  -- one record more
  pub more_records : (ws : List W) (i : ℕ) (w : W) → i < length ws → w ≡ get_or ws i w → flat_map f (take i ws) ++ f w ≡ flat_map f (take (i + 1) ws)
  more_records ws i w h is = ap (λ v. flat_map f (take i ws) ++ f v) is ∙ flat_map_more f [] (take i ws) (get_or ws i w) ∙ ap (flat_map f) (sym (take_more ws i w h))

pub packed_long : (x : List ℕ) → length (packed x) ≡ packed_length (length x)
packed_long x = length-map-range_with_len (octet x) 0 (packed_length (length x))
