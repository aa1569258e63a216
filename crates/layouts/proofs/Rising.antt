-- Rising by neighbours, and rows from one end to the next.
use Rattle.std.proofs.Common.{◌≡◌, ℕ, zero, suc, ◌+◌, ◌-◌, ◌<◌, Bool, true, false, not, ◌&&◌, List, [], ◌∷◌, length, get_or, refl, sym, add-one, Some, None, Option, Bor, arith}
use Rattle.std.specs.Prelude.{nat_lt, nat_eq}
use Rattle.std.specs.Option.{option_eq, option_copied, unwrap_or}
use Rattle.std.specs.List.{IsAllAdjacentAnswer, list_all, slice_get}
use Rattle.layouts.specs.Lists.{rises, rise_above, rises_from, rises_below, last_end, ends_rise}

next_rises : (x : ℕ) (xs : List ℕ) → ((k d : ℕ) → suc k < length (x ∷ xs) → true ≡ nat_lt (get_or (x ∷ xs) k d) (get_or (x ∷ xs) (suc k) d))
    → rise_above x xs ≡ true
next_rises x [] h = refl
next_rises x (y ∷ ys) h =
    let here : true ≡ nat_lt x y = h 0 0 (omega arith) in
    let after = next_rises y ys (λ k d i. h (suc k) d (omega arith)) in
    grind arith

falls_somewhere : (x : ℕ) (xs : List ℕ) (k : ℕ) → suc k < length (x ∷ xs) → ((d : ℕ) → false ≡ nat_lt (get_or (x ∷ xs) k d) (get_or (x ∷ xs) (suc k) d))
    → rise_above x xs ≡ false
falls_somewhere x [] k i h = absurd (omega arith)
falls_somewhere x (y ∷ ys) zero i h = let here : false ≡ nat_lt x y = h 0 in grind arith
falls_somewhere x (y ∷ ys) (suc k) i h = let after = falls_somewhere y ys k (omega arith) h in grind arith

-- what `is_sorted_by` answers at `<`
pub rises_by_neighbours : (xs : List ℕ) (r : Bool) → IsAllAdjacentAnswer (λ x y b. b ≡ nat_lt x y) xs r → r ≡ rises xs
rises_by_neighbours [] true a = refl
rises_by_neighbours [] false a = absurd (omega (arith, a.1))
rises_by_neighbours (x ∷ xs) true a = sym (next_rises x xs (λ k d i. rw add-one at (a k d (omega arith))))
rises_by_neighbours (x ∷ xs) false a = sym (falls_somewhere x xs a.0 (omega (arith, a.1)) (λ d. rw add-one at (a.2 d)))

next_below : (cells x : ℕ) (xs : List ℕ)
    → ((k d : ℕ) → suc k < length (x ∷ xs) → true ≡ (nat_lt (get_or (x ∷ xs) k d) (get_or (x ∷ xs) (suc k) d) && nat_lt (get_or (x ∷ xs) (suc k) d) cells))
    → rises_from (x + 1) cells xs ≡ true
next_below cells x [] h = refl
next_below cells x (y ∷ ys) h =
    let here : true ≡ (nat_lt x y && nat_lt y cells) = h 0 0 (omega arith) in
    let after = next_below cells y ys (λ k d i. h (suc k) d (omega arith)) in
    grind arith

fails_somewhere : (cells x : ℕ) (xs : List ℕ) (k : ℕ) → suc k < length (x ∷ xs)
    → ((d : ℕ) → false ≡ (nat_lt (get_or (x ∷ xs) k d) (get_or (x ∷ xs) (suc k) d) && nat_lt (get_or (x ∷ xs) (suc k) d) cells))
    → rises_from (x + 1) cells xs ≡ false
fails_somewhere cells x [] k i h = absurd (omega arith)
fails_somewhere cells x (y ∷ ys) zero i h = let here : false ≡ (nat_lt x y && nat_lt y cells) = h 0 in grind arith
fails_somewhere cells x (y ∷ ys) (suc k) i h = let after = fails_somewhere cells y ys k (omega arith) h in grind arith

-- what `is_sorted_by` answers at `<` and a limit
pub below_by_neighbours : (cells : ℕ) (xs : List ℕ) (r : Bool) → IsAllAdjacentAnswer (λ x y b. b ≡ (nat_lt x y && nat_lt y cells)) xs r → r ≡ rises_below cells xs
below_by_neighbours cells [] true a = refl
below_by_neighbours cells [] false a = absurd (omega (arith, a.1))
below_by_neighbours cells (x ∷ xs) true a = sym (next_below cells x xs (λ k d i. rw add-one at (a k d (omega arith))))
below_by_neighbours cells (x ∷ xs) false a = sym (fails_somewhere cells x xs a.0 (omega (arith, a.1)) (λ d. rw add-one at (a.2 d)))

-- each cell below the count, and each above the one before
cells_above : (low cells : ℕ) (row : List ℕ) → rises_from (low + 1) cells row ≡ (rise_above low row && list_all (λ cell. nat_lt cell cells) row)
cells_above low cells [] = refl
cells_above low cells (cell ∷ row) = let after = cells_above cell cells row in grind arith

pub row_by_parts : (cells : ℕ) (row : List ℕ) → rises_from 0 cells row ≡ (rises row && list_all (λ cell. nat_lt cell cells) row)
row_by_parts cells [] = refl
row_by_parts cells (cell ∷ row) = let after = cells_above cell cells row in grind arith

last_is : (end : ℕ) (ends : List ℕ) → last_end end ends ≡ unwrap_or (slice_get (end ∷ ends) (length ends)) 0
last_is end [] = refl
last_is end (next ∷ ends) = last_is next ends

pub ends_by_parts : (ends : List ℕ) (entries : ℕ) → (slice_get ends 0 ≡ Some 0 → ⊥) → rises ends ≡ true
    → nat_eq (unwrap_or (slice_get ends (length ends - 1)) 0) entries ≡ ends_rise ends entries
ends_by_parts [] entries h r = refl
ends_by_parts (zero ∷ ends) entries h r = absurd (h refl)
ends_by_parts (suc end ∷ ends) entries h r =
    let one : suc (length ends) - 1 ≡ length ends = omega arith in
    let last = last_is (suc end) ends in
    rw one (grind arith)

pub not_first : (first : Option (Bor ℕ)) (none : Bor ℕ) → none.now ≡ 0 → true ≡ not (option_eq (λ x y. nat_eq x.now y.now) first (Some none))
    → option_copied first ≡ Some 0 → ⊥
not_first None none z n e = absurd (let d : ◌≡◌ {A = ℕ} 0 1 = cc in omega arith)
not_first (Some first) none z n e = grind arith
