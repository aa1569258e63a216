-- The choice of a row is even, and no even set of its places has a smaller sum.
use Rattle.std.proofs.Common.{◌≡◌, ℕ, suc, ◌<◌, ◌≤◌, Bool, true, false, not, leb, List, [], ◌∷◌, length, get_or, ℤ, pos, negsuc, ◌+ℤ◌, nat_abs, ◌≤ℤ◌, Some, None, Option, sym, refl, ap, ◌∙◌, ⊎_elim, arith}
use Rattle.std.proofs.lemmas.List.{length-set, length-map}
use Rattle.std.proofs.lemmas.Int.{ints}
use Rattle.std.proofs.lemmas.Bool.{cond_both, leb-true, leb-false, cases_Bool, false≢true, both_ways}
use Rattle.dual.specs.Choice.{negative, negatives, odd, pick, Spot, nearest, cheaper, flipped, chosen}
use Rattle.dual.specs.Laws.{Each, Nearest, ChoiceIsCheapest}
use Rattle.dual.proofs.Picks.{odd_flipped, pick_flipped, least_any}
use Rattle.dual.proofs.Search.{found}

none_odd : (ms : List ℤ) → Each (λ m. negative m ≡ true → ⊥) ms → odd (negatives ms) ≡ false
none_odd [] f = refl
none_odd (pos n ∷ ms) f = none_odd ms (λ k h. f (suc k) (omega arith))
none_odd (negsuc n ∷ ms) f = absurd (f 0 (omega arith) refl)

-- a set of the other parity differs from the negative places at some place, and each place costs at least c
differs : (c : ℕ) (s : List Bool) (ms : List ℤ) → length s ≡ length ms → Each (λ m. c ≤ nat_abs m) ms → odd s ≡ not (odd (negatives ms)) → (pick (negatives ms) ms +ℤ pos c) ≤ℤ pick s ms
differs c [] [] l f e = absurd (false≢true e)
differs c [] (m ∷ ms) l f e = absurd (omega arith)
differs c (b ∷ s) [] l f e = absurd (omega arith)
differs c (false ∷ s) (pos n ∷ ms) l f e = let ih = differs c s ms (omega arith) (λ k h. f (suc k) (omega arith)) e in omega (arith, ints)
differs c (true ∷ s) (negsuc n ∷ ms) l f e = let ih = differs c s ms (omega arith) (λ k h. f (suc k) (omega arith)) (grind arith) in omega (arith, ints)
differs c (true ∷ s) (pos n ∷ ms) l f e = let any = least_any s ms in let here = f 0 (omega arith) in omega (arith, ints)
differs c (false ∷ s) (negsuc n ∷ ms) l f e = let any = least_any s ms in let here = f 0 (omega arith) in omega (arith, ints)

-- the place of an entry of smallest absolute value, whatever its sign
abbrev pub Smallest : List ℤ → Option ℕ → Type 0
Smallest ms None = ⊥
Smallest ms (Some i) = (i < length ms) × Each (λ m. nat_abs (get_or ms i (pos 0)) ≤ nat_abs m) ms

by_sign : (P : ℤ → Type 0) (ms : List ℤ) → Each (λ m. negative m ≡ true → P m) ms → Each (λ m. negative m ≡ false → P m) ms → Each P ms
by_sign P ms f g k h = ⊎_elim (f k h) (g k h) (cases_Bool (negative (get_or ms k (pos 0))))

-- the spot p is smallest among the entries of its sign, and bounds those of the other
smallest : (t : Bool) (ms : List ℤ) (p : Spot) → Nearest t ms (Some p) → Each (λ m. negative m ≡ not t → p.1 ≤ nat_abs m) ms → Smallest ms (Some p.0)
smallest true ms p f g = (f.0, λ k h. rw f.2 (by_sign (λ m. p.1 ≤ nat_abs m) ms f.3 g k h))
smallest false ms p f g = (f.0, λ k h. rw f.2 (by_sign (λ m. p.1 ≤ nat_abs m) ms g f.3 k h))

-- some place is negative where their number is odd, so a spot is there
cheaper_smallest : (ms : List ℤ) (d a : Option Spot) → Nearest true ms d → Nearest false ms a → odd (negatives ms) ≡ true → Smallest ms (cheaper d a)
cheaper_smallest ms None None d_is a_is o = absurd (both_ways (odd (negatives ms)) (none_odd ms d_is) o)
cheaper_smallest ms None (Some a) d_is a_is o = absurd (both_ways (odd (negatives ms)) (none_odd ms d_is) o)
cheaper_smallest ms (Some d) None d_is a_is o = smallest true ms d d_is (λ k h q. absurd (a_is k h q))
cheaper_smallest ms (Some d) (Some a) d_is a_is o =
    cond_both (leb d.1 a.1) d.0 a.0 (λ i. Smallest ms (Some i))
    (λ l. let le = leb-true d.1 a.1 l in smallest true ms d d_is (λ k h q. omega (arith, a_is.3 k h q)))
    (λ l. let lt = leb-false d.1 a.1 l in smallest false ms a a_is (λ k h q. omega (arith, d_is.3 k h q)))

pub toggle_smallest : (ms : List ℤ) → odd (negatives ms) ≡ true → Smallest ms (cheaper (nearest true ms) (nearest false ms))
toggle_smallest ms o = cheaper_smallest ms (nearest true ms) (nearest false ms) (found true ms) (found false ms) o

-- what the law says of the choice, of any set r, so that the cases of the choice can be taken one by one
record Best (ms : List ℤ) (r : List Bool) : Type 0 where
  same_length : length r ≡ length ms
  even : odd r ≡ false
  cheapest : (s : List Bool) → length s ≡ length ms → odd s ≡ false → pick r ms ≤ℤ pick s ms

turned : (ms : List ℤ) (o : Option ℕ) → odd (negatives ms) ≡ true → Smallest ms o → Best ms (flipped o (negatives ms))
turned ms None o f = absurd f
turned ms (Some i) o f =
    let l : length (negatives ms) ≡ length ms = length-map ms negative in
    let p = pick_flipped ms i f.0 in
    record {
      same_length = length-set (negatives ms) i _ ∙ l;
      even = odd_flipped (negatives ms) i (omega (arith, f.0)) ∙ ap not o;
      cheapest = λ s m e. let d = differs (nat_abs (get_or ms i (pos 0))) s ms m f.1 (e ∙ sym (ap not o)) in omega (arith, ints);
    }

best : (ms : List ℤ) → Best ms (chosen ms)
best ms =
    cond_both (odd (negatives ms)) (cheaper (nearest true ms) (nearest false ms)) None (λ o. Best ms (flipped o (negatives ms)))
    (λ o. turned ms _ o (toggle_smallest ms o))
    (λ o. record { same_length = length-map ms negative; even = o; cheapest = λ s l e. least_any s ms })

pub cheapest : ChoiceIsCheapest
cheapest ms = let b = best ms in record { same_length = b.same_length; even = b.even; cheapest = b.cheapest }
