-- The search through a row finds the smallest absolute value of a sign, the lowest place at equality.
use Rattle.std.proofs.Common.{◌≡◌, ℕ, zero, suc, ◌+◌, ◌<◌, ◌≤◌, Bool, true, false, ltb, List, [], ◌∷◌, ◌++◌, length, ℤ, pos, negsuc, nat_abs, Some, None, fold, Option, sym, refl, ap, ◌∙◌, subst, append_assoc, append-nil, arith}
use Rattle.std.proofs.lemmas.List.{get_or_append_left, get_or_push, length_push}
use Rattle.std.proofs.lemmas.Bool.{cond_both, ltb-true, ltb-false, true≢false, false≢true}
use Rattle.dual.specs.Laws.{Each, Nearest, NearestIsFound}
use Rattle.dual.specs.Choice.{negative, Spot, nearer, look}

each_push : (P : ℤ → Type 0) (xs : List ℤ) (m : ℤ) → Each P xs → P m → Each P (xs ++ m ∷ [])
each_push P [] m f p zero h = p
each_push P [] m f p (suc k) h = absurd (omega arith)
each_push P (x ∷ xs) m f p zero h = f zero (omega arith)
each_push P (x ∷ xs) m f p (suc k) h = each_push P xs m (λ j l. f (suc j) (omega arith)) p k (omega arith)

-- the spot p stays, since the entry m behind is of the other sign or no smaller
stays : (t : Bool) (xs : List ℤ) (m : ℤ) (p : Spot) → (negative m ≡ t → p.1 ≤ nat_abs m) → Nearest t xs (Some p) → Nearest t (xs ++ m ∷ []) (Some p)
stays t xs m p n f =
    let h = f.0 in
    let e = get_or_append_left xs (m ∷ []) (pos 0) p.0 h in (
      simp length_push (omega arith),
      ap negative e ∙ f.1,
      ap nat_abs e ∙ f.2,
      each_push (λ x. negative x ≡ t → p.1 ≤ nat_abs x) xs m f.3 n,
      λ k b q. let g = get_or_append_left xs (m ∷ []) (pos 0) k (omega arith) in rw g (f.4 k b (ap negative (sym g) ∙ q)),
    )

-- the entry m takes over, since each one of its sign before it is greater
enters : (t : Bool) (xs : List ℤ) (m : ℤ) → negative m ≡ t → Each (λ x. negative x ≡ t → nat_abs m < nat_abs x) xs → Nearest t (xs ++ m ∷ []) (Some (length xs, nat_abs m))
enters t xs m y f =
    let e = get_or_push xs m (pos 0) (length xs) refl in (
      simp length_push (omega arith),
      ap negative e ∙ y,
      ap nat_abs e,
      each_push (λ x. negative x ≡ t → nat_abs m ≤ nat_abs x) xs m (λ k h q. omega (arith, f k h q)) (λ q. omega arith),
      λ k h q. let g = get_or_append_left xs (m ∷ []) (pos 0) k h in rw g (f k h (ap negative (sym g) ∙ q)),
    )

other_sign : (t : Bool) (xs : List ℤ) (m : ℤ) (o : Option Spot) → (negative m ≡ t → ⊥) → Nearest t xs o → Nearest t (xs ++ m ∷ []) o
other_sign t xs m None n f = each_push (λ x. negative x ≡ t → ⊥) xs m f n
other_sign t xs m (Some p) n f = stays t xs m p (λ q. absurd (n q)) f

same_sign : (t : Bool) (xs : List ℤ) (m : ℤ) (o : Option Spot) → negative m ≡ t → Nearest t xs o → Nearest t (xs ++ m ∷ []) (nearer o (length xs, nat_abs m))
same_sign t xs m None y f = enters t xs m y (λ k h q. absurd (f k h q))
same_sign t xs m (Some p) y f =
    cond_both (ltb (nat_abs m) p.1) (Some (length xs, nat_abs m)) (Some p) (Nearest t (xs ++ m ∷ []))
    (λ l. let less = ltb-true (nat_abs m) p.1 l in enters t xs m y (λ k h q. omega (arith, f.3 k h q)))
    (λ l. let more = ltb-false (nat_abs m) p.1 l in stays t xs m p (λ q. omega arith) f)

step : (t : Bool) (xs : List ℤ) (m : ℤ) (i : ℕ) (o : Option Spot) → i ≡ length xs → Nearest t xs o → Nearest t (xs ++ m ∷ []) (look t (i, o) m).1
step true xs (pos n) i o e f = other_sign true xs (pos n) o false≢true f
step true xs (negsuc n) i o e f = rw e (same_sign true xs (negsuc n) o refl f)
step false xs (pos n) i o e f = rw e (same_sign false xs (pos n) o refl f)
step false xs (negsuc n) i o e f = other_sign false xs (negsuc n) o true≢false f

-- from the middle of a row: xs is behind, ms is ahead
found_from : (t : Bool) (xs ms : List ℤ) (i : ℕ) (o : Option Spot) → i ≡ length xs → Nearest t xs o → Nearest t (xs ++ ms) (fold (look t) (i, o) ms).1
found_from t xs [] i o e f = subst (λ ys. Nearest t ys o) (sym (append-nil xs)) f
found_from t xs (m ∷ ms) i o e f =
    subst (λ ys. Nearest t ys (fold (look t) (i, o) (m ∷ ms)).1) (append_assoc xs (m ∷ []) ms)
    (found_from t (xs ++ m ∷ []) ms (i + 1) (look t (i, o) m).1 (simp length_push (omega arith)) (step t xs m i o e f))

pub found : NearestIsFound
found t ms = found_from t [] ms 0 None refl (λ k h. omega arith)
