-- Sizes of the weights of a list, together: while the whole stays within the limit, every sum is exact.
use Rattle.std.proofs.Common.{◌≡◌, ℕ, zero, suc, ◌+◌, ◌*◌, ◌^◌, ◌<◌, ◌≤◌, List, [], ◌∷◌, ◌++◌, length, get_or, take, drop, set, ◌-ℤ◌, sym, ap, ◌∙◌, subst, add-mul, one-mul, arith}
use Rattle.std.proofs.lemmas.List.{take_more, length-map, map-set}
use Rattle.weights.specs.Kinds.{Kind, Exact, meanings}
use Rattle.dual.specs.Bound.{slacks}
use Rattle.dual.proofs.Steps.{slacks_more}
use Rattle.weights.specs.Sizes.{Within}
use Rattle.reader.specs.Sizes.{total_size}
use Rattle.reader.proofs.Rows.{meaning_at}

module _ {W : Type 0} (k : Kind W) where
  total_push : (ws : List W) (w : W) → total_size k (ws ++ w ∷ []) ≡ total_size k ws + k.size w
  total_push [] w = omega arith
  total_push (x ∷ xs) w = let h = total_push xs w in omega arith

  pub total_more : (ws : List W) (i : ℕ) (w : W) → i < length ws → w ≡ get_or ws i w → total_size k (take (i + 1) ws) ≡ total_size k (take i ws) + k.size w
  total_more ws i w h e = ap (total_size k) (take_more ws i w h) ∙ total_push (take i ws) (get_or ws i w) ∙ ap (λ x. total_size k (take i ws) + k.size x) (sym e)

  pub total_within : (ws : List W) (i : ℕ) → total_size k (take i ws) ≤ total_size k ws
  total_within ws zero = omega arith
  total_within [] (suc i) = omega arith
  total_within (w ∷ ws) (suc i) = let h = total_within ws i in omega arith

  pub total_after : (ws : List W) (i : ℕ) → total_size k (drop i ws) ≤ total_size k ws
  total_after ws zero = omega arith
  total_after [] (suc i) = omega arith
  total_after (w ∷ ws) (suc i) = let h = total_after ws i in omega arith

  pub total_set : (ws : List W) (i : ℕ) (d w : W) → i < length ws → total_size k (set ws i w) + k.size (get_or ws i d) ≡ total_size k ws + k.size w
  total_set [] i d w h = absurd (omega arith)
  total_set (x ∷ xs) zero d w h = omega arith
  total_set (x ∷ xs) (suc i) d w h = let ih = total_set xs i d w (omega arith) in omega arith

  pub size_in_total : (ws : List W) (i : ℕ) (d : W) → i < length ws → k.size (get_or ws i d) ≤ total_size k ws
  size_in_total [] i d h = absurd (omega arith)
  size_in_total (x ∷ xs) zero d h = omega arith
  size_in_total (x ∷ xs) (suc i) d h = let ih = size_in_total xs i d (omega arith) in omega arith

  -- weights of bounded size, all together
  pub total_bound : (limit : ℕ) (ws : List W) → Within k limit ws → total_size k ws ≤ length ws * limit
  total_bound limit [] f = omega arith
  total_bound limit (x ∷ xs) f =
      let ih = total_bound limit xs (λ i d h. f (suc i) d (omega arith)) in
      let here = f 0 x (omega arith) in
      let m = add-mul 1 (length xs) limit in
      omega (arith, one-mul limit)

  -- one edge more has taken its multiplier
  pub slack_step : (es : List ℕ) (ws left : List W) (i e total : ℕ) (m old new : W) → i < length es → i < length ws → e ≡ get_or es i 0 → e < length left
      → m ≡ get_or ws i m → old ≡ get_or left e old → k.size m ≤ 2 ^ 18 → Exact k old m new (k.meaning old -ℤ k.meaning m)
      → total_size k left ≤ total → total + 2 ^ 18 ≤ 2 ^ 30
      → (slacks (drop (i + 1) es) (drop (i + 1) (meanings k ws)) (meanings k (set left e new)) ≡ slacks (drop i es) (drop i (meanings k ws)) (meanings k left))
      × (total_size k (set left e new) ≤ total + 2 ^ 18)
  slack_step es ws left i e total m old new he hw ee hl em eo sm x tl tm =
      let lw : i < length (meanings k ws) = rw (length-map ws k.meaning) hw in
      let more = slacks_more es (meanings k ws) (meanings k left) i he lw in
      let at_m = meaning_at k ws i m hw em in
      let at_old = meaning_at k left e old hl eo in
      let in_total = size_in_total left e old hl in
      let so : k.size old ≤ total_size k left = subst (λ w. k.size w ≤ total_size k left) (sym eo) in_total in
      let v = x.value (omega arith) in
      let put = map-set k.meaning left e new in
      let t = total_set left e old new hl in
      let se : k.size (get_or left e old) ≡ k.size old = ap k.size (sym eo) in
      (cc, omega (arith, x.small))
