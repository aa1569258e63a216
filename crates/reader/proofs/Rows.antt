-- Steps of the loops over one row's weights, by their meanings.
use Rattle.std.proofs.Common.{◌≡◌, ℕ, ◌+◌, ◌<◌, Bool, true, false, not, leb, ltb, List, length, get_or, take, set, ℤ, pos, negsuc, ◌-ℤ◌, nat_abs, Some, None, fold, Option, sym, refl, ap, ◌∙◌, ⊎_elim, arith}
use mathlib.Core.Bool.{beq}
use lib.Signed.{lt_z}
use Rattle.std.proofs.lemmas.List.{length-map, length-set, get_or-map, get_or-set_same, get_or-set_other}
use Rattle.std.proofs.lemmas.Int.{ints}
use Rattle.std.proofs.lemmas.List.Sums.{fold_more}
use Rattle.std.specs.Option.{option_map}
use Rattle.std.proofs.lemmas.Bool.{cases_eq, eq-eqb, ne_eqb}
use Rattle.weights.specs.Kinds.{Kind, meanings}
use Rattle.dual.specs.Choice.{negative, negatives, xor, odd, flipped, look, nearer}
use Rattle.dual.proofs.Steps.{odd_more, get_or_negatives, look_yes, look_no}
use Rattle.reader.specs.Spots.{spot, turned_at}

module _ {W : Type 0} (k : Kind W) where
  pub meaning_at : (ws : List W) (i : ℕ) (w : W) → i < length ws → w ≡ get_or ws i w → get_or (meanings k ws) i (pos 0) ≡ k.meaning w
  meaning_at ws i w h e = get_or-map k.meaning ws i w (pos 0) h ∙ ap k.meaning (sym e)

  pub odd_step : (ws : List W) (i : ℕ) (w : W) (o b : Bool) → i < length ws → w ≡ get_or ws i w → b ≡ negative (k.meaning w)
      → o ≡ odd (negatives (take i (meanings k ws))) → not (beq o b) ≡ odd (negatives (take (i + 1) (meanings k ws)))
  odd_step ws i w o b h e s inv =
      let l : i < length (meanings k ws) = rw (length-map ws k.meaning) h in
      let more = odd_more (meanings k ws) i l in
      let at = meaning_at ws i w h e in
      let x : xor o b ≡ not (beq o b) = grind arith in
      cc

-- what the code's test of a sign says
pub of_sign : (r t b : Bool) → r ≡ b → beq r t ≡ true → b ≡ t
of_sign r t b e q = grind arith

pub of_other_sign : (r t b : Bool) → r ≡ b → beq r t ≡ false → b ≡ not t
of_other_sign r t b e q = grind arith

-- absolute values of two numbers of one sign
pub nearer_negative : (new old : ℤ) → negative new ≡ true → negative old ≡ true → lt_z old new ≡ ltb (nat_abs new) (nat_abs old)
nearer_negative (pos n) old p q = absurd (let z : ◌≡◌ {A = ℕ} 0 1 = cc in omega arith)
nearer_negative (negsuc n) (pos m) p q = absurd (let z : ◌≡◌ {A = ℕ} 0 1 = cc in omega arith)
nearer_negative (negsuc n) (negsuc m) p q = grind arith

pub nearer_other : (new old : ℤ) → negative new ≡ false → negative old ≡ false → lt_z new old ≡ ltb (nat_abs new) (nat_abs old)
nearer_other (pos n) (pos m) p q = refl
nearer_other (pos n) (negsuc m) p q = absurd (let z : ◌≡◌ {A = ℕ} 0 1 = cc in omega arith)
nearer_other (negsuc n) old p q = absurd (let z : ◌≡◌ {A = ℕ} 0 1 = cc in omega arith)

-- across the signs: a is below 0 - d exactly where d's absolute value is not at most a's
pub across : (d a : ℤ) → negative d ≡ true → negative a ≡ false → not (lt_z a (pos 0 -ℤ d)) ≡ leb (nat_abs d) (nat_abs a)
across (pos n) a p q = absurd (let z : ◌≡◌ {A = ℕ} 0 1 = cc in omega arith)
across (negsuc n) (negsuc m) p q = absurd (let z : ◌≡◌ {A = ℕ} 0 1 = cc in omega arith)
across (negsuc n) (pos m) p q = grind (arith, ints)

pub flipped_at : (t : Option ℕ) (s : List Bool) (place : ℕ) → place < length s → get_or (flipped t s) place false ≡ not (beq (get_or s place false) (turned_at t place))
flipped_at None s place h = grind arith
flipped_at (Some i) s place h = ⊎_elim
    (λ (e : i ≡ place).
    let put = get_or-set_same s i (not (get_or s i false)) false (omega arith) in
    let same : get_or s i false ≡ get_or s place false = ap (λ k. get_or s k false) e in
    let at : get_or (set s i (not (get_or s i false))) i false ≡ get_or (set s i (not (get_or s i false))) place false = ap (λ k. get_or (set s i (not (get_or s i false))) k false) e in
    let t = eq-eqb i place e in
    grind arith)
    (λ (e : i ≡ place → ⊥).
    let kept = get_or-set_other s i place (not (get_or s i false)) false (λ q. e (sym q)) in
    let f = ne_eqb i place e in
    grind arith)
    (cases_eq i place)

pub length_flipped : (t : Option ℕ) (s : List Bool) → length (flipped t s) ≡ length s
length_flipped None s = refl
length_flipped (Some i) s = length-set s i (not (get_or s i false))

module _ {W : Type 0} (k : Kind W) where
  -- one place of a row's choice
  pub takes_at : (t : Option ℕ) (ws : List W) (place : ℕ) (w : W) (b u : Bool) → place < length ws → w ≡ get_or ws place w → b ≡ negative (k.meaning w) → u ≡ turned_at t place
      → not (beq b u) ≡ get_or (flipped t (negatives (meanings k ws))) place false
  takes_at t ws place w b u h e s v =
      let l : place < length (meanings k ws) = rw (length-map ws k.meaning) h in
      let n : place < length (negatives (meanings k ws)) = rw (length-map (meanings k ws) negative) l in
      let f = flipped_at t (negatives (meanings k ws)) place n in
      let g = get_or_negatives (meanings k ws) place in
      let at = meaning_at k ws place w h e in
      cc

  -- the search goes on by one weight: of the sign asked for, or not
  pub nearest_takes : (t : Bool) (ws : List W) (i : ℕ) (w : W) (best r : Option (ℕ × W)) → i < length ws → w ≡ get_or ws i w → negative (k.meaning w) ≡ t
      → fold (look t) (0, None) (take i (meanings k ws)) ≡ (i, option_map (spot k) best) → option_map (spot k) r ≡ nearer (option_map (spot k) best) (i, nat_abs (k.meaning w))
      → fold (look t) (0, None) (take (i + 1) (meanings k ws)) ≡ (i + 1, option_map (spot k) r)
  nearest_takes t ws i w best r h e s inv step =
      let l : i < length (meanings k ws) = rw (length-map ws k.meaning) h in
      let more = fold_more (look t) (0, None) (meanings k ws) i (pos 0) l in
      let at = meaning_at k ws i w h e in
      let yes = look_yes t i (option_map (spot k) best) (k.meaning w) s in
      cc

  pub nearest_passes : (t : Bool) (ws : List W) (i : ℕ) (w : W) (best : Option (ℕ × W)) → i < length ws → w ≡ get_or ws i w → negative (k.meaning w) ≡ not t
      → fold (look t) (0, None) (take i (meanings k ws)) ≡ (i, option_map (spot k) best)
      → fold (look t) (0, None) (take (i + 1) (meanings k ws)) ≡ (i + 1, option_map (spot k) best)
  nearest_passes t ws i w best h e s inv =
      let l : i < length (meanings k ws) = rw (length-map ws k.meaning) h in
      let more = fold_more (look t) (0, None) (meanings k ws) i (pos 0) l in
      let at = meaning_at k ws i w h e in
      let no' = look_no t i (option_map (spot k) best) (k.meaning w) s in
      cc
