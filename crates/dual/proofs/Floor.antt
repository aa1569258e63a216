-- The floor is the least value of the Lagrangian, and no codeword costs less.
use Rattle.std.proofs.Common.{◌≡◌, ℕ, Bool, true, false, not, ◌&&◌, List, [], ◌∷◌, ◌++◌, length, get_or, take, drop, ℤ, pos, ◌+ℤ◌, ◌-ℤ◌, ◌≤ℤ◌, sym, refl, ap, ◌∙◌, arith}
use Rattle.std.proofs.lemmas.List.{length-set, length-map, take_at, drop_at, map-append}
use Rattle.std.proofs.lemmas.Int.{ints}
use Rattle.std.proofs.lemmas.Bool.{and_parts, and_from, not-true}
use Rattle.layouts.specs.Plans.{edge_cells, edges}
use Rattle.dual.specs.Choice.{odd, pick, chosen}
use Rattle.dual.specs.Bound.{lowered, slacks, trial_word, leasts, cost, at, codeword, evenly, choices, lagrangian}
use Rattle.dual.specs.Laws.{FloorIsLeastLagrangian, FloorBelowCodewords}
use Rattle.dual.proofs.Picks.{pick_lowered, pick_split, least_any, disagreement_is}
use Rattle.dual.proofs.Row.{cheapest}
use Rattle.dual.proofs.Steps.{length_chosen, length_slacks, length_choices, leasts_is_pick, parted}

-- what the edges take from the costs, a word loses at its own cells
exchange : (es : List ℕ) (ms cs : List ℤ) (x : List Bool) → length x ≡ length cs → pick x (slacks es ms cs) ≡ cost cs x -ℤ pick (at x es) ms
exchange [] ms cs x l = omega (arith, ints)
exchange (e ∷ es) [] cs x l = omega (arith, ints)
exchange (e ∷ es) (m ∷ ms) cs x l =
    let ih = exchange es ms (lowered cs e m) x (l ∙ sym (length-set cs e (get_or cs e (pos 0) -ℤ m))) in
    let one = pick_lowered x cs e m (omega arith) in
    omega (arith, ints)

-- the Lagrangian is a sum over the cells, which the word decides, and one over the edges, which the sets decide
split : (rows : List (List ℕ)) (costs ms : List ℤ) (x z : List Bool) → length ms ≡ edges rows → length x ≡ length costs → length z ≡ edges rows → lagrangian rows costs ms x z ≡ pick x (slacks (edge_cells rows) ms costs) +ℤ pick z ms
split rows costs ms x z lm lx lz =
    let own : length (at x (edge_cells rows)) ≡ length ms = length-map (edge_cells rows) (λ c. get_or x c false) ∙ sym lm in
    let d = disagreement_is ms z (at x (edge_cells rows)) (lz ∙ sym lm) own in
    let t = exchange (edge_cells rows) ms costs x lx in
    omega (arith, ints)

-- row by row, no even set has a smaller sum than the chosen one
leasts_below : (rows : List (List ℕ)) (ms : List ℤ) (z : List Bool) → length ms ≡ edges rows → length z ≡ edges rows → evenly rows z ≡ true → leasts rows ms ≤ℤ pick z ms
leasts_below [] ms [] lm lz e = omega (arith, ints)
leasts_below [] ms (b ∷ z) lm lz e = absurd (omega arith)
leasts_below (row ∷ rows) ms z lm lz e =
    let n : ℕ = length row in
    let pm = parted row rows ms lm in
    let pz = parted row rows z lz in
    let both = and_parts _ _ e in
    let ih = leasts_below rows (drop n ms) (drop n z) pm.1 pz.1 both.1 in
    let one = (cheapest (take n ms)).cheapest (take n z) (pz.0 ∙ sym pm.0) (not-true _ both.0) in
    let cut = pick_split n z ms in
    omega (arith, ints)

-- a list that begins with a row's part
evenly_cons : (row : List ℕ) (rows : List (List ℕ)) (s t : List Bool) → length s ≡ length row → evenly (row ∷ rows) (s ++ t) ≡ (not (odd s) && evenly rows t)
evenly_cons row rows s t l = cc (take_at s t (length row) l, drop_at s t (length row) l)

choices_even : (rows : List (List ℕ)) (ms : List ℤ) → length ms ≡ edges rows → evenly rows (choices rows ms) ≡ true
choices_even [] ms lm = refl
choices_even (row ∷ rows) ms lm =
    let n : ℕ = length row in
    let p = parted row rows ms lm in
    evenly_cons row rows (chosen (take n ms)) (choices rows (drop n ms)) (length_chosen (take n ms) ∙ p.0)
    ∙ and_from _ _ (ap not (cheapest (take n ms)).even) (choices_even rows (drop n ms) p.1)

-- a word is a codeword where its own bits are even in each row
own_even : (rows : List (List ℕ)) (x : List Bool) → evenly rows (at x (edge_cells rows)) ≡ codeword rows x
own_even [] x = refl
own_even (row ∷ rows) x =
    let bits : ℕ → Bool = λ c. get_or x c false in
    ap (evenly (row ∷ rows)) (map-append bits row (edge_cells rows))
    ∙ evenly_cons row rows (at x row) (at x (edge_cells rows)) (length-map row bits)
    ∙ ap (λ b. not (odd (at x row)) && b) (own_even rows x)

pub least_lagrangian : FloorIsLeastLagrangian
least_lagrangian rows costs ms lm =
    let lx : length (trial_word rows costs ms) ≡ length costs = length-map _ _ ∙ length_slacks (edge_cells rows) ms costs in
    let lz = length_choices rows ms lm in
    record {
      lower = λ x z kx kz e.
          let s = split rows costs ms x z lm kx kz in
          let cells = least_any x (slacks (edge_cells rows) ms costs) in
          let sets = leasts_below rows ms z lm kz e in
          omega (arith, ints);
      word = lx;
      sets = lz;
      even = choices_even rows ms lm;
      reached =
          let s = split rows costs ms (trial_word rows costs ms) (choices rows ms) lm lx lz in
          let l = leasts_is_pick rows ms lm in
          omega (arith, ints);
    }

-- a codeword is a choice of sets too, its own bits, and these agree with it on each edge
pub below_codewords : FloorBelowCodewords
below_codewords rows costs ms x lm lx c =
    let own : List Bool = at x (edge_cells rows) in
    let lz : length own ≡ edges rows = length-map (edge_cells rows) (λ c. get_or x c false) in
    let low = (least_lagrangian rows costs ms lm).lower x own lx lz (own_even rows x ∙ c) in
    let d = disagreement_is ms own own (lz ∙ sym lm) (lz ∙ sym lm) in
    omega (arith, ints)
