-- What the checks of boards leave: lengths, sizes, and cells that exist.
use Rattle.std.proofs.Common.{◌≡◌, ℕ, suc, ◌-◌, ◌^◌, ◌<◌, ◌≤◌, true, false, eqb, List, [], ◌∷◌, length, get_or, take, drop, refl, ⊎_elim, arith}
use Rattle.std.proofs.lemmas.List.{get_or_append_left, get_or-append_right, length-append, length-take, length-drop}
use Rattle.std.proofs.lemmas.Bool.{cases_lt, eqb-true}
use Rattle.layouts.specs.Plans.{Plan, edges, edge_cells, row_at}
use Rattle.weights.specs.Kinds.{Kind}
use Rattle.reader.specs.Boards.{floor_refusal, choices_refusal, Fit}
use Rattle.weights.specs.Sizes.{beyond, Within}
use Rattle.reader.specs.Sizes.{total_size}
use Rattle.weights.proofs.Limits.{not_beyond}
use Rattle.reader.proofs.Sizes.{total_bound}

-- the front part of an array
pub front_length : (n : ℕ) (xs : List ℕ) → n ≤ length xs → length (take (n - 0) (drop 0 xs)) ≡ n
front_length n xs h = simp (length-take, length-drop) (omega arith)

-- every edge's cell is below the count, where every row's cells are
edge_below : (n : ℕ) (rows : List (List ℕ)) → ((r k : ℕ) → r < length rows → k < length (row_at rows r) → get_or (row_at rows r) k 0 < n) → (k : ℕ) → k < edges rows → get_or (edge_cells rows) k 0 < n
edge_below n [] f k h = absurd (omega arith)
edge_below n (row ∷ rows) f k h =
    let l = length-append row (edge_cells rows) in
    ⊎_elim
    (λ (lt : k < length row). let e = get_or_append_left row (edge_cells rows) 0 k lt in let b = f 0 k (omega arith) lt in omega arith)
    (λ (ge : length row ≤ k).
    let e = get_or-append_right row (edge_cells rows) (length row) k 0 refl ge in
    let b = edge_below n rows (λ r j hr hj. f (suc r) j (omega arith) hj) (k - length row) (omega arith) in
    omega arith)
    (cases_lt k (length row))

-- the cell of an edge has its place in a list of one entry a cell
pub cell_inside : (p : Plan) (i e n : ℕ) → i < edges p.rows → e ≡ get_or (edge_cells p.rows) i 0 → n ≡ p.cells → e < n
cell_inside p i e n h q l = let b = edge_below p.cells p.rows p.below i h in omega arith

module _ {W : Type 0} (k : Kind W) where
  -- all costs together
  pub costs_total : (p : Plan) (costs : List W) → length costs ≡ p.cells → Within k (2 ^ 16) costs → total_size k costs ≤ 2 ^ 23
  costs_total p costs l w = let t = total_bound k (2 ^ 16) costs w in omega (arith, p.few_cells)

  -- all multipliers together
  pub multipliers_total : (p : Plan) (ms : List W) → length ms ≡ edges p.rows → Within k (2 ^ 18) ms → total_size k ms ≤ 2 ^ 28
  multipliers_total p ms l w = let t = total_bound k (2 ^ 18) ms w in omega (arith, p.few_edges)

  pub fits : (p : Plan) (costs ms : List W) (n : ℕ) → floor_refusal k p costs ms n ≡ 0 → Fit k p costs ms × (n ≡ p.cells)
  fits p costs ms n e =
      let c : eqb (length costs) p.cells ≡ true = grind arith in
      let m : eqb (length ms) (edges p.rows) ≡ true = grind arith in
      let o : eqb n p.cells ≡ true = grind arith in
      let x : beyond k (2 ^ 16) costs ≡ false = grind arith in
      let y : beyond k (2 ^ 18) ms ≡ false = grind arith in
      let fit : Fit k p costs ms = record {
        costs_long = eqb-true _ _ c;
        multipliers_long = eqb-true _ _ m;
        costs_small = not_beyond k (2 ^ 16) costs x;
        multipliers_small = not_beyond k (2 ^ 18) ms y;
      } in
      (fit, eqb-true _ _ o)

  -- the same for the choices
  pub choices_fit : (p : Plan) (ms : List W) (m n : ℕ) → choices_refusal k p ms m n ≡ 0
      → ((length ms ≡ edges p.rows) × (m ≡ edges p.rows)) × (n ≡ length p.rows) × (total_size k ms ≤ 2 ^ 30)
  choices_fit p ms m n e =
      let a : eqb (length ms) (edges p.rows) ≡ true = grind arith in
      let b : eqb m (edges p.rows) ≡ true = grind arith in
      let c : eqb n (length p.rows) ≡ true = grind arith in
      let y : beyond k (2 ^ 18) ms ≡ false = grind arith in
      let t = multipliers_total p ms (eqb-true _ _ a) (not_beyond k (2 ^ 18) ms y) in
      ((eqb-true _ _ a, eqb-true _ _ b), eqb-true _ _ c, omega arith)
