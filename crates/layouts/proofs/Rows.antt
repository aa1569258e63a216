use Rattle.std.proofs.Common.{◌≡◌, ℕ, zero, suc, ◌<◌, ◌≤◌, Bool, true, false, cond, List, [], ◌∷◌, length, get_or, Some, None, refl, ap, arith}
use Rattle.std.proofs.lemmas.List.{length-append}
use Rattle.std.proofs.lemmas.Bool.{ltb-true}
use Rattle.std.proofs.lemmas.Bool.Decides.{nat_tests}
use Rattle.layouts.specs.Plans.{Plan, edge_cells, edges, row_at, row_length, cell_at}
use Rattle.layouts.specs.Lists.{row_in}

-- a row has no more cells than there are edges
pub row_short : (rows : List (List ℕ)) (r : ℕ) → length (row_at rows r) ≤ edges rows
row_short [] r = omega arith
row_short (row ∷ rows) zero = omega (arith, length-append row (edge_cells rows))
row_short (row ∷ rows) (suc r) = let h = row_short rows r in omega (arith, length-append row (edge_cells rows))

some_cond : {X : Type 0} (b : Bool) (x y : X) → Some x ≡ cond b (Some y) None → x ≡ y
some_cond true x y e = cc
some_cond false x y e = let z : ◌≡◌ {A = ℕ} 0 1 = cc in absurd (omega arith)

some_true : {X : Type 0} (b : Bool) (x y : X) → Some x ≡ cond b (Some y) None → b ≡ true
some_true true x y e = refl
some_true false x y e = let z : ◌≡◌ {A = ℕ} 0 1 = cc in absurd (omega arith)

pub found_short : (p : Plan) (r : ℕ) (row : List ℕ) → Some row ≡ row_in p.rows r → length row ≤ 1024
found_short p r row e =
    let short = row_short p.rows r in
    let same : length row ≡ length (row_at p.rows r) = ap length (some_cond _ row (row_at p.rows r) e) in
    omega (arith, p.few_edges)

pub length_found : (p : Plan) (r len : ℕ) → Some len ≡ row_length p r → (r < length p.rows) × (len ≡ length (row_at p.rows r))
length_found p r len e =
    (ltb-true r (length p.rows) (some_true _ len (length (row_at p.rows r)) e), some_cond _ len (length (row_at p.rows r)) e)

pub cell_found : (p : Plan) (r k x : ℕ) → r < length p.rows → k < length (row_at p.rows r) → x ≡ get_or (row_at p.rows r) k 0
    → Some x ≡ cell_at p r k
cell_found p r k x h i e = grind (arith, nat_tests)
