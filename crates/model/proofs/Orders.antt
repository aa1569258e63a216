-- Tests on whole numbers, and refusals by number.
use Rattle.std.proofs.Common.{◌≡◌, ℕ, suc, Bool, true, false, cond, not, T, eqb, ℤ, ◌≤ℤ◌, ◌<ℤ◌, sym, refl, ap, ◌∙◌, subst, arith}
use lib.Signed.{lt_z, lt_z_yes, lt_z_no}
use Rattle.std.proofs.lemmas.Int.{ints}
use Rattle.std.proofs.lemmas.Bool.{eqb-true, eq-eqb, both_ways}
use Rattle.refusals.specs.Numbers.{or_else}
use Rattle.model.specs.Model.{equal}

pub true_T : {b : Bool} → b ≡ true → T b
true_T e = subst T (sym e) tt

pub T_true : (b : Bool) → T b → b ≡ true
T_true true t = refl
T_true false t = absurd t

pub lt_yes : (a b : ℤ) → lt_z a b ≡ true → a <ℤ b
lt_yes a b e = lt_z_yes (true_T e)

pub lt_no : (a b : ℤ) → lt_z a b ≡ false → b ≤ℤ a
lt_no a b e = lt_z_no (subst (λ (x : Bool). T (not x)) (sym e) tt)

pub lt_is : (a b : ℤ) → a <ℤ b → lt_z a b ≡ true
lt_is a b h = T_true (lt_z a b) h.lt

pub equal_yes : (a b : ℤ) → equal a b ≡ true → a ≡ b
equal_yes a b e = grind (arith, ints)

pub equal_from : (a b : ℤ) → a ≡ b → equal a b ≡ true
equal_from a b e = grind (arith, ints)

-- the first reason is none, and so is the second
pub neither : (a b : ℕ) → or_else a b ≡ 0 → (a ≡ 0) × (b ≡ 0)
neither a b = go (eqb a 0) refl
  where
    go : (t : Bool) → eqb a 0 ≡ t → cond t b a ≡ 0 → (a ≡ 0) × (b ≡ 0)
    go true e f = (eqb-true a 0 e, f)
    go false e f = absurd (both_ways (eqb a 0) e (eq-eqb a 0 f))

pub no_reason : (a b : ℕ) → a ≡ 0 → b ≡ 0 → or_else a b ≡ 0
no_reason a b e f = ap (λ t. cond t b a) (eq-eqb a 0 e) ∙ f

-- a test that declines was not met
pub passed : (t : Bool) (n r : ℕ) → cond t (suc n) r ≡ 0 → (t ≡ false) × (r ≡ 0)
passed true n r e = absurd (omega arith)
passed false n r e = (refl, e)

pub passing : (t : Bool) (n r : ℕ) → t ≡ false → r ≡ 0 → cond t n r ≡ 0
passing t n r e f = ap (λ b. cond b n r) e ∙ f
