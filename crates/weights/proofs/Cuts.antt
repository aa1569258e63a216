-- A sum that stays within the limit is not cut, and a cut never makes a part larger.
use Rattle.std.proofs.Common.{◌≡◌, ℕ, ◌+◌, ◌^◌, ◌<◌, ◌≤◌, ℤ, ◌+ℤ◌, ◌-ℤ◌, nat_abs, sym, ap, ◌∙◌, subst, arith}
use denote.Struct.Props.{props}
use Rattle.std.proofs.lemmas.Int.{ints, clamps}
use Rattle.weights.specs.Kinds.{Exact}
use Rattle.weights.specs.Paireds.{paired_kind}
use Rattle.weights.specs.Parts.{cut, joined, grey_cost, Kept}
use Rattle.weights.specs.Plains.{plain_kind, cut_within}
use Rattle.weights.specs.declared.paired.Paired.{Paired}
use Rattle.weights.specs.declared.plain.Plain.{Plain}

pub uncut : (limit : ℕ) (z : ℤ) → nat_abs z ≤ limit → cut limit z ≡ z
uncut limit z h = omega (arith, ints, clamps)

pub cut_smaller : (limit : ℕ) (z : ℤ) → nat_abs (cut limit z) ≤ nat_abs z
cut_smaller limit z = omega (arith, ints, clamps)

pub plain_path : (a b : Plain) → a.value ≡ b.value → a ≡ b
plain_path a b e =
    let same : (v : ℤ) → IsProp (nat_abs v ≤ 2 ^ 30) = λ v. hlevel props in
    let P : ℤ → Type 0 = λ v. (p : nat_abs v ≤ 2 ^ 30) → ◌≡◌ {A = Plain} a (record { value = v; within = p }) in
    subst P e (λ p. ap (λ (q : nat_abs a.value ≤ 2 ^ 30). record { value = a.value; within = q }) (same a.value a.within p)) b.within

pub paired_path : (a b : Paired) → a.grey ≡ b.grey → a.dark ≡ b.dark → a ≡ b
paired_path a b e f =
    let Within : ℤ → ℤ → Type 0 = λ v w. (nat_abs v ≤ 2 ^ 30) × (nat_abs w ≤ 2 ^ 30) in
    let same : (p q : Within a.grey a.dark) → p ≡ q = λ p q. hlevel props in
    let P : ℤ → Type 0 = λ v. (p : Within v b.dark) → ◌≡◌ {A = Paired} a (record { grey = v; dark = b.dark; within = p }) in
    let Q : ℤ → Type 0 = λ w. (p : Within a.grey w) → ◌≡◌ {A = Paired} a (record { grey = a.grey; dark = w; within = p }) in
    let at_grey : Q b.dark = subst Q f (λ p. ap (λ (q : Within a.grey a.dark). record { grey = a.grey; dark = a.dark; within = q }) (same a.within p)) in
    subst P e at_grey b.within

pub kept_cut : (a b r z : ℤ) → nat_abs z ≤ nat_abs a + nat_abs b → r ≡ cut (2 ^ 30) z → Kept a b r z
kept_cut a b r z h e = record {
  exact = λ s. e ∙ uncut (2 ^ 30) z (omega arith);
  small = subst (λ v. nat_abs v ≤ nat_abs a + nat_abs b) (sym e) (let s = cut_smaller (2 ^ 30) z in omega arith);
  within = subst (λ v. nat_abs v ≤ 2 ^ 30) (sym e) (cut_within (2 ^ 30) z);
}

pub abs_sum : (a b : ℤ) → nat_abs (a +ℤ b) ≤ nat_abs a + nat_abs b
abs_sum a b = omega (arith, ints)

pub abs_difference : (a b : ℤ) → nat_abs (a -ℤ b) ≤ nat_abs a + nat_abs b
abs_difference a b = omega (arith, ints)

pub joined_sum : (a b c d : ℤ) → joined (a +ℤ c) (b +ℤ d) ≡ joined a b +ℤ joined c d
joined_sum a b c d = omega (arith, ints)

pub joined_difference : (a b c d : ℤ) → joined (a -ℤ c) (b -ℤ d) ≡ joined a b -ℤ joined c d
joined_difference a b c d = omega (arith, ints)

-- a weight of cut parts is exact
pub plain_exact : (a b r : Plain) (z : ℤ) → nat_abs z ≤ nat_abs a.value + nat_abs b.value → r.value ≡ cut (2 ^ 30) z → Exact plain_kind a b r z
plain_exact a b r z h e = let k = kept_cut a.value b.value r.value z h e in record { value = k.exact; small = k.small }

-- two parts, each kept, make a pair that is exact
pub pair_exact : (a b r : Paired) (first second z : ℤ) → Kept a.grey b.grey r.grey first → Kept a.dark b.dark r.dark second → joined first second ≡ z → Exact paired_kind a b r z
pair_exact a b r first second z g d e = record {
  value = λ h. ap (λ v. joined v r.dark) (g.exact (omega arith)) ∙ ap (joined first) (d.exact (omega arith)) ∙ e;
  small = omega (arith, g.small, d.small);
}

pub paired_exact : (a b r : Paired) (first second z : ℤ) → nat_abs first ≤ nat_abs a.grey + nat_abs b.grey → nat_abs second ≤ nat_abs a.dark + nat_abs b.dark
    → r.grey ≡ cut (2 ^ 30) first → r.dark ≡ cut (2 ^ 30) second → joined first second ≡ z → Exact paired_kind a b r z
paired_exact a b r first second z h i e f j =
    pair_exact a b r first second z (kept_cut a.grey b.grey r.grey first h e) (kept_cut a.dark b.dark r.dark second i f) j

pub grey_uncut : (grey : ℕ) → grey < 256 → cut (2 ^ 30) (grey_cost grey) ≡ grey_cost grey
grey_uncut grey h = uncut (2 ^ 30) (grey_cost grey) (omega (arith, ints))
