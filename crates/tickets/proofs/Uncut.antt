-- A weight made of the parts that were read is theirs exactly where making it cut nothing.
use Rattle.std.proofs.Common.{◌≡◌, ℕ, ◌^◌, ◌≤◌, Bool, true, false, cond, ◌&&◌, eqb, ◌⊎◌, List, length, take, drop, ℤ, nat_abs, Some, None, sym, refl, ap, ◌∙◌, subst, inl, inr, arith}
use Rattle.std.specs.Bool.{then_some}
use Rattle.std.proofs.lemmas.List.{get_or-take, length-drop}
use Rattle.std.proofs.lemmas.Bool.{eq-eqb, eqb-true, le-leb, leb-true, cases_Bool}
use Rattle.weights.proofs.Cuts.{uncut, plain_path, paired_path}
use Rattle.weights.specs.Paireds.{paired_of}
use Rattle.weights.specs.Parts.{cut}
use Rattle.weights.specs.Plains.{plain_of, cut_within}
use Rattle.weights.specs.declared.paired.Paired.{Paired}
use Rattle.weights.specs.declared.plain.Plain.{Plain}
use Rattle.tickets.specs.Kinds.{part_fits, plain_in, paired_in}
use Rattle.tickets.specs.PartLaws.{held}
use Rattle.tickets.specs.Parts.{part_of}

fits_uncut : (v z : ℤ) → v ≡ cut (2 ^ 30) z → v ≡ z → part_fits z ≡ true
fits_uncut v z e f = le-leb (nat_abs z) (2 ^ 30) (subst (λ u. nat_abs u ≤ 2 ^ 30) (sym e ∙ f) (cut_within (2 ^ 30) z))

unfit_cut : (v z : ℤ) → v ≡ cut (2 ^ 30) z → (v ≡ z → ⊥) → part_fits z ≡ false
unfit_cut v z e f = elim (cases_Bool (part_fits z)) [ inl t ↦ absurd (f (e ∙ uncut (2 ^ 30) z (leb-true (nat_abs z) (2 ^ 30) t))) | inr t ↦ t ]

-- the four bytes of a part
pub part_found : (bs : List ℕ) (n : ℤ) → Some n ≡ cond (eqb (length bs) 4) (Some (part_of bs)) None → (length bs ≡ 4) × (n ≡ part_of bs)
part_found bs n e =
    let h = held (eqb (length bs) 4) (Some (part_of bs)) n (sym e) in
    (eqb-true (length bs) 4 h.0, (let z : n ≡ part_of bs = cc in z))

part_of_front : (bs : List ℕ) → part_of (take 4 bs) ≡ part_of bs
part_of_front bs =
    let a = get_or-take 4 bs 0 0 (omega arith) in
    let b = get_or-take 4 bs 1 0 (omega arith) in
    let c = get_or-take 4 bs 2 0 (omega arith) in
    let d = get_or-take 4 bs 3 0 (omega arith) in
    cc

pub plain_read : (bs : List ℕ) (w : Plain) (n : ℤ) (same : Bool) → Some n ≡ cond (eqb (length bs) 4) (Some (part_of bs)) None → w.value ≡ cut (2 ^ 30) n
    → (same ≡ true → w.value ≡ n) → (same ≡ false → w.value ≡ n → ⊥) → then_some same w ≡ plain_in bs
plain_read bs w n true e v met unmet =
    let h = part_found bs n e in
    let a = eq-eqb (length bs) 4 h.0 in
    let f : w.value ≡ cut (2 ^ 30) (part_of bs) = v ∙ ap (cut (2 ^ 30)) h.1 in
    let b = fits_uncut w.value (part_of bs) f (met refl ∙ h.1) in
    let p = plain_path w (plain_of (part_of bs)) f in
    ap Some p ∙ sym (ap (λ t. cond (t && part_fits (part_of bs)) (Some (plain_of (part_of bs))) None) a ∙ ap (λ t. cond t (Some (plain_of (part_of bs))) None) b)
plain_read bs w n false e v met unmet =
    let h = part_found bs n e in
    let f : w.value ≡ cut (2 ^ 30) (part_of bs) = v ∙ ap (cut (2 ^ 30)) h.1 in
    let b = unfit_cut w.value (part_of bs) f (λ u. unmet refl (u ∙ sym h.1)) in
    let any : (eqb (length bs) 4 && part_fits (part_of bs)) ≡ false = grind arith in
    sym (ap (λ t. cond t (Some (plain_of (part_of bs))) None) any)

-- what is read from the two halves of a paired weight
pub record Halves (bs : List ℕ) (y z : ℤ) : Type 0 where
  pub long : length bs ≡ 8
  pub grey : y ≡ part_of bs
  pub dark : z ≡ part_of (drop 4 bs)

pub halves : (bs front back : List ℕ) (y z : ℤ) → 4 ≤ length bs → front ≡ take 4 bs → back ≡ drop 4 bs → Some y ≡ cond (eqb (length front) 4) (Some (part_of front)) None
    → Some z ≡ cond (eqb (length back) 4) (Some (part_of back)) None → Halves bs y z
halves bs front back y z l ef eb ey ez =
    let g = part_found front y ey in
    let d = part_found back z ez in
    record {
      long = omega (arith, ap length eb, length-drop 4 bs, d.0);
      grey = g.1 ∙ ap part_of ef ∙ part_of_front bs;
      dark = d.1 ∙ ap part_of eb;
    }

pub paired_read : (bs : List ℕ) (w : Paired) (y z : ℤ) (same : Bool) → Halves bs y z → w.grey ≡ cut (2 ^ 30) y → w.dark ≡ cut (2 ^ 30) z
    → (same ≡ true → (w.grey ≡ y) × (w.dark ≡ z)) → (same ≡ false → (w.grey ≡ y → ⊥) ⊎ (w.dark ≡ z → ⊥)) → then_some same w ≡ paired_in bs
paired_read bs w y z true h e f met unmet =
    let grey : w.grey ≡ cut (2 ^ 30) (part_of bs) = e ∙ ap (cut (2 ^ 30)) h.grey in
    let dark : w.dark ≡ cut (2 ^ 30) (part_of (drop 4 bs)) = f ∙ ap (cut (2 ^ 30)) h.dark in
    let a = eq-eqb (length bs) 8 h.long in
    let b = fits_uncut w.grey (part_of bs) grey ((met refl).0 ∙ h.grey) in
    let d = fits_uncut w.dark (part_of (drop 4 bs)) dark ((met refl).1 ∙ h.dark) in
    let p = paired_path w (paired_of (part_of bs) (part_of (drop 4 bs))) grey dark in
    let all : (eqb (length bs) 8 && (part_fits (part_of bs) && part_fits (part_of (drop 4 bs)))) ≡ true = grind arith in
    ap Some p ∙ sym (ap (λ t. cond t (Some (paired_of (part_of bs) (part_of (drop 4 bs)))) None) all)
paired_read bs w y z false h e f met unmet =
    let grey : w.grey ≡ cut (2 ^ 30) (part_of bs) = e ∙ ap (cut (2 ^ 30)) h.grey in
    let dark : w.dark ≡ cut (2 ^ 30) (part_of (drop 4 bs)) = f ∙ ap (cut (2 ^ 30)) h.dark in
    let any : (eqb (length bs) 8 && (part_fits (part_of bs) && part_fits (part_of (drop 4 bs)))) ≡ false =
    elim (unmet refl) [
      | inl n ↦ (let b = unfit_cut w.grey (part_of bs) grey (λ u. n (u ∙ sym h.grey)) in grind arith)
      | inr n ↦ (let b = unfit_cut w.dark (part_of (drop 4 bs)) dark (λ u. n (u ∙ sym h.dark)) in grind arith)
    ] in
    sym (ap (λ t. cond t (Some (paired_of (part_of bs) (part_of (drop 4 bs)))) None) any)
