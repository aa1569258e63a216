-- The codecs of our own kinds: a plain weight in four bytes, a paired one in eight, the grey part first.
use Rattle.std.specs.Prelude.{◌≡◌, ℕ, ◌+◌, ◌^◌, Bool, true, cond, ◌&&◌, List, [], ◌++◌, length, drop, ℤ, Some, None, Option, ◌==◌, nat_le, unsigned_abs, refl}
use Rattle.std.proofs.Common.{sym, ap, ◌∙◌, arith, lit≤}
use Rattle.std.proofs.lemmas.List.{get_or-drop, length-drop, drop_all}
use Rattle.std.proofs.lemmas.Bool.{eqb-true, leb-true, le-leb, and_parts}
use Rattle.weights.proofs.Cuts.{uncut, plain_path, paired_path}
use Rattle.weights.specs.Paireds.{paired_of}
use Rattle.weights.specs.Plains.{plain_of}
use Rattle.weights.specs.declared.paired.Paired.{Paired}
use Rattle.weights.specs.declared.plain.Plain.{Plain}
use Rattle.tickets.specs.Codecs.{Codec}
use Rattle.tickets.specs.Packs.{Octets}
use Rattle.tickets.specs.Parts.{part_bytes, part_of}
use Rattle.tickets.specs.PartLaws.{part_back, part_only, held}

-- no part of a weight is farther from 0
abbrev pub part_fits : ℤ → Bool
part_fits z = nat_le (unsigned_abs z) (2 ^ 30)

abbrev pub plain_bytes : Plain → List ℕ
plain_bytes w = part_bytes w.value

abbrev pub plain_in : List ℕ → Option Plain
plain_in bs = cond (length bs == 4 && part_fits (part_of bs)) (Some (plain_of (part_of bs))) None

abbrev pub paired_bytes : Paired → List ℕ
paired_bytes w = part_bytes w.grey ++ part_bytes w.dark

abbrev pub paired_in : List ℕ → Option Paired
paired_in bs =
    cond (length bs == 8 && (part_fits (part_of bs) && part_fits (part_of (drop 4 bs))))
    (Some (paired_of (part_of bs) (part_of (drop 4 bs)))) None

pub plain_back : (w : Plain) → plain_in (plain_bytes w) ≡ Some w
plain_back w =
    let z : part_of (plain_bytes w) ≡ w.value = part_back w.value [] w.within in
    let f : part_fits w.value ≡ true = le-leb (unsigned_abs w.value) (2 ^ 30) w.within in
    let p : plain_of w.value ≡ w = plain_path (plain_of w.value) w (uncut (2 ^ 30) w.value w.within) in
    ap (λ v. cond (part_fits v) (Some (plain_of v)) None) z ∙ ap (λ b. cond b (Some (plain_of w.value)) None) f ∙ ap Some p

pub plain_only : (bs : List ℕ) (w : Plain) → Octets bs → plain_in bs ≡ Some w → bs ≡ plain_bytes w
plain_only bs w o e =
    let h = held (length bs == 4 && part_fits (part_of bs)) (Some (plain_of (part_of bs))) w e in
    let is : plain_of (part_of bs) ≡ w = cc in
    let b = and_parts (length bs == 4) (part_fits (part_of bs)) h.0 in
    let l = eqb-true (length bs) 4 b.0 in
    let z = uncut (2 ^ 30) (part_of bs) (leb-true (unsigned_abs (part_of bs)) (2 ^ 30) b.1) in
    let v : part_of bs ≡ w.value = sym z ∙ ap (λ u. u.value) is in
    part_only bs o (omega arith) ∙ ap (λ r. part_bytes (part_of bs) ++ r) (drop_all 4 bs (omega arith)) ∙ ap part_bytes v

abbrev pub plain_codec : Codec Plain
plain_codec = record {
  kind_byte = 0;
  width = 4;
  few_bytes = lit≤ tt;
  put = plain_bytes;
  put_length = λ w. refl;
  get = plain_in;
  back = plain_back;
  only = plain_only;
}

pub paired_back : (w : Paired) → paired_in (paired_bytes w) ≡ Some w
paired_back w =
    let y : part_of (paired_bytes w) ≡ w.grey = part_back w.grey (part_bytes w.dark) w.within.0 in
    let z : part_of (drop 4 (paired_bytes w)) ≡ w.dark = part_back w.dark [] w.within.1 in
    let f : part_fits w.grey ≡ true = le-leb (unsigned_abs w.grey) (2 ^ 30) w.within.0 in
    let g : part_fits w.dark ≡ true = le-leb (unsigned_abs w.dark) (2 ^ 30) w.within.1 in
    let p : paired_of w.grey w.dark ≡ w = paired_path (paired_of w.grey w.dark) w (uncut (2 ^ 30) w.grey w.within.0) (uncut (2 ^ 30) w.dark w.within.1) in
    ap (λ v. cond (part_fits v && part_fits (part_of (drop 4 (paired_bytes w)))) (Some (paired_of v (part_of (drop 4 (paired_bytes w))))) None) y
    ∙ ap (λ v. cond (part_fits w.grey && part_fits v) (Some (paired_of w.grey v)) None) z
    ∙ ap (λ b. cond (b && part_fits w.dark) (Some (paired_of w.grey w.dark)) None) f
    ∙ ap (λ b. cond b (Some (paired_of w.grey w.dark)) None) g ∙ ap Some p

pub paired_only : (bs : List ℕ) (w : Paired) → Octets bs → paired_in bs ≡ Some w → bs ≡ paired_bytes w
paired_only bs w o e =
    let h = held (length bs == 8 && (part_fits (part_of bs) && part_fits (part_of (drop 4 bs)))) (Some (paired_of (part_of bs) (part_of (drop 4 bs)))) w e in
    let is : paired_of (part_of bs) (part_of (drop 4 bs)) ≡ w = cc in
    let b = and_parts (length bs == 8) (part_fits (part_of bs) && part_fits (part_of (drop 4 bs))) h.0 in
    let d = and_parts (part_fits (part_of bs)) (part_fits (part_of (drop 4 bs))) b.1 in
    let l = eqb-true (length bs) 8 b.0 in
    let y = uncut (2 ^ 30) (part_of bs) (leb-true (unsigned_abs (part_of bs)) (2 ^ 30) d.0) in
    let z = uncut (2 ^ 30) (part_of (drop 4 bs)) (leb-true (unsigned_abs (part_of (drop 4 bs))) (2 ^ 30) d.1) in
    let u : part_of bs ≡ w.grey = sym y ∙ ap (λ t. t.grey) is in
    let v : part_of (drop 4 bs) ≡ w.dark = sym z ∙ ap (λ t. t.dark) is in
    let o4 : Octets (drop 4 bs) = λ i. rw get_or-drop (o (4 + i)) in
    let second : drop 4 bs ≡ part_bytes (part_of (drop 4 bs)) =
    part_only (drop 4 bs) o4 (simp length-drop (omega arith))
    ∙ ap (λ r. part_bytes (part_of (drop 4 bs)) ++ r) (drop_all 4 (drop 4 bs) (simp length-drop (omega arith))) in
    part_only bs o (omega arith) ∙ ap (λ r. part_bytes (part_of bs) ++ r) (second ∙ ap part_bytes v) ∙ ap (λ t. part_bytes t ++ part_bytes w.dark) u

abbrev pub paired_codec : Codec Paired
paired_codec = record {
  kind_byte = 1;
  width = 8;
  few_bytes = lit≤ tt;
  put = paired_bytes;
  put_length = λ w. refl;
  get = paired_in;
  back = paired_back;
  only = paired_only;
}
