-- One turn more of each pass over a list of weights.
use Rattle.std.proofs.Common.{◌≡◌, ℕ, zero, suc, ◌+◌, ◌^◌, ◌<◌, ◌≤◌, Bool, true, false, not, eqb, List, [], ◌∷◌, length, get_or, take, set, pos, ◌+ℤ◌, Some, sym, refl, ap, ◌∙◌, arith}
use Rattle.std.specs.Int.{from_bool}
use Rattle.std.proofs.lemmas.List.{take_more_set, length-map, map-append, map-set, get_or-map}
use Rattle.std.proofs.lemmas.Int.{ints}
use Rattle.std.proofs.lemmas.Bool.{cond-true}
use Rattle.weights.specs.Kinds.{Kind, Exact, meanings}
use Rattle.dual.specs.Choice.{negative, negatives, odd, taken, pick, cheaper, nearest, toggle, flipped, chosen}
use Rattle.dual.proofs.Steps.{negatives_more, pick_push, toggle_within}
use Rattle.reader.specs.Sizes.{total_size}
use Rattle.model.specs.Words.{byte, bytes, marked, bits}
use Rattle.reader.proofs.Rows.{meaning_at}
use Rattle.reader.proofs.Sizes.{total_more, total_within}

pub bits_bytes : (bs : List Bool) → bits (bytes bs) ≡ bs
bits_bytes [] = refl
bits_bytes (true ∷ bs) = ap (λ r. true ∷ r) (bits_bytes bs)
bits_bytes (false ∷ bs) = ap (λ r. false ∷ r) (bits_bytes bs)

-- a flag as the number that the library makes of it
pub byte_is : (b : Bool) → from_bool b ≡ byte b
byte_is true = refl
byte_is false = refl

byte_turned : (bs : List Bool) (i : ℕ) → eqb (get_or (bytes bs) i 0) 0 ≡ not (get_or bs i false)
byte_turned [] i = refl
byte_turned (true ∷ bs) zero = refl
byte_turned (false ∷ bs) zero = refl
byte_turned (b ∷ bs) (suc i) = byte_turned bs i

module _ {W : Type 0} (k : Kind W) where
  pub mark_step : (ws : List W) (i : ℕ) (w : W) (marks : List ℕ) (b : Bool) (x : ℕ) → i < length ws → i < length marks → w ≡ get_or ws i w → b ≡ negative (k.meaning w) → x ≡ byte b
      → take i marks ≡ bytes (negatives (take i (meanings k ws))) → take (i + 1) (set marks i x) ≡ bytes (negatives (take (i + 1) (meanings k ws)))
  mark_step ws i w marks b x h l e s y inv =
      let lm : i < length (meanings k ws) = rw (length-map ws k.meaning) h in
      let more = negatives_more (meanings k ws) i lm in
      let put = take_more_set marks i x l in
      let push = map-append byte (negatives (take i (meanings k ws))) (negative (get_or (meanings k ws) i (pos 0)) ∷ []) in
      let at = meaning_at k ws i w h e in
      cc

  -- a row whose signs are odd in number has one place turned
  pub turned_marks : (ws : List W) (marks : List ℕ) (i x : ℕ) → odd (negatives (meanings k ws)) ≡ true → Some i ≡ cheaper (nearest true (meanings k ws)) (nearest false (meanings k ws))
      → marks ≡ bytes (negatives (meanings k ws)) → x ≡ byte (eqb (get_or marks i 0) 0) → set marks i x ≡ bytes (chosen (meanings k ws))
  turned_marks ws marks i x o e m y =
      let s = negatives (meanings k ws) in
      let t : toggle (meanings k ws) ≡ Some i = cond-true _ _ _ o ∙ sym e in
      let c : chosen (meanings k ws) ≡ set s i (not (get_or s i false)) = ap (λ t. flipped t s) t in
      let put = map-set byte s i (not (get_or s i false)) in
      let turn = byte_turned s i in
      cc

  pub turned_within : (ws : List W) (marks : List ℕ) (i : ℕ) → odd (negatives (meanings k ws)) ≡ true → Some i ≡ cheaper (nearest true (meanings k ws)) (nearest false (meanings k ws))
      → marks ≡ bytes (negatives (meanings k ws)) → i < length marks
  turned_within ws marks i o e m =
      let h = toggle_within (meanings k ws) i (cond-true _ _ _ o ∙ sym e) in
      let lm = length-map ws k.meaning in
      let ln = length-map (meanings k ws) negative in
      let lb = length-map (negatives (meanings k ws)) byte in
      let l = ap length m in
      omega arith

  -- one weight more is added, or passed over
  sum_step : (marks : List ℕ) (ws : List W) (i : ℕ) (w sum new : W) → i < length marks → i < length ws → w ≡ get_or ws i w
      → k.meaning new ≡ k.meaning sum +ℤ taken (marked (get_or marks i 0)) (k.meaning w) → k.size new ≤ k.size sum + k.size w
      → k.meaning sum ≡ pick (take i (bits marks)) (take i (meanings k ws)) → k.size sum ≤ total_size k (take i ws)
      → (k.meaning new ≡ pick (take (i + 1) (bits marks)) (take (i + 1) (meanings k ws))) × (k.size new ≤ total_size k (take (i + 1) ws))
  sum_step marks ws i w sum new hm hw e v s inv size =
      let lb : i < length (bits marks) = rw (length-map marks marked) hm in
      let lw : i < length (meanings k ws) = rw (length-map ws k.meaning) hw in
      let more = pick_push (bits marks) (meanings k ws) i lb lw in
      let at_w = meaning_at k ws i w hw e in
      let at_b : get_or (bits marks) i false ≡ marked (get_or marks i 0) = get_or-map marked marks i 0 false hm in
      let t = total_more k ws i w hw e in
      (cc, omega arith)

  pub sum_adds : (marks : List ℕ) (ws : List W) (i : ℕ) (w sum new : W) → i < length marks → i < length ws → w ≡ get_or ws i w → marked (get_or marks i 0) ≡ true
      → Exact k sum w new (k.meaning sum +ℤ k.meaning w) → total_size k ws ≤ 2 ^ 30
      → k.meaning sum ≡ pick (take i (bits marks)) (take i (meanings k ws)) → k.size sum ≤ total_size k (take i ws)
      → (k.meaning new ≡ pick (take (i + 1) (bits marks)) (take (i + 1) (meanings k ws))) × (k.size new ≤ total_size k (take (i + 1) ws))
  sum_adds marks ws i w sum new hm hw e b x small inv size =
      let t = total_more k ws i w hw e in
      let n = total_within k ws (i + 1) in
      sum_step marks ws i w sum new hm hw e (x.value (omega arith) ∙ ap (λ c. k.meaning sum +ℤ taken c (k.meaning w)) (sym b)) x.small inv size

  pub sum_passes : (marks : List ℕ) (ws : List W) (i : ℕ) (w sum new : W) → i < length marks → i < length ws → w ≡ get_or ws i w → marked (get_or marks i 0) ≡ false → new ≡ sum
      → k.meaning sum ≡ pick (take i (bits marks)) (take i (meanings k ws)) → k.size sum ≤ total_size k (take i ws)
      → (k.meaning new ≡ pick (take (i + 1) (bits marks)) (take (i + 1) (meanings k ws))) × (k.size new ≤ total_size k (take (i + 1) ws))
  sum_passes marks ws i w sum new hm hw e b same inv size =
      let v = ap k.meaning same in
      let s = ap k.size same in
      let z : k.meaning sum ≡ k.meaning sum +ℤ pos 0 = omega (arith, ints) in
      sum_step marks ws i w sum new hm hw e (v ∙ z ∙ ap (λ c. k.meaning sum +ℤ taken c (k.meaning w)) (sym b)) (omega arith) inv size
