-- The laws of a whole ticket.
use Rattle.std.proofs.Common.{◌≡◌, ℕ, ◌+◌, ◌*◌, ◌/◌, ◌%◌, ◌^◌, ◌≤◌, Bool, true, false, cond, not, ◌&&◌, ◌||◌, eqb, ltb, leb, List, [], ◌∷◌, ◌++◌, length, get_or, take, drop, is_some, Some, None, Option, sym, refl, ap, ◌∙◌, subst, arith}
use Rattle.refusals.specs.Numbers.{or_else}
use Rattle.std.specs.List.{flat_map}
use Rattle.std.proofs.lemmas.List.FromFn.{length-map-range_with_len}
use Rattle.std.proofs.lemmas.List.{take_at, drop_at, drop-drop}
use Rattle.std.proofs.lemmas.Bool.{le-leb, leb-true, le-ltb, eq-eqb, eqb-true, and_from, and_parts, or_from, not_from_true}
use Rattle.weights.specs.Kinds.{Kind}
use Rattle.weights.specs.Sizes.{beyond}
use Rattle.tickets.specs.Codecs.{Codec}
use Rattle.tickets.specs.Laws.{ReadsBack, OnlyWritten, NeverAlike}
use Rattle.tickets.specs.Packs.{Octets, no_bits, octet, packed_length, packed, cell_bit, unpacked}
use Rattle.tickets.specs.Reads.{marked, headed, head_of, says, word_part, multipliers_in, packed_word, word_read, records_part, or_empty, multipliers_read, parts_refusal, read_refusal}
use Rattle.tickets.specs.Tickets.{Counts, head_mark, word_mark, head_bytes, word_bytes, multiplier_bytes, ticket, write_refusal}
use Rattle.tickets.proofs.Forms.{octets_drop, octets_take, marked_front, word_back, word_only, multipliers_back, multipliers_only, ticket_length}
use Rattle.tickets.proofs.Packing.{bits_from, bits_to, bits_unpacked, unpack_pack, pack_unpack}
use Rattle.tickets.proofs.Written.{accepted}

-- reading declines nothing
module _ (kind : ℕ) (n : Counts) (bs : List ℕ) where
  no_parts_refusal : headed bs ≡ true → says kind n (head_of bs) ≡ true → is_some (word_part n.cells (drop 7 bs)) ≡ true → parts_refusal kind n bs ≡ 0
  no_parts_refusal a b d =
      ap (λ t. cond (not t) 15 (cond (not (says kind n (head_of bs))) 16 (cond (is_some (word_part n.cells (drop 7 bs))) 0 17))) a
      ∙ ap (λ t. cond (not t) 16 (cond (is_some (word_part n.cells (drop 7 bs))) 0 17)) b ∙ ap (λ t. cond t 0 17) d

  parts_passed : (a b d : Bool) → ◌≡◌ {A = ℕ} (cond (not a) 15 (cond (not b) 16 (cond d 0 17))) 0 → (a ≡ true) × (b ≡ true) × (d ≡ true)
  parts_passed true true true e = (refl, refl, refl)
  parts_passed true true false e = absurd (omega arith)
  parts_passed true false d e = absurd (omega arith)
  parts_passed false b d e = absurd (omega arith)

or_else_passed : (a b : ℕ) (t : Bool) → eqb a 0 ≡ t → cond t b a ≡ 0 → (a ≡ 0) × (b ≡ 0)
or_else_passed a b true e f = (eqb-true a 0 e, f)
or_else_passed a b false e f = absurd (let z : ◌≡◌ {A = Bool} true false = sym (eq-eqb a 0 f) ∙ e in let y : ◌≡◌ {A = ℕ} 0 1 = cc in omega arith)

work_passed : (t : Bool) (r : ℕ) → cond (not t) 22 r ≡ 0 → (t ≡ true) × (r ≡ 0)
work_passed true r e = (refl, e)
work_passed false r e = absurd (omega arith)

last_passed : (t : Bool) → ◌≡◌ {A = ℕ} (cond t 0 17) 0 → t ≡ true
last_passed true e = refl
last_passed false e = absurd (omega arith)

given : {X : Type 0} (o : Option X) → is_some o ≡ true → (x : X) × (o ≡ Some x)
given (Some x) e = (x, refl)
given None e = absurd (let z : ◌≡◌ {A = ℕ} 0 1 = cc in omega arith)

seven : (bs : List ℕ) → 7 ≤ length bs → bs ≡ get_or bs 0 0 ∷ get_or bs 1 0 ∷ get_or bs 2 0 ∷ get_or bs 3 0 ∷ get_or bs 4 0 ∷ get_or bs 5 0 ∷ get_or bs 6 0 ∷ drop 7 bs
seven [] h = absurd (omega arith)
seven (a ∷ []) h = absurd (omega arith)
seven (a ∷ b ∷ []) h = absurd (omega arith)
seven (a ∷ b ∷ c ∷ []) h = absurd (omega arith)
seven (a ∷ b ∷ c ∷ d ∷ []) h = absurd (omega arith)
seven (a ∷ b ∷ c ∷ d ∷ e ∷ []) h = absurd (omega arith)
seven (a ∷ b ∷ c ∷ d ∷ e ∷ f ∷ []) h = absurd (omega arith)
seven (a ∷ b ∷ c ∷ d ∷ e ∷ f ∷ g ∷ bs) h = refl

head_only : (kind : ℕ) (n : Counts) (bs : List ℕ) → Octets bs → headed bs ≡ true → says kind n (head_of bs) ≡ true → bs ≡ head_bytes kind n ++ drop 7 bs
head_only kind n bs o h e =
    let a = and_parts (leb 7 (length bs)) (marked head_mark bs) h in
    let m = and_parts (leb 2 (length bs)) (eqb (get_or bs 0 0) 0x4C && eqb (get_or bs 1 0) 0x48) a.1 in
    let mm = and_parts (eqb (get_or bs 0 0) 0x4C) (eqb (get_or bs 1 0) 0x48) m.1 in
    let p = and_parts (eqb (get_or bs 2 0) kind) (eqb (get_or bs 3 0) n.cells && (eqb (get_or bs 4 0) n.rows && eqb (256 * get_or bs 5 0 + get_or bs 6 0) n.edges)) e in
    let q = and_parts (eqb (get_or bs 3 0) n.cells) (eqb (get_or bs 4 0) n.rows && eqb (256 * get_or bs 5 0 + get_or bs 6 0) n.edges) p.1 in
    let r = and_parts (eqb (get_or bs 4 0) n.rows) (eqb (256 * get_or bs 5 0 + get_or bs 6 0) n.edges) q.1 in
    let b0 = eqb-true (get_or bs 0 0) 0x4C mm.0 in
    let b1 = eqb-true (get_or bs 1 0) 0x48 mm.1 in
    let b2 = eqb-true (get_or bs 2 0) kind p.0 in
    let b3 = eqb-true (get_or bs 3 0) n.cells q.0 in
    let b4 = eqb-true (get_or bs 4 0) n.rows r.0 in
    let es = eqb-true (256 * get_or bs 5 0 + get_or bs 6 0) n.edges r.1 in
    let low = o 6 in
    let high = o 5 in
    let b5 : get_or bs 5 0 ≡ n.edges / 256 = omega arith in
    let b6 : get_or bs 6 0 ≡ n.edges % 256 = omega arith in
    let all = seven bs (leb-true 7 (length bs) a.0) in
    cc

-- parts that are of the form, and multipliers read from the second
pub all_read : {W : Type 0} (k : Kind W) (c : Codec W) (n : Counts) (bs part : List ℕ) (out : List W) (m : ℕ) → m ≡ n.edges → 0 ≡ parts_refusal c.kind_byte n bs → part ≡ records_part n bs
    → Some out ≡ multipliers_in k c m part → (read_refusal k c n bs m ≡ 0) × (out ≡ multipliers_read k c n bs)
all_read k c n bs part out m em ep er e =
    let found : multipliers_in k c n.edges (records_part n bs) ≡ Some out = sym (e ∙ ap (λ i. multipliers_in k c i part) em ∙ ap (multipliers_in k c n.edges) er) in (
      ap (λ t. cond (not t) 22 (or_else (parts_refusal c.kind_byte n bs) (cond (is_some (multipliers_in k c n.edges (records_part n bs))) 0 17))) (eq-eqb m n.edges em)
          ∙ ap (λ a. or_else a (cond (is_some (multipliers_in k c n.edges (records_part n bs))) 0 17)) (sym ep) ∙ ap (λ o. cond (is_some o) 0 17) found,
      sym (ap or_empty found),
    )

none_back : (a b c : Bool) → a ≡ false → b ≡ false → c ≡ false → ◌≡◌ {A = ℕ} (cond a 13 (cond b 12 (cond c 20 0))) 0
none_back a b c p q r = ap (λ t. cond t 13 (cond b 12 (cond c 20 0))) p ∙ ap (λ t. cond t 12 (cond c 20 0)) q ∙ ap (λ t. cond t 20 0) r

module _ {W : Type 0} (k : Kind W) (c : Codec W) where
  pub reads_back : ReadsBack k c
  unfolding ticket
  reads_back n x ms room e =
      let ok = accepted k c n x ms room e in
      let records = flat_map (multiplier_bytes c) ms in
      let bs : List ℕ = head_bytes c.kind_byte n ++ (word_bytes x ++ records) in
      let long : length (packed x) ≡ packed_length n.cells = length-map-range_with_len (octet x) 0 (packed_length (length x)) ∙ ap packed_length ok.cells in
      let room7 : leb 7 (length bs) ≡ true = le-leb _ _ (omega arith) in
      let heads : headed bs ≡ true = and_from _ _ room7 (marked_front 0x4C 0x48 (c.kind_byte ∷ n.cells ∷ n.rows ∷ n.edges / 256 ∷ n.edges % 256 ∷ (word_bytes x ++ records))) in
      let edge_bytes : 256 * (n.edges / 256) + n.edges % 256 ≡ n.edges = omega arith in
      let names : says c.kind_byte n (head_of bs) ≡ true =
      and_from _ _ (eq-eqb c.kind_byte c.kind_byte refl) (and_from _ _ (eq-eqb n.cells n.cells refl) (and_from _ _ (eq-eqb n.rows n.rows refl) (eq-eqb _ _ edge_bytes))) in
      let word : word_part n.cells (word_bytes x ++ records) ≡ Some (packed x) = ap (λ m. word_part m (word_bytes x ++ records)) (sym ok.cells) ∙ word_back x records in
      let part : packed_word n bs ≡ packed x = take_at (packed x) records (packed_length n.cells) long in
      let behind : records_part n bs ≡ records =
      sym (drop-drop (packed_length n.cells) 9 bs) ∙ drop_at (packed x) records (packed_length n.cells) long in
      let found : multipliers_in k c n.edges (records_part n bs) ≡ Some ms =
      ap (multipliers_in k c n.edges) behind ∙ ap (λ m. multipliers_in k c m records) (sym ok.edges) ∙ multipliers_back k c ms ok.sizes in
      let parts = no_parts_refusal c.kind_byte n bs heads names (ap is_some word) in
      let same : unpacked n.cells (packed x) ≡ x = ap (λ m. unpacked m (packed x)) (sym ok.cells) ∙ unpack_pack x (bits_from x ok.bits) in (
        ticket_length k c n x ms ∙ ap (λ m. 9 + packed_length m + length ms * (2 + c.width)) ok.cells ∙ ap (λ m. 9 + packed_length n.cells + m * (2 + c.width)) ok.edges,
        (all_read k c n bs (records_part n bs) ms (length ms) ok.edges (sym parts) refl (sym (ap (λ m. multipliers_in k c m (records_part n bs)) ok.edges ∙ found))).0,
        ap (unpacked n.cells) part ∙ same,
        ap or_empty found,
      )

  -- the parts of a ticket that was read, put together again
  whole : (n : Counts) (bs : List ℕ) → Octets bs → (p : List ℕ) (ms : List W) → headed bs ≡ true → says c.kind_byte n (head_of bs) ≡ true
      → word_part n.cells (drop 7 bs) ≡ Some p → multipliers_in k c n.edges (records_part n bs) ≡ Some ms
      → (bs ≡ ticket c n (word_read n bs) (multipliers_read k c n bs)) × (write_refusal k c n (word_read n bs) (multipliers_read k c n bs) (length bs) ≡ 0)
  unfolding ticket
  whole n bs o p ms h a w e =
      let pl : ℕ = packed_length n.cells in
      let x : List ℕ = word_read n bs in
      let rs : List W = multipliers_read k c n bs in
      let r = word_only n.cells (drop 7 bs) p w in
      let is : p ≡ packed_word n bs = r.part ∙ ap (take pl) (drop-drop 2 7 bs) in
      let oct : Octets p = subst Octets (sym r.part) (octets_take pl (drop 2 (drop 7 bs)) (octets_drop 2 (drop 7 bs) (octets_drop 7 bs o))) in
      let px : packed x ≡ p = ap (λ q. packed (unpacked n.cells q)) (sym is) ∙ pack_unpack n.cells p oct r.long r.free in
      let nine : 7 + (2 + pl) ≡ 9 + pl = omega arith in
      let on : drop (2 + pl) (drop 7 bs) ≡ records_part n bs = drop-drop (2 + pl) 7 bs ∙ ap (λ i. drop i bs) nine in
      let mo = multipliers_only k c n.edges (records_part n bs) ms (octets_drop (9 + pl) bs o) e in
      let mr : rs ≡ ms = ap or_empty e in
      let tail : drop 7 bs ≡ word_bytes x ++ flat_map (multiplier_bytes c) rs =
      r.front ∙ ap (λ l. word_mark ++ (p ++ l)) (on ∙ mo.0 ∙ ap (flat_map (multiplier_bytes c)) (sym mr)) ∙ ap (λ q. word_mark ++ (q ++ flat_map (multiplier_bytes c) rs)) (sym px) in
      let all : bs ≡ head_bytes c.kind_byte n ++ (word_bytes x ++ flat_map (multiplier_bytes c) rs) = head_only c.kind_byte n bs o h a ∙ ap (λ l. head_bytes c.kind_byte n ++ l) tail in
      let cells : length x ≡ n.cells = length-map-range_with_len (cell_bit (packed_word n bs)) 0 n.cells in
      let bits = bits_to x (bits_unpacked n.cells (packed_word n bs)) in
      let long : length rs ≡ n.edges = ap length mr ∙ mo.1 in
      let sizes : beyond k (2 ^ 18) rs ≡ false = ap (beyond k (2 ^ 18)) mr ∙ mo.2 in (
        all,
        none_back (not (eqb (length x) n.cells) || no_bits x) (not (eqb (length rs) n.edges) || beyond k (2 ^ 18) rs)
            (ltb (length bs) (length (head_bytes c.kind_byte n ++ (word_bytes x ++ flat_map (multiplier_bytes c) rs))))
            (or_from _ _ (not_from_true _ (eq-eqb (length x) n.cells cells)) bits)
            (or_from _ _ (not_from_true _ (eq-eqb (length rs) n.edges long)) sizes)
            (le-ltb _ _ (omega (arith, ap length all))),
      )

  pub only_written : OnlyWritten k c
  only_written n bs m o e =
      let w = work_passed (eqb m n.edges) _ e in
      let q = or_else_passed (parts_refusal c.kind_byte n bs) (cond (is_some (multipliers_in k c n.edges (records_part n bs))) 0 17) (eqb (parts_refusal c.kind_byte n bs) 0) refl w.1 in
      let h = parts_passed c.kind_byte n bs (headed bs) (says c.kind_byte n (head_of bs)) (is_some (word_part n.cells (drop 7 bs))) q.0 in
      let word = given (word_part n.cells (drop 7 bs)) h.2 in
      let ms = given (multipliers_in k c n.edges (records_part n bs)) (last_passed _ q.1) in
      whole n bs o word.0 ms.0 h.0 h.1 word.1 ms.1

  pub never_alike : NeverAlike k c
  never_alike n bs cs l m o p e f w g =
      (only_written n bs l o e).0 ∙ ap (λ x. ticket c n x (multipliers_read k c n bs)) w ∙ ap (ticket c n (word_read n cs)) g ∙ sym (only_written n cs m p f).0
