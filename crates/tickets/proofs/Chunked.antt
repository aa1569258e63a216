-- Whether every chunk of a list passes a test.
use Rattle.std.proofs.Common.{◌≡◌, ℕ, suc, ◌+◌, ◌*◌, ◌/◌, ◌<◌, ◌≤◌, Bool, true, false, List, length, take, drop, is_some, Some, None, Option, sym, ap, ◌∙◌, inl, inr, zero-mul, suc-mul, arith}
use Rattle.std.specs.Prelude.{IfSome, IsTrue}
use Rattle.std.specs.Bool.{MatchBool}
use Rattle.std.specs.Option.{IsSomeAnd}
use Rattle.std.specs.List.{slice_get}
use Rattle.std.specs.Iterator.Runs.{Run, AllItemsGive, AnyItemGives, CallKeepsClosure, IsChunksExactRun}
use Rattle.std.proofs.iter.runs.Made.{at-is}
use Rattle.std.proofs.lemmas.Option.{slice_get_cases}
use Rattle.std.proofs.lemmas.List.{drop-drop}
use Rattle.std.proofs.lemmas.Bool.{cases_lt}
use Rattle.std.proofs.lemmas.Nat.{div-mul-add, mul-le}
use denote.Bor.{Bor}
use denote.Param.Members.{Mut, Called}

-- the chunk at place i
abbrev pub chunk : ℕ → List ℕ → ℕ → List ℕ
chunk w bs i = take w (drop (i * w) bs)

pub chunk_first : (w : ℕ) (bs : List ℕ) → chunk w bs 0 ≡ take w bs
chunk_first w bs = ap (λ i. take w (drop i bs)) (zero-mul w)

pub chunk_next : (w : ℕ) (bs : List ℕ) (i : ℕ) → chunk w (drop w bs) i ≡ chunk w bs (suc i)
chunk_next w bs i = ap (take w) (drop-drop (i * w) w bs ∙ ap (λ n. drop n bs) (let e : w + i * w ≡ suc i * w = omega (arith, suc-mul i w) in e))

-- what a test of all chunks has answered
pub record AllChunks (r : Bool) (test : List ℕ → Bool) (w n : ℕ) (bs : List ℕ) : Type 0 where
  pub passes : r ≡ true → (i : ℕ) → i < n → test (chunk w bs i) ≡ true
  pub fails : r ≡ false → (i : ℕ) × (i < n) × (test (chunk w bs i) ≡ false)

both_of : {A : Type 0} {P Q : A → Type 0} (o : Option A) → IfSome o P → IsSomeAnd o Q → (x : A) × P x × Q x
both_of (Some x) p q = (x, p, q)
both_of None p q = absurd q

at_some : {A : Type 0} (P Q : A → Type 0) (o : Option A) → is_some o ≡ true → IfSome o P → IfSome o Q → (x : A) × P x × Q x
at_some P Q (Some x) e p q = (x, p, q)
at_some P Q None e p q = absurd (let z : ◌≡◌ {A = ℕ} 0 1 = cc in omega arith)

there : {A : Type 0} (xs : List A) (i : ℕ) → i < length xs → is_some (slice_get xs i) ≡ true
there xs i l = elim (slice_get_cases xs i).1 [ inl y ↦ ap is_some y.2 | inr past ↦ absurd (omega arith) ]

module _ {S F : Type 0} {steps : S → Option (Bor (List ℕ)) → S → Type 0} (p : Run steps) (g : Mut F (Bor (List ℕ) × Unit {0}) Bool) (f : F) (test : List ℕ → Bool) (n w : ℕ) (bs : List ℕ) where
  pub all_chunks : (r : Bool) → MatchBool r (IsTrue p.whole × AllItemsGive p g f true) (AnyItemGives p g f false) → IsChunksExactRun p w bs → CallKeepsClosure g f
      → ((x : Bor (List ℕ)) (b : Bool) → Called g f (x, tt) b f → b ≡ test x.now) → 0 < w → length bs ≡ n * w → AllChunks r test w n bs
  all_chunks true h cut keeps says wide long = record { passes = λ _ i l. each i l; fails = λ e. absurd (let z : ◌≡◌ {A = ℕ} 0 1 = cc in omega arith) }
    where
      each : (i : ℕ) → i < n → test (chunk w bs i) ≡ true
      each i l =
          let whole : n * w ≡ n * w + 0 = omega arith in
          let count : p.len ≡ n = cut.1 h.0 ∙ ap (λ l. l / w) (long ∙ whole) ∙ div-mul-add n w 0 wide in
          let here : is_some (p.at i) ≡ true = ap is_some (at-is p i) ∙ there p.items i (omega (arith, p.long)) in
          let found = at_some _ _ (p.at i) here (cut.2 i) (h.1 keeps i) in
          ap test (sym found.1.2.0) ∙ sym (says found.0 true found.2)
  all_chunks false h cut keeps says wide long =
      let any = h keeps in
      let found = both_of (p.at any.0) (cut.2 any.0) any.2 in
      record { passes = λ e. absurd (let z : ◌≡◌ {A = ℕ} 0 1 = cc in omega arith); fails = λ _. (any.0, place any.0 found.1.1, ap test (sym found.1.2.0) ∙ sym (says found.0 false found.2)) }
    where
      place : (i : ℕ) → i * w + w ≤ length bs → i < n
      place i l = elim (cases_lt i n) [ inl low ↦ low | inr past ↦ absurd (let m : n * w ≤ i * w = mul-le n w i w past (omega arith) in omega arith) ]
