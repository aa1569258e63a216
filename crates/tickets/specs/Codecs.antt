-- How a ticket writes the weights of a kind.
use Rattle.std.specs.Prelude.{◌≡◌, ℕ, ◌≤◌, List, length, Some, Option}
use Rattle.tickets.specs.Packs.{Octets}

-- `put` gives the bytes of a weight, equally many for each. `get` gives the one weight whose bytes they are, or none.
pub record Codec (W : Type 0) : Type 0 where
  pub kind_byte : ℕ
  pub width : ℕ
  pub few_bytes : width ≤ 64
  pub put : W → List ℕ
  pub put_length : (w : W) → length (put w) ≡ width
  pub get : List ℕ → Option W
  pub back : (w : W) → get (put w) ≡ Some w
  pub only : (bs : List ℕ) (w : W) → Octets bs → get bs ≡ Some w → bs ≡ put w
