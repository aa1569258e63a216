-- Written tickets and parts: one table.
use Rattle.std.specs.Prelude.{◌≡◌, [], ◌∷◌, pos, negsuc, Some, None}
use Rattle.weights.specs.Paireds.{paired_of}
use Rattle.weights.specs.Plains.{plain_of}
use Rattle.tickets.specs.Kinds.{plain_codec, paired_codec, plain_in}
use Rattle.tickets.specs.Parts.{part_bytes}
use Rattle.tickets.specs.Tickets.{ticket}

pub record Examples : Type 0 where
  -- one row of three cells, word 110, multipliers -4, 4, 4: 4C48 00 03 01 0003, 4C57 C0, 4C4D FFFFFFFC, 4C4D 00000004, 4C4D 00000004
  pub plain : ticket plain_codec (record { cells = 3; rows = 1; edges = 3 }) (1 ∷ 1 ∷ 0 ∷ []) (plain_of (negsuc 3) ∷ plain_of (pos 4) ∷ plain_of (pos 4) ∷ [])
      ≡ 0x4C ∷ 0x48 ∷ 0x00 ∷ 0x03 ∷ 0x01 ∷ 0x00 ∷ 0x03
      ∷ 0x4C ∷ 0x57 ∷ 0xC0
      ∷ 0x4C ∷ 0x4D ∷ 0xFF ∷ 0xFF ∷ 0xFF ∷ 0xFC
      ∷ 0x4C ∷ 0x4D ∷ 0x00 ∷ 0x00 ∷ 0x00 ∷ 0x04
      ∷ 0x4C ∷ 0x4D ∷ 0x00 ∷ 0x00 ∷ 0x00 ∷ 0x04 ∷ []
  -- one row of one cell, word 0, the multiplier of parts 1 and -1
  pub paired : ticket paired_codec (record { cells = 1; rows = 1; edges = 1 }) (0 ∷ []) (paired_of (pos 1) (negsuc 0) ∷ [])
      ≡ 0x4C ∷ 0x48 ∷ 0x01 ∷ 0x01 ∷ 0x01 ∷ 0x00 ∷ 0x01
      ∷ 0x4C ∷ 0x57 ∷ 0x00
      ∷ 0x4C ∷ 0x4D ∷ 0x00 ∷ 0x00 ∷ 0x00 ∷ 0x01 ∷ 0xFF ∷ 0xFF ∷ 0xFF ∷ 0xFF ∷ []
  -- the ends of a multiplier, 2^18 and -2^18
  pub most : part_bytes (pos 262144) ≡ 0x00 ∷ 0x04 ∷ 0x00 ∷ 0x00 ∷ []
  pub least : part_bytes (negsuc 262143) ≡ 0xFF ∷ 0xFC ∷ 0x00 ∷ 0x00 ∷ []
  -- the ends of a part, 2^30 and -2^30, and one beyond each
  pub top : plain_in (0x40 ∷ 0x00 ∷ 0x00 ∷ 0x00 ∷ []) ≡ Some (plain_of (pos 1073741824))
  pub bottom : plain_in (0xC0 ∷ 0x00 ∷ 0x00 ∷ 0x00 ∷ []) ≡ Some (plain_of (negsuc 1073741823))
  pub above : plain_in (0x40 ∷ 0x00 ∷ 0x00 ∷ 0x01 ∷ []) ≡ None
  pub below : plain_in (0xBF ∷ 0xFF ∷ 0xFF ∷ 0xFF ∷ []) ≡ None
