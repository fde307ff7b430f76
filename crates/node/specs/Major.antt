-- The major types of CBOR items.
--
--   major_base   what stands in the first byte of an item for its type
--
-- Assumes nothing.
use Rattle.std.specs.Prelude.{ℕ}
use Rattle.node.specs.declared.major.MajorType.{MajorType}
use Rattle.node.specs.declared.major.MajorType.TheVariants.{Number, Bytes, Text, Array, Map}

abbrev pub major_base : MajorType → ℕ
major_base Number = 0x00
major_base Bytes = 0x40
major_base Text = 0x60
major_base Array = 0x80
major_base Map = 0xA0
