-- The digits are ASCII.
use Rattle.std.proofs.Common.{rules}
use Rattle.std.specs.Str.{IsUtf8}
use Rattle.std.proofs.lemmas.Str.{IsUtf8-from_ascii}
use Rattle.digest.specs.Hex.{hex}
use Rattle.digest.proofs.Digits.{hex-IsAscii}
use Rattle.digest.proofs.text.DigestDisplay.fmt.Goals as goal

pub unwrap-requires : goal.unwrap-requires
unwrap-requires g c =
    let text : IsUtf8 (hex c.args.self.now.bytes) = IsUtf8-from_ascii _ (hex-IsAscii c.args.self.now.bytes) in
    search rules
