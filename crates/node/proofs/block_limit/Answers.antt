-- The laws of the encoding.
use Rattle.std.proofs.Common.{refl}
use Rattle.node.proofs.Decodes.{decode_encodes, encodes_decode}
use Rattle.node.proofs.Forms.{formed_linked}
use Rattle.node.proofs.OfBytes.{encode_bytes}
use Rattle.node.proofs.Prefixes.{encode_one}
use Rattle.node.proofs.Sizes.{encode_fits}
use Rattle.node.proofs.block_limit.Goals as goal

pub returns : goal.returns
returns c = record {
  value = refl;
  fits = encode_fits;
  of_bytes = encode_bytes;
  encodings = λ code. record { injective = encode_one code; linked = formed_linked; encodes = decode_encodes code; decodes = encodes_decode code };
}
