-- The definitions compute: the digest, its zero bits and their half.
use Rattle.std.proofs.Common.{ap}
use lib.Count.{count_leading_zeros}
use Rattle.digest.specs.Fold.{fold_hash}
use Rattle.digest.specs.Layer.{digest_layer, zero_bits}
use Rattle.worked_examples.proofs.layers.Goals as goal

pub returns : goal.returns
unfolding fold_hash zero_bits count_leading_zeros
returns c = record {
  value = rw (c.layer_of.ensures, c.layer_of-2.ensures, c.layer_of-3.ensures);
  every_key = record {
    begins_3f = λ key rest e. ap digest_layer e;
    begins_00_00_00_01 = λ key rest e. ap digest_layer e;
    begins_00_00_00_00_80 = λ key rest e. ap digest_layer e;
  };
}
