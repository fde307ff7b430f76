-- The definitions of trees compute. Assumes nothing.
use Rattle.std.proofs.Common.{◌≡◌, refl}
use lib.Count.{count_leading_zeros}
use Rattle.digest.specs.Fold.{fold_hash}
use Rattle.digest.specs.Layer.{zero_bits}
use Rattle.node.specs.Format.{encode}
use Rattle.tree.specs.Change.{insert_path}
use Rattle.tree.specs.Tree.{root, nodes, blocks, crowded}
use Rattle.worked_examples.specs.Nodes.{lesson_bytes}
use Rattle.worked_examples.specs.Trees.{lesson_root, WorkedTrees}

pub lesson_folded : fold_hash lesson_bytes ≡ lesson_root
unfolding fold_hash
lesson_folded = refl

pub worked_trees : WorkedTrees
unfolding fold_hash zero_bits count_leading_zeros encode root nodes blocks crowded insert_path
worked_trees = record {
  one_lesson_root = refl;
  one_lesson_blocks = refl;
  three_nodes = λ u v. refl;
  high_key_layer = refl;
  rising = refl;
  around = refl;
  apart = refl;
  together = refl;
  fewer = refl;
  parting_key_layer = refl;
  parted = refl;
}
