-- The part of the room that is lent is the key's bytes.
use Rattle.std.proofs.Common.{rules}
use Rattle.keys.specs.Key.{key_bytes}
use Rattle.keys.proofs.key.Key.as_slice.Goals as goal

pub returns : goal.returns
unfolding key_bytes
returns c = search rules
