-- The bytes behind the head, if there are as many.
use Rattle.std.proofs.Common.{◌≡◌, length, rules, arith}
use Rattle.node_reader.proofs.Walks.{string_front}
use Rattle.node_reader.proofs.input.Input.string.Goals as goal

pub returns : goal.returns
returns c =
    let get = c.in_ok-get.ensures.lookup.0 in
    let first = c.in_ok-bytes.ensures.lookup.0 in
    let size : length c.in_ok-bytes.bytes.now ≡ c.in_ok-len.len = search rules in
    string_front _ _ _ _ _ c.in_ok-len.ensures _ c.in_ok-bytes.bytes.now (omega arith) get.2 first.1 first.2 size
