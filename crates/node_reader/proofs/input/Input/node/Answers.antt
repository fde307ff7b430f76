-- A node, or a part of one is missing.
use Rattle.std.proofs.Common.{rules, refl, arith}
use Rattle.node.specs.Format.{Node}
use Rattle.node.specs.Laws.{Encodes}
use Rattle.node_reader.proofs.Passages.{closes_not, no_count, no_tag, node_rest, node_read}
use Rattle.node_reader.proofs.input.Input.node.Goals as goal

pub returns-in_err-at_e : goal.returns-in_err-at_e
returns-in_err-at_e c =
    let none : (n : Node) → Encodes c.args.self.code c.args.self.block.now n → ⊥ = no_tag _ _ c.in_err-at_e.ensures in
    search rules

pub returns-in_err-count : goal.returns-in_err-count
returns-in_err-count c =
    let none : (n : Node) → Encodes c.args.self.code c.args.self.block.now n → ⊥ = no_count _ _ _ c.in_ok-at_e.ensures c.in_err-count.ensures in
    search rules

pub returns-then-left-gt-KEY_LIMIT : goal.returns-then-left-gt-KEY_LIMIT
returns-then-left-gt-KEY_LIMIT c n encodes =
    let rest = node_rest _ _ _ c.in_ok-at_e.ensures _ _ c.in_ok-count.ensures n encodes in
    omega (arith, rest.count, encodes.formed.few, c.if-left-gt-KEY_LIMIT.true)

pub returns-in_err-end : goal.returns-in_err-end
returns-in_err-end c =
    let none : (n : Node) → Encodes c.args.self.code c.args.self.block.now n → ⊥ =
    λ n encodes. c.in_err-end.ensures n (node_rest _ _ _ c.in_ok-at_e.ensures _ _ c.in_ok-count.ensures n encodes) in
    search rules

pub returns-in_err-first : goal.returns-in_err-first
returns-in_err-first c =
    let none : (n : Node) → Encodes c.args.self.code c.args.self.block.now n → ⊥ =
    λ n encodes.
    closes_not _ _ _ _ c.in_ok-end.ensures c.in_err-first.ensures n (node_rest _ _ _ c.in_ok-at_e.ensures _ _ c.in_ok-count.ensures n encodes) in
    search rules

pub returns : goal.returns
returns c =
    let read = node_read _ _ _ c.in_ok-at_e.ensures _ _ c.in_ok-count.ensures c.if-left-gt-KEY_LIMIT.false _ c.in_ok-end.ensures _ c.in_ok-first.ensures in
    record { kind = refl; block = refl; node = read.0; of_node = record { encodes = read.1; rest = read.2; its_first = read.3; fresh = refl } }
