-- All entries, one in each turn.
use Rattle.std.proofs.Common.{map, length, take, arith}
use Rattle.std.proofs.lemmas.List.{length-map}
use Rattle.node.specs.Values.{entry_of}
use Rattle.node_writer.proofs.Puts.{kept_none, kept_then}
use Rattle.node_writer.proofs.Turns.{turns_left, turns_more, turns_all}
use Rattle.node_writer.proofs.whole.write_node.Goals as goal

pub loop-entry-init : goal.loop-entry-init
loop-entry-init g c = (c.in_ok-writer.ensures.written g.K.DigestKind.kind.code, kept_none c.begin.new.out c.in_ok-writer.writer.at)

pub push-requires-clause-more : goal.push-requires-clause-more
push-requires-clause-more g c =
    let turn = c.loop-entry in
    let left = turns_left g.K.DigestKind.kind.code c.args.entries.now turn.entry-index turn.writer turn.out (omega (arith, c.loop-entry-test.true)) turn.invariant.0 in
    omega (arith, left, c.loop-entry-test.true)

pub loop-entry-preserved : goal.loop-entry-preserved
loop-entry-preserved g c =
    let turn = c.loop-entry in
    let xs = c.args.entries.now in (
      turns_more g.K.DigestKind.kind.code xs turn.entry-index c.entry-item.result c.push.new.self c.push.new.out c.loop-entry-test.true c.entry-item.is
          (c.push.ensures.written (length xs) (map entry_of (take turn.entry-index xs)) turn.invariant.0),
      kept_then turn.invariant.1 c.push.ensures.kept,
    )

pub finish-requires-clause-none : goal.finish-requires-clause-none
finish-requires-clause-none g c =
    let turn = c.loop-entry in
    let left = turns_left g.K.DigestKind.kind.code c.args.entries.now turn.entry-index turn.writer turn.out turn.auto.entry-index-end turn.invariant.0 in
    omega (arith, left, c.loop-entry-test.false)

pub returns : goal.returns
returns g c =
    let turn = c.loop-entry in
    let begun = c.in_ok-writer.ensures in
    let xs = c.args.entries.now in
    let all = turns_all g.K.DigestKind.kind.code xs turn.entry-index turn.writer turn.out c.loop-entry-test.false turn.invariant.0 in
    record {
      roomy = record { room = begun.roomy.room; few = omega (arith, begun.roomy.few, length-map xs entry_of) };
      bytes = c.finish.ensures.written (length xs) (map entry_of xs) all;
      kept = kept_then {t = turn.out} (kept_then {t = c.begin.new.out} begun.kept turn.invariant.1) c.finish.ensures.kept;
      bound = c.finish.ensures.bound;
    }
