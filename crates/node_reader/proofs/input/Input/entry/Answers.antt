-- Where a part is missing no entry stands; where all stand, the entry does.
use Rattle.std.proofs.Common.{rules}
use Rattle.node_reader.specs.Entries.{NoEntry}
use Rattle.node_reader.proofs.Walks.{place_behind_head}
use Rattle.node_reader.proofs.Parts.{joins, end_k, at_p, end_p, at_t, end_t, at_v}
use Rattle.node_reader.proofs.input.Input.entry.Goals as goal

pub returns-in_err-at_p : goal.returns-in_err-at_p
returns-in_err-at_p c =
    let code = c.args.self.code in
    let none : NoEntry c.args.self.block.now c.args.at code =
    λ k p t v lk lp lt lv r e. c.in_err-at_p.ensures _ (end_k code k p t v r e c.in_ok-at_k.ensures _ c.in_ok-rest.ensures.stands) in
    search rules

pub returns-in_err-shared : goal.returns-in_err-shared
returns-in_err-shared c =
    let code = c.args.self.code in
    let none : NoEntry c.args.self.block.now c.args.at code =
    λ k p t v lk lp lt lv r e. c.in_err-shared.ensures p lp _ (at_p code k p t v r e c.in_ok-at_k.ensures _ c.in_ok-rest.ensures.stands c.in_ok-at_p.ensures) in
    search rules

pub returns-in_err-at_t : goal.returns-in_err-at_t
returns-in_err-at_t c =
    let code = c.args.self.code in
    let none : NoEntry c.args.self.block.now c.args.at code =
    λ k p t v lk lp lt lv r e. c.in_err-at_t.ensures _
    (end_p code k p t v r e c.in_ok-at_k.ensures _ c.in_ok-rest.ensures.stands c.in_ok-at_p.ensures _ c.in_ok-shared.ensures) in
    search rules

pub returns-in_err-after : goal.returns-in_err-after
returns-in_err-after c =
    let code = c.args.self.code in
    let none : NoEntry c.args.self.block.now c.args.at code =
    λ k p t v lk lp lt lv r e. c.in_err-after.ensures t lt _
    (at_t code k p t v r e c.in_ok-at_k.ensures _ c.in_ok-rest.ensures.stands c.in_ok-at_p.ensures _ c.in_ok-shared.ensures c.in_ok-at_t.ensures) in
    search rules

pub returns-in_err-at_v : goal.returns-in_err-at_v
returns-in_err-at_v c =
    let code = c.args.self.code in
    let m = c.in_ok-after.ensures in
    let none : NoEntry c.args.self.block.now c.args.at code =
    λ k p t v lk lp lt lv r e. c.in_err-at_v.ensures _
    (end_t code k p t v r e c.in_ok-at_k.ensures _ c.in_ok-rest.ensures.stands c.in_ok-at_p.ensures _ c.in_ok-shared.ensures c.in_ok-at_t.ensures _ m.long lt m.stands) in
    search rules

pub returns-in_err-value : goal.returns-in_err-value
returns-in_err-value c =
    let code = c.args.self.code in
    let m = c.in_ok-after.ensures in
    let none : NoEntry c.args.self.block.now c.args.at code =
    λ k p t v lk lp lt lv r e. c.in_err-value.ensures v lv _
    (at_v code k p t v r e c.in_ok-at_k.ensures _ c.in_ok-rest.ensures.stands c.in_ok-at_p.ensures _ c.in_ok-shared.ensures c.in_ok-at_t.ensures _ m.long lt m.stands c.in_ok-at_v.ensures) in
    search rules

pub returns : goal.returns
returns c =
    let b = c.in_ok-rest.ensures in
    let m = c.in_ok-after.ensures in
    let l = c.in_ok-value.ensures in
    record {
      stands =
          joins c.in_ok-at_k.ensures (joins b.stands (joins c.in_ok-at_p.ensures (joins c.in_ok-shared.ensures
          (joins c.in_ok-at_t.ensures (joins m.stands (joins c.in_ok-at_v.ensures l.stands))))));
      long = m.long;
      short = b.short;
      digest = l.long;
      part = b.part;
      behind_head = place_behind_head _ _ _ _ _ c.in_ok-at_k.ensures b.stands;
    }
