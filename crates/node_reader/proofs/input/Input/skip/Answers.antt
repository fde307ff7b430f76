-- The bytes are the front of what is left, or there are none left, or too few, or others.
use Rattle.std.proofs.Common.{◌≡◌, ◌<◌, true, length, sym, ◌∙◌, rules, tests, arith}
use Rattle.std.proofs.lemmas.Iterator.{YieldsList-from_slice, YieldsList-from_zip, same_from_all}
use Rattle.node_reader.proofs.Walks.{front_stands, too_short}
use Rattle.node_reader.proofs.input.Input.skip.Goals as goal

pub returns-in_err-get : goal.returns-in_err-get
returns-in_err-get c =
    let past : length c.args.self.block.now < c.args.at = grind (arith, c.in_err-get.ensures.lookup.0) in
    let absent = too_short c.args.self.block.now c.args.at c.args.expected.now (omega (arith, c.requires)) in
    search rules

pub returns : goal.returns
returns c =
    let get = c.in_ok-get.ensures.lookup.0 in
    let first = c.in_ok-front.ensures.lookup.0 in
    let front = c.in_ok-front.front.now in
    let expected = c.args.expected.now in
    let long : length front ≡ length expected = search rules in
    let sides = YieldsList-from_zip (YieldsList-from_slice front cc) (YieldsList-from_slice expected cc) in
    let told = same_from_all c.all.new.self _ c.all.result front expected c.all.ensures.ran sides long (λ x q k. search (rules, tests)) (λ x q k. search (rules, tests)) in
    let yes : c.all.result ≡ true = search rules in
    let same : front ≡ expected = told.0 yes in
    front_stands c.args.self.block.now c.args.at expected _ get.0 get.2 first.1 (sym first.2 ∙ same)
