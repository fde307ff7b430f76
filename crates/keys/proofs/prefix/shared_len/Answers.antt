-- As many bytes as the front of the strings side by side has pairs of equal bytes, where both are cut at the end of the shorter.
use Rattle.std.proofs.Common.{◌≡◌, ℕ, List, length, take, ap, ◌∙◌, rules, tests, arith}
use Rattle.std.proofs.lemmas.Iterator.{YieldsList-from_slice, YieldsList-from_zip}
use Rattle.std.proofs.lemmas.Iterator.Consumers.{count_from_yields_List}
use Rattle.std.proofs.lemmas.Iterator.Search.{YieldsList-from_take_while}
use Rattle.std.specs.List.{zip, prefix_len}
use Rattle.keys.specs.Shared.{shared}
use Rattle.keys.proofs.Fronts.{same_bytes, length-zip_front, longest_shared, zip_cut}
use Rattle.keys.proofs.prefix.shared_len.Goals as goal

pub returns : goal.returns
returns c =
    let a = c.args.a.now in
    let b = c.args.b.now in
    let n = c.min-both.result in
    let both = YieldsList-from_zip (YieldsList-from_slice (take n a) cc) (YieldsList-from_slice (take n b) cc) in
    let counted = count_from_yields_List c.take_while.result _ c.count.ensures.ran (YieldsList-from_take_while _ same_bytes both c.take_while.ensures.closure c.take_while.ensures.done (λ x r q k. search (rules, tests))) in
    let uncut : zip (take n a) (take n b) ≡ zip a b = zip_cut n a b (omega arith) in
    let is : c.count.result ≡ shared a b = counted ∙ ap (λ (pairs : List (ℕ × ℕ)). length (take (prefix_len same_bytes pairs) pairs)) uncut ∙ length-zip_front a b in
    record { value = is; longest = longest_shared a b _ is }
