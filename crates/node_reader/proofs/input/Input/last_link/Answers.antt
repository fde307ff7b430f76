-- The end stands there, or something is missing or follows.
use Rattle.std.proofs.Common.{rules}
use Rattle.node_reader.proofs.Passages.{no_first}
use Rattle.node_reader.proofs.input.Input.last_link.Goals as goal

pub returns-in_err-first : goal.returns-in_err-first
returns-in_err-first c = let none = no_first _ _ _ _ c.in_ok-at_l.ensures c.in_err-first.ensures in search rules
