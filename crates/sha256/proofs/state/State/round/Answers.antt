use Rattle.std.proofs.Common.{rules}
use Rattle.sha256.specs.Rounds.{round}
use Rattle.sha256.proofs.state.State.round.Goals as goal

pub returns : goal.returns
unfolding round
returns c = search rules
