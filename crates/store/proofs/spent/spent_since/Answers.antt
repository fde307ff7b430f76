-- What is no longer free was spent on what was added.
use Rattle.store.proofs.Runs.{all_spent}
use Rattle.store.proofs.spent.spent_since.Goals as goal

pub returns-clause-spent : goal.returns-clause-spent
returns-clause-spent g c =
    all_spent (g.S.Store.meaning c.args.store.now) (g.met.S.Store.lawful c.args.store.now)
