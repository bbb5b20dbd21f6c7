use Rattle.rbf_check.proofs.Keyed.{key_added}
use Rattle.rbf_check.proofs.keys.add_key.Goals as goal

pub returns-clause-added : goal.returns-clause-added
returns-clause-added c =
    let updates = c.in_ok-fresh.ensures.updates in
    key_added c.args.keys.now c.insert.new.self c.args.key updates.0 updates.1
