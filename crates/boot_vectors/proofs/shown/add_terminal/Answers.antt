use Rattle.boot_run.specs.Loaded.{HasNoKeys}
use Rattle.boot_vectors.proofs.Devices.{one-more}
use Rattle.boot_vectors.proofs.shown.add_terminal.Goals as goal

pub returns-clause-keys : goal.returns-clause-keys
returns-clause-keys g c =
    one-more HasNoKeys _ _ _ _ c.in_ok-push.ensures.items c.requires.keys c.requires.term
