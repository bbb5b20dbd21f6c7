use Rattle.disk_vectors.proofs.Files.{has_root}
use Rattle.disk_vectors.proofs.making.call_file.Goals as goal

pub walk-requires-clause-file : goal.walk-requires-clause-file
walk-requires-clause-file g c =
    let mounted = c.requires.mounted in
    has_root _ _ _ mounted (c.root-root.ensures.volume mounted.on.image mounted.content mounted.agrees mounted.on.vol)
