use Rattle.disk_vectors.proofs.Files.{on_image}
use Rattle.disk_vectors.proofs.outcome.mount.Goals as goal

pub returns-in-Ok : goal.returns-in-Ok
returns-in-Ok g c =
    let known = c.in-Ok.ensures.tree in
    c.in_ok-volume.ensures.mounted known.volume (on_image _ _ _ c.requires known)
