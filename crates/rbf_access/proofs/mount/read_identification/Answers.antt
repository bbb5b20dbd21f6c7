use Rattle.rbf_access.proofs.Mounting.{ident_of}
use Rattle.rbf_access.proofs.mount.read_identification.Goals as goal

pub returns-in-Some-clause-ident : goal.returns-in-Some-clause-ident
returns-in-Some-clause-ident g c =
    ident_of _ _ _ _ c.sectors-sectors.ensures c.in-Ok.ensures.bytes c.in-Some.ensures.fits c.in-Some.ensures.sizes
