use Rattle.std.proofs.Common.{◌∙◌}
use Rattle.rbf_access.proofs.Mounting.{volume_of, mounted_of}
use Rattle.rbf_access.proofs.volume.Volume.mount.Goals as goal

pub returns-clause-kept : goal.returns-clause-kept
returns-clause-kept g c =
    volume_of _ _ _ _ c.in_ok-ident.ensures.media_kept c.in_ok-map.ensures.media_kept c.in_ok-ident.ensures.ident c.in_ok-map.ensures.map c.in_ok-cache.ensures

pub returns-clause-mounted : goal.returns-clause-mounted
returns-clause-mounted g c v on =
    mounted_of _ _ _ v (c.in_ok-map.ensures.media_kept ∙ c.in_ok-ident.ensures.media_kept)
    (volume_of _ _ _ _ c.in_ok-ident.ensures.media_kept c.in_ok-map.ensures.media_kept c.in_ok-ident.ensures.ident c.in_ok-map.ensures.map c.in_ok-cache.ensures) on
