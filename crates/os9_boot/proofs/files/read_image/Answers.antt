use Rattle.std.proofs.Common.{Some, refl}
use Rattle.os9_words.specs.Notes.{notes_of}
use Rattle.boot_run.specs.World.{world_of}
use Rattle.boot_run.specs.declared.status.Input.TheVariants.{Image}
use Rattle.boot_run.proofs.FileLemmas.{stopped-as}
use Rattle.os9_boot.specs.Vol.{vol_file_name}
use Rattle.os9_boot.proofs.ReadLemmas.{image-may, reads-of}
use Rattle.os9_boot.proofs.files.read_image.Goals as goal

pub returns-clause-ended : goal.returns-clause-ended
returns-clause-ended g c =
    stopped-as c.read_input.result (Image 0) c.args.vol.now.image (Some c.args.vol.now.image)
    (λ devices. world_of g.H.Host c.args.host.now devices) (λ devices. world_of g.H.Host c.read_input.new.host
    devices) (vol_file_name c.args.vol.now) refl refl c.read_input.ensures.ended

pub returns-clause-may : goal.returns-clause-may
returns-clause-may g c =
    image-may c.read_input.result c.args.vol.now.image c.args.vol.now.verb (λ devices. world_of g.H.Host
    c.args.host.now devices) (λ devices. world_of g.H.Host c.read_input.new.host devices) c.requires
    c.read_input.ensures.ended

pub returns-clause-noted : goal.returns-clause-noted
returns-clause-noted g c =
    reads-of _ c.args.vol.now.image refl (notes_of g.H.Host c.args.host.now) (notes_of g.H.Host c.read_input.new.host)
    c.read_input.result (Image 0) (vol_file_name c.args.vol.now) refl c.read_input.ensures.noted
    c.read_input.ensures.stopped
