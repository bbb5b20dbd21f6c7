use Rattle.boot_run.proofs.BootFileLemmas.{boot-bytes, boot-lacks, first-volume}
use Rattle.boot_run.proofs.boot_file.boot_file.Goals as goal

pub read_boot_file-requires : goal.read_boot_file-requires
read_boot_file-requires c =
    first-volume c.args.images.now c.image.result.now c.requires.volumes c.image.ensures

pub returns-clause-bytes : goal.returns-clause-bytes
returns-clause-bytes c =
    boot-bytes c.read_boot_file.result c.args.images.now c.image.result.now c.image.ensures c.read_boot_file.ensures.volume c.read_boot_file.ensures.bytes

pub returns-clause-refused : goal.returns-clause-refused
returns-clause-refused c =
    boot-lacks c.read_boot_file.result c.args.images.now c.image.result.now c.image.ensures c.read_boot_file.ensures.refused
