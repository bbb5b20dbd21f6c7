use Rattle.rbf_sector_rules.proofs.FoundNumbers.{number_reached}
use Rattle.rbf_sector_rules.proofs.links.link_entry.Goals as goal

pub read_file-requires : goal.read_file-requires
read_file-requires c =
    (number_reached c.args.image.now c.args.link.now.directory c.requires.from).below
