use Rattle.rbf_sector_rules.proofs.Searched.{directory_read}
use Rattle.rbf_sector_rules.proofs.directory.directory_of.Goals as goal

pub returns-clause-directory : goal.returns-clause-directory
returns-clause-directory c =
    let file = c.args.file.now in
    let fields = c.requires.fd in
    directory_read c.args.image.now file.number file.fd.attr file.fd.size c.entry_count.result file.fd.segs c.requires.number fields.attr fields.segs fields.size c.entry_count.ensures
