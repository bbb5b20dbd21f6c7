use Rattle.std.proofs.Common.{sym, ◌∙◌}
use Rattle.disk_vectors.proofs.Files.{data_file}
use Rattle.disk_vectors.proofs.making.see_data_file.Goals as goal

pub returns-clause-file : goal.returns-clause-file
returns-clause-file g c =
    data_file _ _ _ _ c.fd.ensures.media_kept c.requires.file c.in_ok-file.ensures.ok (sym c.is_directory.ensures ∙ c.if-is_directory.false)
