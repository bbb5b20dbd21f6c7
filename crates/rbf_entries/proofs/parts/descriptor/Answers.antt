use Rattle.rbf_entries.proofs.NewDescriptor.{new_list}
use Rattle.rbf_entries.proofs.parts.descriptor.Goals as goal

pub returns-clause-rest : goal.returns-clause-rest
returns-clause-rest c = new_list c.write_fd.new.b c.args.file.now.segs c.write_fd.ensures.segs c.write_fd.ensures.ended c.write_fd.ensures.behind
