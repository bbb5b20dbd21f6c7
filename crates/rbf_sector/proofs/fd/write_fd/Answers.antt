use Rattle.std.proofs.Common.{inl, ◌∙◌, arith}
use Rattle.rbf_sector.proofs.Written.{bytes_kept}
use Rattle.rbf_sector.proofs.fd.write_fd.Goals as goal

pub returns-clause-modified : goal.returns-clause-modified
returns-clause-modified c = bytes_kept _ _ _ _ 3 5 c.write_segs.ensures.beside (inl (omega arith)) ∙ c.write_fields.ensures.modified

pub returns-clause-created : goal.returns-clause-created
returns-clause-created c = bytes_kept _ _ _ _ 13 3 c.write_segs.ensures.beside (inl (omega arith)) ∙ c.write_fields.ensures.created

pub returns-clause-behind : goal.returns-clause-behind
returns-clause-behind c i past = c.write_segs.ensures.beside.behind i (omega arith) ∙ c.write_fields.ensures.beside.behind i (omega arith)
