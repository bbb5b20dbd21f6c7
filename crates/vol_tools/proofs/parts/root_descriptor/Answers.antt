-- Zeros follow the only segment.
use Rattle.std.proofs.Common.{◌≡◌, ◌∷◌, ◌+◌, [], ap, sym, ◌∙◌, length, replicate, rules}
use Rattle.rbf_model.specs.Fields.{segments_field}
use Rattle.vol_tools.proofs.Descriptor.{zeros_behind, zeros_read}
use Rattle.vol_tools.proofs.parts.root_descriptor.Goals as goal

pub returns-clause-rest : goal.returns-clause-rest
returns-clause-rest c =
    let segments : segments_field c.write_fd.new.b ≡ (c.args.root + 1, 1) ∷ [] = search rules in
    zeros_behind _ c.write_fd.new.b (replicate 256 0) (ap length (sym c.write_fd.ensures.segs ∙ segments)) c.write_fd.ensures.ended c.write_fd.ensures.behind
    (λ i past. zeros_read 256 i)
