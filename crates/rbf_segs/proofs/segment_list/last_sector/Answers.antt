use Rattle.std.proofs.Common.{◌∙◌, ◌-◌, ◌+◌, Some, ap}
use Rattle.rbf_segs.proofs.Runs.{last_sector_found}
use Rattle.rbf_segs.proofs.segment_list.last_sector.Goals as goal

pub returns : goal.returns
returns c =
    let run = c.in_ok-lsn.field-0.now in
    ap (λ n. Some (run.0 + n - 1)) c.from.ensures ∙ last_sector_found c.args.runs.now run c.in_ok-lsn.ensures.value c.requires
