use Rattle.std.proofs.Common.{◌/◌, ◌∙◌, length}
use Rattle.rbf_access.proofs.RunReads.{listed_at, on_ok, run_bytes, run_found, run_has, run_used, used_as}
use Rattle.rbf_access.proofs.volume.Volume.read_contents.Goals as goal

pub read_run-requires-clause-bytes : goal.read_run-requires-clause-bytes
read_run-requires-clause-bytes g c =
    let media = (goal.BlockDriver-dyn g c.args.d.now).media c.args.d.now.1 in
    let is =
    run_found media c.args.self.now.cache c.args.fd c.sector.result.now c.requires.cached.cached c.sector.ensures (c.args.at / 256)
    c.in-Some.run' c.in-Some.ensures.run in
    run_has _ c.args.at (length c.args.into.now) c.in-Some.run' is c.in-Some.ensures.within media c.requires.bytes

pub returns-in-Some-clause-bytes : goal.returns-in-Some-clause-bytes
returns-in-Some-clause-bytes g c =
    let media = (goal.BlockDriver-dyn g c.args.d.now).media c.args.d.now.1 in
    let is =
    run_found media c.args.self.now.cache c.args.fd c.sector.result.now c.requires.cached.cached c.sector.ensures (c.args.at / 256)
    c.in-Some.run' c.in-Some.ensures.run in
    on_ok c.read_run.result
    (λ read. read ∙ run_bytes _ c.args.at (length c.args.into.now) c.in-Some.run' is c.in-Some.ensures.within media c.requires.bytes.on_drive)
    c.read_run.ensures.bytes

pub returns-in-Some-clause-cache : goal.returns-in-Some-clause-cache
returns-in-Some-clause-cache g c =
    let media = (goal.BlockDriver-dyn g c.args.d.now).media c.args.d.now.1 in
    let is =
    run_found media c.args.self.now.cache c.args.fd c.sector.result.now c.requires.cached.cached c.sector.ensures (c.args.at / 256)
    c.in-Some.run' c.in-Some.ensures.run in
    run_used _ c.args.at (length c.args.into.now) c.in-Some.run' is c.in-Some.ensures.within c.read_run.result _ _ _ _
    c.read_run.ensures.cache

pub returns-in-None-clause-cache : goal.returns-in-None-clause-cache
returns-in-None-clause-cache g c =
    let media = (goal.BlockDriver-dyn g c.args.d.now).media c.args.d.now.1 in
    let same =
    listed_at media c.args.self.now.cache c.args.fd c.sector-in-None.result.now c.requires.cached.cached c.sector-in-None.ensures
    c.read_segs-segs.result c.read_segs-segs.ensures in
    used_as c.read_segs-segs.result _ _ _ c.read_bytes.result _ _ _ _ same c.read_bytes.ensures.cache
