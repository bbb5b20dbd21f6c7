use Rattle.guest_memory.specs.Tie.{cells_of}
use Rattle.device_paths.proofs.StandingLemmas.{some-stand}
use Rattle.file_routes.proofs.WalkLemmas.{from-some, stops-before, walks-last, walks-none}
use Rattle.file_routes.proofs.walk.walk.Goals as goal

pub returns-in_default-clause-walks : goal.returns-in_default-clause-walks
returns-in_default-clause-walks g c names stand =
    walks-none (cells_of c.args.memory.now c.args.walker.process.0) c.args.walker c.args.start.directory names c.args.start.first c.args.disks.now _ c.in_default.is stand c.requires.file

pub returns-in-Err-clause-walks : goal.returns-in-Err-clause-walks
returns-in-Err-clause-walks g c names stand =
    let there = from-some (cells_of c.args.memory.now c.args.walker.process.0) names c.args.start.first c.in-Some.at c.in-Some.is stand in
    let walks = c.in-Err.ensures.walks names there in
    stops-before c.args.walker c.args.start.directory names c.in-Err.error c.args.disks.now _ c.walk_to_last.new.disks _
    (some-stand (cells_of c.args.memory.now c.args.walker.process.0) c.in-Some.at names there) walks.walks

pub returns-in-Ok-clause-walks : goal.returns-in-Ok-clause-walks
returns-in-Ok-clause-walks g c names stand =
    let there = from-some (cells_of c.args.memory.now c.args.walker.process.0) names c.args.start.first c.in-Some.at c.in-Some.is stand in
    walks-last c.args.walker c.args.start.directory names c.in-Ok.last c.walk_by.result c.args.disks.now _
    c.walk_to_last.new.disks _ c.walk_by.new.disks _ (c.in-Ok.ensures.walks names there) c.walk_by.ensures.walks
