use Rattle.std.proofs.Common.{subst}
use Rattle.guest_memory.specs.Tie.{cells_of}
use Rattle.device_paths.specs.Standing.{IsFirstRead}
use Rattle.file_routes.proofs.WalkLemmas.{first-of, steps-last, steps-onward}
use Rattle.file_routes.proofs.walk.step.Goals as goal

pub unreachable-requires : goal.unreachable-requires
unreachable-requires g c =
    subst (IsFirstRead (cells_of c.args.memory.now c.args.walker.process.0) c.requires.names.names) c.in-Err.is (c.read_name.ensures.first c.requires.names.names c.requires.names.stand)

pub returns-in-None-clause-steps : goal.returns-in-None-clause-steps
returns-in-None-clause-steps g c names stand =
    steps-last (cells_of c.args.memory.now c.args.walker.process.0) names c.in-Ok.named c.args.disks.now _
    (first-of (cells_of c.args.memory.now c.args.walker.process.0) names c.read_name.result c.in-Ok.named c.in-Ok.is (c.read_name.ensures.first names stand)) c.in-None.is

pub returns-in-Some-clause-steps : goal.returns-in-Some-clause-steps
returns-in-Some-clause-steps g c names stand =
    steps-onward (cells_of c.args.memory.now c.args.walker.process.0) c.args.walker c.args.place.directory names
    c.in-Ok.named c.in-Some.next c.walk_by.result c.onward.result c.args.disks.now _ c.walk_by.new.disks _
    (first-of (cells_of c.args.memory.now c.args.walker.process.0) names c.read_name.result c.in-Ok.named c.in-Ok.is
    (c.read_name.ensures.first names stand)) c.in-Some.is c.onward.ensures c.walk_by.ensures.walks
