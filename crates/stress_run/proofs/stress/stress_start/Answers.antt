-- The disk has a boot file, and it is that of the seed.
use Rattle.stress_run.proofs.DiskLemmas.{are-volumes, boots-seed_file, has-boot_file}
use Rattle.stress_run.proofs.stress.stress_start.Goals as goal

pub boot_file-requires-clause-volumes : goal.boot_file-requires-clause-volumes
boot_file-requires-clause-volumes c = are-volumes c.args.seed c.args.images.now c.requires.disk

pub unreachable-requires : goal.unreachable-requires
unreachable-requires c =
    let lacks = rw c.in-Err-Bounds.field-0-is at c.in-Err-Bounds.ensures.refused in
    lacks.2 (has-boot_file c.args.seed c.args.images.now c.requires.disk lacks.0 lacks.1)

pub returns-clause-setup : goal.returns-clause-setup
returns-clause-setup c = λ i. record {
  file = boots-seed_file c.args.seed c.args.images.now c.requires.disk c.in-Ok.file.items c.in-Ok.ensures.bytes i;
  blocks = 64;
  time = record { year = 90; month = 1; day = 1; hour = 0; minute = 0; second = 0 };
  images = c.requires.disk.only i;
  keys = c.new.ensures.items i;
  slices = c.in_ok-slices.ensures i;
}
