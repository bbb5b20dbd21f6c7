-- The machine runs with the disk that was made, and the counts are those of the image that it leaves.
use Rattle.std.proofs.Common.{subst}
use Rattle.boot_run.specs.Outcome.{RunsImages}
use Rattle.boot_run.specs.Machine.{history_left}
use Rattle.boot_run.specs.World.{world_of}
use Rattle.os9_kernel.specs.Outside.{outside}
use Rattle.stress_run.proofs.DiskLemmas.{are-volumes}
use Rattle.stress_run.proofs.EndLemmas.{called}
use Rattle.stress_run.proofs.stress.run_stress.Goals as goal

pub run_images-outcome-requires-clause-volumes : goal.run_images-outcome-requires-clause-volumes
run_images-outcome-requires-clause-volumes g c = are-volumes c.args.seed c.in-Ok.images c.in-Ok.ensures

pub returns-clause-call : goal.returns-clause-call
returns-clause-call g c =
    let before = outside (λ box. (g.dyn-1.0.entry box.vtable).1) (λ box. (g.dyn-2.0.entry box.vtable).1) c.args.devices.now in
    let after = outside (λ box. (g.dyn-1.0.entry box.vtable).1) (λ box. (g.dyn-2.0.entry box.vtable).1) c.run_images-outcome.new.devices in
    let history = history_left c.run_images-outcome.result.records in
    let run = subst (λ setup. RunsImages setup c.run_images-outcome.new.images history (world_of g.H.Host c.args.host.now before)
    (world_of g.H.Host c.run_images-outcome.new.host after) c.run_images-outcome.result.end)
    c.in-Ok-stress_start.ensures.setup c.run_images-outcome.ensures.run in
    called g.H.Host c.args.seed c.requires.seed c.run_images-outcome.new.images history c.image.result.now c.image.ensures
    c.args.host.now c.run_images-outcome.new.host before after c.run_images-outcome.result.end c.tell_end.result
    c.tell_end.new.host run c.tell_end.ensures.told

pub returns-clause-drives : goal.returns-clause-drives
returns-clause-drives g c = c.run_images-outcome.ensures.run.drives
