use Rattle.std.proofs.Common.{ap, refl}
use Rattle.file_drives.specs.Drives.{drive_views}
use Rattle.os9_kernel.specs.Outside.{outside}
use Rattle.boot_run.specs.World.{world_of}
use Rattle.boot_run.proofs.RunLemmas.{stands-emptied}
use Rattle.console_run.specs.declared.typed.TheConstants.{SLICE}
use Rattle.console_run.proofs.PassLemmas.{breaks-turn, passes-slice, stops-turn}
use Rattle.console_run.proofs.turn.run_turn.Goals as goal

pub returns-in-NoMemory-clause-turn : goal.returns-in-NoMemory-clause-turn
returns-in-NoMemory-clause-turn g c =
    let before = world_of g.H.Host c.args.host.now (outside (λ box. (g.dyn-1.0.entry box.vtable).1) (λ box. (g.dyn-2.0.entry box.vtable).1) c.args.devices.now) in
    let sliced = outside (λ box. (g.dyn-1.0.entry box.vtable).1) (λ box. (g.dyn-2.0.entry box.vtable).1) c.slice-end.new.devices in
    record {
      ran = tt;
      stopped = λ s told tied.
          stops-turn c.args.kernel.now c.slice-end.new.self before (world_of g.H.Host c.args.host.now sliced) sliced
          c.slice-end.result c.slice-end.ensures.slice s tied c.in-NoMemory.is refl refl (refl, refl, refl);
      stands = tt;
      count = tt;
      output_fault = tt;
      no_fault = (refl, refl, refl);
      files_kept = refl;
    }

pub returns-in-Ok-clause-turn : goal.returns-in-Ok-clause-turn
returns-in-Ok-clause-turn g c =
    let slice = c.slice-end.ensures.slice in
    let passed = c.in-Ok.ensures in
    let before = world_of g.H.Host c.args.host.now (outside (λ box. (g.dyn-1.0.entry box.vtable).1) (λ box. (g.dyn-2.0.entry box.vtable).1) c.args.devices.now) in
    let sliced = outside (λ box. (g.dyn-1.0.entry box.vtable).1) (λ box. (g.dyn-2.0.entry box.vtable).1) c.slice-end.new.devices in
    let after = world_of g.H.Host c.pass_on.new.host (outside (λ box. (g.dyn-1.0.entry box.vtable).1) (λ box. (g.dyn-2.0.entry box.vtable).1) c.pass_on.new.devices) in
    let left = ap (λ drives. drive_views (λ box. (g.dyn-1.0.entry box.vtable).1) drives.items) passed.drives_kept in
    record {
      ran = λ s tied.
          passes-slice c.args.kernel.now c.slice-end.new.self before after sliced c.slice-end.result slice (λ e. c.in_default.not-NoMemory e) left s tied passed.passed.taken passed.passed.written;
      stopped = tt;
      stands = stands-emptied SLICE c.args.kernel.now c.slice-end.new.self before.devices sliced after.devices
          c.slice-end.result c.requires.stands (λ e. c.in_default.not-NoMemory e) slice left passed.passed.taken;
      count = slice.count (λ e. c.in_default.not-NoMemory e);
      output_fault = tt;
      no_fault = passed.passed.no_fault;
      files_kept = passed.passed.files_kept;
    }

pub returns-in-Err-Failed-clause-turn : goal.returns-in-Err-Failed-clause-turn
returns-in-Err-Failed-clause-turn g c =
    let passed = rw c.in-Err-Failed.field-0-is at c.in-Err-Failed.ensures.passed in
    let before = world_of g.H.Host c.args.host.now (outside (λ box. (g.dyn-1.0.entry box.vtable).1) (λ box. (g.dyn-2.0.entry box.vtable).1) c.args.devices.now) in
    let sliced = outside (λ box. (g.dyn-1.0.entry box.vtable).1) (λ box. (g.dyn-2.0.entry box.vtable).1) c.slice-end.new.devices in
    let after = world_of g.H.Host c.pass_on.new.host (outside (λ box. (g.dyn-1.0.entry box.vtable).1) (λ box. (g.dyn-2.0.entry box.vtable).1) c.pass_on.new.devices) in
    let left = ap (λ drives. drive_views (λ box. (g.dyn-1.0.entry box.vtable).1) drives.items) c.in-Err-Failed.ensures.drives_kept in
    record {
      ran = tt;
      stopped = λ s told tied.
          breaks-turn c.args.kernel.now c.slice-end.new.self before after sliced c.slice-end.result
          c.slice-end.ensures.slice (λ e. c.in_default.not-NoMemory e) left s tied passed.prefix passed.some
          passed.left told;
      stands = tt;
      count = tt;
      output_fault = passed.output_fault;
      no_fault = tt;
      files_kept = passed.files_kept;
    }

pub returns-in-Err-OutOfMemory-clause-turn : goal.returns-in-Err-OutOfMemory-clause-turn
returns-in-Err-OutOfMemory-clause-turn g c =
    let passed = rw c.in-Err-OutOfMemory.field-0-is at c.in-Err-OutOfMemory.ensures.passed in
    let before = world_of g.H.Host c.args.host.now (outside (λ box. (g.dyn-1.0.entry box.vtable).1) (λ box. (g.dyn-2.0.entry box.vtable).1) c.args.devices.now) in
    let sliced = outside (λ box. (g.dyn-1.0.entry box.vtable).1) (λ box. (g.dyn-2.0.entry box.vtable).1) c.slice-end.new.devices in
    let after = world_of g.H.Host c.pass_on.new.host (outside (λ box. (g.dyn-1.0.entry box.vtable).1) (λ box. (g.dyn-2.0.entry box.vtable).1) c.pass_on.new.devices) in
    let left = ap (λ drives. drive_views (λ box. (g.dyn-1.0.entry box.vtable).1) drives.items) c.in-Err-OutOfMemory.ensures.drives_kept in
    record {
      ran = tt;
      stopped = λ s told tied.
          breaks-turn c.args.kernel.now c.slice-end.new.self before after sliced c.slice-end.result
          c.slice-end.ensures.slice (λ e. c.in_default.not-NoMemory e) left s tied passed.prefix passed.some
          passed.left told;
      stands = tt;
      count = tt;
      output_fault = tt;
      no_fault = passed.no_fault;
      files_kept = passed.files_kept;
    }
