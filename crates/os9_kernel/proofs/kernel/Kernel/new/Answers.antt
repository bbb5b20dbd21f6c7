use Rattle.std.proofs.Common.{◌≡◌, None, Err, length, refl, sym, ap, subst, arith, rules}
use Rattle.std.specs.Vec.{vec_len}
use Rattle.std.proofs.lemmas.List.{length-map}
use Rattle.file_drives.specs.Drives.{drive_views}
use Rattle.cold_start.specs.Start.{StartsDrives}
use Rattle.cold_start.specs.declared.fault.StartFault.{StartFault}
use Rattle.file_state.specs.declared.state.FileState.{FileState}
use Rattle.os9_kernel.specs.declared.kernel.Kernel.{Kernel}
use Rattle.os9_kernel.specs.declared.marks.Marks.TheVariants.{Everyone}
use Rattle.os9_kernel.specs.Outside.{Outside, outside}
use Rattle.os9_kernel.proofs.Starting.{kernel-starts, starts-fault, starts-memory, starts-ok, starts-same}
use Rattle.os9_kernel.proofs.kernel.Kernel.new.Goals as goal

pub returns-in-Err-clause-starts : goal.returns-in-Err-clause-starts
returns-in-Err-clause-starts g c = record {
  stands = λ images have. tt;
  accepted = tt;
  refused = search rules;
  drives = starts-same c.args.config.images _;
  count = tt;
}

pub returns-in-Err-OutOfMemory-clause-starts : goal.returns-in-Err-OutOfMemory-clause-starts
returns-in-Err-OutOfMemory-clause-starts g c =
    let before = drive_views (λ box. (g.dyn-1.0.entry box.vtable).1) c.args.devices.now.drives.items in
    let after = drive_views (λ box. (g.dyn-1.0.entry box.vtable).1) c.start_files.new.devices.drives.items in
    record {
      stands = λ images have. tt;
      accepted = tt;
      refused = search rules;
      drives = starts-memory c.args.config.images before after
          (subst (λ (fault : StartFault). StartsDrives {A = FileState} c.args.config.images (Err fault) before after)
          c.in-Err-OutOfMemory.field-0-is c.in-Err-OutOfMemory.ensures.drives);
      count = tt;
    }

pub returns-in-Err-Drive-clause-starts : goal.returns-in-Err-Drive-clause-starts
returns-in-Err-Drive-clause-starts g c =
    let before = drive_views (λ box. (g.dyn-1.0.entry box.vtable).1) c.args.devices.now.drives.items in
    let after = drive_views (λ box. (g.dyn-1.0.entry box.vtable).1) c.start_files.new.devices.drives.items in
    record {
      stands = λ images have. tt;
      accepted = tt;
      refused = search rules;
      drives =
          rw c.in-Err-Drive.field-0-is
          (starts-fault c.args.config.images before after c.in-Err-Drive.drive c.in-Err-Drive.number
          (subst (λ (fault : StartFault). StartsDrives {A = FileState} c.args.config.images (Err fault) before
          after) c.in-Err-Drive.field-0-is c.in-Err-Drive.ensures.drives));
      count = tt;
    }

pub returns-clause-starts : goal.returns-clause-starts
returns-clause-starts g c =
    let after : Outside = outside (λ box. (g.dyn-1.0.entry box.vtable).1) (λ box. (g.dyn-2.0.entry box.vtable).1) c.start_files.new.devices in
    let terms = c.start_files.new.devices.terms in
    let long : length after.terms ≡ vec_len terms = simp length-map (sym terms.ok.0) in
    let kept : vec_len terms ≡ vec_len c.args.devices.now.terms = ap (λ terms. vec_len terms) c.start_files.ensures.terms_kept in
    let kernel : Kernel = record {
      machine = record { processes = c.in-Ok.processes; files = c.in-Ok-start_files.files };
      clock = record
          { from = c.args.config.time; since = 0 };
      chosen = None;
      executed = 0;
      looked_until = 0;
      known = record
          { ready = c.none.result; until = 0; marks = Everyone };
    } in
    record {
      stands = λ images have.
          kernel-starts c.args.config c.args.boot.now images after kernel c.in-Ok.ensures.start
          (c.in-Ok-start_files.ensures.started images have) refl refl refl refl c.requires.time
          (omega (arith, long, kept, c.requires.terminals.0)) (omega (arith, long, kept, c.requires.terminals.1));
      accepted = search rules;
      refused = tt;
      drives = starts-ok c.args.config.images _ _ c.in-Ok-start_files.files _ c.in-Ok-start_files.ensures.drives;
      count = search rules;
    }
