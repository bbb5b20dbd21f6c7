use Rattle.std.proofs.Common.{◌≡◌, List, [], All, length, ap, subst, refl, sym, ◌∙◌, arith}
use Rattle.std.specs.Vec.{vec_len}
use Rattle.std.proofs.lemmas.List.{length-map}
use Rattle.os9_outer.specs.TerminalState.{TerminalState}
use Rattle.device_table.specs.Seen.{terminal_states}
use Rattle.boot_run.specs.Loaded.{HasNoKeys, loaded}
use Rattle.lock_model.specs.Records.{Records}
use Rattle.file_rules.specs.Files.{KeepsDriveFaults}
use Rattle.file_drives.specs.Drives.{drive_states, drive_views, media_of}
use Rattle.os9_kernel.specs.Outside.{outside}
use Rattle.boot_run.specs.Machine.{MachineCall, config_of, setup_of}
use Rattle.boot_run.specs.World.{world_of}
use Rattle.boot_run.proofs.MachineLemmas.{called-nothing, called-output, called-refused, called-whole, called-without_memory, drives-counted, drives-started, images-there, media-kept, stands-loaded, where-refused}
use Rattle.boot_run.proofs.machine.run_machine.Goals as goal

pub new-requires-clause-drives : goal.new-requires-clause-drives
new-requires-clause-drives g c =
    let drives = c.args.devices.now.drives in
    let long : length (drive_views (λ box. (g.dyn-1.0.entry box.vtable).1) drives.items) ≡ vec_len drives = simp length-map (sym drives.ok.0) in
    (omega (arith, long, c.requires.enough), omega (arith, long, c.requires.few_drives))

pub load_keys-requires : goal.load_keys-requires
load_keys-requires g c =
    let kept = ap (λ terms. terminal_states (λ box. (g.dyn-2.0.entry box.vtable).1) terms.items) c.in-Ok.ensures.terms_kept in
    subst (λ (terms : List TerminalState). All HasNoKeys terms) (sym kept) c.requires.terminals.unloaded

pub run_slices-requires-clause-stands : goal.run_slices-requires-clause-stands
run_slices-requires-clause-stands g c =
    let (images, have) = images-there c.args.images (drive_views (λ box. (g.dyn-1.0.entry box.vtable).1) c.args.devices.now.drives.items) c.requires.volumes in
    let setup = setup_of c.args.start.now images in
    let before = world_of g.H.Host c.args.host.now (outside (λ box. (g.dyn-1.0.entry box.vtable).1) (λ box. (g.dyn-2.0.entry box.vtable).1) c.args.devices.now) in
    let drives = ap (λ drives. drive_views (λ box. (g.dyn-1.0.entry box.vtable).1) drives.items) c.in-Ok-load_keys.ensures.drives_kept in
    let terms = (rw c.as_slice-2.ensures.value at c.in-Ok-load_keys.ensures.loaded) ∙ ap (λ terms. loaded c.args.start.now.keys.items terms)
    (ap (λ terms. terminal_states (λ box. (g.dyn-2.0.entry box.vtable).1) terms.items) c.in-Ok.ensures.terms_kept) in
    stands-loaded setup c.in-Ok.kernel before (outside (λ box. (g.dyn-1.0.entry box.vtable).1) (λ box. (g.dyn-2.0.entry box.vtable).1) c.new.new.devices)
    (outside (λ box. (g.dyn-1.0.entry box.vtable).1) (λ box. (g.dyn-2.0.entry box.vtable).1) c.load_keys.new.devices) c.requires.terminals c.requires.time
    c.in-Ok.ensures.starts.drives.moves drives c.in-Ok.ensures.starts.drives.media terms
    (rw c.as_slice.ensures.value at (c.in-Ok.ensures.starts.stands images have))

pub returns-in-Err-clause-call : goal.returns-in-Err-clause-call
returns-in-Err-clause-call g c = λ images have.
    let setup = setup_of c.args.start.now images in
    let before = world_of g.H.Host c.args.host.now (outside (λ box. (g.dyn-1.0.entry box.vtable).1) (λ box. (g.dyn-2.0.entry box.vtable).1) c.args.devices.now) in
    let started = outside (λ box. (g.dyn-1.0.entry box.vtable).1) (λ box. (g.dyn-2.0.entry box.vtable).1) c.new.new.devices in
    let untouched = where-refused c.in-Err.error (λ same. ap (λ devices. outside (λ box. (g.dyn-1.0.entry box.vtable).1) (λ box. (g.dyn-2.0.entry box.vtable).1) devices) same)
    c.in-Err.ensures.untouched in
    subst (MachineCall setup [] before (world_of g.H.Host c.args.host.now started)) (sym c.end_of_start-end.ensures)
    (called-refused setup (config_of c.args.start.now c.args.images) before started c.in-Err.error refl have.as_many
    (rw c.as_slice.ensures.value at c.in-Err.ensures.starts.refused) untouched c.in-Err.ensures.starts.drives (drives-started c.args.images
    _ _ _ c.requires.volumes c.in-Err.ensures.starts.drives)
    (ap (λ terms. terminal_states (λ box. (g.dyn-2.0.entry box.vtable).1) terms.items) c.in-Err.ensures.terms_kept))

pub returns-in-Err-load_keys-clause-call : goal.returns-in-Err-load_keys-clause-call
returns-in-Err-load_keys-clause-call g c = λ images have.
    let setup = setup_of c.args.start.now images in
    let before = world_of g.H.Host c.args.host.now (outside (λ box. (g.dyn-1.0.entry box.vtable).1) (λ box. (g.dyn-2.0.entry box.vtable).1) c.args.devices.now) in
    let terms = ap (λ devices. terminal_states (λ box. (g.dyn-2.0.entry box.vtable).1) devices.terms.items)
    c.in-Err-load_keys.ensures.kept ∙ ap (λ terms. terminal_states (λ box. (g.dyn-2.0.entry box.vtable).1)
    terms.items) c.in-Ok.ensures.terms_kept in
    let drives = ap (λ devices. drive_states (drive_views (λ box. (g.dyn-1.0.entry box.vtable).1) devices.drives.items)) c.in-Err-load_keys.ensures.kept in
    let started = drive_views (λ box. (g.dyn-1.0.entry box.vtable).1) c.new.new.devices.drives.items in
    let media = ap (λ devices. media_of (drive_views (λ box. (g.dyn-1.0.entry box.vtable).1) devices.drives.items)) c.in-Err-load_keys.ensures.kept
    ∙ media-kept before.devices.drives started (drives-started c.args.images _ before.devices.drives started
    c.requires.volumes c.in-Ok.ensures.starts.drives) c.in-Ok.ensures.starts.drives.media in
    called-nothing setup before (outside (λ box. (g.dyn-1.0.entry box.vtable).1) (λ box. (g.dyn-2.0.entry box.vtable).1) c.load_keys.new.devices)
    (subst (KeepsDriveFaults (drive_states before.devices.drives)) (sym drives) c.in-Ok.ensures.starts.drives.moves)
    media terms

pub returns-in-Ok-run_slices-clause-call : goal.returns-in-Ok-run_slices-clause-call
returns-in-Ok-run_slices-clause-call g c = λ images have.
    let setup = setup_of c.args.start.now images in
    let before = world_of g.H.Host c.args.host.now (outside (λ box. (g.dyn-1.0.entry box.vtable).1) (λ box. (g.dyn-2.0.entry box.vtable).1) c.args.devices.now) in
    let drives = ap (λ drives. drive_views (λ box. (g.dyn-1.0.entry box.vtable).1) drives.items) c.in-Ok-load_keys.ensures.drives_kept in
    let terms = (rw c.as_slice-2.ensures.value at c.in-Ok-load_keys.ensures.loaded) ∙ ap (λ terms. loaded c.args.start.now.keys.items terms)
    (ap (λ terms. terminal_states (λ box. (g.dyn-2.0.entry box.vtable).1) terms.items) c.in-Ok.ensures.terms_kept) in
    called-whole setup c.in-Ok.kernel before (outside (λ box. (g.dyn-1.0.entry box.vtable).1) (λ box. (g.dyn-2.0.entry box.vtable).1) c.new.new.devices)
    (outside (λ box. (g.dyn-1.0.entry box.vtable).1) (λ box. (g.dyn-2.0.entry box.vtable).1) c.load_keys.new.devices) c.requires.terminals c.requires.time
    c.in-Ok.ensures.starts.drives.moves drives c.in-Ok.ensures.starts.drives.media terms
    (rw c.as_slice.ensures.value at (c.in-Ok.ensures.starts.stands images have)) _ _ _ c.living.result c.ticks.result c.run_end-end.result
    (rw c.as_slice-3.ensures.value at c.in-Ok-run_slices.ensures.ran) (λ t tied. c.living.ensures _ t tied) (λ t tied. c.ticks.ensures.machine _ t
    tied) c.run_end-end.ensures.idle c.run_end-end.ensures.lives _
    (λ t tied. ap (λ (records : Records). records.history) (c.into_records.ensures _ t tied))

pub returns-in-Err-Output-clause-call : goal.returns-in-Err-Output-clause-call
returns-in-Err-Output-clause-call g c = λ images have.
    let setup = setup_of c.args.start.now images in
    let before = world_of g.H.Host c.args.host.now (outside (λ box. (g.dyn-1.0.entry box.vtable).1) (λ box. (g.dyn-2.0.entry box.vtable).1) c.args.devices.now) in
    let drives = ap (λ drives. drive_views (λ box. (g.dyn-1.0.entry box.vtable).1) drives.items) c.in-Ok-load_keys.ensures.drives_kept in
    let terms = (rw c.as_slice-2.ensures.value at c.in-Ok-load_keys.ensures.loaded) ∙ ap (λ terms. loaded c.args.start.now.keys.items terms)
    (ap (λ terms. terminal_states (λ box. (g.dyn-2.0.entry box.vtable).1) terms.items) c.in-Ok.ensures.terms_kept) in
    called-output setup c.in-Ok.kernel before (outside (λ box. (g.dyn-1.0.entry box.vtable).1) (λ box. (g.dyn-2.0.entry box.vtable).1) c.new.new.devices)
    (outside (λ box. (g.dyn-1.0.entry box.vtable).1) (λ box. (g.dyn-2.0.entry box.vtable).1) c.load_keys.new.devices) c.requires.terminals c.requires.time
    c.in-Ok.ensures.starts.drives.moves drives c.in-Ok.ensures.starts.drives.media terms
    (rw c.as_slice.ensures.value at (c.in-Ok.ensures.starts.stands images have)) _ _ (rw (c.as_slice-3.ensures.value, c.in-Err-Output.field-0-is) at c.in-Err-Output.ensures.ran)

pub returns-clause-call : goal.returns-clause-call
returns-clause-call g c = λ images have.
    let setup = setup_of c.args.start.now images in
    let before = world_of g.H.Host c.args.host.now (outside (λ box. (g.dyn-1.0.entry box.vtable).1) (λ box. (g.dyn-2.0.entry box.vtable).1) c.args.devices.now) in
    let drives = ap (λ drives. drive_views (λ box. (g.dyn-1.0.entry box.vtable).1) drives.items) c.in-Ok-load_keys.ensures.drives_kept in
    let terms = (rw c.as_slice-2.ensures.value at c.in-Ok-load_keys.ensures.loaded) ∙ ap (λ terms. loaded c.args.start.now.keys.items terms)
    (ap (λ terms. terminal_states (λ box. (g.dyn-2.0.entry box.vtable).1) terms.items) c.in-Ok.ensures.terms_kept) in
    called-without_memory setup c.in-Ok.kernel before (outside (λ box. (g.dyn-1.0.entry box.vtable).1) (λ box. (g.dyn-2.0.entry box.vtable).1) c.new.new.devices)
    (outside (λ box. (g.dyn-1.0.entry box.vtable).1) (λ box. (g.dyn-2.0.entry box.vtable).1) c.load_keys.new.devices) c.requires.terminals c.requires.time
    c.in-Ok.ensures.starts.drives.moves drives c.in-Ok.ensures.starts.drives.media terms
    (rw c.as_slice.ensures.value at (c.in-Ok.ensures.starts.stands images have)) _ _ (rw (c.as_slice-3.ensures.value, c.in-Err-NoMemory.field-0-is) at
    c.in-Err-NoMemory.ensures.ran)

-- ---- as many drives

pub returns-in-Err-clause-drives : goal.returns-in-Err-clause-drives
returns-in-Err-clause-drives g c =
    omega (
      arith,
      drives-counted (λ box. (g.dyn-1.0.entry box.vtable).1) c.args.images _
          c.args.devices.now.drives.items c.new.new.devices.drives.items c.requires.volumes
          c.in-Err.ensures.starts.drives,
      c.args.devices.now.drives.ok.0,
      c.new.new.devices.drives.ok.0,
    )

pub returns-in-Err-load_keys-clause-drives : goal.returns-in-Err-load_keys-clause-drives
returns-in-Err-load_keys-clause-drives g c =
    omega (
      arith,
      drives-counted (λ box. (g.dyn-1.0.entry box.vtable).1) c.args.images _
          c.args.devices.now.drives.items c.new.new.devices.drives.items c.requires.volumes
          c.in-Ok.ensures.starts.drives,
      c.args.devices.now.drives.ok.0,
      c.new.new.devices.drives.ok.0,
      ap
          (λ devices. vec_len devices.drives) c.in-Err-load_keys.ensures.kept,
    )

pub returns-in-Ok-run_slices-clause-drives : goal.returns-in-Ok-run_slices-clause-drives
returns-in-Ok-run_slices-clause-drives g c =
    omega (
      arith,
      drives-counted (λ box. (g.dyn-1.0.entry box.vtable).1) c.args.images _
          c.args.devices.now.drives.items c.new.new.devices.drives.items c.requires.volumes
          c.in-Ok.ensures.starts.drives,
      c.args.devices.now.drives.ok.0,
      c.new.new.devices.drives.ok.0,
      ap vec_len
          c.in-Ok-load_keys.ensures.drives_kept,
      c.in-Ok-run_slices.ensures.drives,
    )

pub returns-in-Err-Output-clause-drives : goal.returns-in-Err-Output-clause-drives
returns-in-Err-Output-clause-drives g c =
    omega (
      arith,
      drives-counted (λ box. (g.dyn-1.0.entry box.vtable).1) c.args.images _
          c.args.devices.now.drives.items c.new.new.devices.drives.items c.requires.volumes
          c.in-Ok.ensures.starts.drives,
      c.args.devices.now.drives.ok.0,
      c.new.new.devices.drives.ok.0,
      ap vec_len
          c.in-Ok-load_keys.ensures.drives_kept,
      c.in-Err-Output.ensures.drives,
    )

pub returns-clause-drives : goal.returns-clause-drives
returns-clause-drives g c =
    omega (
      arith,
      drives-counted (λ box. (g.dyn-1.0.entry box.vtable).1) c.args.images _
          c.args.devices.now.drives.items c.new.new.devices.drives.items c.requires.volumes
          c.in-Ok.ensures.starts.drives,
      c.args.devices.now.drives.ok.0,
      c.new.new.devices.drives.ok.0,
      ap vec_len
          c.in-Ok-load_keys.ensures.drives_kept,
      c.in-Err-NoMemory.ensures.drives,
    )
