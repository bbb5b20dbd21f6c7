use Rattle.std.proofs.Common.{ap, ◌+◌, ℕ, ◌∙◌}
use Rattle.file_drives.specs.Drives.{drive_views}
use Rattle.os9_kernel.specs.Outside.{outside}
use Rattle.console_run.specs.Keyboard.{keyboard_state}
use Rattle.console_run.specs.Turn.{console_state}
use Rattle.console_run.proofs.AskLemmas.{loses-part, types-line, types-nothing}
use Rattle.console_run.proofs.typing.type_line.Goals as goal

pub returns-then-not-waits_for_line-clause-asked : goal.returns-then-not-waits_for_line-clause-asked
returns-then-not-waits_for_line-clause-asked g c =
    types-nothing c.args.last c.args.kernel.now _ (console_state g.K.Keyboard c.args.console.now) _ _
    (c.waits_for_line.ensures.other c.if-not-waits_for_line.true) c.waits_for_line.ensures.kept

pub returns-in-AtEnd-clause-asked : goal.returns-in-AtEnd-clause-asked
returns-in-AtEnd-clause-asked g c = (
  c.waits_for_line.ensures.all c.if-not-waits_for_line.false,
  c.waits_for_line.ensures.kept,
  c.in-AtEnd.ensures,
)

pub returns-in-NoMemory-clause-asked : goal.returns-in-NoMemory-clause-asked
returns-in-NoMemory-clause-asked g c = (
  c.waits_for_line.ensures.all c.if-not-waits_for_line.false,
  c.waits_for_line.ensures.kept,
  c.in-NoMemory.ensures,
)

pub type_part-requires-clause-rest : goal.type_part-requires-clause-rest
type_part-requires-clause-rest g c = c.in-GoesOn.ensures.1.some

pub returns-in-Ok-clause-asked : goal.returns-in-Ok-clause-asked
returns-in-Ok-clause-asked g c =
    let before = outside (λ box. (g.dyn-1.0.entry box.vtable).1) (λ box. (g.dyn-2.0.entry box.vtable).1) c.args.devices.now in
    let between = outside (λ box. (g.dyn-1.0.entry box.vtable).1) (λ box. (g.dyn-2.0.entry box.vtable).1) c.waits_for_line.new.devices in
    let after = outside (λ box. (g.dyn-1.0.entry box.vtable).1) (λ box. (g.dyn-2.0.entry box.vtable).1) c.type_part.new.devices in
    let old = console_state g.K.Keyboard c.args.console.now in
    let mid = console_state g.K.Keyboard c.ask_line.new.console in
    let new = console_state g.K.Keyboard c.type_part.new.console in
    let (line, asks) = c.in-GoesOn.ensures in
    types-line (g.H.Host.bytes_out c.args.host.now) line old mid new asks
    (ap (λ keyboard. keyboard_state g.K.Keyboard keyboard) c.type_part.ensures.keyboard_kept) c.args.last
    c.args.kernel.now (c.ticks.result + 1) before between after
    (c.waits_for_line.ensures.all c.if-not-waits_for_line.false) c.waits_for_line.ensures.kept
    (ap (λ (tick : ℕ). tick + 1) c.ticks.ensures.count) c.in-Ok.ensures.typed
    (ap (λ drives. drive_views (λ box. (g.dyn-1.0.entry box.vtable).1) drives.items) c.type_part.ensures.drives_kept)

pub returns-in-Err-clause-asked : goal.returns-in-Err-clause-asked
returns-in-Err-clause-asked g c =
    let old = console_state g.K.Keyboard c.args.console.now in
    let mid = console_state g.K.Keyboard c.ask_line.new.console in
    let new = console_state g.K.Keyboard c.type_part.new.console in
    let (line, asks) = c.in-GoesOn.ensures in (
      c.waits_for_line.ensures.all c.if-not-waits_for_line.false,
      ap (λ devices. outside (λ box. (g.dyn-1.0.entry box.vtable).1) (λ box. (g.dyn-2.0.entry box.vtable).1) devices) c.in-Err.ensures.devices_kept ∙
          c.waits_for_line.ensures.kept,
      loses-part (g.H.Host.bytes_out c.args.host.now) line old mid new asks
          (ap (λ keyboard. keyboard_state g.K.Keyboard keyboard) c.type_part.ensures.keyboard_kept)
          c.in-Err.ensures.typed_kept,
    )
