use Rattle.std.proofs.Common.{◌≡◌, ◌∙◌, length, refl, arith}
use Rattle.std.proofs.lemmas.List.{length-map}
use Rattle.device_table.specs.Seen.{terminal_states}
use Rattle.os9_kernel.specs.Outside.{outside}
use Rattle.os9_boot.proofs.BootCallLemmas.{stopped-call}
use Rattle.os9_boot.proofs.BootLemmas.{boot-ended, boot-refused, boot-texts-refused}
use Rattle.os9_boot.proofs.MachineLemmas.{runs-after}
use Rattle.os9_words.specs.Notes.{HasReadFiles, notes_of}
use Rattle.os9_words.specs.declared.command.Command.TheVariants.{Boot as BootCommand}
use Rattle.boot_run.specs.Machine.{history_left}
use Rattle.boot_run.specs.World.{world_of}
use Rattle.os9_boot.specs.History.{output_bytes, outputs_of}
use Rattle.boot_run.specs.FileNames.{run_inputs}
use Rattle.os9_boot.proofs.NameLemmas.{behind-end, behind-images, behind-texts, images-unwritten, names-read, names-stopped, names-written, texts-unwritten}
use Rattle.os9_boot.proofs.boot.boot_images.Goals as goal

pub returns-in-Err-clause-call : goal.returns-in-Err-clause-call
returns-in-Err-clause-call g c =
    stopped-call (BootCommand c.args.boot.now) _ _ _ (λ input. tt)
    (c.in-Err.ensures.ended (outside (λ box. (g.dyn-1.0.entry box.vtable).1) (λ box. (g.dyn-2.0.entry box.vtable).1) c.args.devices.now))

pub returns-in-Err-read_texts-clause-call : goal.returns-in-Err-read_texts-clause-call
returns-in-Err-read_texts-clause-call g c =
    let devices = outside (λ box. (g.dyn-1.0.entry box.vtable).1) (λ box. (g.dyn-2.0.entry box.vtable).1) c.args.devices.now in
    let count : c.len-terminals.result ≡ length (terminal_states (λ box. (g.dyn-2.0.entry box.vtable).1)
    c.args.devices.now.terms.items) = rw length-map
    (omega (arith, c.len-terminals.ensures, c.args.devices.now.terms.ok.0)) in
    boot-texts-refused _ c.args.boot.now c.in-Ok.files c.in-Ok.ensures.contents _ (c.in-Ok.ensures.kept devices)
    c.len-terminals.result c.in-Err-read_texts.end count
    (rw (c.as_slice.ensures.value, c.as_slice-2.ensures.value) at c.in-Err-read_texts.ensures.refused)

pub returns-in-Err-accept_images-clause-call : goal.returns-in-Err-accept_images-clause-call
returns-in-Err-accept_images-clause-call g c =
    let devices = outside (λ box. (g.dyn-1.0.entry box.vtable).1) (λ box. (g.dyn-2.0.entry box.vtable).1) c.args.devices.now in
    let count : c.len-terminals.result ≡ length (terminal_states (λ box. (g.dyn-2.0.entry box.vtable).1)
    c.args.devices.now.terms.items) = rw length-map
    (omega (arith, c.len-terminals.ensures, c.args.devices.now.terms.ok.0)) in
    boot-refused _ c.args.boot.now c.in-Ok.files c.in-Ok.ensures.contents c.in-Ok-read_texts.texts.keys.items
    c.in-Ok-read_texts.texts.slices.items (rw (c.as_slice.ensures.value, count) at
    c.in-Ok-read_texts.ensures.keys) (rw c.as_slice-2.ensures.value at c.in-Ok-read_texts.ensures.slices) _
    c.in-Err-accept_images.end (c.in-Ok.ensures.kept devices) c.in-Err-accept_images.ensures.refused

pub returns-clause-call : goal.returns-clause-call
returns-clause-call g c =
    let devices = outside (λ box. (g.dyn-1.0.entry box.vtable).1) (λ box. (g.dyn-2.0.entry box.vtable).1) c.args.devices.now in
    let left = outside (λ box. (g.dyn-1.0.entry box.vtable).1) (λ box. (g.dyn-2.0.entry box.vtable).1) c.run_images-outcome.new.devices in
    let count : c.len-terminals.result ≡ length (terminal_states (λ box. (g.dyn-2.0.entry box.vtable).1)
    c.args.devices.now.terms.items) = rw length-map
    (omega (arith, c.len-terminals.ensures, c.args.devices.now.terms.ok.0)) in
    boot-ended _ c.args.boot.now c.in-Ok.files c.in-Ok.ensures.contents c.in-Ok-read_texts.texts.keys.items
    c.in-Ok-read_texts.texts.slices.items (rw (c.as_slice.ensures.value, count) at
    c.in-Ok-read_texts.ensures.keys) (rw c.as_slice-2.ensures.value at c.in-Ok-read_texts.ensures.slices)
    c.in-Ok-accept_images.file.items c.in-Ok-accept_images.ensures.well_formed c.in-Ok-accept_images.ensures.bytes
    c.in-Ok.ensures.count _ _ _ _ _ _ (runs-after _ _ _ _ _ _ _ (c.in-Ok.ensures.kept devices)
    c.run_images-outcome.ensures.run) (c.write_back.ensures.ended left)

pub returns-clause-drives : goal.returns-clause-drives
returns-clause-drives g c = c.run_images-outcome.ensures.run.drives

-- ---- the names

pub returns-in-Err-clause-noted : goal.returns-in-Err-clause-noted
returns-in-Err-clause-noted g c = names-stopped (BootCommand c.args.boot.now) _ _ _ c.in-Err.ensures.stopped

pub returns-in-Err-read_texts-clause-noted : goal.returns-in-Err-read_texts-clause-noted
returns-in-Err-read_texts-clause-noted g c =
    let boot = c.args.boot.now in
    let end = c.in-Err-read_texts.end in
    let refused = c.in-Err-read_texts.ensures.refused in
    names-read (BootCommand boot) end _ _ (behind-texts c.len-terminals.result c.as_slice.result.now
    c.as_slice-2.result.now end refused) c.in-Ok.ensures.noted _ (texts-unwritten (outputs_of boot)
    c.len-terminals.result c.as_slice.result.now c.as_slice-2.result.now end refused) refl

pub returns-in-Err-accept_images-clause-noted : goal.returns-in-Err-accept_images-clause-noted
returns-in-Err-accept_images-clause-noted g c =
    let boot = c.args.boot.now in
    let end = c.in-Err-accept_images.end in
    let refused = c.in-Err-accept_images.ensures.refused in
    names-read (BootCommand boot) end _ _ (behind-images c.in-Ok.files.images end refused) c.in-Ok.ensures.noted _ (images-unwritten (outputs_of boot) c.in-Ok.files.images end refused) refl

pub returns-clause-noted : goal.returns-clause-noted
returns-clause-noted g c =
    let left = outside (λ box. (g.dyn-1.0.entry box.vtable).1) (λ box. (g.dyn-2.0.entry box.vtable).1) c.run_images-outcome.new.devices in
    let back = c.write_back.ensures.noted in
    let behind = behind-end (outputs_of c.args.boot.now)
    (output_bytes (outputs_of c.args.boot.now) c.run_images-outcome.new.images
    (history_left c.run_images-outcome.result.records)) c.run_images-outcome.result.end c.write_back.result (world_of g.H.Host c.run_images-outcome.new.host left)
    (world_of g.H.Host c.write_back.new.host left) (c.write_back.ensures.ended left) in
    let read : HasReadFiles (run_inputs c.args.boot.now) (notes_of g.H.Host c.args.host.now)
    (notes_of g.H.Host c.run_images-outcome.new.host) = record {
      is = c.run_images-outcome.ensures.notes_kept ∙
          c.in-Ok.ensures.noted.is;
    } in
    names-written (BootCommand c.args.boot.now) c.write_back.result _ _ behind read back.written _ back.writes back.noted
