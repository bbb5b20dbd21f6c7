use Rattle.std.proofs.Common.{◌≡◌, length, refl, arith}
use Rattle.std.proofs.lemmas.List.{length-map}
use Rattle.device_table.specs.Seen.{terminal_states}
use Rattle.os9_kernel.specs.Outside.{outside}
use Rattle.os9_boot.proofs.BootCallLemmas.{stopped-call}
use Rattle.os9_boot.proofs.RunLemmas.{run-ended, run-texts-refused}
use Rattle.os9_boot.proofs.MachineLemmas.{runs-after}
use Rattle.os9_words.specs.declared.command.Command.TheVariants.{Run as RunCommand}
use Rattle.os9_boot.specs.Written.{ends_run}
use Rattle.os9_boot.proofs.NameLemmas.{behind-run, behind-texts, names-read, names-stopped}
use Rattle.os9_boot.proofs.boot.run_modules.Goals as goal

pub returns-in-Err-clause-call : goal.returns-in-Err-clause-call
returns-in-Err-clause-call g c =
    stopped-call (RunCommand c.args.run.now) _ _ _ (λ input. tt)
    (c.in-Err.ensures.ended (outside (λ box. (g.dyn-1.0.entry box.vtable).1) (λ box. (g.dyn-2.0.entry box.vtable).1) c.args.devices.now))

pub returns-in-Err-read_texts-clause-call : goal.returns-in-Err-read_texts-clause-call
returns-in-Err-read_texts-clause-call g c =
    let devices = outside (λ box. (g.dyn-1.0.entry box.vtable).1) (λ box. (g.dyn-2.0.entry box.vtable).1) c.args.devices.now in
    let count : c.len-terminals.result ≡ length (terminal_states (λ box. (g.dyn-2.0.entry box.vtable).1)
    c.args.devices.now.terms.items) = rw length-map
    (omega (arith, c.len-terminals.ensures, c.args.devices.now.terms.ok.0)) in
    run-texts-refused _ c.args.run.now c.in-Ok.files c.in-Ok.ensures.contents _ (c.in-Ok.ensures.kept devices)
    c.len-terminals.result c.in-Err-read_texts.end count
    (rw (c.as_slice.ensures.value, c.as_slice-2.ensures.value) at c.in-Err-read_texts.ensures.refused)

pub returns-clause-call : goal.returns-clause-call
returns-clause-call g c =
    let devices = outside (λ box. (g.dyn-1.0.entry box.vtable).1) (λ box. (g.dyn-2.0.entry box.vtable).1) c.args.devices.now in
    let count : c.len-terminals.result ≡ length (terminal_states (λ box. (g.dyn-2.0.entry box.vtable).1)
    c.args.devices.now.terms.items) = rw length-map
    (omega (arith, c.len-terminals.ensures, c.args.devices.now.terms.ok.0)) in
    rw c.end_of_run.ensures (run-ended _ c.args.run.now c.in-Ok.files c.in-Ok.ensures.contents
    c.in-Ok-read_texts.texts.keys.items c.in-Ok-read_texts.texts.slices.items
    (rw (c.as_slice.ensures.value, count) at c.in-Ok-read_texts.ensures.keys) (rw c.as_slice-2.ensures.value at
    c.in-Ok-read_texts.ensures.slices) _ _ _ c.run_images-outcome.result.end
    (runs-after _ _ _ _ _ _ _ (c.in-Ok.ensures.kept devices) (rw c.none-images.ensures at
    c.run_images-outcome.ensures.run)))

pub returns-clause-drives : goal.returns-clause-drives
returns-clause-drives g c = c.run_images-outcome.ensures.run.drives

-- ---- the names

pub returns-in-Err-clause-noted : goal.returns-in-Err-clause-noted
returns-in-Err-clause-noted g c = names-stopped (RunCommand c.args.run.now) _ _ _ c.in-Err.ensures.stopped

pub returns-in-Err-read_texts-clause-noted : goal.returns-in-Err-read_texts-clause-noted
returns-in-Err-read_texts-clause-noted g c =
    let refused = c.in-Err-read_texts.ensures.refused in
    names-read (RunCommand c.args.run.now) c.in-Err-read_texts.end _ _ (behind-texts c.len-terminals.result
    c.as_slice.result.now c.as_slice-2.result.now c.in-Err-read_texts.end refused) c.in-Ok.ensures.noted _ refl
    refl

pub returns-clause-noted : goal.returns-clause-noted
returns-clause-noted g c =
    let end = c.run_images-outcome.result.end in
    rw c.end_of_run.ensures (names-read (RunCommand c.args.run.now) (ends_run end) _ _ (behind-run end)
    c.in-Ok.ensures.noted _ refl c.run_images-outcome.ensures.notes_kept)
