-- Each step is one of the call.
use Rattle.std.proofs.Common.{◌≡◌, length, refl, arith}
use Rattle.std.proofs.lemmas.List.{length-map}
use Rattle.device_table.specs.Seen.{terminal_states}
use Rattle.os9_kernel.specs.Outside.{outside}
use Rattle.os9_debug.proofs.CallLemmas.{commands-refused, read-ended, session-ended, texts-refused}
use Rattle.os9_debug.proofs.NoteLemmas.{notes-refused, notes-session, notes-stopped, notes-uncommanded}
use Rattle.os9_debug.proofs.SessionLemmas.{can-start}
use Rattle.os9_debug.proofs.debug_call.do_debug.Goals as goal

-- ---- the call

pub returns-in-Err-clause-call : goal.returns-in-Err-clause-call
returns-in-Err-clause-call g c =
    read-ended c.args.debug.now _ _ c.in-Err.end (c.in-Err.ensures.ended (outside (λ box. (g.dyn-1.0.entry box.vtable).1) (λ box. (g.dyn-2.0.entry box.vtable).1) c.args.devices.now))

pub returns-in-Err-read_texts-clause-call : goal.returns-in-Err-read_texts-clause-call
returns-in-Err-read_texts-clause-call g c =
    let devices = outside (λ box. (g.dyn-1.0.entry box.vtable).1) (λ box. (g.dyn-2.0.entry box.vtable).1) c.args.devices.now in
    let count : c.len-terminals.result ≡ length (terminal_states (λ box. (g.dyn-2.0.entry box.vtable).1)
    c.args.devices.now.terms.items) = rw length-map
    (omega (arith, c.len-terminals.ensures, c.args.devices.now.terms.ok.0)) in
    texts-refused c.args.debug.now _ c.in-Ok.files c.in-Ok.ensures.contents _ (c.in-Ok.ensures.kept devices)
    c.len-terminals.result c.in-Err-read_texts.end count
    (rw (c.as_slice.ensures.value, c.as_slice-2.ensures.value) at c.in-Err-read_texts.ensures.refused)

pub returns-in-Err-commands_in-clause-call : goal.returns-in-Err-commands_in-clause-call
returns-in-Err-commands_in-clause-call g c =
    let devices = outside (λ box. (g.dyn-1.0.entry box.vtable).1) (λ box. (g.dyn-2.0.entry box.vtable).1) c.args.devices.now in
    let count : c.len-terminals.result ≡ length (terminal_states (λ box. (g.dyn-2.0.entry box.vtable).1)
    c.args.devices.now.terms.items) = rw length-map
    (omega (arith, c.len-terminals.ensures, c.args.devices.now.terms.ok.0)) in
    commands-refused c.args.debug.now _ c.in-Ok.files c.in-Ok.ensures.contents _ (c.in-Ok.ensures.kept devices)
    c.in-Ok-read_texts.texts.keys.items c.in-Ok-read_texts.texts.slices.items
    (rw (c.as_slice.ensures.value, count) at c.in-Ok-read_texts.ensures.keys) (rw c.as_slice-2.ensures.value at
    c.in-Ok-read_texts.ensures.slices) c.in-Err-commands_in.end (rw c.as_slice-3.ensures.value at
    c.in-Err-commands_in.ensures.refused)

pub show-requires : goal.show-requires
show-requires g c = record {
  start = can-start _ c.args.debug.now.run c.len-terminals.result _ c.requires.words refl refl
      (rw c.as_slice-5.ensures.value c.in-Ok-read_texts.ensures.limits) (rw c.as_slice-6.ensures.value
      c.in-Ok-read_texts.ensures.few) c.requires.devices;
  room = c.requires.devices.room;
}

pub returns-clause-call : goal.returns-clause-call
returns-clause-call g c =
    let devices = outside (λ box. (g.dyn-1.0.entry box.vtable).1) (λ box. (g.dyn-2.0.entry box.vtable).1) c.args.devices.now in
    let count : c.len-terminals.result ≡ length (terminal_states (λ box. (g.dyn-2.0.entry box.vtable).1)
    c.args.devices.now.terms.items) = rw length-map
    (omega (arith, c.len-terminals.ensures, c.args.devices.now.terms.ok.0)) in
    session-ended c.args.debug.now _ c.in-Ok.files c.in-Ok.ensures.contents _ (c.in-Ok.ensures.kept devices)
    c.in-Ok-read_texts.texts.keys.items c.in-Ok-read_texts.texts.slices.items
    (rw (c.as_slice.ensures.value, count) at c.in-Ok-read_texts.ensures.keys) (rw c.as_slice-2.ensures.value at
    c.in-Ok-read_texts.ensures.slices) _ c.as_slice-7.result.now
    (rw (c.as_slice-3.ensures.value, ← c.as_slice-7.ensures.value) at c.in-Ok-commands_in.ensures.commands) refl
    refl c.as_slice-4.ensures.value c.as_slice-5.ensures.value c.as_slice-6.ensures.value _ c.show.result
    c.show.ensures.session

pub returns-clause-drives : goal.returns-clause-drives
returns-clause-drives g c = c.show.ensures.drives

-- ---- the names

pub returns-in-Err-clause-noted : goal.returns-in-Err-clause-noted
returns-in-Err-clause-noted g c = notes-stopped c.args.debug.now _ _ c.in-Err.end c.in-Err.ensures.stopped

pub returns-in-Err-read_texts-clause-noted : goal.returns-in-Err-read_texts-clause-noted
returns-in-Err-read_texts-clause-noted g c =
    notes-refused c.args.debug.now _ _ c.in-Ok.ensures.noted c.len-terminals.result c.as_slice.result.now c.as_slice-2.result.now c.in-Err-read_texts.end c.in-Err-read_texts.ensures.refused

pub returns-in-Err-commands_in-clause-noted : goal.returns-in-Err-commands_in-clause-noted
returns-in-Err-commands_in-clause-noted g c =
    notes-uncommanded c.args.debug.now _ _ c.in-Ok.ensures.noted c.as_slice-3.result.now c.in-Err-commands_in.end c.in-Err-commands_in.ensures.refused

pub returns-clause-noted : goal.returns-clause-noted
returns-clause-noted g c =
    let it = c.show.ensures.session in
    rw (c.show.ensures.notes_kept, it.ends) (notes-session c.args.debug.now _ _ c.in-Ok.ensures.noted it.answer)
