use Rattle.std.proofs.Common.{◌≡◌, ◌≢◌, ℕ, List, [], inr, subst, ◌+◌, ◌≤◌, ◌∷◌, drop, length, get_or, refl, ap, ◌∙◌, rules}
use Rattle.std.proofs.lemmas.List.{drop_more}
use Rattle.os9_outer.specs.Stream.{GainsPrefix, stream_with}
use Rattle.os9_debug.specs.declared.command.Command.TheVariants.{To}
use Rattle.os9_kernel.specs.Outside.{outside}
use Rattle.os9_words.proofs.NoteLemmas.{notes-kept}
use Rattle.boot_run.specs.World.{world_of}
use Rattle.os9_debug.specs.declared.machine.SessionFault.TheVariants.{NoMemory}
use Rattle.os9_debug.proofs.Starting.{first-position}
use Rattle.os9_debug.proofs.Printing.{move-no-output, session-done, session-output, session-stopped, so-far-all, so-far-breaks, so-far-more, so-far-none, so-far-part, so-far-stops, start-no-output, start-stops}
use Rattle.os9_debug.proofs.debugger.debug.Goals as goal

pub returns-in-Err-clause-call : goal.returns-in-Err-clause-call
returns-in-Err-clause-call g c =
    let first = outside (λ box. (g.dyn-1.0.entry box.vtable).1) (λ box. (g.dyn-2.0.entry box.vtable).1) c.args.devices.now in
    let after = outside (λ box. (g.dyn-1.0.entry box.vtable).1) (λ box. (g.dyn-2.0.entry box.vtable).1) c.start.new.devices in
    let fails = c.in-Err.ensures.started.fails in
    session-stopped c.args.machine.now c.args.commands.now (world_of g.H.Host c.args.host.now first) (world_of g.H.Host c.args.host.now after) refl c.in-Err.fault
    (start-no-output c.args.machine.now first after c.in-Err.fault fails) (refl, refl, refl)
    (start-stops c.args.machine.now c.args.commands.now (world_of g.H.Host c.args.host.now first) after c.in-Err.fault fails)

pub loop-command-init : goal.loop-command-init
loop-command-init g c =
    let first = outside (λ box. (g.dyn-1.0.entry box.vtable).1) (λ box. (g.dyn-2.0.entry box.vtable).1) c.args.devices.now in
    let after = outside (λ box. (g.dyn-1.0.entry box.vtable).1) (λ box. (g.dyn-2.0.entry box.vtable).1) c.start.new.devices in
    let started = c.in-Ok.ensures.started in
    record {
      at = first-position c.args.machine.now c.in-Ok.position first after started;
      so_far = so-far-none c.args.machine.now c.args.commands.now first after (g.H.Host.bytes_out c.args.host.now) c.in-Ok.position.events started.first;
      starts = started.starts;
      accepted = started.accepted;
      none = (refl, refl, refl);
      files = refl;
      notes = refl;
      terminals = c.in-Ok.ensures.terminals;
      drives = c.in-Ok.ensures.drives;
    }

pub obey-requires : goal.obey-requires
obey-requires g c =
    let first = outside (λ box. (g.dyn-1.0.entry box.vtable).1) (λ box. (g.dyn-2.0.entry box.vtable).1) c.args.devices.now in
    (first, c.requires, c.loop-command.invariant.at)

pub returns-in-Err-obey-clause-call : goal.returns-in-Err-obey-clause-call
returns-in-Err-obey-clause-call g c =
    let first = outside (λ box. (g.dyn-1.0.entry box.vtable).1) (λ box. (g.dyn-2.0.entry box.vtable).1) c.args.devices.now in
    let between = outside (λ box. (g.dyn-1.0.entry box.vtable).1) (λ box. (g.dyn-2.0.entry box.vtable).1) c.loop-command.devices in
    let after = outside (λ box. (g.dyn-1.0.entry box.vtable).1) (λ box. (g.dyn-2.0.entry box.vtable).1) c.obey.new.devices in
    let inv = c.loop-command.invariant in
    let fails = c.in-Err-obey.ensures.moved.fails in
    let i = c.loop-command.command-index in
    let commands = c.args.commands.now in
    let next : drop i commands ≡ get_or commands i (To 0) ∷ drop (i + 1) commands = drop_more commands i (To 0) (search rules) in
    let before = world_of g.H.Host c.args.host.now first in
    let later = world_of g.H.Host c.loop-command.host after in
    session-stopped c.args.machine.now c.args.commands.now before later inv.files c.in-Err-obey.fault
    (move-no-output c.args.machine.now between after c.in-Err-obey.fault fails) inv.none
    (so-far-stops c.args.machine.now c.args.commands.now before between c.loop-command.command-index
    c.loop-command.position (g.H.Host.bytes_out c.loop-command.host) c.requires inv.at inv.so_far
    (get_or commands i (To 0)) next inv.accepted inv.starts c.in-Err-obey.fault later refl fails
    c.in-Err-obey.ensures.moved.may_fail)

pub loop-command-preserved : goal.loop-command-preserved
loop-command-preserved g c =
    let first = outside (λ box. (g.dyn-1.0.entry box.vtable).1) (λ box. (g.dyn-2.0.entry box.vtable).1) c.args.devices.now in
    let between = outside (λ box. (g.dyn-1.0.entry box.vtable).1) (λ box. (g.dyn-2.0.entry box.vtable).1) c.loop-command.devices in
    let after = outside (λ box. (g.dyn-1.0.entry box.vtable).1) (λ box. (g.dyn-2.0.entry box.vtable).1) c.obey.new.devices in
    let inv = c.loop-command.invariant in
    let done = c.in-Ok-obey.ensures in
    let wrote = c.in-Ok-write_out.ensures.written in
    let before = world_of g.H.Host c.args.host.now first in
    let i = c.loop-command.command-index in
    let commands = c.args.commands.now in
    let next : drop i commands ≡ get_or commands i (To 0) ∷ drop (i + 1) commands = drop_more commands i (To 0) (search rules) in
    record {
      at = done.moved.stays first c.requires inv.at;
      so_far = so-far-more c.args.machine.now commands before between i c.loop-command.position
          (g.H.Host.bytes_out c.loop-command.host) c.requires inv.at inv.so_far c.in-Ok-obey.line
          (get_or commands i (To 0)) c.obey.new.position after c.in-Ok-obey.line.items _ next done.moved done.shown
          (wrote.whole ∙ ap (stream_with (g.H.Host.bytes_out c.loop-command.host)) c.as_slice.ensures.value);
      starts = inv.starts;
      accepted = inv.accepted;
      none = (wrote.count_kept ∙ inv.none.0, wrote.name_kept ∙ inv.none.1, wrote.read_kept ∙ inv.none.2);
      files = wrote.files_kept ∙ inv.files;
      notes = notes-kept g.H.Host _ _ _ _ wrote ∙ inv.notes;
      terminals = done.terminals ∙ inv.terminals;
      drives = done.drives ∙ inv.drives;
    }

pub returns-in-Err-Failed-clause-call : goal.returns-in-Err-Failed-clause-call
returns-in-Err-Failed-clause-call g c =
    let first = outside (λ box. (g.dyn-1.0.entry box.vtable).1) (λ box. (g.dyn-2.0.entry box.vtable).1) c.args.devices.now in
    let between = outside (λ box. (g.dyn-1.0.entry box.vtable).1) (λ box. (g.dyn-2.0.entry box.vtable).1) c.loop-command.devices in
    let after = outside (λ box. (g.dyn-1.0.entry box.vtable).1) (λ box. (g.dyn-2.0.entry box.vtable).1) c.obey.new.devices in
    let inv = c.loop-command.invariant in
    let done = c.in-Ok-obey.ensures in
    let wrote = rw c.in-Err-Failed.field-0-is at c.in-Err-Failed.ensures.written in
    let before = world_of g.H.Host c.args.host.now first in
    let later = world_of g.H.Host c.write_out.new.host after in
    let i = c.loop-command.command-index in
    let commands = c.args.commands.now in
    let next : drop i commands ≡ get_or commands i (To 0) ∷ drop (i + 1) commands = drop_more commands i (To 0) (search rules) in
    session-output c.args.machine.now commands before later (wrote.files_kept ∙ inv.files)
    (rw (← inv.none.0) wrote.fault_counted, wrote.fault_unnamed, wrote.fault_in_out) inv.starts
    (so-far-breaks c.args.machine.now commands before between i c.loop-command.position
    (g.H.Host.bytes_out c.loop-command.host) c.requires inv.at inv.so_far c.in-Ok-obey.line
    (get_or commands i (To 0)) c.obey.new.position c.in-Ok-obey.line.items later next done.moved done.shown
    (subst (λ (bytes : List ℕ). GainsPrefix (g.H.Host.bytes_out c.loop-command.host) bytes later.out)
    c.as_slice.ensures.value wrote.prefix) (subst (λ (bytes : List ℕ). bytes ≢ []) c.as_slice.ensures.value
    c.in-Err-Failed.ensures.some))

pub returns-in-Err-OutOfMemory-clause-call : goal.returns-in-Err-OutOfMemory-clause-call
returns-in-Err-OutOfMemory-clause-call g c =
    let first = outside (λ box. (g.dyn-1.0.entry box.vtable).1) (λ box. (g.dyn-2.0.entry box.vtable).1) c.args.devices.now in
    let between = outside (λ box. (g.dyn-1.0.entry box.vtable).1) (λ box. (g.dyn-2.0.entry box.vtable).1) c.loop-command.devices in
    let after = outside (λ box. (g.dyn-1.0.entry box.vtable).1) (λ box. (g.dyn-2.0.entry box.vtable).1) c.obey.new.devices in
    let inv = c.loop-command.invariant in
    let done = c.in-Ok-obey.ensures in
    let wrote = rw c.in-Err-OutOfMemory.field-0-is at c.in-Err-OutOfMemory.ensures.written in
    let before = world_of g.H.Host c.args.host.now first in
    let later = world_of g.H.Host c.write_out.new.host after in
    let i = c.loop-command.command-index in
    let commands = c.args.commands.now in
    let next : drop i commands ≡ get_or commands i (To 0) ∷ drop (i + 1) commands = drop_more commands i (To 0) (search rules) in
    session-stopped c.args.machine.now commands before later (wrote.files_kept ∙ inv.files) NoMemory (λ e. cc e)
    (wrote.count_kept ∙ inv.none.0, wrote.name_kept ∙ inv.none.1, wrote.read_kept ∙ inv.none.2)
    (inr (
      inv.starts,
      so-far-part c.args.machine.now commands before between i c.loop-command.position
          (g.H.Host.bytes_out c.loop-command.host) c.requires inv.at inv.so_far c.in-Ok-obey.line
          (get_or commands i (To 0)) c.obey.new.position c.in-Ok-obey.line.items later next done.moved done.shown
          (subst (λ (bytes : List ℕ). GainsPrefix (g.H.Host.bytes_out c.loop-command.host) bytes later.out)
          c.as_slice.ensures.value wrote.prefix),
    ))

pub returns-in-Err-obey-clause-notes_kept : goal.returns-in-Err-obey-clause-notes_kept
returns-in-Err-obey-clause-notes_kept g c = c.loop-command.invariant.notes

pub returns-in-Err-Failed-clause-notes_kept : goal.returns-in-Err-Failed-clause-notes_kept
returns-in-Err-Failed-clause-notes_kept g c =
    notes-kept g.H.Host _ _ _ _ c.in-Err-Failed.ensures.written ∙ c.loop-command.invariant.notes

pub returns-in-Err-OutOfMemory-clause-notes_kept : goal.returns-in-Err-OutOfMemory-clause-notes_kept
returns-in-Err-OutOfMemory-clause-notes_kept g c =
    notes-kept g.H.Host _ _ _ _ c.in-Err-OutOfMemory.ensures.written ∙ c.loop-command.invariant.notes

pub returns-clause-notes_kept : goal.returns-clause-notes_kept
returns-clause-notes_kept g c = c.loop-command.invariant.notes

pub returns-clause-call : goal.returns-clause-call
returns-clause-call g c =
    let first = outside (λ box. (g.dyn-1.0.entry box.vtable).1) (λ box. (g.dyn-2.0.entry box.vtable).1) c.args.devices.now in
    let between = outside (λ box. (g.dyn-1.0.entry box.vtable).1) (λ box. (g.dyn-2.0.entry box.vtable).1) c.loop-command.devices in
    let inv = c.loop-command.invariant in
    let before = world_of g.H.Host c.args.host.now first in
    let all : length c.args.commands.now ≤ c.loop-command.command-index = search rules in
    session-done c.args.machine.now c.args.commands.now before (world_of g.H.Host c.loop-command.host between) inv.files _ inv.starts inv.none
    (so-far-all c.args.machine.now c.args.commands.now before between c.loop-command.command-index c.loop-command.position (g.H.Host.bytes_out c.loop-command.host) c.requires inv.at inv.so_far all)
