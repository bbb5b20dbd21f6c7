use Rattle.os9_kernel.specs.Outside.{outside}
use Rattle.boot_run.specs.World.{world_of}
use Rattle.os9_words.specs.Notes.{notes_of}
use Rattle.os9_boot.proofs.BootCallLemmas.{err-only, reported}
use Rattle.console_run.specs.Keyboard.{keyboard_state}
use Rattle.os9_console.specs.TopCall.{console_line}
use Rattle.os9_console.proofs.TopLemmas.{console-reported}
use Rattle.os9_console.proofs.top.do_console.Goals as goal

pub returns-clause-call : goal.returns-clause-call
returns-clause-call g c =
    let devices = outside (λ box. (g.dyn-1.0.entry box.vtable).1) (λ box. (g.dyn-2.0.entry box.vtable).1) c.args.devices.now in
    let left = outside (λ box. (g.dyn-1.0.entry box.vtable).1) (λ box. (g.dyn-2.0.entry box.vtable).1) c.boot_console-end.new.devices in
    let from = keyboard_state g.K.Keyboard c.args.console.now.keyboard in
    let to = keyboard_state g.K.Keyboard c.boot_console-end.new.console.keyboard in
    let before = world_of g.H.Host c.args.host.now devices in
    let mid = world_of g.H.Host c.boot_console-end.new.host left in
    let between = world_of g.H.Host c.record_session-recording.new.host left in
    let after = world_of g.H.Host c.report_session.new.host left in
    let noted = notes_of g.H.Host c.args.host.now in
    let half = notes_of g.H.Host c.boot_console-end.new.host in
    let done = notes_of g.H.Host c.record_session-recording.new.host in
    let notes = notes_of g.H.Host c.report_session.new.host in
    console-reported c.args.words.now c.boot_console-end.new.console.typed from to before mid between after noted half
    done notes c.boot_console-end.result c.record_session-recording.result c.console_number.result
    (err-only g.H.Host c.record_session-recording.new.host c.report_session.new.host left
    c.report_session.ensures.others) c.console_number.ensures c.boot_console-end.ensures.call
    c.boot_console-end.ensures.noted (c.record_session-recording.ensures.recorded left)
    c.record_session-recording.ensures.noted
    (reported g.H.Host (console_line c.args.words.now.boot c.boot_console-end.result
    c.record_session-recording.result) c.report_session.result c.record_session-recording.new.host
    c.report_session.new.host c.report_session.ensures)

pub record_session-recording-requires : goal.record_session-recording-requires
record_session-recording-requires g c = c.requires.words.files.script
