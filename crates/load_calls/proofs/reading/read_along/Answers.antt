use Rattle.std.proofs.Common.{◌≡◌, ◌∙◌, refl, sym}
use Rattle.proc_state.proofs.Entered.{some-machine}
use Rattle.file_rules.specs.Attempts.{asker_of}
use Rattle.file_state.specs.declared.state.FileState.{FileState}
use Rattle.proc_model.specs.Processes.{user_at}
use Rattle.proc_state.proofs.Living.{IsProcess-living}
use Rattle.load_calls.proofs.TieLemmas.{names-seen, same-processes, same-user}
use Rattle.load_calls.proofs.RouteLemmas.{arrived-reads, walk-arrives, walk-ends}
use Rattle.load_calls.proofs.reading.read_along.Goals as goal

pub read_there-requires : goal.read_there-requires
read_there-requires g c =
    let s = c.args.machine.now.processes in
    let machine = some-machine s in
    let has = c.requires.names in
    let walks = c.in-Ok.ensures.walks machine.0 has.names machine.1 (names-seen s machine.0 c.args.by.p.0 c.args.start.first
    has.names (IsProcess-living s.table c.args.by.p.0 c.user-user.ensures.shape c.requires.calls.lives).1 machine.1
    has.from) in
    record { file = walks.file.file }

pub returns-in-Err-clause-along : goal.returns-in-Err-clause-along
returns-in-Err-clause-along g c m was now list tied stands names next =
    let new : FileState = record c.args.machine.now.files { disks = c.call_walk.new.disks } in
    let same : user_at m c.args.by.p.0 ≡ c.user-user.result = same-user c.args.machine.now.processes m c.args.by.p.0 tied ∙ sym c.user-user.ensures.user in
    walk-ends (asker_of m c.args.by.p.0 now) c.args.by.p c.user-user.result was list c.args.start.directory c.args.machine.now.files new _ _
    same stands c.requires.file refl refl refl c.in-Err.error c.number.result c.call_walk.new.s.buffer.items
    c.number.ensures
    (c.in-Err.ensures.walks m list.names tied names)

pub returns-in-Ok-clause-along : goal.returns-in-Ok-clause-along
returns-in-Ok-clause-along g c m was now list tied stands names next =
    let mid : FileState = record c.args.machine.now.files { disks = c.call_walk.new.disks } in
    let asker = asker_of m c.args.by.p.0 now in
    let same : user_at m c.args.by.p.0 ≡ c.user-user.result = same-user c.args.machine.now.processes m c.args.by.p.0 tied ∙ sym c.user-user.ensures.user in
    let at = walk-arrives asker c.args.by.p c.user-user.result was list c.args.start.directory c.args.machine.now.files mid _ _ same stands
    c.requires.file refl refl refl c.in-Ok.place (c.in-Ok.ensures.walks m list.names tied names) in
    arrived-reads asker was list c.args.start.directory c.in-Ok.place mid c.read_there.new.machine.files _ _ _ at c.args.next c.user-user.result c.read_there.result
    c.read_there.new.machine.processes.buffer.items same next
    (c.read_there.ensures.there was at.found (record { before = _; read = at.read; there = at.there }))

pub returns-in-Ok-clause-same : goal.returns-in-Ok-clause-same
returns-in-Ok-clause-same g c =
    same-processes c.args.machine.now.processes c.call_walk.new.s c.read_there.new.machine.processes c.call_walk.ensures.same c.read_there.ensures.same
