use Rattle.std.proofs.Common.{◌≡◌, ◌==◌, ◌∙◌, ℕ, Ok, Err, not, ap, sym, refl, subst, eq-eqb}
use Rattle.os9_base.specs.Cells.{Cells, FitsIn}
use Rattle.os9_base.specs.declared.call.CallEnd.{CallEnd}
use Rattle.os9_base.specs.declared.errors.TheConstants.{E_BMODE, E_BPADDR}
use Rattle.os9_base.specs.declared.registers.Regs.{Regs}
use Rattle.proc_model.specs.Processes.{regs_at, with_regs_of}
use Rattle.io_model.specs.Io.{Io}
use Rattle.io_model.specs.Modes.{can_read}
use Rattle.proc_state.specs.Tie.{RepresentsProcesses}
use Rattle.io_state.proofs.RequesterLemmas.{called-regs}
use Rattle.file_rules.specs.Attempts.{asker_of}
use Rattle.file_rules.specs.Step.{done}
use Rattle.file_state.specs.declared.state.FileState.{FileState}
use Rattle.file_io.proofs.ReadingLemmas.{buffer-lacks, buffer-there, read-behind, where-lacks, where-named, where-readable, where-some}
use Rattle.file_io.proofs.TryingLemmas.{ends-if-true, ends-refuses-true, tries-done, tries-refused}
use Rattle.file_io.specs.Opened.{found_on}
use Rattle.file_io.specs.Reading.{read_file, read_named}
use Rattle.file_io.proofs.reads.read_opened.Goals as goal

pub returns-then-not-is_named-clause-call : goal.returns-then-not-is_named-clause-call
returns-then-not-is_named-clause-call g c now m was v file terms tied stands is there =
    let p = c.args.by.p.0 in
    let old = c.args.machine.now in
    let same : c.args.by.regs ≡ regs_at m p = called-regs c.args.by old.processes m c.requires.calls.calls tied in
    let new : FileState = record old.files { io = c.refuse.new.io } in
    where-lacks c.args.kind m was now p c.args.opened.now v file c.refuse.result old.processes new _ _ _ terms
    (buffer-lacks m p c.args.by.regs c.is_named.result same (c.is_named.ensures.there m tied) c.if-not-is_named.true)
    (tries-refused m was now p c.refuse.result old.processes old.files new.io _ terms stands E_BPADDR (record { end_is = c.refuse.ensures.end; tied = tied; io_is = c.refuse.ensures.io }))

pub returns-then-not-can_read-clause-call : goal.returns-then-not-can_read-clause-call
unfolding read_named
returns-then-not-can_read-clause-call g c now m was v file terms tied stands is there =
    let p = c.args.by.p.0 in
    let old = c.args.machine.now in
    let end = c.refuse-then-not-can_read.result in
    let same : c.args.by.regs ≡ regs_at m p = called-regs c.args.by old.processes m c.requires.calls.calls tied in
    let new : FileState = record old.files { io = c.refuse-then-not-can_read.new.io } in
    where-named c.args.kind m was now p c.args.opened.now v file end old.processes new _ _ _ terms
    (buffer-there m p c.args.by.regs c.is_named.result same (c.is_named.ensures.there m tied) c.if-not-is_named.false)
    (ends-refuses-true m was now p end old.processes new _ terms (not (can_read c.args.opened.now.desc.mode)) E_BMODE _
    (ap not (sym c.can_read.ensures ∙ c.if-not-can_read.true))
    (tries-refused m was now p end old.processes old.files new.io _ terms stands E_BMODE
    (record { end_is = c.refuse-then-not-can_read.ensures.end; tied = tied; io_is = c.refuse-then-not-can_read.ensures.io })))

pub returns-then-regs-eq0-clause-call : goal.returns-then-regs-eq0-clause-call
returns-then-regs-eq0-clause-call g c now m was v file terms tied stands is there =
    let p = c.args.by.p.0 in
    let old = c.args.machine.now in
    let end = c.answer.result in
    let same : c.args.by.regs ≡ regs_at m p = called-regs c.args.by old.processes m c.requires.calls.calls tied in
    let none : (regs_at m p).y ≡ 0 = subst (λ (r : Regs). r.y ≡ 0) same c.if-regs-eq0.true in
    let new : FileState = record old.files { io = c.answer.new.io } in
    where-readable c.args.kind m was now p c.args.opened.now v file end c.answer.new.s new _ _ _ terms
    (buffer-there m p c.args.by.regs c.is_named.result same (c.is_named.ensures.there m tied) c.if-not-is_named.false)
    (sym c.can_read.ensures ∙ c.if-not-can_read.false)
    (ends-if-true m was now p end c.answer.new.s new _ terms ((regs_at m p).y == 0) (done (regs_at m p) was)
    (read_file c.args.kind (asker_of m p now) was (found_on c.args.opened.now v file)) (eq-eqb (regs_at m p).y 0 none)
    (tries-done m was now p end c.answer.new.s old.files new.io _ terms stands (λ (io : Io). io) (regs_at m p) (record {
      end_is = c.answer.ensures.end;
      tied = subst (λ (r : Regs). RepresentsProcesses c.answer.new.s (with_regs_of m p r)) same (c.answer.ensures.tied m tied);
      io_is = c.answer.ensures.io;
    })))

pub read_for_update-requires-clause-may : goal.read_for_update-requires-clause-may
read_for_update-requires-clause-may g c = record { read = c.requires.may; update = sym c.is_for_update.ensures ∙ c.if-is_for_update.true }

pub read_for_update-requires-clause-buffer : goal.read_for_update-requires-clause-buffer
read_for_update-requires-clause-buffer g c = record { named = c.is_named.ensures.fits.0 c.if-not-is_named.false; some = c.if-regs-eq0.false }

pub returns-then-is_for_update-clause-call : goal.returns-then-is_for_update-clause-call
returns-then-is_for_update-clause-call g c now m was v file terms tied stands is there =
    let p = c.args.by.p.0 in
    let left = c.read_for_update.new.machine in
    let same : c.args.by.regs ≡ regs_at m p = called-regs c.args.by c.args.machine.now.processes m c.requires.calls.calls tied in
    where-some c.args.kind m was now p c.args.opened.now v file c.read_for_update.result left.processes left.files _ _ _ terms
    (buffer-there m p c.args.by.regs c.is_named.result same (c.is_named.ensures.there m tied) c.if-not-is_named.false)
    (sym c.can_read.ensures ∙ c.if-not-can_read.false)
    (subst (λ (r : Regs). r.y ≡ 0 → ⊥) same c.if-regs-eq0.false)
    (c.read_for_update.ensures.call now m was v file terms tied stands is there)

pub give-requires-clause-path : goal.give-requires-clause-path
give-requires-clause-path g c = c.requires.opened.path

pub give-requires-clause-named : goal.give-requires-clause-named
give-requires-clause-named g c =
    subst (λ (cells : Cells). FitsIn cells c.args.by.regs.x c.args.by.regs.y) (sym (c.in-Ok.ensures.same.memory.cells c.args.by.p.0))
    (c.is_named.ensures.fits.0 c.if-not-is_named.false)

pub returns-in-Ok-clause-call : goal.returns-in-Ok-clause-call
returns-in-Ok-clause-call g c now m was v file terms tied stands is there =
    let p = c.args.by.p.0 in
    let opened = c.args.opened.now in
    let old = c.args.machine.now in
    let left = c.give.new.machine in
    let same : c.args.by.regs ≡ regs_at m p = called-regs c.args.by old.processes m c.requires.calls.calls tied in
    where-some c.args.kind m was now p opened v file c.give.result left.processes left.files _ _ _ terms
    (buffer-there m p c.args.by.regs c.is_named.result same (c.is_named.ensures.there m tied) c.if-not-is_named.false)
    (sym c.can_read.ensures ∙ c.if-not-can_read.false)
    (subst (λ (r : Regs). r.y ≡ 0 → ⊥) same c.if-regs-eq0.false)
    (read-behind c.args.kind m was v file now p opened c.give.result left.processes old.files c.load.new.disks left.files _ _ terms c.args.by.regs
    (Ok c.in-Ok.count) c.load.new.s.buffer.items (sym c.is_for_update.ensures ∙ c.if-is_for_update.false) c.give.ensures.rest same stands is there c.if-regs-eq0.false
    (c.in-Ok.ensures.ok was.volumes v file stands.mounted is there) c.in-Ok.ensures.device c.in-Ok.ensures.drive
    (c.give.ensures.call m (c.in-Ok.ensures.same.represents m tied)))

pub returns-in-Err-clause-call : goal.returns-in-Err-clause-call
returns-in-Err-clause-call g c now m was v file terms tied stands is there =
    let p = c.args.by.p.0 in
    let opened = c.args.opened.now in
    let old = c.args.machine.now in
    let end = c.refuse-in-Err.result in
    let s = c.load.new.s in
    let new : FileState = record old.files { disks = c.load.new.disks; io = c.refuse-in-Err.new.io } in
    let same : c.args.by.regs ≡ regs_at m p = called-regs c.args.by old.processes m c.requires.calls.calls tied in
    where-some c.args.kind m was now p opened v file end s new _ _ _ terms
    (buffer-there m p c.args.by.regs c.is_named.result same (c.is_named.ensures.there m tied) c.if-not-is_named.false)
    (sym c.can_read.ensures ∙ c.if-not-can_read.false)
    (subst (λ (r : Regs). r.y ≡ 0 → ⊥) same c.if-regs-eq0.false)
    (read-behind c.args.kind m was v file now p opened end s old.files c.load.new.disks new _ _ terms c.args.by.regs
    (Err c.in-Err.fault) s.buffer.items (sym c.is_for_update.ensures ∙ c.if-is_for_update.false) refl same stands is there c.if-regs-eq0.false
    (c.in-Err.ensures.ok was.volumes v file stands.mounted is there) c.in-Err.ensures.device c.in-Err.ensures.drive (record {
      end_is = c.refuse-in-Err.ensures.end ∙ ap (λ (n : ℕ). CallEnd.Error n) c.number.ensures;
      tied = c.in-Err.ensures.same.represents m tied;
      io_is = c.refuse-in-Err.ensures.io;
    }))
