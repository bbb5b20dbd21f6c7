use Rattle.std.proofs.Common.{◌≡◌, ◌≤◌, ◌++◌, ℕ, List, length, take, drop, ap, subst, sym, arith}
use Rattle.std.specs.Prelude.{IfSome}
use Rattle.os9_base.specs.Cells.{Cells}
use Rattle.proc_model.specs.UserBytes.{user_bytes}
use Rattle.guest_memory.proofs.Seen.{cells_of-seen}
use Rattle.guest_memory.specs.Tie.{cells_of}
use Rattle.device_io.proofs.ReadingLemmas.{front-of}
use Rattle.device_io.specs.Reading.{window}
use Rattle.device_io.proofs.moving.read_window.Goals as goal

pub returns-clause-window : goal.returns-clause-window
returns-clause-window c m tied =
    let at = c.args.by.regs.x in
    let moved = c.args.moved in
    let count = c.args.count in
    let buffer = c.args.s.now.buffer in
    let new = c.load_window.new.into in
    let room : length c.deref_mut.result.now ≡ length buffer.items = ap (λ (it : List ℕ). length it) c.deref_mut.ensures.value in
    let there : count ≤ length new = omega (arith, room, c.load_window.ensures.room) in
    let cells = cells_of c.args.s.now.memory c.args.by.p.0 in
    let same = front-of new (drop (length new) buffer.items) buffer.len count there (omega arith) in
    subst (λ (it : Cells). IfSome (user_bytes it at count)
    (λ bytes. window moved (take count (take buffer.len (new ++ drop (length new) buffer.items))) ≡ window moved
    bytes)) (cells_of-seen c.args.s.now.memory c.args.by.p.0 c.requires.process m.memory tied.memory)
    (subst (λ (it : List ℕ). IfSome (user_bytes cells at count) (λ bytes. window moved it ≡ window moved bytes)) (sym same) c.load_window.ensures.window)
