use Rattle.std.proofs.Common.{◌≡◌, ℕ, Option, Some, None, IfSome, IfNone, option_map, List, length, take, drop, ap, sym, ◌∙◌, arith}
use Rattle.os9_base.specs.Cells.{Cells}
use Rattle.os9_base.specs.UserLines.{line_at}
use Rattle.guest_memory.proofs.Seen.{cells_of-seen}
use Rattle.guest_memory.specs.Tie.{cells_of}
use Rattle.proc_state.proofs.UserBytes.{take-front}
use Rattle.proc_state.proofs.state.ProcState.read_line.Goals as goal

-- the line that was read
read : (line : Option (List ℕ)) (result : Option ℕ) (front : List ℕ) → IfNone result (line ≡ None)
    → IfSome result (λ count. line ≡ Some (take count front)) → line ≡ option_map (λ count. take count front) result
read line None front none some = none
read line (Some count) front none some = some

pub returns-clause-line : goal.returns-clause-line
returns-clause-line c m tied =
    let old = c.args.self.now in
    let new = c.read_line.new.into in
    ap (λ (cells : Cells). line_at cells c.args.at c.args.most) (sym (cells_of-seen old.memory c.args.p.0 c.requires m.memory tied.memory))
    ∙ read (line_at (cells_of old.memory c.args.p.0) c.args.at c.args.most) c.read_line.result new c.read_line.ensures.none c.read_line.ensures.some
    ∙ ap (λ (bytes : List ℕ). option_map (λ count. take count bytes) c.read_line.result)
    (sym (take-front new (drop (length new) old.buffer.items) old.buffer.len
    (omega (arith, c.read_line.ensures.room, c.deref_mut.ensures.len))))
