use Rattle.std.proofs.Common.{ℕ, List, length, drop, ap, sym, ◌∙◌, arith}
use Rattle.os9_base.specs.Cells.{Cells}
use Rattle.proc_model.specs.UserBytes.{user_bytes}
use Rattle.guest_memory.proofs.Seen.{cells_of-seen}
use Rattle.proc_state.specs.Tie.{bytes_read}
use Rattle.proc_state.proofs.UserBytes.{take-front}
use Rattle.proc_state.proofs.state.ProcState.read_bytes.Goals as goal

pub returns-clause-read : goal.returns-clause-read
returns-clause-read c =
    λ m tied.
    ap (λ (cells : Cells). user_bytes cells c.args.at c.args.count) (sym (cells_of-seen c.args.self.now.memory c.args.p.0 c.requires m.memory tied.memory))
    ∙ c.read_front.ensures.read
    ∙ ap (λ (bytes : List ℕ). bytes_read c.read_front.result c.args.count bytes)
    (sym (take-front c.read_front.new.into (drop (length c.read_front.new.into) c.args.self.now.buffer.items)
    c.args.self.now.buffer.len (omega arith)))
