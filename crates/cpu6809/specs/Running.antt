-- Instructions one after another.
use Rattle.std.specs.Prelude.{◌≡◌, ℕ, zero, suc, ◌<◌}
use Rattle.os9_base.specs.declared.registers.Regs.{Regs}
use Rattle.os9_base.specs.Cells.{Cells}
use Rattle.cpu_model.specs.declared.stop.Stop.{Stop}
use Rattle.cpu_model.specs.declared.stop.Stop.TheVariants.{Next}
use Rattle.cpu_model.specs.Step.{step_of, LeavesCells}
use Rattle.cpu6809.specs.declared.execution.Ran.{Ran}

-- this number of instructions, each followed by the next one, leads from registers and cells to others
abbrev pub InstructionsFollow : ℕ → Regs → Cells → Regs → Cells → Type 0
InstructionsFollow zero r cells after now = (after ≡ r) × (now ≡ cells)
InstructionsFollow (suc k) r cells after now =
    (next : Regs) × (held : Cells) × LeavesCells (step_of cells r) Next r next cells held
    × InstructionsFollow k next held after now

-- `followed` of n instructions were followed by the next one; the run ended after all n, or at one that stops
abbrev pub EndsAfter : ℕ → ℕ → Stop → Regs → Cells → Regs → Cells → Type 0
EndsAfter n followed Next r cells after now = (followed ≡ n) × (after ≡ r) × (now ≡ cells)
EndsAfter n followed stop r cells after now = (followed < n) × LeavesCells (step_of cells r) stop r after cells now

-- a run of at most n instructions from registers and cells to others
abbrev pub Runs : ℕ → Ran → Regs → Cells → Regs → Cells → Type 0
Runs n ran r cells after now =
    (last : Regs) × (held : Cells) × InstructionsFollow ran.followed r cells last held
    × EndsAfter n ran.followed ran.stop last held after now
