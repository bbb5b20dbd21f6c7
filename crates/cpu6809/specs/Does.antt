-- The state after an instruction is executed, before the registers are restored at an abort.
use Rattle.std.specs.Prelude.{◌≡◌}
use Rattle.os9_base.specs.declared.registers.Regs.{Regs}
use Rattle.os9_base.specs.Cells.{Cells}
use Rattle.cpu_model.specs.declared.stop.Stop.{Stop}
use Rattle.cpu_model.specs.declared.stop.Stop.TheVariants.{Next, Call, Abort}
use Rattle.cpu_model.specs.Step.{Outcome, Done, Calls, Aborts, write_cells}

-- as `LeavesCells`, but at an abort the registers can be any
abbrev pub HasStepOutcome : Outcome → Stop → Regs → Cells → Cells → Type 0
HasStepOutcome (Done effect) stop after cells now =
    (stop ≡ Next) × (after ≡ effect.regs) × (now ≡ write_cells cells effect.writes)
HasStepOutcome (Calls code past_it) stop after cells now = (stop ≡ Call code) × (after ≡ past_it) × (now ≡ cells)
HasStepOutcome (Aborts status) stop after cells now = (stop ≡ Abort status) × (now ≡ cells)
