-- What an effect of an instruction writes is named.
use Rattle.std.proofs.Common.{◌≡◌, ℕ, Bool, true, false, Option, Some, None, refl, Ok, Err}
use Rattle.std.specs.Prelude.{if◌then◌else◌}
use Rattle.os9_base.specs.declared.registers.Regs.{Regs}
use Rattle.cpu_model.specs.declared.rows.Mode.{Mode}
use Rattle.cpu_model.specs.declared.rows.Row.{Row}
use Rattle.cpu_model.specs.declared.rows.Operation.{Operation}
use Rattle.cpu_model.specs.declared.rows.Operation.TheVariants.{Swi, Swi2, Swi3, Sync, Cwai}
use Rattle.cpu_model.specs.declared.instruction.Instr.{Instr}
use Rattle.cpu_model.specs.Table.{row}
use Rattle.cpu_model.specs.Reading.{Reading, reading}
use Rattle.cpu_model.specs.Effects.{Effect}
use Rattle.cpu_model.specs.Step.{Done, Aborts, window, past, effect_of, all_named, outcome_of_effect, call_outcome, outcome_of, outcome_of_row, outcome_of_reading, step_of}

from_effect : (cells : ℕ → Option ℕ) (found : Option Effect) (effect : Effect) → outcome_of_effect cells found ≡ Done effect → all_named cells effect.writes ≡ true
from_effect cells None effect is = cc
from_effect cells (Some other) effect is = by_test (all_named cells other.writes) refl is
  where
    by_test : (test : Bool) → all_named cells other.writes ≡ test → (if test then Done other else Aborts 228) ≡ Done effect → all_named cells effect.writes ≡ true
    by_test true all h = let e : other ≡ effect = cc in rw (← e) all
    by_test false all h = cc

from_call : (r : Regs) (code : Option ℕ) (effect : Effect) {A : Type 0} → call_outcome r code ≡ Done effect → A
from_call r None effect is = cc
from_call r (Some code) effect is = cc

from_operation : (cells : ℕ → Option ℕ) (r : Regs) (i : Instr) (mode : Mode) (operation : Operation) (effect : Effect)
    → outcome_of cells r i mode operation ≡ Done effect → all_named cells effect.writes ≡ true
unfolding outcome_of
from_operation cells r i mode Swi2 effect is = from_call r (cells r.pc) effect is
from_operation cells r i mode Swi effect is = cc
from_operation cells r i mode Swi3 effect is = cc
from_operation cells r i mode Sync effect is = cc
from_operation cells r i mode Cwai effect is = cc
from_operation cells r i mode operation effect is = from_effect cells (effect_of cells r i mode operation) effect is

from_row : (cells : ℕ → Option ℕ) (r : Regs) (i : Instr) (line : Option Row) (effect : Effect) → outcome_of_row cells r i line ≡ Done effect → all_named cells effect.writes ≡ true
from_row cells r i None effect is = cc
from_row cells r i (Some line) effect is = from_operation cells r i line.1 line.0 effect is

from_reading : (cells : ℕ → Option ℕ) (r : Regs) (found : Reading) (effect : Effect) → outcome_of_reading cells r found ≡ Done effect → all_named cells effect.writes ≡ true
from_reading cells r (Err fault) effect is = cc
from_reading cells r (Ok found) effect is = from_row cells (past r found.1) found.0 (row found.0.page found.0.opcode) effect is

-- each address that a step writes is named
pub all_named-step : (cells : ℕ → Option ℕ) (r : Regs) (effect : Effect) → step_of cells r ≡ Done effect → all_named cells effect.writes ≡ true
unfolding step_of
all_named-step cells r effect is = from_reading cells r (reading (window cells r.pc 5)) effect is
