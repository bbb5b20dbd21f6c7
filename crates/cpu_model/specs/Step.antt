-- One step of the processor: the instruction at PC is executed.
use Rattle.std.specs.Prelude.{◌≡◌, ℕ, zero, suc, ◌+◌, ◌&&◌, Bool, true, is_some, Option, Some, None, option_map, option_and_then, Ok, Err, List, [], ◌∷◌, if◌then◌else◌}
use Rattle.os9_base.specs.declared.registers.Regs.{Regs}
use Rattle.os9_base.specs.Cells.{put_cell}
use Rattle.os9_base.specs.declared.errors.TheConstants.{E_ISWI, E_PRCABT}
use Rattle.cpu_model.specs.declared.rows.Mode.{Mode}
use Rattle.cpu_model.specs.declared.rows.Row.{Row}
use Rattle.cpu_model.specs.declared.rows.Operation.{Operation}
use Rattle.cpu_model.specs.declared.rows.Operation.TheVariants.{Unary, UnaryOn, Binary, Word, Store, StoreWord, Jmp, Jsr, Branch, Bsr, Lea, Psh, Pul, Exg, Tfr, Orcc, Andcc, Abx, Daa, Mul, Sex, Nop, Rts, Rti, Swi, Swi2, Swi3, Sync, Cwai}
use Rattle.cpu_model.specs.declared.instruction.Instr.{Instr}
use Rattle.cpu_model.specs.declared.stop.Stop.{Stop}
use Rattle.cpu_model.specs.declared.stop.Stop.TheVariants.{Next, Call, Abort}
use Rattle.cpu_model.specs.Registers.{wrapped}
use Rattle.cpu_model.specs.Table.{row}
use Rattle.cpu_model.specs.Reading.{Reading, reading}
use Rattle.cpu_model.specs.Places.{place_of, byte_operand, word_operand, target_of, tail_byte}
use Rattle.cpu_model.specs.Effects.{Effect, changes, unary_effect_at, unary_on, binary_on, word_on, store, store_word, jump, lea, branch, enters, push, pull, return_from_interrupt, return_from_subroutine, transfer, exchange, abx, daa, mul, sex, orcc, andcc}

-- an effect, a system call with its code byte and the registers when PC is past it, or the status with which
-- the program ends
pub data Outcome : Type 0 where
  Done : Effect → Outcome
  Calls : ℕ → Regs → Outcome
  Aborts : ℕ → Outcome

-- ---- the instruction's own bytes

abbrev window_from : (ℕ → List ℕ) → ℕ → Option ℕ → List ℕ
window_from rest at None = []
window_from rest at (Some byte) = byte ∷ rest (wrapped (at + 1))

-- up to this number of bytes from an address on, up to the first that is not named
unfoldable pub window : (ℕ → Option ℕ) → ℕ → ℕ → List ℕ
window cells at zero = []
window cells at (suc n) = window_from (λ address. window cells address n) at (cells at)

-- the registers when PC is past this number of bytes
abbrev pub past : Regs → ℕ → Regs
past r length = record r { pc = wrapped (r.pc + length) }

-- ---- what each operation changes

-- the effect of an operation, or nothing if a cell that it reads is not named
unfoldable pub effect_of : (ℕ → Option ℕ) → Regs → Instr → Mode → Operation → Option Effect
effect_of cells r i mode (Unary u) = option_and_then (λ p. unary_effect_at cells u p) (place_of cells r mode i)
effect_of cells r i mode (UnaryOn u acc) = Some (changes (unary_on r u acc))
effect_of cells r i mode (Binary op acc) = option_map (λ x. changes (binary_on op acc x)) (byte_operand cells r mode i)
effect_of cells r i mode (Word op reg) = option_map (λ x. changes (word_on op reg x)) (word_operand cells r mode i)
effect_of cells r i mode (Store acc) = option_map (λ p. store acc p) (place_of cells r mode i)
effect_of cells r i mode (StoreWord reg) = option_map (λ p. store_word reg p) (place_of cells r mode i)
effect_of cells r i mode Jmp = option_map jump (place_of cells r mode i)
effect_of cells r i mode Jsr = option_map (λ p. enters p.regs p.at) (place_of cells r mode i)
effect_of cells r i mode (Branch condition) = Some (changes (branch r condition (target_of r mode i.tail)))
effect_of cells r i mode Bsr = Some (enters r (target_of r mode i.tail))
effect_of cells r i mode (Lea reg) = option_map (λ p. changes (lea reg p)) (place_of cells r mode i)
effect_of cells r i mode (Psh stack) = Some (push r stack (tail_byte i.tail))
effect_of cells r i mode (Pul stack) = option_map changes (pull cells r stack (tail_byte i.tail))
effect_of cells r i mode Exg = Some (changes (exchange r (tail_byte i.tail)))
effect_of cells r i mode Tfr = Some (changes (transfer r (tail_byte i.tail)))
effect_of cells r i mode Orcc = Some (changes (orcc r (tail_byte i.tail)))
effect_of cells r i mode Andcc = Some (changes (andcc r (tail_byte i.tail)))
effect_of cells r i mode Abx = Some (changes (abx r))
effect_of cells r i mode Daa = Some (changes (daa r))
effect_of cells r i mode Mul = Some (changes (mul r))
effect_of cells r i mode Sex = Some (changes (sex r))
effect_of cells r i mode Nop = Some (changes r)
effect_of cells r i mode Rts = option_map changes (return_from_subroutine cells r)
effect_of cells r i mode Rti = option_map changes (return_from_interrupt cells r)
effect_of cells r i mode _ = None

-- ---- outcomes

-- every address written is named
abbrev pub all_named : (ℕ → Option ℕ) → List (ℕ × ℕ) → Bool
all_named cells [] = true
all_named cells (w ∷ ws) = is_some (cells w.0) && all_named cells ws

-- nothing is done if a cell that is read or written is not named
abbrev pub outcome_of_effect : (ℕ → Option ℕ) → Option Effect → Outcome
outcome_of_effect cells None = Aborts E_PRCABT
outcome_of_effect cells (Some e) = if all_named cells e.writes then Done e else Aborts E_PRCABT

-- SWI2: the code byte is next
abbrev pub call_outcome : Regs → Option ℕ → Outcome
call_outcome r None = Aborts E_PRCABT
call_outcome r (Some code) = Calls code (past r 1)

-- SYNC, CWAI, SWI and SWI3 are not for programs
unfoldable pub outcome_of : (ℕ → Option ℕ) → Regs → Instr → Mode → Operation → Outcome
outcome_of cells r i mode Swi2 = call_outcome r (cells r.pc)
outcome_of cells r i mode Swi = Aborts E_ISWI
outcome_of cells r i mode Swi3 = Aborts E_ISWI
outcome_of cells r i mode Sync = Aborts E_ISWI
outcome_of cells r i mode Cwai = Aborts E_ISWI
outcome_of cells r i mode operation = outcome_of_effect cells (effect_of cells r i mode operation)

abbrev pub outcome_of_row : (ℕ → Option ℕ) → Regs → Instr → Option Row → Outcome
outcome_of_row cells r i None = Aborts E_PRCABT
outcome_of_row cells r i (Some line) = outcome_of cells r i line.1 line.0

abbrev pub outcome_of_reading : (ℕ → Option ℕ) → Regs → Reading → Outcome
outcome_of_reading cells r (Err fault) = Aborts E_PRCABT
outcome_of_reading cells r (Ok found) =
    outcome_of_row cells (past r found.1) found.0 (row found.0.page found.0.opcode)

-- what the instruction at PC does; an instruction has at most five bytes
unfoldable pub step_of : (ℕ → Option ℕ) → Regs → Outcome
step_of cells r = outcome_of_reading cells r (reading (window cells r.pc 5))

-- ---- the state after a step

-- the cells after these writes
abbrev pub write_cells : (ℕ → Option ℕ) → List (ℕ × ℕ) → (ℕ → Option ℕ)
write_cells cells [] = cells
write_cells cells (w ∷ ws) = write_cells (put_cell cells w.0 w.1) ws

-- how the step ended, the registers before and after, and the cells before and after
abbrev pub LeavesCells : Outcome → Stop → Regs → Regs → (ℕ → Option ℕ) → (ℕ → Option ℕ) → Type 0
LeavesCells (Done effect) stop r after cells now =
    (stop ≡ Next) × (after ≡ effect.regs) × (now ≡ write_cells cells effect.writes)
LeavesCells (Calls code past_it) stop r after cells now = (stop ≡ Call code) × (after ≡ past_it) × (now ≡ cells)
LeavesCells (Aborts status) stop r after cells now = (stop ≡ Abort status) × (after ≡ r) × (now ≡ cells)
