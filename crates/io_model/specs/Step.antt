-- The result of an attempt of a call on a path.
use Rattle.std.specs.Prelude.{ℕ, Bool, true, false, Option, Some, None, List, []}
use Rattle.os9_base.specs.Cells.{Cells}
use Rattle.os9_base.specs.declared.registers.Pid.{Pid}
use Rattle.os9_base.specs.declared.registers.Regs.{Regs}
use Rattle.io_model.specs.declared.pending.PendingCall.{PendingCall}
use Rattle.io_model.specs.declared.terminal.ReadKind.{ReadKind}
use Rattle.io_model.specs.Io.{Io}

-- the calling process: its registers, and its cells
pub record Caller : Type 0 where
  pub process : Pid
  pub regs : Regs
  pub cells : Cells

-- how an attempt ends
pub data IoEnd : Type 0 where
  -- the call is done, and the caller has these registers
  answers : Regs → IoEnd
  -- it is refused with this number
  fails : ℕ → IoEnd
  -- it waits, and is pending
  keeps : PendingCall → IoEnd

-- what an attempt leaves: how it ends, the bytes that it stores from an address on, and the state except what is kept
-- of the call
pub record IoEffect : Type 0 where
  pub end : IoEnd
  pub at : ℕ
  pub bytes : List ℕ
  pub io : Io

-- a read of a terminal: no bytes of it were moved before
pub record TerminalRead : Type 0 where
  pub terminal : ℕ
  pub kind : ReadKind
  pub call : PendingCall

-- a write to a terminal
pub record TerminalWrite : Type 0 where
  pub terminal : ℕ
  pub put : List ℕ  -- the bytes that are put
  pub count : ℕ  -- the count that the terminal returns
  pub regs : Regs  -- the registers of the caller if it is done

-- what an attempt does
pub data IoStep : Type 0 where
  -- it is refused with this number, and changes nothing
  refused : ℕ → IoStep
  -- it has this effect, and reaches no device
  comes : IoEffect → IoStep
  -- it reads a terminal
  reads : TerminalRead → IoStep
  -- it writes to a terminal
  writes : TerminalWrite → IoStep

-- the call goes on with this value, or is refused with this number if there is none
abbrev pub needs : {A : Type 0} → Option A → ℕ → (A → IoStep) → IoStep
needs None number next = refused number
needs (Some a) number next = next a

-- the call is refused with this number if the test is true, and else goes on
abbrev pub refuses : Bool → ℕ → IoStep → IoStep
refuses true number next = refused number
refuses false number next = next

-- an attempt that stores nothing, and has this end
abbrev pub leaves : IoEnd → Io → IoEffect
leaves end io = record { end = end; at = 0; bytes = []; io = io }

-- an attempt that stores these bytes from an address on, and has this end
abbrev pub stores : ℕ → List ℕ → IoEnd → Io → IoEffect
stores at bytes end io = record { end = end; at = at; bytes = bytes; io = io }

-- the call is done: it stores nothing, the caller has these registers, and this is the state
abbrev pub done : Regs → Io → IoStep
done regs io = comes (leaves (answers regs) io)

-- what an attempt that reaches no device leaves
abbrev pub effect_of : IoStep → Io → IoEffect
effect_of (refused number) io = leaves (fails number) io
effect_of (comes effect) io = effect
effect_of (reads read) io = leaves (fails 0) io
effect_of (writes write) io = leaves (fails 0) io
