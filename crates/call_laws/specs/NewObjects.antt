-- The contents of the objects that appear in an event of a process (System Programmer's Manual, F$Fork and F$Chain).
use Rattle.std.specs.Prelude.{◌≡◌, ◌⊎◌, ℕ, ◌≤◌, Some, List, length, slice_get}
use Rattle.proc_model.specs.Memory.{MemoryState}
use Rattle.proc_model.specs.declared.proc_call.ProcCall.TheVariants as Call
use Rattle.proc_model.specs.Processes.{Processes, cells_at, regs_at}
use Rattle.proc_model.specs.UserBytes.{user_bytes}
use Rattle.call_laws.specs.Others.{AttemptsCall}

-- a byte is one of the parameters that a process gives the program that it starts: the Y bytes at U
pub record IsParameter (m : Processes) (p byte : ℕ) : Type 0 where
  pub starts : AttemptsCall m p Call.Fork ⊎ AttemptsCall m p Call.Chain
  pub parameters : List ℕ
  pub given : user_bytes (cells_at m p) (regs_at m p).u (regs_at m p).y ≡ Some parameters
  pub member : (k : ℕ) × (slice_get parameters k ≡ Some byte)

-- objects that appear hold nothing else: each of their bytes is 0, or a parameter
abbrev pub HoldNothingElse : Processes → ℕ → MemoryState → Type 0
HoldNothingElse m p n =
    (object : ℕ) (bytes : List ℕ) → length m.memory.objects ≤ object → slice_get n.objects object ≡ Some bytes
    → (k byte : ℕ) → slice_get bytes k ≡ Some byte → (byte ≡ 0) ⊎ IsParameter m p byte
