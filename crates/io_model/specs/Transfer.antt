-- Reads and writes: what they have in common (System Programmer's Manual, I$Read and I$Write).
use Rattle.std.specs.Prelude.{ℕ, ◌==◌, not, Bool, unwrap_or, if◌then◌else◌}
use Rattle.os9_base.specs.declared.errors.TheConstants.{E_BPNUM, E_BMODE}
use Rattle.io_model.specs.declared.pending.PendingCall.{PendingCall}
use Rattle.io_model.specs.Io.{Io, OpenPath, open_path, pending_at}
use Rattle.io_model.specs.Step.{Caller, IoStep, needs, refuses, done}

-- the call goes on with the path of a number, or is refused if it names none or its mode does not allow the call
abbrev pub on_path : Caller → Io → ℕ → (ℕ → Bool) → (OpenPath → IoStep) → IoStep
on_path caller io number is_allowed next =
    needs (open_path io caller.process.0 number) E_BPNUM
    (λ opened. refuses (not (is_allowed opened.desc.mode)) E_BMODE (next opened))

-- a call that moves no byte is done at once
abbrev pub unless_nothing : Caller → Io → IoStep → IoStep
unless_nothing caller io next = if caller.regs.y == 0 then done caller.regs io else next

-- the call as its first attempt finds it, for this code, path and count
abbrev pub first_call : ℕ → OpenPath → ℕ → PendingCall
first_call code opened count = record { code = code; path = opened.path; moved = 0; count = count }

-- the call as an attempt finds it: the pending call, or at the first attempt the call for this code, path and count
abbrev pub call_now : Caller → Io → ℕ → OpenPath → ℕ → PendingCall
call_now caller io code opened count = unwrap_or (pending_at io caller.process.0) (first_call code opened count)
