-- What an attempt of a call on paths leaves of the other processes.
use Rattle.std.proofs.Common.{ℕ, refl, inl}
use Rattle.proc_model.specs.MemoryChanges.{stored, writes_from}
use Rattle.proc_model.specs.Processes.{Processes}
use Rattle.io_model.specs.Attempts.{result_by}
use Rattle.io_model.specs.Step.{IoEffect, IoEnd, answers, fails, keeps}
use Rattle.machine_model.specs.declared.ends.EventEnd.TheVariants.{Ran, Waits}
use Rattle.call_laws.proofs.MemoryKept.{itself-written, kept-written}
use Rattle.call_laws.proofs.OthersKept.{changed-self}
use Rattle.call_laws.proofs.CallsKept.{AttemptLeft, left-done, left-refused, left-waits, regs-changed}

-- a call on paths: it stores bytes where the process sees them, and may change the registers
pub by-end : (m : Processes) (p : ℕ) (effect : IoEffect) (end : IoEnd) → AttemptLeft m p (result_by end m p effect)
by-end m p effect (answers regs) =
    left-done m p _ (regs-changed m p Ran (stored m.memory p effect.at effect.bytes) regs
    (record {
      kept = kept-written m.memory p (writes_from effect.at effect.bytes);
      itself = itself-written
          m.memory p (writes_from effect.at effect.bytes);
    }) refl)
by-end m p effect (fails number) = left-refused m p number
by-end m p effect (keeps kept) =
    left-waits m p _ (changed-self m p Waits (stored m.memory p effect.at effect.bytes) m.records m.own
    (kept-written m.memory p (writes_from effect.at effect.bytes))
    (itself-written m.memory p (writes_from effect.at effect.bytes)) (inl refl) (λ q differ. refl)
    (λ q differ. refl) refl)
