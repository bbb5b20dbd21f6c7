-- Attempts of calls: each call by its code, and the result of an attempt (System Programmer's Manual, "System calls").
use Rattle.std.specs.Prelude.{ℕ, ◌+◌, ◌-◌, ◌%◌, true, false, None}
use Rattle.os9_base.specs.declared.call.CallEnd.{CallEnd}
use Rattle.os9_base.specs.declared.call.CallEnd.TheVariants.{Done, Error, Wait, Ended}
use Rattle.os9_base.specs.declared.registers.Regs.{Regs}
use Rattle.proc_model.specs.Records.{with_regs, with_waiting}
use Rattle.proc_model.specs.declared.proc_call.ProcCall.{ProcCall}
use Rattle.proc_model.specs.declared.proc_call.ProcCall.TheVariants as Call
use Rattle.proc_model.specs.Chain.{f_chain}
use Rattle.proc_model.specs.CmpNam.{f_cmpnam}
use Rattle.proc_model.specs.Crc.{f_crc}
use Rattle.proc_model.specs.End.{ended}
use Rattle.proc_model.specs.Exit.{f_exit}
use Rattle.proc_model.specs.Fork.{f_fork}
use Rattle.proc_model.specs.Icpt.{f_icpt}
use Rattle.proc_model.specs.Id.{f_id}
use Rattle.proc_model.specs.Processes.{Processes, own_at, regs_at, with_records, with_own}
use Rattle.proc_model.specs.Link.{f_link}
use Rattle.proc_model.specs.Mem.{f_mem}
use Rattle.proc_model.specs.PrsNam.{f_prsnam}
use Rattle.proc_model.specs.CallResult.{CallResult, done, refused, waits, ends}
use Rattle.proc_model.specs.SPrior.{f_sprior}
use Rattle.proc_model.specs.SUser.{f_suser}
use Rattle.proc_model.specs.Send.{f_send}
use Rattle.proc_model.specs.Sleep.{f_sleep}
use Rattle.proc_model.specs.UnLink.{f_unlink}
use Rattle.proc_model.specs.UnLoad.{f_unload}
use Rattle.proc_model.specs.Wait.{f_wait}

-- an attempt of a call by a process
abbrev pub attempted : ProcCall → Processes → ℕ → CallResult
attempted Call.Link s p = f_link s p
attempted Call.UnLink s p = f_unlink s p
attempted Call.Fork s p = f_fork s p
attempted Call.Wait s p = f_wait s p
attempted Call.Chain s p = f_chain s p
attempted Call.Exit s p = f_exit s p
attempted Call.Mem s p = f_mem s p
attempted Call.Send s p = f_send s p
attempted Call.Icpt s p = f_icpt s p
attempted Call.Sleep s p = f_sleep s p
attempted Call.Id s p = f_id s p
attempted Call.SPrior s p = f_sprior s p
attempted Call.PrsNam s p = f_prsnam s p
attempted Call.CmpNam s p = f_cmpnam s p
attempted Call.Crc s p = f_crc s p
attempted Call.SUser s p = f_suser s p
attempted Call.UnLoad s p = f_unload s p

-- the condition codes with carry clear, and with carry set
abbrev pub carry_clear : ℕ → ℕ
carry_clear cc = cc - cc % 2

abbrev pub carry_set : ℕ → ℕ
carry_set cc = cc - cc % 2 + 1

-- the registers after a completed call: carry is clear
abbrev pub done_regs : Regs → Regs
done_regs regs = record regs { cc = carry_clear regs.cc }

-- the registers after a refused call: carry is set, and B is the number
abbrev pub refused_regs : Regs → ℕ → Regs
refused_regs regs number = record regs { cc = carry_set regs.cc; b = number }

-- the state in which a process has no call any more, and goes on with these registers
abbrev pub goes_on : Processes → ℕ → Regs → Processes
goes_on s p regs =
    with_own (with_records s (with_waiting (with_regs s.records p regs) p false)) p
    (record (own_at s p) { call = None; until = None; woken = false })

-- the state in which a process waits
abbrev pub waiting : Processes → ℕ → Processes
waiting s p = with_records s (with_waiting s.records p true)

-- the state after an attempt of a process
abbrev pub after_attempt : Processes → ℕ → CallResult → Processes
after_attempt s p (done t) = goes_on t p (done_regs (regs_at t p))
after_attempt s p (refused number) = goes_on s p (refused_regs (regs_at s p) number)
after_attempt s p (waits t) = waiting t p
after_attempt s p (ends status) = ended s p status

-- how an attempt ended
abbrev pub attempt_end : CallResult → CallEnd
attempt_end (done t) = Done
attempt_end (refused number) = Error number
attempt_end (waits t) = Wait
attempt_end (ends status) = Ended
