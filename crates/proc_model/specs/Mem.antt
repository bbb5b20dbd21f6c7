-- F$Mem: sets the size of the data area (System Programmer's Manual, F$Mem).
-- Takes the size in bytes in D, or 0 to ask for the current size. Returns the size, rounded up to pages, in D and Y.
-- Blocks that are not needed any more are given back.
-- Errors: E$MemFul (more than 57,344 bytes, or a slot is named), E$NoRAM.
use Rattle.std.specs.Prelude.{ℕ, ◌-◌, ◌*◌, ◌==◌, nat_lt, Result, Ok, if◌then◌else◌}
use Rattle.os9_base.specs.declared.errors.TheConstants.{E_MEMFUL}
use Rattle.os9_base.specs.declared.registers.Regs.{Regs}
use Rattle.proc_model.specs.declared.memory.MemoryFault.{MemoryFault}
use Rattle.proc_model.specs.Memory.{MemoryState, map_at}
use Rattle.proc_model.specs.MemoryChanges.{grown, cut}
use Rattle.proc_model.specs.Processes.{Processes, own_at, regs_at, with_memory, with_regs_of, with_own}
use Rattle.proc_model.specs.Program.{page_count, most_pages, blocks_of_pages}
use Rattle.proc_model.specs.CallResult.{CallResult, done, refuses, changes}
use Rattle.proc_model.specs.UserBytes.{d_of, with_d}

-- the registers with a size in bytes as the result
abbrev pub size_regs : Regs → ℕ → Regs
size_regs regs size = record (with_d regs size) { y = size }

-- the memory in which the data area of a process has this number of blocks
abbrev pub resized : MemoryState → ℕ → ℕ → Result MemoryState MemoryFault
resized m p count =
    if nat_lt (map_at m p).low count then grown m p (count - (map_at m p).low) else Ok (cut m p count)

-- the state in which the data area of a process has this size in bytes
abbrev pub with_size : Processes → ℕ → ℕ → MemoryState → Processes
with_size s p size memory =
    with_regs_of (with_own (with_memory s memory) p (record (own_at s p) { size = size })) p
    (size_regs (regs_at s p) size)

-- the data area gets this number of pages
abbrev pub sets_pages : Processes → ℕ → ℕ → CallResult
sets_pages s p pages =
    refuses (nat_lt most_pages pages) E_MEMFUL
    (changes (resized s.memory p (blocks_of_pages pages)) (λ memory. done (with_size s p (256 * pages) memory)))

abbrev pub f_mem : Processes → ℕ → CallResult
f_mem s p =
    if d_of (regs_at s p) == 0
    then done (with_regs_of s p (size_regs (regs_at s p) (own_at s p).size))
    else sets_pages s p (page_count (d_of (regs_at s p)))
