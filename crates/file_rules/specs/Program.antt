-- F$Fork and F$Chain of a program that they load (System Programmer's Manual, F$Fork and F$Chain). If the bytes at X
-- are one name, and a module with that name and the type and language in A is entered, they start that module. Else X
-- is a path list, and its file is loaded as F$Load does. The program is the file's first module, whose one link is the
-- process's. If the call is refused then, nothing of the file is in memory.
-- Errors, in this order: E$BPAddr; E$NEMod (of A); those of the file and of F$Load except for its slots; E$NEMod (of
-- the module); then those of the start: E$PrcFul (of F$Fork), E$MemFul, E$NoRAM.
use Rattle.std.specs.Prelude.{◌≡◌, ℕ, ◌-◌, ◌==◌, nat_lt, not, is_none, Option, unwrap_or, option_and_then, Result, List, [], MatchOption}
use Rattle.os9_base.specs.declared.errors.TheConstants.{E_BPADDR, E_NEMOD, E_MEMFUL, E_PRCFUL}
use Rattle.proc_model.specs.MemoryChanges.{started}
use Rattle.proc_model.specs.Records.{free_process}
use Rattle.proc_model.specs.CallResult.{CallResult, done, needs, refuses, changes}
use Rattle.proc_model.specs.Chain.{f_chain, begun_anew, with_program}
use Rattle.proc_model.specs.Fork.{f_fork, with_child, forked_regs}
use Rattle.proc_model.specs.Processes.{Processes, own_at, regs_at, cells_at, with_memory, with_regs_of}
use Rattle.proc_model.specs.ModuleLinks.{Entered, found_entry, without_primary_link}
use Rattle.proc_model.specs.Program.{Program, module_name, name_at_x, program_kind, asks_for_program, area_pages, most_pages, blocks_of_pages}
use Rattle.proc_model.specs.UserBytes.{user_bytes}
use Rattle.file_rules.specs.Files.{Files, Asker}
use Rattle.file_rules.specs.Load.{Loaded, GoesOnLoaded}
use Rattle.file_rules.specs.ProgramFile.{ProgramFile, program_file, ReadsProgram}
use Rattle.file_rules.specs.Step.{Step, refuses as step_refuses}

-- ---- which program

-- the entered module that the registers of a process name, if any
abbrev pub named_program : Processes → ℕ → Option Entered
named_program s p =
    option_and_then (λ name. found_entry s.memory.modules name (regs_at s p).a)
    (module_name (name_at_x s p))

-- the parameters of a program that a process starts, if all their bytes are in named slots
abbrev pub parameters_of : Processes → ℕ → Option (List ℕ)
parameters_of s p = user_bytes (cells_at s p) (regs_at s p).u (regs_at s p).y

-- the tests of the calls on their registers after a path list was read: the parameters, and A
abbrev pub tests_program : Processes → ℕ → Step ProgramFile → Step ProgramFile
tests_program s p step =
    step_refuses (is_none (parameters_of s p)) E_BPADDR
    (step_refuses (not (asks_for_program (regs_at s p).a)) E_NEMOD step)

-- the program of a file in memory, with the parameters of the process that starts it
abbrev pub loaded_program : Processes → ℕ → ProgramFile → Entered → Program
loaded_program s p file first = record {
  entered = first;
  pages = area_pages first.entry (regs_at s p).b (regs_at s p).y;
  parameters = unwrap_or (parameters_of s p) [];
  count = file.next - (regs_at s p).x;
}

-- ---- its start

-- a child of a process starts the program
abbrev pub forks : Processes → ℕ → Program → CallResult
forks s p program =
    needs (free_process s.records) E_PRCFUL
    (λ child. refuses (nat_lt most_pages program.pages) E_MEMFUL
    (changes (started s.memory child program.entered.number (blocks_of_pages program.pages))
    (λ memory.
    done (with_regs_of (with_child s p child program memory) p (forked_regs (regs_at s p) child program)))))

-- a process begins anew with the program
abbrev pub chains : Processes → ℕ → Program → CallResult
chains s p program =
    refuses (nat_lt most_pages program.pages) E_MEMFUL
    (changes (started s.memory p program.entered.number (blocks_of_pages program.pages))
    (λ memory.
    done (without_primary_link (begun_anew (with_program s p program memory) p program) (own_at s p))))

-- the file's first module is started in the memory that has the file
abbrev pub starts_first : (Processes → ℕ → Program → CallResult) → Processes → ℕ → ProgramFile → Loaded → CallResult
starts_first start s p file loaded =
    refuses (not (loaded.first.entry.info.kind == program_kind)) E_NEMOD
    (start (with_memory s loaded.memory) p (loaded_program s p file loaded.first))

-- ---- attempts

-- an attempt of a process that starts a program of a file
pub record StartsFile (start : Processes → ℕ → Program → CallResult) (s : Processes) (asker : Asker) (old : Files)
    (terms p : ℕ)
    (result : CallResult) (new : Files) : Type 0 where
  pub reading : Result ProgramFile ℕ
  pub reads : ReadsProgram (program_file asker old terms (tests_program s p)) reading old new
  pub comes : GoesOnLoaded s reading (starts_first start s p) result

-- an attempt of F$Fork; the directories and paths of the child are given to it separately
abbrev pub ForkAttempts : Processes → Asker → Files → ℕ → ℕ → CallResult → Files → Type 0
ForkAttempts s asker old terms p result new =
    MatchOption (named_program s p) (StartsFile forks s asker old terms p result new)
    (λ named. (result ≡ f_fork s p) × (new ≡ old))

-- an attempt of F$Chain
abbrev pub ChainAttempts : Processes → Asker → Files → ℕ → ℕ → CallResult → Files → Type 0
ChainAttempts s asker old terms p result new =
    MatchOption (named_program s p) (StartsFile chains s asker old terms p result new)
    (λ named. (result ≡ f_chain s p) × (new ≡ old))
