-- F$Load, F$Fork and F$Chain end no process, also where their program is in a file.
use Rattle.std.proofs.Common.{◌≡◌, ℕ, ◌-◌, ◌==◌, not, nat_le, nat_lt, Bool, true, false, Option, Some, None, Result, Ok, Err, List, length, sym, subst}
use Rattle.std.specs.Prelude.{MatchOption}
use Rattle.os9_base.specs.declared.errors.TheConstants.{E_BNAM, E_BPADDR, E_MEMFUL, E_MNF, E_NEMOD, E_PRCFUL}
use Rattle.proc_model.specs.declared.memory.MemoryFault.{MemoryFault}
use Rattle.proc_model.specs.declared.memory.TheConstants.{MOST_LINKS}
use Rattle.proc_model.specs.Memory.{MemoryState}
use Rattle.proc_model.specs.MemoryChanges.{started}
use Rattle.proc_model.specs.Records.{free_process}
use Rattle.proc_model.specs.CallResult.{CallResult, changes, done, ends, needs, refused, refuses, waits}
use Rattle.proc_model.specs.Chain.{begun_anew, f_chain, with_program}
use Rattle.proc_model.specs.Fork.{f_fork, forked_regs, with_child}
use Rattle.proc_model.specs.Processes.{Processes, cells_at, own_at, regs_at, with_memory, with_regs_of}
use Rattle.proc_model.specs.Link.{Mapped, after_link, links_at, mapped_group}
use Rattle.proc_model.specs.ModuleLinks.{Entered, found_entry, without_primary_link}
use Rattle.proc_model.specs.Program.{Program, area_pages, asks_for_program, blocks_of_pages, most_pages, program_kind, is_unreadable, module_name, name_at_x, reads_program}
use Rattle.proc_model.specs.UserBytes.{user_bytes}
use Rattle.file_rules.specs.Files.{Asker, Files}
use Rattle.file_rules.specs.Load.{GoesOnLoaded, LoadAttempts, Loaded, links_first}
use Rattle.file_rules.specs.Program.{ChainAttempts, ForkAttempts, StartsFile, chains, forks, loaded_program, named_program, starts_first}
use Rattle.file_rules.specs.ProgramFile.{ProgramFile}

-- the process does not end
abbrev pub GoesOn : CallResult → Type 0
GoesOn (done t) = Unit {0}
GoesOn (refused number) = Unit {0}
GoesOn (waits t) = Unit {0}
GoesOn (ends status) = ⊥

of-needs : {A : Type 0} (some : Option A) (number : ℕ) (next : A → CallResult) → ((a : A) → GoesOn (next a)) → GoesOn (needs some number next)
of-needs None number next goes = tt
of-needs (Some a) number next goes = goes a

of-refuses : (test : Bool) (number : ℕ) (next : CallResult) → GoesOn next → GoesOn (refuses test number next)
of-refuses true number next goes = tt
of-refuses false number next goes = goes

of-changes : (change : Result MemoryState MemoryFault) (next : MemoryState → CallResult) → ((memory : MemoryState) → GoesOn (next memory)) → GoesOn (changes change next)
of-changes (Ok memory) next goes = goes memory
of-changes (Err fault) next goes = tt

module _ (m : Processes) (p : ℕ) where
  -- ---- a program that is entered

  module _ (next : Program → CallResult) (goes : (program : Program) → GoesOn (next program)) where
    abbrev program-of : Entered → List ℕ → ℕ → Program
    program-of found parameters count = record {
      entered = found;
      pages = area_pages found.entry (regs_at m p).b (length parameters);
      parameters = parameters;
      count = count;
    }

    abbrev with-found : List ℕ → List ℕ → Entered → CallResult
    with-found parameters name found =
        refuses (not (found.entry.info.kind == program_kind)) E_NEMOD (next (program-of found parameters (length name)))

    abbrev with-name : List ℕ → List ℕ → CallResult
    with-name parameters name =
        needs (found_entry m.memory.modules name (regs_at m p).a) E_MNF (with-found parameters name)

    abbrev with-parameters-read : List ℕ → CallResult
    with-parameters-read parameters =
        refuses (not (asks_for_program (regs_at m p).a)) E_NEMOD (needs (module_name (name_at_x m p)) E_BNAM (with-name parameters))

    program-goes : GoesOn (reads_program m p next)
    program-goes =
        of-refuses (is_unreadable (name_at_x m p)) E_BPADDR (needs (user_bytes (cells_at m p) (regs_at m p).u (regs_at m p).y) E_BPADDR with-parameters-read)
        (of-needs (user_bytes (cells_at m p) (regs_at m p).u (regs_at m p).y) E_BPADDR with-parameters-read
        (λ parameters. of-refuses (not (asks_for_program (regs_at m p).a)) E_NEMOD (needs (module_name (name_at_x m p)) E_BNAM (with-name parameters))
        (of-needs (module_name (name_at_x m p)) E_BNAM (with-name parameters)
        (λ name. of-needs (found_entry m.memory.modules name (regs_at m p).a) E_MNF (with-found parameters name)
        (λ found. of-refuses (not (found.entry.info.kind == program_kind)) E_NEMOD (next (program-of found parameters (length name)))
        (goes (program-of found parameters (length name))))))))

  -- ---- how it starts

  abbrev making : Program → ℕ → CallResult
  making program child =
      changes (started m.memory child program.entered.number (blocks_of_pages program.pages))
      (λ memory. done (with_regs_of (with_child m p child program memory) p (forked_regs (regs_at m p) child
      program)))

  forks-go : (program : Program) → GoesOn (forks m p program)
  forks-go program =
      of-needs (free_process m.records) E_PRCFUL (λ child. refuses (nat_lt most_pages program.pages) E_MEMFUL (making program child))
      (λ child. of-refuses (nat_lt most_pages program.pages) E_MEMFUL (making program child)
      (of-changes (started m.memory child program.entered.number (blocks_of_pages program.pages))
      (λ memory. done (with_regs_of (with_child m p child program memory) p (forked_regs (regs_at m p) child
      program))) (λ memory. tt)))

  abbrev beginning : Program → CallResult
  beginning program =
      changes (started m.memory p program.entered.number (blocks_of_pages program.pages)) (λ memory. done (without_primary_link (begun_anew (with_program m p program memory) p program) (own_at m p)))

  chains-go : (program : Program) → GoesOn (chains m p program)
  chains-go program =
      of-refuses (nat_lt most_pages program.pages) E_MEMFUL (beginning program)
      (of-changes (started m.memory p program.entered.number (blocks_of_pages program.pages))
      (λ memory. done (without_primary_link (begun_anew (with_program m p program memory) p program)
      (own_at m p))) (λ memory. tt))

  fork-goes : GoesOn (f_fork m p)
  fork-goes = program-goes (forks m p) forks-go

  chain-goes : GoesOn (f_chain m p)
  chain-goes = program-goes (chains m p) chains-go

-- ---- a program of a file

goes-loaded : (m : Processes) (reading : Result ProgramFile ℕ) (next : ProgramFile → Loaded → CallResult)
    (result : CallResult) → ((file : ProgramFile) (loaded : Loaded) → GoesOn (next file loaded))
    → GoesOnLoaded m reading next result → GoesOn result
goes-loaded m (Err number) next result goes is = subst GoesOn (sym is) tt
goes-loaded m (Ok file) next result goes (Err number, loads, is) = subst GoesOn (sym is) tt
goes-loaded m (Ok file) next result goes (Ok loaded, loads, is) = subst GoesOn (sym is) (goes file loaded)

module _ (m : Processes) (p : ℕ) where
  first-goes : (start : Processes → ℕ → Program → CallResult) → ((n : Processes) (program : Program)
      → GoesOn (start n p program)) → (file : ProgramFile) (loaded : Loaded)
      → GoesOn (starts_first start m p file loaded)
  first-goes start goes file loaded =
      of-refuses (not (loaded.first.entry.info.kind == program_kind)) E_NEMOD (start (with_memory m loaded.memory) p
      (loaded_program m p file loaded.first)) (goes (with_memory m loaded.memory)
      (loaded_program m p file loaded.first))

  links-go : (file : ProgramFile) (loaded : Loaded) → GoesOn (links_first m p file loaded)
  links-go file loaded =
      of-needs (mapped_group loaded.memory p loaded.first.entry.group) E_MEMFUL linking
      (λ mapped. of-refuses (nat_le MOST_LINKS (links_at (own_at m p) mapped.slot)) E_MEMFUL (done (after_link m p loaded.first mapped (file.next - (regs_at m p).x))) tt)
    where
      linking : Mapped → CallResult
      linking mapped =
          refuses (nat_le MOST_LINKS (links_at (own_at m p) mapped.slot)) E_MEMFUL (done (after_link m p loaded.first mapped (file.next - (regs_at m p).x)))

  module _ (asker : Asker) (old : Files) (terms : ℕ) (result : CallResult) (new : Files) where
    pub load-goes : LoadAttempts m asker old terms p result new → GoesOn result
    load-goes it = goes-loaded m it.reading (links_first m p) result links-go it.comes

    pub fork-attempt-goes : ForkAttempts m asker old terms p result new → GoesOn result
    fork-attempt-goes it = by_named (named_program m p) it
      where
        by_named : (named : Option Entered) → MatchOption named (StartsFile forks m asker old terms p result new) (λ named. (result ≡ f_fork m p) × (new ≡ old)) → GoesOn result
        by_named None it = goes-loaded m it.reading (starts_first forks m p) result (first-goes forks (λ n program. forks-go n p program)) it.comes
        by_named (Some entered) (is, same) = subst GoesOn (sym is) (fork-goes m p)

    pub chain-attempt-goes : ChainAttempts m asker old terms p result new → GoesOn result
    chain-attempt-goes it = by_named (named_program m p) it
      where
        by_named : (named : Option Entered) → MatchOption named (StartsFile chains m asker old terms p result new) (λ named. (result ≡ f_chain m p) × (new ≡ old)) → GoesOn result
        by_named None it = goes-loaded m it.reading (starts_first chains m p) result (first-goes chains (λ n program. chains-go n p program)) it.comes
        by_named (Some entered) (is, same) = subst GoesOn (sym is) (chain-goes m p)
