-- The child that F$Fork starts is the one that it names in A, also where its program is of a file.
use Rattle.std.proofs.Common.{◌≡◌, ℕ, ◌==◌, not, nat_lt, Option, Some, None, Result, Ok, Err, sym, ap, ◌∙◌, subst}
use Rattle.std.specs.Prelude.{MatchOption}
use Rattle.os9_base.specs.declared.errors.TheConstants.{E_NEMOD, E_MEMFUL, E_PRCFUL}
use Rattle.proc_model.specs.Memory.{MemoryState}
use Rattle.proc_model.specs.MemoryChanges.{started}
use Rattle.proc_model.specs.Records.{IsLiving, free_process}
use Rattle.proc_model.specs.CallResult.{CallResult, done, refuses, changes}
use Rattle.proc_model.specs.Fork.{f_fork, forked_regs, with_child}
use Rattle.proc_model.specs.Processes.{Processes, regs_at, with_memory, with_regs_of}
use Rattle.proc_model.specs.ModuleLinks.{Entered}
use Rattle.proc_model.specs.Program.{Program, blocks_of_pages, most_pages, program_kind}
use Rattle.file_rules.specs.Files.{Asker, Files}
use Rattle.file_rules.specs.Load.{GoesOnLoaded}
use Rattle.file_rules.specs.Program.{ForkAttempts, StartsFile, forks, loaded_program, named_program, starts_first}
use Rattle.file_rules.specs.ProgramFile.{ProgramFile}
use Rattle.call_laws.proofs.ForkedChildren.{NamesChild, child-named, fork-names, of-changes, of-needs, of-refuses}

module _ (m : Processes) (p : ℕ) (lives : IsLiving m.records p) where
  forks-name : (program : Program) → NamesChild m p (forks m p program)
  forks-name program =
      of-needs m p (free_process m.records) E_PRCFUL (λ child. refuses (nat_lt most_pages program.pages) E_MEMFUL (making child))
      (λ child free. of-refuses m p (nat_lt most_pages program.pages) E_MEMFUL (making child)
      (of-changes m p (started m.memory child program.entered.number (blocks_of_pages program.pages)) (begun child)
      (λ memory. free ∙ ap Some (sym (child-named m p program child memory lives free)))))
    where
      begun : ℕ → MemoryState → CallResult
      begun child memory =
          done (with_regs_of (with_child m p child program memory) p (forked_regs (regs_at m p) child program))

      making : ℕ → CallResult
      making child =
          changes (started m.memory child program.entered.number (blocks_of_pages program.pages)) (begun child)

module _ (m : Processes) (p : ℕ) (lives : IsLiving m.records p) where
  goes-name : (reading : Result ProgramFile ℕ) (result : CallResult) → GoesOnLoaded m reading (starts_first forks m p) result → NamesChild m p result
  goes-name (Err number) result is = subst (NamesChild m p) (sym is) tt
  goes-name (Ok file) result (Err number, loads, is) = subst (NamesChild m p) (sym is) tt
  goes-name (Ok file) result (Ok loaded, loads, is) =
      subst (NamesChild m p) (sym is)
      (of-refuses m p (not (loaded.first.entry.info.kind == program_kind)) E_NEMOD
      (forks (with_memory m loaded.memory) p (loaded_program m p file loaded.first))
      (forks-name (with_memory m loaded.memory) p lives (loaded_program m p file loaded.first)))

  pub fork-attempt-names : (asker : Asker) (old : Files) (terms : ℕ) (result : CallResult) (new : Files) → ForkAttempts m asker old terms p result new → NamesChild m p result
  fork-attempt-names asker old terms result new it = by_named (named_program m p) it
    where
      by_named : (named : Option Entered) → MatchOption named (StartsFile forks m asker old terms p result new) (λ named. (result ≡ f_fork m p) × (new ≡ old)) → NamesChild m p result
      by_named None it = goes-name it.reading result it.comes
      by_named (Some entered) (is, same) = subst (NamesChild m p) (sym is) (fork-names m p lives)
