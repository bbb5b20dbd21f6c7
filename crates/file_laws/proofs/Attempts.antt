-- Every attempt of a call on a path, a file or a directory, and every load, keeps paths and directories on what they
-- are on.
use Rattle.std.proofs.Common.{◌≡◌, ℕ, Option, Some, None, List, length, sym, subst, inl, inr, ◌⊎◌}
use Rattle.std.specs.Prelude.{MatchOption, Result}
use Rattle.os9_base.specs.Cells.{Cells}
use Rattle.os9_base.specs.declared.call.CallEnd.{CallEnd}
use Rattle.os9_base.specs.declared.registers.Regs.{Regs}
use Rattle.os9_base.specs.declared.registers.TimePacket.{TimePacket}
use Rattle.os9_outer.specs.TerminalState.{TerminalState}
use Rattle.proc_model.specs.CallResult.{CallResult}
use Rattle.proc_model.specs.Processes.{Processes}
use Rattle.proc_model.specs.ModuleLinks.{Entered}
use Rattle.proc_model.specs.Chain.{f_chain}
use Rattle.proc_model.specs.Fork.{f_fork}
use Rattle.proc_model.specs.Program.{Program}
use Rattle.io_model.specs.Attempts.{pending_in}
use Rattle.io_model.specs.Dup.{i_dup}
use Rattle.io_model.specs.Io.{with_call}
use Rattle.file_rules.specs.Attempts.{AskerAttempts, FileAttempts, asker_of, file_step, files_after}
use Rattle.file_rules.specs.Files.{Files, Asker, KeepsDriveFaults, with_io}
use Rattle.file_rules.specs.Load.{LoadAttempts}
use Rattle.file_rules.specs.Program.{ChainAttempts, ForkAttempts, StartsFile, chains, forks, named_program}
use Rattle.file_rules.specs.ProgramFile.{ProgramFile, ReadingIsBroken, ReadsProgram, reading_of}
use Rattle.file_rules.specs.Step.{FileEffect, FileDoes, Step}
use Rattle.file_rules.specs.declared.path_call.PathCall.{PathCall}
use Rattle.file_rules.specs.declared.path_call.PathCall.TheVariants as Call
use Rattle.file_laws.specs.Kinds.{AreKinds}
use Rattle.file_laws.specs.Mounted.{KeepsMountedDrives}
use Rattle.file_rules.specs.Locking.{records_after}
use Rattle.file_laws.proofs.Counts.{Stands, many-drives, many-io, many-same, many-then, none-many, stands-records}
use Rattle.file_laws.proofs.Deleting.{delete-kept, deletx-kept}
use Rattle.file_laws.proofs.Kept.{kinds-drives, kinds-io}
use Rattle.file_laws.proofs.Making.{create-kept, makdir-kept}
use Rattle.file_laws.proofs.OnFiles.{f_perr-kept, i_close-kept, i_getstt-kept, i_read-kept, i_readln-kept, i_seek-kept, i_setstt-kept, i_write-kept, i_writln-kept}
use Rattle.file_laws.proofs.Opening.{chgdir-kept, open-kept}
use Rattle.file_laws.proofs.Paths.{dup-leaves}
use Rattle.file_laws.proofs.Steps.{Kept, does-kept, io-kept}

module _ (asker : Asker) (files : Files) (kinds : AreKinds files) where
  step-kept : (call : PathCall) (terms : ℕ) → Kept asker files (file_step call asker files terms)
  step-kept Call.Dup terms =
      io-kept asker files kinds (i_dup asker.caller files.io) (dup-leaves files asker.caller files.io kinds.paths)
  step-kept Call.Create terms = create-kept asker files kinds terms
  step-kept Call.Open terms = open-kept asker files kinds terms
  step-kept Call.MakDir terms = makdir-kept asker files kinds terms
  step-kept Call.ChgDir terms = chgdir-kept asker files kinds terms
  step-kept Call.Delete terms = delete-kept asker files kinds terms
  step-kept Call.DeletX terms = deletx-kept asker files kinds terms
  step-kept Call.Seek terms = i_seek-kept asker files kinds
  step-kept Call.Read terms = i_read-kept asker files kinds
  step-kept Call.Write terms = i_write-kept asker files kinds
  step-kept Call.ReadLn terms = i_readln-kept asker files kinds
  step-kept Call.WritLn terms = i_writln-kept asker files kinds
  step-kept Call.GetStt terms = i_getstt-kept asker files kinds
  step-kept Call.SetStt terms = i_setstt-kept asker files kinds
  step-kept Call.Close terms =
      i_close-kept asker files kinds
  step-kept Call.PErr terms = f_perr-kept asker files kinds

  pub does-stands : (call : PathCall) (effect : FileEffect) (p : ℕ) (old new : List TerminalState)
      → FileDoes (file_step call asker files (length old)) asker files effect old new
      → Stands files (files_after p effect)
  does-stands call effect p old new does =
      let left : Stands files effect.files = does-kept asker files kinds (file_step call asker files (length old)) effect old new (step-kept call (length old)) does in
      let waits = with_io effect.files (with_call effect.files.io p (pending_in effect.end)) in
      stands-records files kinds waits (records_after effect.end effect.files.records p) (record {
        kinds = kinds-io effect.files left.kinds (with_call effect.files.io p (pending_in effect.end)) left.kinds.paths;
        many = many-then files effect.files waits left.many (many-io effect.files (with_call effect.files.io p (pending_in effect.end)));
      })

pub attempt-stands : (call : PathCall) (processes : Processes) (files : Files) (now : TimePacket) (p : ℕ)
    (result : CallResult) (new : Files) (old_terms new_terms : List TerminalState) → FileAttempts call processes files now
    p result new old_terms new_terms → AreKinds files → Stands files new
attempt-stands call processes files now p result new old_terms new_terms it kinds =
    subst (Stands files) (sym it.state) (does-stands (asker_of processes p now) files kinds call it.effect p old_terms new_terms it.does)

pub asked-stands : (call : PathCall) (asker : Asker) (files : Files) (end : CallEnd) (regs : Regs) (cells : Cells)
    (new : Files) (old_terms new_terms : List TerminalState) → AskerAttempts call asker files end regs cells new
    old_terms new_terms → AreKinds files → Stands files new
asked-stands call asker files end regs cells new old_terms new_terms it kinds =
    subst (Stands files) (sym it.state) (does-stands asker files kinds call it.effect asker.caller.process.0 old_terms new_terms it.does)

-- ---- loads

-- what a reading of a file leaves
module _ (step : Step ProgramFile) (reading : Result ProgramFile ℕ) (old new : Files) (it : ReadsProgram step reading old new) where
  reads-kinds : AreKinds old → AreKinds new
  reads-kinds kinds = subst AreKinds (sym it.state) (kinds-drives old kinds it.drives)

  reads-many : KeepsMountedDrives old new
  reads-many = subst (KeepsMountedDrives old) (sym it.state) (many-drives old it.drives (by_outcome it.outcome))
    where
      by_outcome : ((reading ≡ reading_of step) × KeepsDriveFaults old.drives it.drives) ⊎ ReadingIsBroken step reading old.drives it.drives → length it.drives ≡ length old.drives
      by_outcome (inl (is, none)) = none-many old.drives it.drives none
      by_outcome (inr broken) = broken.failed.as_many

module _ (processes : Processes) (asker : Asker) (old : Files) (terms p : ℕ) (result : CallResult) (new : Files) where
  pub load-kinds : LoadAttempts processes asker old terms p result new → AreKinds old → AreKinds new
  load-kinds it kinds = reads-kinds _ it.reading old new it.reads kinds

  pub load-many : LoadAttempts processes asker old terms p result new → KeepsMountedDrives old new
  load-many it = reads-many _ it.reading old new it.reads

  -- what is left where a program of a file is started, or one that is entered
  abbrev Starts : (Processes → ℕ → Program → CallResult) → CallResult → Option Entered → Type 0
  Starts start named entered = MatchOption entered (StartsFile start processes asker old terms p result new) (λ entered. (result ≡ named) × (new ≡ old))

  starts-kinds : (start : Processes → ℕ → Program → CallResult) (named : CallResult) (entered : Option Entered) → Starts start named entered → AreKinds old → AreKinds new
  starts-kinds start named None it kinds = reads-kinds _ it.reading old new it.reads kinds
  starts-kinds start named (Some entered) (is, same) kinds = subst AreKinds (sym same) kinds

  starts-many : (start : Processes → ℕ → Program → CallResult) (named : CallResult) (entered : Option Entered) → Starts start named entered → KeepsMountedDrives old new
  starts-many start named None it = reads-many _ it.reading old new it.reads
  starts-many start named (Some entered) (is, same) = subst (KeepsMountedDrives old) (sym same) (many-same old)

  pub fork-kinds : ForkAttempts processes asker old terms p result new → AreKinds old → AreKinds new
  fork-kinds it = starts-kinds forks (f_fork processes p) (named_program processes p) it

  pub fork-many : ForkAttempts processes asker old terms p result new → KeepsMountedDrives old new
  fork-many it = starts-many forks (f_fork processes p) (named_program processes p) it

  pub chain-kinds : ChainAttempts processes asker old terms p result new → AreKinds old → AreKinds new
  chain-kinds it = starts-kinds chains (f_chain processes p) (named_program processes p) it

  pub chain-many : ChainAttempts processes asker old terms p result new → KeepsMountedDrives old new
  chain-many it = starts-many chains (f_chain processes p) (named_program processes p) it
