-- I$GetStt of a file or a directory.
use Rattle.std.proofs.Common.{◌≡◌, ℕ, ◌∙◌, Bool, true, false, Option, Some, None, List, [], length, take, min, nat_le, Result, Err, refl, ap, sym, subst, is_some, is_none, IsSome}
use Rattle.os9_base.specs.declared.call.CallEnd.{CallEnd}
use Rattle.os9_base.specs.declared.errors.TheConstants.{E_BPADDR, E_EOF}
use Rattle.os9_base.specs.declared.registers.Regs.{Regs}
use Rattle.os9_base.specs.declared.registers.TimePacket.{TimePacket}
use Rattle.os9_outer.specs.TerminalState.{TerminalState}
use Rattle.proc_model.specs.Processes.{Processes, cells_at, regs_at, with_memory, with_regs_of}
use Rattle.proc_model.specs.UserBytes.{user_bytes}
use Rattle.proc_model.specs.MemoryChanges.{stored}
use Rattle.io_model.specs.declared.path.Desc.{Desc}
use Rattle.io_model.specs.Status.{options}
use Rattle.proc_state.specs.Tie.{RepresentsProcesses}
use Rattle.proc_state.specs.declared.state.ProcState.{ProcState}
use Rattle.rbf_model.specs.File.{DiskFile}
use Rattle.rbf_access.specs.Faults.{file_error, file_fault}
use Rattle.rbf_access.specs.Reading.{IsFdOf}
use Rattle.rbf_access.specs.declared.faults.FileFault.{FileFault}
use Rattle.rbf_access.specs.declared.faults.FileFault.TheVariants.{Device, NoCluster, TooManyRuns}
use Rattle.rbf_access.specs.declared.volume.Volume.{Volume}
use Rattle.rbf_sector.specs.declared.fd.Fd.{Fd}
use Rattle.file_rules.specs.Attempts.{asker_of}
use Rattle.file_rules.specs.Files.{Files, OpenFile}
use Rattle.file_rules.specs.Status.{asked_bytes, descriptor_front, gets_descriptor, gets_end, gets_size, long_regs}
use Rattle.file_rules.specs.Step.{FileEffect, FileStep, comes, deed_of, done, leaves_so, reaches, refuses, refuses_so, stores}
use Rattle.lock_model.specs.declared.place.FilePlace.{FilePlace}
use Rattle.file_drives.specs.Drives.{DriveView}
use Rattle.file_drives.specs.Mounted.{OnDisks, ReadsFile}
use Rattle.file_state.proofs.CountLemmas.{called-read}
use Rattle.file_state.proofs.ReachedLemmas.{file-there, has-read}
use Rattle.file_state.specs.Counted.{CalledAtMost}
use Rattle.file_state.specs.Ends.{EndsFileAttempt}
use Rattle.file_state.specs.Reached.{HasReadDrive}
use Rattle.file_state.specs.Tie.{RepresentsFiles}
use Rattle.file_state.specs.declared.state.FileState.{FileState}
use Rattle.file_state.specs.declared.state.OpenFile.{OpenFile as KernelFile}
use Rattle.file_status.proofs.StandLemmas.{ends-refused, ends-storing, reached-answers, reached-fails-reading, reached-refuses, with_disks}
use Rattle.file_status.specs.Status.{RepresentsOpenFile, gets_options, uncalled}

-- ---- a test that refuses

-- it does not
pub passes : (most : ℕ) (m : Processes) (files : Files) (now : TimePacket) (p : ℕ) (end : CallEnd) (processes : ProcState)
    (new : FileState) (before after : List DriveView) (terms : List TerminalState) (test : Bool) (number : ℕ)
    (inner : FileStep) → test ≡ false → EndsFileAttempt inner most m files now p end processes new before after terms
    → EndsFileAttempt (refuses test number inner) most m files now p end processes new before after terms
passes most m files now p end processes new before after terms test number inner is ends = subst
    (λ t. EndsFileAttempt (refuses t number inner) most m files now p end processes new before after terms) (sym is) ends

-- it does
pub stops : (most : ℕ) (m : Processes) (files : Files) (now : TimePacket) (p : ℕ) (end : CallEnd) (processes : ProcState)
    (new : FileState) (views : List DriveView) (terms : List TerminalState) (state : FileState) (test : Bool)
    (number : ℕ) (inner : FileStep) → test ≡ true → end ≡ CallEnd.Error number → RepresentsProcesses processes m
    → RepresentsFiles state views files → new ≡ uncalled state p → EndsFileAttempt (refuses test number inner) most m files now p end
    processes new views views terms
stops most m files now p end processes new views terms state test number inner is is_end tied stands new_is =
    subst (λ t. EndsFileAttempt (refuses t number inner) most m files now p end processes new views views terms) (sym is)
    (ends-refused (refuses true number inner) most m files now p end processes state new views terms number refl is_end tied stands new_is)

-- whether bytes are there
pub there-none : (bytes : Option (List ℕ)) → false ≡ is_some bytes → is_none bytes ≡ true
there-none None h = refl
there-none (Some bytes) h = absurd (cc h)

pub there-some : (bytes : Option (List ℕ)) → true ≡ is_some bytes → is_none bytes ≡ false
there-some None h = absurd (cc h)
there-some (Some bytes) h = refl

-- ---- SS.Opt

module _ (m : Processes) (files : Files) (now : TimePacket) (p : ℕ) (end : CallEnd) (processes : ProcState)
    (state new : FileState) (views : List DriveView) (terms : List TerminalState) (it : OpenFile) (regs : Regs)
    (same : regs ≡ regs_at m p) (stands : RepresentsFiles state views files) (new_is : new ≡ uncalled state p) where
  pub options-stopped : false ≡ is_some (user_bytes (cells_at m p) regs.x 32) → end ≡ CallEnd.Error E_BPADDR
      → RepresentsProcesses processes m → EndsFileAttempt (gets_options (asker_of m p now) files it) 1 m files now p end processes new
      views views terms
  options-stopped none is_end tied =
      stops 1 m files now p end processes new views terms state
      (is_none (user_bytes (cells_at m p) (regs_at m p).x 32)) E_BPADDR
      (comes (leaves_so (stores (regs_at m p).x (options it.opened.desc.target) (regs_at m p) files)))
      (there-none _ (subst (λ (r : Regs). false ≡ is_some (user_bytes (cells_at m p) r.x 32)) same none)) is_end tied stands new_is

  pub options-told : true ≡ is_some (user_bytes (cells_at m p) regs.x 32) → end ≡ CallEnd.Done → RepresentsProcesses processes
      (with_regs_of (with_memory m (stored m.memory p regs.x (options it.opened.desc.target))) p regs)
      → EndsFileAttempt (gets_options (asker_of m p now) files it) 1 m files now p end processes new views views terms
  options-told there is_end tied =
      let effect : FileEffect = stores (regs_at m p).x (options it.opened.desc.target) (regs_at m p) files in
      passes 1 m files now p end processes new views views terms (is_none (user_bytes (cells_at m p) (regs_at m p).x 32)) E_BPADDR (comes (leaves_so effect))
      (there-some _ (subst (λ (r : Regs). true ≡ is_some (user_bytes (cells_at m p) r.x 32)) same there))
      (ends-storing (comes (leaves_so effect)) 1 m files now p end processes state new views terms (regs_at m p).x (options it.opened.desc.target) (regs_at m p) refl is_end
      (subst (λ (r : Regs). RepresentsProcesses processes (with_regs_of (with_memory m (stored m.memory p r.x (options it.opened.desc.target))) p r)) same tied) stands new_is)

-- ---- what is read of the descriptor

module _ (m : Processes) (files : Files) (now : TimePacket) (p : ℕ) (end : CallEnd) (processes : ProcState)
    (state new : FileState) (before after : List DriveView) (terms : List TerminalState)
    (disks : List (Option Volume)) (opened : KernelFile) (it : OpenFile) (stands : RepresentsFiles state before files)
    (open_is : RepresentsOpenFile files opened it) (new_is : new ≡ uncalled (with_disks state disks) p) where
  abbrev Reading : Option ℕ → Type 0
  Reading fault = ReadsFile opened.place fault (λ v file. 1) state.disks before disks after

  reads : (fault : Option ℕ) → Reading fault → HasReadDrive fault opened.place.drive files (with_disks state disks) before after
  reads fault read =
      has-read state (with_disks state disks) before after files opened.place it.file fault (λ v file. 1) stands
      (file-there files opened.place it.volume it.file open_is.volume_is open_is.file_is) refl refl refl read

  calls : (fault : Option ℕ) → Reading fault → CalledAtMost 1 before after
  calls fault read =
      called-read state (with_disks state disks) before after files opened.place it.volume it.file fault (λ v file. 1) stands open_is.volume_is open_is.file_is read

  at-place : (inner : FileStep) → EndsFileAttempt (reaches opened.place.drive inner) 1 m files now p end processes new before
      after terms → EndsFileAttempt (reaches it.place.drive inner) 1 m files now p end processes new before after terms
  at-place inner ends = subst (λ (place : FilePlace). EndsFileAttempt (reaches place.drive inner) 1 m files now p end processes new before after terms) (sym open_is.place_is) ends

  -- the drive failed
  pub reading-fails : (inner : FileStep) (effect : FileEffect) (fault : FileFault) → deed_of inner files ≡ leaves_so
      effect → let result : Result Fd FileFault = Err fault in Reading (file_fault result)
      → IsSome (file_fault result) → end ≡ CallEnd.Error (file_error fault) → RepresentsProcesses processes m
      → EndsFileAttempt (reaches it.place.drive inner) 1 m files now p end processes new before after terms
  reading-fails inner effect (Device number) deed read is_fault is_end tied =
      at-place inner
      (reached-fails-reading 1 m files now p end processes (with_disks state disks) new before after terms
      opened.place.drive it.volume open_is.volume_is new_is (calls (Some number) read) inner effect number deed
      (reads (Some number) read) is_end tied)
  reading-fails inner effect NoCluster deed read is_fault is_end tied = absurd (cc is_fault)
  reading-fails inner effect TooManyRuns deed read is_fault is_end tied = absurd (cc is_fault)

  -- it was read
  pub reading-answers : (inner : FileStep) (at : ℕ) (bytes : List ℕ) (regs : Regs) → deed_of inner files ≡ leaves_so
      (stores at bytes regs files) → Reading None → end ≡ CallEnd.Done → RepresentsProcesses processes
      (with_regs_of (with_memory m (stored m.memory p at bytes)) p regs) → EndsFileAttempt (reaches it.place.drive inner) 1 m
      files now p end processes new before after terms
  reading-answers inner at bytes regs deed read is_end tied =
      at-place inner
      (reached-answers 1 m files now p end processes (with_disks state disks) new before after terms
      opened.place.drive it.volume open_is.volume_is new_is (calls None read) inner at bytes regs deed
      (reads None read) is_end tied)

  -- ---- SS.Size

  pub size-told : (regs : Regs) (fd : Fd) → regs ≡ regs_at m p → OnDisks state.disks before opened.place
      (λ v file. IsFdOf file fd) → Reading None → end ≡ CallEnd.Done → RepresentsProcesses processes
      (with_regs_of m p (long_regs regs fd.size)) → EndsFileAttempt (gets_size (asker_of m p now) files it) 1 m files now p end
      processes new before after terms
  size-told regs fd same shown read is_end tied =
      let size : fd.size ≡ length it.file.contents = (shown files.volumes it.volume it.file stands.mounted open_is.volume_is open_is.file_is).size_is in
      reading-answers (done (long_regs (regs_at m p) (length it.file.contents)) files) 0 [] (long_regs (regs_at m p) (length it.file.contents)) refl read is_end
      (subst (λ n. RepresentsProcesses processes (with_regs_of m p (long_regs (regs_at m p) n))) size
      (subst (λ (r : Regs). RepresentsProcesses processes (with_regs_of m p (long_regs r fd.size))) same tied))

  pub size-failed : (fault : FileFault) → let result : Result Fd FileFault = Err fault in Reading (file_fault result)
      → IsSome (file_fault result) → end ≡ CallEnd.Error (file_error fault) → RepresentsProcesses processes m
      → EndsFileAttempt (gets_size (asker_of m p now) files it) 1 m files now p end processes new before after terms
  size-failed fault read is_fault is_end tied =
      reading-fails (done (long_regs (regs_at m p) (length it.file.contents)) files) (stores 0 [] (long_regs (regs_at m p) (length it.file.contents)) files) fault refl read is_fault is_end tied

  -- ---- SS.EOF

  abbrev end_step : Bool → FileStep
  end_step past = refuses past E_EOF (done (record (regs_at m p) { b = 0 }) files)

  end-is : (fd : Fd) (past : Bool) → OnDisks state.disks before opened.place (λ v file. IsFdOf file fd)
      → nat_le fd.size opened.desc.at ≡ past → nat_le (length it.file.contents) it.opened.desc.at ≡ past
  end-is fd past shown is =
      let size : fd.size ≡ length it.file.contents = (shown files.volumes it.volume it.file stands.mounted open_is.volume_is open_is.file_is).size_is in
      ap (λ n. nat_le n it.opened.desc.at) (sym size) ∙ ap (λ (desc : Desc). nat_le fd.size desc.at) open_is.desc_is ∙ is

  pub end-reached : (fd : Fd) → OnDisks state.disks before opened.place (λ v file. IsFdOf file fd)
      → nat_le fd.size opened.desc.at ≡ true → Reading None → end ≡ CallEnd.Error E_EOF → RepresentsProcesses processes m
      → EndsFileAttempt (gets_end (asker_of m p now) files it) 1 m files now p end processes new before after terms
  end-reached fd shown past read is_end tied =
      at-place (end_step (nat_le (length it.file.contents) it.opened.desc.at))
      (reached-refuses 1 m files now p end processes (with_disks state disks) new before after terms
      opened.place.drive it.volume open_is.volume_is new_is (calls None read)
      (end_step (nat_le (length it.file.contents) it.opened.desc.at)) E_EOF
      (ap (λ t. deed_of (end_step t) files) (end-is fd true shown past)) (reads None read) is_end tied)

  pub end-not-reached : (regs : Regs) (fd : Fd) → regs ≡ regs_at m p → OnDisks state.disks before opened.place
      (λ v file. IsFdOf file fd) → nat_le fd.size opened.desc.at ≡ false → Reading None → end ≡ CallEnd.Done
      → RepresentsProcesses processes (with_regs_of m p (record regs { b = 0 })) → EndsFileAttempt (gets_end (asker_of m p now) files it)
      1 m files now p end processes new before after terms
  end-not-reached regs fd same shown past read is_end tied =
      reading-answers (end_step (nat_le (length it.file.contents) it.opened.desc.at)) 0 [] (record (regs_at m p) { b = 0 })
      (ap (λ t. deed_of (end_step t) files) (end-is fd false shown past)) read is_end
      (subst (λ (r : Regs). RepresentsProcesses processes (with_regs_of m p (record r { b = 0 }))) same tied)

  pub end-failed : (fault : FileFault) → let result : Result Fd FileFault = Err fault in Reading (file_fault result)
      → IsSome (file_fault result) → end ≡ CallEnd.Error (file_error fault) → RepresentsProcesses processes m
      → EndsFileAttempt (gets_end (asker_of m p now) files it) 1 m files now p end processes new before after terms
  end-failed fault read is_fault is_end tied = by (nat_le (length it.file.contents) it.opened.desc.at)
    where
      by : (past : Bool) → EndsFileAttempt (reaches it.place.drive (end_step past)) 1 m files now p end processes new before after terms
      by true = reading-fails (end_step true) (refuses_so E_EOF files) fault refl read is_fault is_end tied
      by false = reading-fails (end_step false) (stores 0 [] (record (regs_at m p) { b = 0 }) files) fault refl read is_fault is_end tied

  -- ---- SS.FD

  abbrev told_step : FileStep
  told_step = comes (leaves_so (stores (regs_at m p).x (take (asked_bytes (asker_of m p now)) (descriptor_front it.file)) (regs_at m p) files))

  pub descriptor-told : (regs : Regs) (fd : Fd) (front : List ℕ) → regs ≡ regs_at m p → OnDisks state.disks before
      opened.place (λ v file. IsFdOf file fd) → ((file : DiskFile) → IsFdOf file fd → front ≡ descriptor_front file)
      → true ≡ is_some (user_bytes (cells_at m p) regs.x (min regs.y 16)) → Reading None → end ≡ CallEnd.Done
      → RepresentsProcesses processes (with_regs_of (with_memory m (stored m.memory p regs.x (take (min regs.y 16) front))) p
      regs) → EndsFileAttempt (gets_descriptor (asker_of m p now) files it) 1 m files now p end processes new before after terms
  descriptor-told regs fd front same shown fronts there read is_end tied =
      let is_front : front ≡ descriptor_front it.file = fronts it.file (shown files.volumes it.volume it.file stands.mounted open_is.volume_is open_is.file_is) in
      passes 1 m files now p end processes new before after terms (is_none (user_bytes (cells_at m p) (regs_at m p).x (min (regs_at m p).y 16))) E_BPADDR (reaches it.place.drive told_step)
      (there-some _ (subst (λ (r : Regs). true ≡ is_some (user_bytes (cells_at m p) r.x (min r.y 16))) same there))
      (reading-answers told_step (regs_at m p).x (take (min (regs_at m p).y 16) (descriptor_front it.file)) (regs_at m p) refl read is_end
      (subst (λ bytes. RepresentsProcesses processes (with_regs_of (with_memory m (stored m.memory p (regs_at m p).x (take (min (regs_at m p).y 16) bytes))) p (regs_at m p))) is_front
      (subst (λ (r : Regs). RepresentsProcesses processes (with_regs_of (with_memory m (stored m.memory p r.x (take (min r.y 16) front))) p r)) same tied)))

  pub descriptor-failed : (regs : Regs) (fault : FileFault) → regs ≡ regs_at m p
      → true ≡ is_some (user_bytes (cells_at m p) regs.x (min regs.y 16)) → let result : Result Fd FileFault = Err
      fault in Reading (file_fault result) → IsSome (file_fault result) → end ≡ CallEnd.Error (file_error fault)
      → RepresentsProcesses processes m → EndsFileAttempt (gets_descriptor (asker_of m p now) files it) 1 m files now p end processes new
      before after terms
  descriptor-failed regs fault same there read is_fault is_end tied =
      passes 1 m files now p end processes new before after terms (is_none (user_bytes (cells_at m p) (regs_at m p).x (min (regs_at m p).y 16))) E_BPADDR (reaches it.place.drive told_step)
      (there-some _ (subst (λ (r : Regs). true ≡ is_some (user_bytes (cells_at m p) r.x (min r.y 16))) same there))
      (reading-fails told_step (stores (regs_at m p).x (take (asked_bytes (asker_of m p now)) (descriptor_front it.file)) (regs_at m p) files) fault refl read is_fault is_end tied)

-- the bytes for the descriptor are not there
pub descriptor-stopped : (m : Processes) (files : Files) (now : TimePacket) (p : ℕ) (end : CallEnd)
    (processes : ProcState) (state new : FileState) (views : List DriveView) (terms : List TerminalState)
    (it : OpenFile) (regs : Regs) → regs ≡ regs_at m p → RepresentsFiles state views files → new ≡ uncalled state p
    → false ≡ is_some (user_bytes (cells_at m p) regs.x (min regs.y 16)) → end ≡ CallEnd.Error E_BPADDR
    → RepresentsProcesses processes m → EndsFileAttempt (gets_descriptor (asker_of m p now) files it) 1 m files now p end processes new
    views views terms
descriptor-stopped m files now p end processes state new views terms it regs same stands new_is none is_end tied =
    stops 1 m files now p end processes new views terms state (is_none (user_bytes (cells_at m p) (regs_at m p).x (min (regs_at m p).y 16))) E_BPADDR
    (reaches it.place.drive (comes (leaves_so (stores (regs_at m p).x (take (asked_bytes (asker_of m p now)) (descriptor_front it.file)) (regs_at m p) files))))
    (there-none _ (subst (λ (r : Regs). false ≡ is_some (user_bytes (cells_at m p) r.x (min r.y 16))) same none)) is_end tied stands new_is
