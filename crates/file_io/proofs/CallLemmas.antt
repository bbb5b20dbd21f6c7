-- What the calls do on the file of a path that is found.
use Rattle.std.proofs.Common.{◌≡◌, ◌≢◌, ◌<◌, ◌∙◌, ℕ, not, Option, Some, None, is_none, List, ap, refl, subst, arith}
use Rattle.os9_base.specs.declared.calls.TheConstants.{F_PERR, I_WRITE, I_WRITLN}
use Rattle.os9_base.specs.declared.errors.TheConstants.{E_BMODE, E_BPADDR}
use Rattle.proc_model.specs.Processes.{Processes, regs_at}
use Rattle.proc_model.specs.UserBytes.{user_bytes}
use Rattle.io_model.specs.declared.terminal.ReadKind.TheVariants.{Bytes, WholeLine}
use Rattle.io_model.specs.Io.{Io, open_path}
use Rattle.io_model.specs.Modes.{can_read, can_write}
use Rattle.io_model.specs.Read.{i_read as reads_device, i_readln as reads_device_line}
use Rattle.io_model.specs.Write.{i_write as writes_device, i_writln as writes_device_line, f_perr as tells_device, error_line}
use Rattle.io_model.specs.declared.modes.TheConstants.{STANDARD_ERROR}
use Rattle.os9_base.specs.declared.registers.Regs.{Regs}
use Rattle.proc_model.specs.Records.{record_at}
use Rattle.proc_state.specs.Tie.{RepresentsProcesses}
use Rattle.proc_state.specs.declared.state.ProcState.{ProcState}
use Rattle.rbf_model.specs.File.{DiskFile}
use Rattle.rbf_model.specs.Volume.{DiskVolume}
use Rattle.file_drives.specs.Drives.{DriveView}
use Rattle.file_laws.specs.Kinds.{AreKinds}
use Rattle.file_rules.specs.Files.{Asker, Files, OpenFile, open_file, volume_at, with_position}
use Rattle.file_rules.specs.Locking.{pending_request}
use Rattle.file_rules.specs.OnFile.{by_kind, moves_bytes}
use Rattle.file_rules.specs.Read.{i_read, i_readln, reads_file}
use Rattle.file_rules.specs.Seek.{i_seek, long_of, seeks_nothing}
use Rattle.file_rules.specs.Step.{done, needs, refuses}
use Rattle.file_rules.specs.Write.{i_write, i_writln, f_perr, line_moved, sends_bytes, writes_bytes}
use Rattle.lock_model.specs.declared.lock.Request.{Request}
use Rattle.proc_state.proofs.Tied.{regs-tied}
use Rattle.file_state.proofs.ReachedLemmas.{on-volume}
use Rattle.file_state.specs.Tie.{RepresentsFiles}
use Rattle.file_state.specs.declared.state.FileState.{FileState}
use Rattle.file_state.specs.declared.state.OpenFile as kernel
use Rattle.file_io.proofs.OpenedLemmas.{named-of, open-file}
use Rattle.file_io.specs.Opened.{IsOpenedPath, found_on}
use Rattle.file_io.specs.Reading.{read_file, read_named, read_opened}
use Rattle.file_io.specs.Writing.{line_of, write_file}

-- ---- the file that a number names

-- what is known of it
pub record IsKnown (files : Files) (p n : ℕ) (opened : kernel.OpenFile) : Type 0 where
  pub volume : DiskVolume
  pub file : DiskFile
  pub is : volume_at files opened.place.drive ≡ Some volume
  pub there : volume.files opened.place.number ≡ Some file
  pub found : open_file files p n ≡ Some (found_on opened volume file)

module _ (state : FileState) (views : List DriveView) (files : Files) (p : ℕ) (opened : kernel.OpenFile) (stands : RepresentsFiles state views files) (kinds : AreKinds files) where
  pub known : (n : ℕ) → IsOpenedPath state p n opened → IsKnown files p n opened
  known n is =
      let it = is.file views files stands kinds in
      let named = named-of state views files p n opened stands it in
      let on = on-volume files opened.place it.found.file it.there in
      record {
        volume = on.volume;
        file = it.found.file;
        is = on.is;
        there = on.there;
        found = open-file files p n opened on.volume it.found.file (ap (λ (io : Io). open_path io p n) stands.io ∙ named.names) named.place on.is on.there;
      }

  -- where the number is in A
  pub known-a : (s : ProcState) (m : Processes) (regs : Regs) → regs ≡ (record_at s.table p).regs
      → RepresentsProcesses s m → IsOpenedPath state p regs.a opened → IsKnown files p (regs_at m p).a opened
  known-a s m regs same tied is = known (regs_at m p).a (subst (λ (r : Regs). IsOpenedPath state p r.a opened) (same ∙ regs-tied s m p tied) is)

-- ---- registers

pub above : {n : ℕ} → n ≢ 0 → 0 < n
above {n} some = omega (arith, some)

-- registers with their own count
pub with-own-y : (regs own : Regs) → regs ≡ own → regs ≡ record own { y = regs.y }
with-own-y regs own same = subst (λ (r : Regs). regs ≡ record r { y = regs.y }) same refl

-- ---- the steps of the calls

module _ (asker : Asker) (files : Files) (found : OpenFile) where
  pub read-step : open_file files asker.caller.process.0 asker.caller.regs.a ≡ Some found → i_read asker files ≡ read_opened Bytes asker files found
  unfolding read_opened read_named read_file
  read-step is =
      ap (λ (o : Option OpenFile). by_kind o (reads_device asker.caller files.io)
      (λ opened. refuses (is_none (user_bytes asker.caller.cells asker.caller.regs.x asker.caller.regs.y)) E_BPADDR
      (moves_bytes asker files opened can_read (reads_file Bytes asker files opened)))) is

  pub line-step : open_file files asker.caller.process.0 asker.caller.regs.a ≡ Some found → i_readln asker files ≡ read_opened WholeLine asker files found
  unfolding read_opened read_named read_file
  line-step is =
      ap (λ (o : Option OpenFile). by_kind o (reads_device_line asker.caller files.io)
      (λ opened. refuses (is_none (user_bytes asker.caller.cells asker.caller.regs.x asker.caller.regs.y)) E_BPADDR
      (moves_bytes asker files opened can_read (reads_file WholeLine asker files opened)))) is

  pub write-step : open_file files asker.caller.process.0 asker.caller.regs.a ≡ Some found → i_write asker files ≡
      needs (user_bytes asker.caller.cells asker.caller.regs.x asker.caller.regs.y) E_BPADDR
      (sends_bytes asker files found I_WRITE)
  write-step is =
      ap (λ (o : Option OpenFile). by_kind o (writes_device asker.caller files.io)
      (λ opened. needs (user_bytes asker.caller.cells asker.caller.regs.x asker.caller.regs.y) E_BPADDR (sends_bytes asker files opened I_WRITE))) is

  pub write_line-step : open_file files asker.caller.process.0 asker.caller.regs.a ≡ Some found → i_writln asker files
      ≡ needs (line_moved asker (pending_request asker files)) E_BPADDR (sends_bytes asker files found I_WRITLN)
  write_line-step is =
      ap (λ (o : Option OpenFile). by_kind o (writes_device_line asker.caller files.io)
      (λ opened. needs (line_moved asker (pending_request asker files)) E_BPADDR (sends_bytes asker files opened I_WRITLN))) is

  pub error-step : open_file files asker.caller.process.0 STANDARD_ERROR ≡ Some found → f_perr asker files ≡ refuses
      (not (can_write found.opened.desc.mode)) E_BMODE (write_file F_PERR (error_line asker.caller.regs.b)
      asker.caller.regs asker files found)
  unfolding write_file
  error-step is =
      ap (λ (o : Option OpenFile). by_kind o (tells_device asker.caller files.io)
      (λ opened. refuses (not (can_write opened.opened.desc.mode)) E_BMODE
      (writes_bytes asker files opened F_PERR (error_line asker.caller.regs.b) asker.caller.regs))) is

  -- a line, by the request in which the process waits
  pub line-moved : (request : Option Request) → pending_request asker files ≡ request → line_moved asker (pending_request asker files) ≡ line_of request asker.caller.cells asker.caller.regs
  line-moved request is = ap (line_moved asker) is ∙ same request
    where
      same : (request : Option Request) → line_moved asker request ≡ line_of request asker.caller.cells asker.caller.regs
      same None = refl
      same (Some request) = refl

  pub seek-step : open_file files asker.caller.process.0 asker.caller.regs.a ≡ Some found → i_seek asker files ≡ done asker.caller.regs (with_position files found.opened (long_of asker.caller.regs))
  seek-step is =
      ap (λ (o : Option OpenFile). by_kind o (seeks_nothing asker.caller files.io) (λ opened. done asker.caller.regs (with_position files opened.opened (long_of asker.caller.regs)))) is
