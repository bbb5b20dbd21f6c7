-- What an attempt of a call on terminals and pipes comes to, in the state of files.
use Rattle.std.proofs.Common.{◌≡◌, ◌≢◌, ◌∙◌, ℕ, None, List, [], length, replicate, refl, sym, ap, subst, inl, inr, arith}
use Rattle.proc_state.proofs.Entered.{some-machine}
use Rattle.os9_base.specs.declared.call.CallEnd.{CallEnd}
use Rattle.os9_base.specs.declared.call.CallEnd.TheVariants.{NoMemory}
use Rattle.os9_base.specs.declared.registers.TimePacket.{TimePacket}
use Rattle.os9_outer.specs.TerminalState.{TerminalState}
use Rattle.proc_model.specs.CallResult.{CallResult}
use Rattle.proc_model.specs.Processes.{Processes}
use Rattle.io_model.specs.Attempts.{HasIoEffect, IoAttempts, caller_of, io_after, result_of, step_of}
use Rattle.io_model.specs.Io.{Io}
use Rattle.io_model.specs.Step.{Caller, IoEffect, IoStep, refused, comes, reads, writes, effect_of}
use Rattle.io_model.specs.declared.io_call.IoCall.{IoCall}
use Rattle.io_state.specs.Attempt.{IoAttempted as AttemptsOnDevice}
use Rattle.proc_state.specs.Tie.{ReturnsCallEnd}
use Rattle.proc_state.specs.declared.state.ProcState.{ProcState}
use Rattle.io_model.specs.Memory.{WantsMemory}
use Rattle.file_rules.specs.Attempts.{asker_of, file_step, files_after, files_kept}
use Rattle.file_rules.specs.Files.{Asker, Files, with_io}
use Rattle.file_rules.specs.Step.{Deed, FileEffect, as_io, deed_of, on_files}
use Rattle.file_rules.specs.declared.path_call.PathCall.{PathCall}
use Rattle.file_drives.specs.Drives.{DriveView}
use Rattle.file_state.proofs.CountLemmas.{called-more, called-none}
use Rattle.file_state.proofs.EndLemmas.{goes-as-io, stands-settled}
use Rattle.file_state.proofs.KeepLemmas.{MayKeepAll, keeps-same}
use Rattle.file_state.proofs.RequestLemmas.{not-memory}
use Rattle.file_state.proofs.StateLemmas.{stands-with_io, stands-with_records}
use Rattle.file_state.specs.Attempt.{FileAttempted, MachineOnDrives}
use Rattle.file_state.specs.Counted.{AttemptsIn, AttemptsWithin, calls_of}
use Rattle.file_state.specs.Lacks.{AttemptsOrLacks, TriesWithin}
use Rattle.file_state.specs.Tie.{AreSoundFiles, RepresentsFiles}
use Rattle.file_state.specs.declared.state.FileState.{FileState}
use Rattle.device_paths.specs.Quiet.{EndsIoAttempt}
use Rattle.device_paths.proofs.QuietLemmas.{IsQuiet}
use Rattle.lock_model.specs.Records.{Records, with_waiting}
use Rattle.file_rules.specs.Memory.{LacksMemory}
use Rattle.call_dispatch.specs.Attempts.{IsSameAsDeviceCall, TriesPathCall}
use Rattle.call_dispatch.specs.Bounds.{attempt_calls}

-- so many terminals
abbrev pub unused_terminal : TerminalState
unused_terminal = record { keys = []; put = None; faults = 0 }

abbrev pub some-terms : ℕ → List TerminalState
some-terms n = replicate n unused_terminal

-- so none was wanting where all attempts come to something
pub never-memory : (most : Asker → Files → ℕ → ℕ) (call : PathCall) (now : TimePacket) (p : ℕ) (end : CallEnd)
    (terms terms_after : List TerminalState) (old processes : ProcState) (state new : FileState)
    (views later : List DriveView) → AreSoundFiles state views → AttemptsWithin most call now p end terms terms_after
    (record { processes = old; files = state; views = views })
    (record { processes = processes; files = new; views = later }) → end ≢ NoMemory
never-memory most call now p end terms terms_after old processes state new views later sound attempts =
    let (m, tied) = some-machine old in
    let it = attempts m sound.files tied sound.stands sound.kinds in
    not-memory m p it.attempts.result end processes it.attempts.comes

pub tries-of : (call : PathCall) (m : Processes) (files : Files) (now : TimePacket) (p : ℕ) (end : CallEnd)
    (terms terms_after : List TerminalState) (before after : MachineOnDrives)
    → AttemptsIn (attempt_calls call (asker_of m p now) files (length terms)) call m files now p end terms terms_after
    before after → TriesPathCall call m files now p end terms terms_after before after
tries-of call m files now p end terms terms_after before after it = record {
  attempted = λ differ. it;
  memory = λ is. absurd (not-memory m p it.attempts.result end after.processes it.attempts.comes is);
}

-- or for an entry in the history
pub tries-or : (call : PathCall) (m : Processes) (files : Files) (now : TimePacket) (p : ℕ) (end : CallEnd)
    (terms terms_after : List TerminalState) (before after : MachineOnDrives)
    → AttemptsOrLacks (attempt_calls call (asker_of m p now) files (length terms)) call m files now p end terms
    terms_after before after → TriesPathCall call m files now p end terms terms_after before after
tries-or call m files now p end terms terms_after before after it =
    record { attempted = it.attempted; memory = λ is. inr (it.lacks is) }

-- memory for an entry was not lacking if each attempt has a result
pub within-tries : (most : Asker → Files → ℕ → ℕ) (call : PathCall) (now : TimePacket) (p : ℕ) (end : CallEnd)
    (terms terms_after : List TerminalState) (before after : MachineOnDrives) → AttemptsWithin most call now p end terms
    terms_after before after → TriesWithin most call now p end terms terms_after before after
within-tries most call now p end terms terms_after before after attempts m was tied stands kinds =
    let it = attempts m was tied stands kinds in record {
      attempted = λ differ. it;
      lacks = λ is. absurd (not-memory m p it.attempts.result end after.processes it.attempts.comes is);
    }

module _ (call : PathCall) (m : Processes) (files : Files) (now : TimePacket) (p : ℕ) (end : CallEnd) (processes : ProcState) where
  -- no drive is called where the step is one of terminals and pipes
  pub uncalled-in : (most : ℕ) (step : IoStep) (old : ProcState) (state new : FileState) (views : List DriveView)
      (terms terms_after : List TerminalState) → deed_of (file_step call (asker_of m p now) files (length terms))
      files ≡ as_io step → FileAttempted call m files now p end processes new views terms terms_after
      → AttemptsIn most call m files now p end terms terms_after
      (record { processes = old; files = state; views = views })
      (record { processes = processes; files = new; views = views })
  uncalled-in most step old state new views terms terms_after on attempts = record {
    attempts = attempts;
    calls = called-more 0 (calls_of (file_step call (asker_of m p now) files (length terms)) most) views views (omega arith) (called-none views);
    drives = keeps-same (file_step call (asker_of m p now) files (length terms)) (asker_of m p now) files end views (subst (λ (deed : Deed). MayKeepAll deed end) (sym on) tt);
  }

  -- what a step of a call on terminals and pipes comes to
  module _ (state : FileState) (io : Io) (records : Records) (views : List DriveView)
      (before after : List TerminalState) (stands : RepresentsFiles state views files) (cancelled : records ≡ with_waiting
      state.records p None) where
    pub lifts-step : (step : IoStep) (effect : IoEffect) → deed_of (file_step call (asker_of m p now) files
        (length before)) files ≡ as_io step → HasIoEffect step (caller_of m p) files.io effect before after
        → ReturnsCallEnd m p (result_of m p effect) end processes → io ≡ io_after p effect → FileAttempted call m files now p end
        processes (record state { io = io; records = records }) views before after
    lifts-step step effect on does told io_is =
        let lifted : FileEffect = on_files p files effect in
        record {
          result = result_of m p effect;
          left = files_after p lifted;
          attempt = record {
            effect = lifted;
            does = goes-as-io (file_step call (asker_of m p now) files (length before)) (asker_of m p now) files step effect before after on does;
            result_is = refl;
            state = refl;
          };
          comes = told;
          stands =
              stands-settled m p effect effect.end end processes (record state { io = io; records = records }) views (files_kept p lifted) told
              (inl (stands-with_records (record state { io = io }) views (with_io files (io_after p effect)) (with_waiting files.records p None) records
              (ap (λ (records : Records). with_waiting records p None) stands.records ∙ sym cancelled)
              (stands-with_io state views files (io_after p effect) io (sym io_is) stands)));
        }

    -- a call on terminals and pipes
    module _ (device : IoCall) (drives : ℕ) (on : IsSameAsDeviceCall call device m files now p drives before) where
      pub lifts : AttemptsOnDevice device m state.io drives p end processes io before after → FileAttempted call m
          files now p end processes (record state { io = io; records = records }) views before after
      lifts attempts =
          let here : IoAttempts device m files.io drives p attempts.result io before after = subst
          (λ (old : Io). IoAttempts device m old drives p attempts.result io before after) (sym stands.io)
          attempts.attempt in
          lifts-step (step_of device m p files.io drives before) here.effect on here.does
          (subst (λ (result : CallResult). ReturnsCallEnd m p result end processes) here.result_is attempts.comes)
          here.state

      pub lacks : WantsMemory (step_of device m p state.io drives before) (caller_of m p) state.io before after → LacksMemory call m files now p before after
      lacks wants = record {
        step = step_of device m p files.io drives before;
        on_device = on;
        wants = subst (λ (old : Io). WantsMemory (step_of device m p old drives before) (caller_of m p) old before after) (sym stands.io) wants;
      }

      pub tries-on-device : (old : ProcState) → (end ≢ NoMemory → AttemptsOnDevice device m state.io drives p end
          processes io before after) → (end ≡ NoMemory → WantsMemory (step_of device m p state.io drives before)
          (caller_of m p) state.io before after) → TriesPathCall call m files now p end before after
          (record { processes = old; files = state; views = views })
          (record { processes = processes; files = record state { io = io; records = records }; views = views })
      tries-on-device old attempts wants = record {
        attempted = λ differ. uncalled-in (attempt_calls call (asker_of m p now) files (length before))
            (step_of device m p files.io drives before) old state (record state { io = io; records = records }) views
            before after on (lifts (attempts differ));
        memory = λ is. inl (record { lacks = lacks (wants is); views = refl });
      }

-- ---- attempts that reach no terminal

does-quiet : (step : IoStep) (caller : Caller) (io : Io) (terms : List TerminalState) → IsQuiet step → HasIoEffect step caller io (effect_of step io) terms terms
does-quiet (refused number) caller io terms quiet = (refl, refl)
does-quiet (comes effect) caller io terms quiet = (refl, refl)
does-quiet (reads read) caller io terms quiet = absurd quiet
does-quiet (writes write) caller io terms quiet = absurd quiet

pub lifts-quiet : (call : PathCall) (m : Processes) (files : Files) (now : TimePacket) (p : ℕ) (end : CallEnd)
    (processes : ProcState) (state : FileState) (io : Io) (records : Records) (views : List DriveView)
    (terms : List TerminalState) (step : Io → IoStep) → RepresentsFiles state views files → records ≡ with_waiting
    state.records p None → deed_of (file_step call (asker_of m p now) files (length terms)) files ≡ as_io
    (step files.io) → IsQuiet (step files.io) → EndsIoAttempt (step state.io) m state.io p end processes io
    → FileAttempted call m files now p end processes (record state { io = io; records = records }) views terms terms
lifts-quiet call m files now p end processes state io records views terms step stands cancelled on quiet ends =
    let here : EndsIoAttempt (step files.io) m files.io p end processes io = subst (λ (old : Io). EndsIoAttempt (step old) m old p end processes io) (sym stands.io) ends in
    lifts-step call m files now p end processes state io records views terms terms stands cancelled (step files.io)
    (effect_of (step files.io) files.io) on (does-quiet (step files.io) (caller_of m p) files.io terms quiet)
    here.0 here.1
