-- An attempt of a call is one on a terminal or a pipe, or it leaves them as they are.
use Rattle.std.proofs.Common.{◌≡◌, ◌⊎◌, ℕ, Bool, true, false, Option, Some, None, length, refl, sym, ap, ◌∙◌, subst, inl, inr}
use Rattle.std.proofs.lemmas.Option.{none-some, same_Some}
use Rattle.os9_base.specs.declared.registers.TimePacket.{TimePacket}
use Rattle.proc_model.specs.CallResult.{CallResult, done, ends, refused, waits}
use Rattle.proc_model.specs.Processes.{Processes, regs_at}
use Rattle.proc_model.specs.Ready.{attempts, act_of}
use Rattle.proc_model.specs.declared.proc_call.ProcCall.TheVariants as Call
use Rattle.io_model.specs.Again.{path_number}
use Rattle.io_model.specs.Attempts.{IoAttempts}
use Rattle.io_model.specs.Codes.{direction_of_call, io_call_of}
use Rattle.io_model.specs.Io.{Io, OpenPath, open_path}
use Rattle.io_model.specs.Processes.{io_ended}
use Rattle.io_model.specs.declared.io_call.Direction.{Direction}
use Rattle.io_model.specs.declared.io_call.IoCall.{IoCall}
use Rattle.io_model.specs.declared.io_call.IoCall.TheVariants as Device
use Rattle.file_rules.specs.Attempts.{asker_of}
use Rattle.file_rules.specs.Files.{Files, OpenFile, open_file}
use Rattle.time_rules.specs.Attempts.{time_step, result_of as time_result}
use Rattle.time_rules.specs.Step.{TimeStep, refused as time_refused, sets, tells}
use Rattle.file_laws.specs.Attempt.{Attempt, OnDevice, TouchesNone, WaitsOnRecord, regs_in}
use Rattle.file_laws.specs.Devices.{IsDevice, device_call, takes_number}
use Rattle.file_laws.specs.Touch.{IsFinalResult, KeepsIo}
use Rattle.file_laws.proofs.Keeps.{io-kept}
use Rattle.file_laws.proofs.Loads.{chain-leaves, fork-leaves, load-leaves}
use Rattle.file_laws.proofs.TouchNamed.{device-no-file}
use Rattle.file_laws.proofs.OfAttempts.{comes-of, number-of}
use Rattle.stream_laws.proofs.CallCodes.{AttemptsNone, same-code}
use Rattle.machine_model.specs.Services.{Serves, Service, files_after_call, files_after_fork, loads, no_call, on_paths, on_processes, on_time, with_files}
use Rattle.machine_model.specs.State.{Rest, State}
use Rattle.stream_laws.proofs.Asked.{device_of}
use Rattle.stream_laws.proofs.GoesOn.{GoesOn, chain-attempt-goes, fork-attempt-goes, load-goes}

-- ---- a call on paths, files and directories

-- a call that moves bytes of a path on a terminal or a pipe
abbrev pub NamesDevice : Io → ℕ → Processes → IoCall → Type 0
NamesDevice io p m call =
    (way : Direction) × (direction_of_call call ≡ Some way) × (opened : OpenPath) × (open_path io p (path_number call (regs_at m p)) ≡ Some opened) × IsDevice opened.desc.target

-- it moves no byte of them
abbrev MovesNoByte : Attempt → Type 0
MovesNoByte it =
    (call : IoCall) → device_call it.call ≡ Some call → NamesDevice it.files.io it.process it.processes call → ⊥

-- and touches none of them, or waits for a record
record IsQuiet (it : Attempt) : Type 0 where
  pub none : TouchesNone it ⊎ WaitsOnRecord it
  pub moves : MovesNoByte it

-- a call that takes no number of a path moves no byte
no-way : (call : IoCall) (way : Direction) → takes_number call ≡ false → direction_of_call call ≡ Some way → ⊥
no-way Device.Open way takes is = none-some way is
no-way Device.Create way takes is = none-some way is
no-way Device.Dup way takes is = none-some way is
no-way Device.Close way takes is = none-some way is
no-way Device.GetStt way takes is = none-some way is
no-way Device.SetStt way takes is = none-some way is
no-way Device.Read way takes is = cc
no-way Device.ReadLn way takes is = cc
no-way Device.Write way takes is = cc
no-way Device.WritLn way takes is = cc
no-way Device.PErr way takes is = cc

device-or-quiet : (it : Attempt) → OnDevice it ⊎ IsQuiet it
device-or-quiet it = by_device (device_call it.call) refl
  where
    by_touch : OnDevice it ⊎ TouchesNone it ⊎ WaitsOnRecord it → MovesNoByte it → OnDevice it ⊎ IsQuiet it
    by_touch (inl on) moves = inl on
    by_touch (inr none) moves = inr (record { none = none; moves = moves })

    by_file : (device : IoCall) → device_call it.call ≡ Some device → takes_number device ≡ true
        → (file : Option OpenFile) → open_file it.files it.process (path_number device (regs_in it)) ≡ file
        → OnDevice it ⊎ IsQuiet it
    by_file device is takes None none =
        inl (number-of it (path_number device (regs_in it)) (record { device = device; device_is = is; takes = takes; named = refl }) none)
    by_file device is takes (Some file) there = by_touch (comes-of it) moves
      where
        moves : MovesNoByte it
        moves call call_is (way, way_is, opened, open_is, on) =
            let same : call ≡ device = same_Some call device (sym call_is ∙ is) in
            let named : open_path it.files.io it.process (path_number device (regs_in it)) ≡ Some opened = ap
            (λ (call : IoCall). open_path it.files.io it.process (path_number call (regs_in it))) (sym same) ∙
            open_is in
            none-some file (sym (device-no-file it.files it.process (path_number device (regs_in it)) opened named on) ∙ there)

    by_number : (device : IoCall) → device_call it.call ≡ Some device → (takes : Bool) → takes_number device ≡ takes → OnDevice it ⊎ IsQuiet it
    by_number device is true takes =
        by_file device is takes (open_file it.files it.process (path_number device (regs_in it))) refl
    by_number device is false takes = by_touch (comes-of it) moves
      where
        moves : MovesNoByte it
        moves call call_is (way, way_is, opened, open_is, on) =
            let same : call ≡ device = same_Some call device (sym call_is ∙ is) in
            no-way device way takes (ap direction_of_call (sym same) ∙ way_is)

    by_device : (device : Option IoCall) → device_call it.call ≡ device → OnDevice it ⊎ IsQuiet it
    by_device None none = by_touch (comes-of it) (λ call call_is names. none-some call (sym none ∙ call_is))
    by_device (Some device) is = by_number device is (takes_number device) refl

-- ---- a service

-- the process attempts no call that moves bytes of a terminal or a pipe
abbrev pub AttemptsNoMove : State → ℕ → Type 0
AttemptsNoMove s p =
    (code : ℕ) (call : IoCall) → act_of s.processes p ≡ attempts code → io_call_of code ≡ Some call → NamesDevice s.files.io p s.processes call → ⊥

pub none-moves : (s : State) (p : ℕ) → AttemptsNone (act_of s.processes p) → AttemptsNoMove s p
none-moves s p none code call next coded names = none code call next coded

-- terminals and pipes are as they were
pub record Stays (old new : Io) : Type 0 where
  pub pipes : new.pipes ≡ old.pipes
  pub terminals : new.terminals ≡ old.terminals

stays-same : (old new : Io) → new ≡ old → Stays old new
stays-same old new is =
    record { pipes = ap (λ (io : Io). io.pipes) is; terminals = ap (λ (io : Io). io.terminals) is }

-- an attempt of a call on a terminal or a pipe
pub record IsOnDevice (code : ℕ) (s : State) (p : ℕ) (result : CallResult) (rest : Rest) : Type 0 where
  pub call : IoCall
  pub coded : io_call_of code ≡ Some call
  pub attempt : IoAttempts call s.processes s.files.io (length s.files.drives) p result rest.files.io s.terms rest.terms

-- what it leaves of input and output: terminals and pipes as they were, or the process has ended
abbrev pub StaysOrEnds : State → ℕ → CallResult → Io → Type 0
StaysOrEnds s p result io =
    Stays s.files.io io × GoesOn result ⊎ ((status : ℕ) × (result ≡ ends status) × (io ≡ io_ended s.files.io p))

-- any other attempt
pub record IsAside (s : State) (p : ℕ) (result : CallResult) (rest : Rest) : Type 0 where
  pub terms : rest.terms ≡ s.terms
  pub io : StaysOrEnds s p result rest.files.io
  pub moves : AttemptsNoMove s p

over-goes : (processes : Processes) (p : ℕ) (result : CallResult) → IsFinalResult processes p result → GoesOn result
over-goes processes p result (inl it) = subst GoesOn (sym it.is) tt
over-goes processes p result (inr (number, is)) = subst GoesOn (sym is) tt

time-goes : (m : Processes) (p : ℕ) (step : TimeStep) → GoesOn (time_result m p step)
time-goes m p (time_refused number) = tt
time-goes m p (tells at packet) = tt
time-goes m p (sets clock) = tt

module _ (s : State) (p code : ℕ) (next : act_of s.processes p ≡ attempts code) (now : TimePacket) (rest : Rest) where
  no-call : io_call_of code ≡ None → AttemptsNoMove s p
  no-call none other call next_too coded names =
      none-some call (sym none ∙ ap io_call_of (sym (same-code other code (sym next_too ∙ next))) ∙ coded)

  -- the rest but the files is as it was
  aside : (files : Files) (result : CallResult) → rest ≡ with_files s files → StaysOrEnds s p result files.io → io_call_of code ≡ None → IsAside s p result rest
  aside files result is io none = record {
    terms = ap (λ (rest : Rest). rest.terms) is;
    io = subst (StaysOrEnds s p result) (ap (λ (rest : Rest). rest.files.io) (sym is)) io;
    moves = no-call none;
  }

  call-stays : (result : CallResult) → StaysOrEnds s p result (files_after_call s.files p result).io
  call-stays (done t) = inl (stays-same s.files.io s.files.io refl, tt)
  call-stays (refused number) = inl (stays-same s.files.io s.files.io refl, tt)
  call-stays (waits t) = inl (stays-same s.files.io s.files.io refl, tt)
  call-stays (ends status) = inr (status, refl, refl)

  fork-stays : (files : Files) (result : CallResult) → files.io ≡ s.files.io → GoesOn result → StaysOrEnds s p result (files_after_fork files p result).io
  fork-stays files (done t) same goes =
      inl (record { pipes = ap (λ (io : Io). io.pipes) same; terminals = ap (λ (io : Io). io.terminals) same }, tt)
  fork-stays files (refused number) same goes = inl (stays-same s.files.io files.io same, tt)
  fork-stays files (waits t) same goes = inl (stays-same s.files.io files.io same, tt)
  fork-stays files (ends status) same goes = absurd goes

  abbrev Comes : CallResult → Type 0
  Comes result = IsOnDevice code s p result rest ⊎ IsAside s p result rest

  pub served : (service : Service) (result : CallResult) → io_call_of code ≡ device_of service → Serves service s now p result rest → Comes result
  served loads result asked (files, it, is) =
      let left = load-leaves s.processes (asker_of s.processes p now) s.files (length s.terms) p result files it in
      inr (aside files result is (inl (stays-same s.files.io files.io left.io, load-goes s.processes p (asker_of s.processes p now) s.files (length s.terms) result files it)) asked)
  served (on_processes Call.Fork) result asked (files, it, is) =
      let left = fork-leaves s.processes (asker_of s.processes p now) s.files (length s.terms) p result files it in
      inr (aside (files_after_fork files p result) result is (fork-stays files result left.io (fork-attempt-goes s.processes p (asker_of s.processes p now) s.files (length s.terms) result files it))
      asked)
  served (on_processes Call.Chain) result asked (files, it, is) =
      let left = chain-leaves s.processes (asker_of s.processes p now) s.files (length s.terms) p result files it in
      inr (aside files result is (inl (stays-same s.files.io files.io left.io, chain-attempt-goes s.processes p (asker_of s.processes p now) s.files (length s.terms) result files it)) asked)
  served (on_processes call) result asked it =
      inr (aside (files_after_call s.files p result) result it.1 (call-stays result) asked)
  served (on_time call) result asked (clock, it, is) = inr (record {
    terms = ap (λ (rest : Rest). rest.terms) is;
    io = inl (stays-same s.files.io rest.files.io (ap (λ (rest : Rest). rest.files.io) is), subst GoesOn (sym it.result_is) (time-goes s.processes p (time_step call s.processes now p)));
    moves = no-call asked;
  })
  served (on_paths call) result asked (it, same) = by_touch (device-or-quiet attempt)
    where
      attempt : Attempt
      attempt = record {
        call = call;
        processes = s.processes;
        files = s.files;
        now = now;
        process = p;
        result = result;
        new = rest.files;
        before = s.terms;
        after = rest.terms;
        attempted = it;
      }

      quiet-moves : IsQuiet attempt → AttemptsNoMove s p
      quiet-moves quiet other call next_too coded names =
          quiet.moves call (sym asked ∙ ap io_call_of (sym (same-code other code (sym next_too ∙ next))) ∙ coded) names

      by_none : AttemptsNoMove s p → TouchesNone attempt ⊎ WaitsOnRecord attempt → Comes result
      by_none moves (inl none) =
          let kept : KeepsIo p s.files.io rest.files.io = io-kept s.processes s.files p result rest.files s.terms rest.terms none in
          inr (record {
            terms = none.terminals;
            io = inl (record { pipes = kept.pipes; terminals = kept.terminals }, over-goes s.processes p result none.over);
            moves = moves;
          })
      by_none moves (inr waiting) = inr (record {
        terms = waiting.terminals;
        io = inl (record { pipes = ap (λ (io : Io). io.pipes) waiting.io; terminals = ap (λ (io : Io). io.terminals) waiting.io }, subst GoesOn (sym waiting.result_is) tt);
        moves = moves;
      })

      by_touch : OnDevice attempt ⊎ IsQuiet attempt → Comes result
      by_touch (inl on) =
          inl (record { call = on.0.device; coded = asked ∙ on.0.device_is; attempt = on.0.attempted })
      by_touch (inr quiet) = by_none (quiet-moves quiet) quiet.none
  served no_call result asked (result_is, is) =
      inr (aside s.files result is (inl (stays-same s.files.io s.files.io refl, subst GoesOn (sym result_is) tt)) asked)
