-- An event of another process leaves whether the call of a process may go on, if it is not on what that waits for.
use Rattle.std.proofs.Common.{◌≡◌, ◌≢◌, ◌⊎◌, ℕ, ◌<◌, ◌≤◌, ◌==◌, ◌&&◌, ◌||◌, not, Bool, true, false, Option, Some, None, Result, Ok, Err, List, length, map, refl, sym, ap, ◌∙◌, subst, inl, inr}
use Rattle.std.specs.Prelude.{option_and_then, option_map, if◌then◌else◌}
use Rattle.std.specs.Option.{option_map_or}
use Rattle.std.proofs.lemmas.Bool.{cases_lt}
use Rattle.std.proofs.lemmas.List.{get_or-set_other, get_or-set_same, get_or_past, length-map, length-set}
use Rattle.std.proofs.lemmas.Option.{none-some, same_Some}
use Rattle.os9_base.specs.declared.registers.TimePacket.{TimePacket}
use Rattle.os9_sched.specs.declared.member.Cause.{Cause}
use Rattle.os9_sched.specs.declared.member.Wait.{Wait as Waiting}
use Rattle.cpu_model.specs.Step.{Aborts, Calls, Done, Outcome}
use Rattle.proc_model.specs.Ends.{after_exit, ended_record, orphaned}
use Rattle.proc_model.specs.Records.{IsLiving, free_process, is_living, record_at, record_passes, has_ended}
use Rattle.proc_model.specs.declared.record.Life.TheVariants.{Ended}
use Rattle.proc_model.specs.declared.record.Record.{Record}
use Rattle.proc_model.specs.Attempts.{after_attempt}
use Rattle.proc_model.specs.CallResult.{CallResult, done, ends, refused, waits}
use Rattle.proc_model.specs.Delivery.{after_delivery, delivered}
use Rattle.proc_model.specs.Processes.{Processes, regs_at}
use Rattle.proc_model.specs.Ready.{Act, act_of, attempts, delivers, executes}
use Rattle.proc_model.specs.declared.proc_call.ProcCall.TheVariants as Call
use Rattle.io_model.specs.Path.{PathTable, desc_of, holds_path, numbers_of, slot_of}
use Rattle.io_model.specs.Terminal.{reader}
use Rattle.io_model.specs.declared.pending.PendingCall.{PendingCall}
use Rattle.io_model.specs.declared.path.Desc.{Desc}
use Rattle.io_model.specs.declared.path.SysPath.{SysPath}
use Rattle.io_model.specs.declared.path.Target.{Target}
use Rattle.io_model.specs.declared.path.Target.TheVariants.{File, Folder, Pipe, Term}
use Rattle.io_model.specs.Again.{path_number}
use Rattle.io_model.specs.Attempts.{IoAttempts, caller_of, pending_in}
use Rattle.io_model.specs.Codes.{io_call_of}
use Rattle.io_model.specs.Io.{Io, OpenPath, pending_at, new_desc, target_of, terminal_at, with_call, with_paths}
use Rattle.io_model.specs.Alone.{is_in_wait}
use Rattle.io_model.specs.Processes.{io_started}
use Rattle.io_model.specs.Waiting.{cause_by, io_may_go, io_waits_for, may_go_by, may_read_terminal, pid}
use Rattle.io_model.specs.declared.io_call.Direction.{Direction}
use Rattle.io_model.specs.declared.io_call.IoCall.{IoCall}
use Rattle.lock_model.specs.Records.{Records}
use Rattle.lock_model.specs.Waits.{is_late, lock_may_go, request_may_go}
use Rattle.lock_model.specs.Locks.{Locks, lock_of, request_of}
use Rattle.lock_model.specs.declared.lock.Held.{Held}
use Rattle.lock_model.specs.declared.lock.Request.{Request}
use Rattle.lock_model.specs.declared.place.FilePlace.{FilePlace}
use Rattle.file_rules.specs.Attempts.{FileAttempts, asker_of}
use Rattle.file_rules.specs.Codes.{path_call_of}
use Rattle.file_rules.specs.Files.{Asker, Files}
use Rattle.file_rules.specs.Locking.{call_of, files_interrupted, files_may_go, request_wait, wait_cause}
use Rattle.file_rules.specs.Processes.{files_ended}
use Rattle.file_rules.specs.declared.path_call.PathCall.{PathCall}
use Rattle.file_laws.proofs.Named.{path-desc}
use Rattle.call_laws.specs.PathOthers.{LeavesPaths}
use Rattle.call_laws.proofs.Codes.{attempts-code}
use Rattle.call_laws.proofs.ForkedChildren.{NamesChild}
use Rattle.call_laws.proofs.OthersKept.{free-is}
use Rattle.call_laws.proofs.OthersLeft.{attempt-leaves as others-leave}
use Rattle.file_laws.specs.Attempt.{Attempt, OnDevice, TouchesNone, WaitsOnRecord, made_in}
use Rattle.file_laws.specs.Devices.{IsDevice, device_call, number_in}
use Rattle.file_laws.specs.Touch.{LeavesFiles, PathsMove}
use Rattle.file_laws.proofs.Claimed.{records-come}
use Rattle.file_laws.proofs.Codes.{code-there}
use Rattle.file_laws.proofs.Keeps.{file-slot, stays}
use Rattle.file_laws.proofs.Loads.{chain-leaves, fork-leaves, load-leaves}
use Rattle.file_laws.proofs.OfAttempts.{comes-of}
use Rattle.machine_model.specs.ProcessEvent.{after_instruction, next_instruction}
use Rattle.machine_model.specs.declared.ends.EventEnd.{EventEnd}
use Rattle.machine_model.specs.Event.{Acts, Event, before_delivery, files_after_delivery, files_after_instruction}
use Rattle.machine_model.specs.Services.{Serves, Service, files_after_call, files_after_fork, loads, no_call, on_paths, on_processes, on_time, service_of}
use Rattle.machine_model.specs.State.{Rest, State}
use Rattle.isolation_laws.specs.InputOutput.{LeavesIo}
use Rattle.isolation_laws.proofs.Asked.{Asks, asks}
use Rattle.isolation_laws.proofs.Children.{fork-attempt-names}
use Rattle.isolation_laws.proofs.IoEvents.{event-leaves-io}
use Rattle.lock_laws.specs.Contents.{IsPathOn}
use Rattle.lock_laws.specs.Locked.{IsAskedFor, IsRunLocked}
use Rattle.lock_laws.proofs.Covered.{number-same, request-path, state-covered}
use Rattle.lock_laws.proofs.OnFiles.{event-leaves-locks, event-locked}
use Rattle.lock_laws.proofs.VolumeEvents.{attempt_by}
use Rattle.lock_laws.specs.Living.{AreOfLiving}
use Rattle.lock_laws.specs.Touches.{HasEnded, NamesCause, Touches, HasWaitCause}
use Rattle.lock_laws.proofs.DeviceWaits.{Leaves, attempt-leaves, begin-holds, path-slot}
use Rattle.lock_laws.proofs.WaitEnds.{ended-stays, interrupted-stays, started-stays}
use Rattle.lock_laws.proofs.Locks.{SameLocks, cause_of, come-same, conflicts-same, ended-same, locks-same, same-place}
use Rattle.lock_laws.proofs.Looked.{IsPathFor, StaysFor, WaitsOn, io-same, is_there, no-waiting, opens, stays-same, there-by, waits-on}

-- ---- what a process waits for

-- without a request it waits on a terminal or a pipe
pub waits-device : (io : Io) (locks : Locks) (q : ℕ) (cause : Cause) → request_of locks q ≡ None → wait_cause io locks q ≡ Some cause → io_waits_for io q ≡ Some cause
waits-device io locks q cause none is =
    by_cause (io_waits_for io q) (sym (ap (λ (place : Option Request). wait_by place) none) ∙ is)
  where
    device_wait : Option Cause → Option Waiting
    device_wait cause = option_map (λ (cause : Cause). let wait : Waiting = record { cause = cause; until = None } in wait) cause

    wait_by : Option Request → Option Cause
    wait_by place =
        option_map (λ (wait : Waiting). wait.cause) (option_map_or (λ (request : Request). Some (request_wait request)) place (device_wait (io_waits_for io q)))

    by_cause : (found : Option Cause) → option_map (λ (wait : Waiting). wait.cause) (device_wait found) ≡ Some cause → found ≡ Some cause
    by_cause None is = absurd (none-some cause is)
    by_cause (Some found) is = is

pub waits-so : (io : Io) (locks : Locks) (q : ℕ) (cause : Cause) → request_of locks q ≡ None → io_waits_for io q ≡ Some cause → wait_cause io locks q ≡ Some cause
waits-so io locks q cause none is =
    ap (λ (place : Option Request). option_map (λ (wait : Waiting). wait.cause) (option_map_or (λ (request : Request). Some (request_wait request)) place
    (option_map (λ (cause : Cause). let wait : Waiting = record { cause = cause; until = None } in wait) (io_waits_for io q)))) none
    ∙ ap (λ (found : Option Cause). option_map (λ (wait : Waiting). wait.cause) (option_map (λ (cause : Cause). let wait : Waiting = record { cause = cause; until = None } in wait) found)) is

-- with one it waits for a record of its file
pub waits-record : (io : Io) (locks : Locks) (q : ℕ) (cause : Cause) (request : Request) → request_of locks q ≡ Some request → wait_cause io locks q ≡ Some cause → cause_of request.lock.file ≡ cause
waits-record io locks q cause request some is =
    same_Some (cause_of request.lock.file) cause
    (sym (ap (λ (place : Option Request). option_map (λ (wait : Waiting). wait.cause) (option_map_or (λ (request : Request). Some (request_wait request)) place
    (option_map (λ (cause : Cause). let wait : Waiting = record { cause = cause; until = None } in wait) (io_waits_for io q)))) some) ∙ is)

-- a target on which calls wait so is a device, and no file
is-device : (cause : Cause) (target : Target) → cause_by target ≡ Some cause → IsDevice target
is-device cause (File drive sector) is = absurd (none-some cause is)
is-device cause (Folder drive sector) is = absurd (none-some cause is)
is-device cause (Term terminal) is = refl
is-device cause (Pipe pipe) is = refl

not-file : (cause : Cause) (target : Target) {drive number : ℕ} → cause_by target ≡ Some cause → target ≡ File drive number → ⊥
not-file cause target is file = none-some cause (sym (ap cause_by file) ∙ is)

-- what is kept is what was put there
call-put : (io : Io) (p : ℕ) (place : Option PendingCall) (pending : PendingCall) → pending_at (with_call io p place) p ≡ Some pending → place ≡ Some pending
call-put io p place pending is =
    elim (cases_lt p (length io.calls)) [
      | inl within ↦ sym (get_or-set_same io.calls p place None within) ∙ is
      | inr past ↦ absurd (none-some pending (sym (get_or_past (with_call io p place).calls p None (rw length-set past)) ∙ is))
    ]

-- ---- a process that ends

-- it does not live
pub ended-gone : (records : List (Option Record)) (p status : ℕ) → is_living (after_exit records p status) p ≡ false
ended-gone records p status = by_place (cases_lt p (length records))
  where
    by_parent : (parent : Bool) → record_passes (λ r. not (has_ended r.life)) (if parent then None else Some (record (record_at records p) { life = Ended status })) ≡ false
    by_parent true = refl
    by_parent false = refl

    by_place : (p < length records) ⊎ (length records ≤ p) → is_living (after_exit records p status) p ≡ false
    by_place (inl within) =
        let low : p < length (map (orphaned p) records) = rw length-map within in
        ap (record_passes (λ r. not (has_ended r.life))) (get_or-set_same (map (orphaned p) records) p (ended_record (record_at records p) status) None low)
        ∙ by_parent ((record_at records p).parent.0 == 0)
    by_place (inr past) =
        ap (record_passes (λ r. not (has_ended r.life))) (get_or_past (after_exit records p status) p None (rw (length-set, length-map) past))

module _ (s : State) (p : ℕ) (it : IsRunLocked s) (living : AreOfLiving s) (cause : Cause) where
  -- what calls look at that wait so is as before
  pub record Stays (new : Files) : Type 0 where
    pub io : StaysFor cause s.files.io new.io
    pub locks : (place : FilePlace) → cause ≡ cause_of place → SameLocks place s.files.records.locks new.records.locks

  same-files : (new : Files) → new.io ≡ s.files.io → new.records.locks.held ≡ s.files.records.locks.held → Stays new
  same-files new io held = record {
    io = stays-same cause s.files.io new.io io;
    locks = λ place is. locks-same place s.files.records.locks new.records.locks held;
  }

  -- the number of a new process names no path
  child-apart : (child : ℕ) → free_process s.processes.records ≡ Some child → (m : ℕ) → NamesCause s.files.io child m cause → ⊥
  child-apart child free m names =
      let dead : is_living s.processes.records child ≡ false = ap (record_passes (λ r. not (has_ended r.life))) (free-is s.processes.records child free).none in
      none-some names.opened.path (sym (living.none child dead m) ∙ path-slot s.files.io child m names.opened names.is)

  -- a number names the path on which a call of the process is kept
  kept-named : (pending : PendingCall) → pending_at s.files.io p ≡ Some pending → (n : ℕ) × (slot_of s.files.io.paths p n ≡ Some pending.path)
  kept-named pending is =
      let keeps = it.state.running.kept p pending is in (path_number keeps.call (regs_at s.processes p), keeps.again.path)

  -- ---- the process ends

  module _ (paths_apart : (n : ℕ) → NamesCause s.files.io p n cause → ⊥) (reads_apart : (n : ℕ) → reader (terminal_at s.files.io n) ≡ Some (pid p) → cause ≡ Cause.Term n → ⊥)
      (locks_apart : (path : ℕ) (lock : Held) → lock_of s.files.records.locks path ≡ Some lock → lock.owner.0 ≡ p → cause ≡ Cause.Lock lock.file.drive lock.file.number → ⊥) where
    ended-so : Stays (files_ended s.files p)
    ended-so = record {
      io = ended-stays p s.files.io cause paths_apart reads_apart kept-named;
      locks = λ place is.
          ended-same s.files p it.on.held place (λ n names. paths_apart n (subst (NamesCause s.files.io p n) (sym is) names))
          (λ path lock there owner file. locks_apart path lock there owner (is ∙ ap cause_of (same-place place lock.file file)));
    }

  -- ---- an attempt of a call on paths

  module _ (code : ℕ) (next : act_of s.processes p ≡ attempts code) (now : TimePacket) (call : PathCall) (coded : path_call_of code ≡ Some call)
      (result : CallResult) (rest : Rest) (attempted : FileAttempts call s.processes s.files now p result rest.files s.terms rest.terms)
      (apart : NamesCause s.files.io p (number_in call (asker_of s.processes p now)) cause → ⊥) where
    abbrev asker : Asker
    asker = asker_of s.processes p now

    abbrev attempt : Attempt
    attempt = attempt_by s p now call result rest attempted

    abbrev n : ℕ
    n = number_in call asker

    -- the number of the call names the path on which it was kept
    again : (pending : PendingCall) → pending_at s.files.io p ≡ Some pending → slot_of s.files.io.paths p n ≡ Some pending.path
    again pending is =
        let keeps = it.state.running.kept p pending is in
        let same : code ≡ pending.code = same_Some code pending.code (sym (attempts-code s.processes p code next) ∙ keeps.made) in
        let device : device_call call ≡ Some keeps.call = sym (code-there code call coded) ∙ ap io_call_of same ∙ keeps.again.code in
        ap (slot_of s.files.io.paths p) (number-same call keeps.call asker device) ∙ keeps.again.path

    -- it was in no wait on the path
    was-apart : (s_path : ℕ) → IsPathFor cause s.files.io s_path → (direction : Direction) → is_in_wait s_path direction (pending_at s.files.io p) ≡ false
    was-apart s_path path direction =
        no-waiting cause s.files.io p n s_path path apart direction (pending_at s.files.io p) again

    -- by what it holds and keeps then
    itself : (new : Io) → ((s_path : ℕ) → IsPathFor cause s.files.io s_path → holds_path new.paths p s_path ≡ holds_path s.files.io.paths p s_path)
        → ((pending : PendingCall) → pending_at new p ≡ Some pending → slot_of s.files.io.paths p n ≡ Some pending.path)
        → (s_path : ℕ) → IsPathFor cause s.files.io s_path → (direction : Direction) → is_there new s_path direction p ≡ is_there s.files.io s_path direction p
    itself new holds keeps s_path path direction =
        ap (λ (b : Bool). b && not (is_in_wait s_path direction (pending_at new p))) (holds s_path path)
        ∙ ap (λ (b : Bool). holds_path s.files.io.paths p s_path && not b) (no-waiting cause s.files.io p n s_path path apart direction (pending_at new p) keeps)
        ∙ sym (ap (λ (b : Bool). holds_path s.files.io.paths p s_path && not b) (was-apart s_path path direction))

    device-stays : (device : IoCall) → device_call call ≡ Some device
        → IoAttempts device s.processes s.files.io (length s.files.drives) p result rest.files.io s.terms rest.terms → StaysFor cause s.files.io rest.files.io
    device-stays device is io = subst (StaysFor cause s.files.io) (sym io.state) (record {
      terminal = λ m q on. ap (may_read_terminal q) (leaves.terminals m on);
      pipe = leaves.pipes;
      there = there-by cause s.files.io after p (λ r differ. ap (λ (io : Io). numbers_of io.paths r) (sym io.state) ∙ others.numbers r differ)
          (λ r differ. ap (λ (io : Io). pending_at io r) (sym io.state) ∙ others.calls r differ)
          (itself after leaves.holds (λ pending there. ap (slot_of s.files.io.paths p) same ∙ leaves.keeps pending (call-put io.effect.io p (pending_in io.effect.end) pending there)));
    })
      where
        after : Io
        after = with_call io.effect.io p (pending_in io.effect.end)

        same : n ≡ path_number device (regs_at s.processes p)
        same = number-same call device asker is

        leaves : Leaves device (caller_of s.processes p) s.files.io cause (λ names. apart (subst (λ (n : ℕ). NamesCause s.files.io p n cause) (sym same) names))
            (λ pending there. ap (slot_of s.files.io.paths p) (sym same) ∙ again pending there) io.effect
        leaves = attempt-leaves device (caller_of s.processes p) s.files.io cause _ _ (length s.files.drives) (length s.terms) io.effect s.terms rest.terms io.does

        others : LeavesPaths p s.files.io rest.files.io
        others = others-leave device s.processes s.files.io rest.files.io (length s.files.drives) p result s.terms rest.terms io

    -- what is kept of its call when it was put there
    file-stays : TouchesNone attempt → StaysFor cause s.files.io rest.files.io
    file-stays none = subst (StaysFor cause s.files.io) (sym none.rest) (record {
      terminal = λ m q on. refl;
      pipe = λ k on. refl;
      there = there-by cause s.files.io after p (λ r differ. (stays call asker s.files rest.files.io.paths none.paths).numbers r differ)
          (λ r differ. get_or-set_other s.files.io.calls p r None None differ)
          (itself after (moved-holds none.paths) (λ pending there. absurd (none-some pending (call-put s.files.io p None pending there))));
    })
      where
        after : Io
        after = with_call (with_paths s.files.io rest.files.io.paths) p None

        moved-holds : PathsMove call asker s.files rest.files.io.paths → (s_path : ℕ) → IsPathFor cause s.files.io s_path
            → holds_path rest.files.io.paths p s_path ≡ holds_path s.files.io.paths p s_path
        moved-holds (inl same) s_path path = ap (λ (paths : PathTable). holds_path paths p s_path) same
        moved-holds (inr (inl moves)) s_path path = ap (λ (paths : PathTable). holds_path paths p s_path) moves.is
        moved-holds (inr (inr (inl sets))) s_path path = ap (λ (paths : PathTable). holds_path paths p s_path) sets.is
        moved-holds (inr (inr (inr begins))) s_path path =
            ap (λ (paths : PathTable). holds_path paths p s_path) begins.is ∙ begin-holds s.files.io p cause (new_desc begins.target asker.caller.regs.a) s_path path

    record-stays : WaitsOnRecord attempt → StaysFor cause s.files.io rest.files.io
    record-stays waiting = subst (StaysFor cause s.files.io) (sym waiting.io) (record {
      terminal = λ m q on. refl;
      pipe = λ k on. refl;
      there = there-by cause s.files.io after p (λ r differ. refl) (λ r differ. get_or-set_other s.files.io.calls p r (Some (call_of waiting.request)) None differ)
          (itself after (λ s_path path. refl) (λ pending there. named ∙ ap (λ (pending : PendingCall). Some pending.path) (same_Some
          (call_of waiting.request) pending (call-put s.files.io p (Some (call_of waiting.request)) pending there))));
    })
      where
        after : Io
        after = with_call s.files.io p (Some (call_of waiting.request))

        named : slot_of s.files.io.paths p n ≡ Some (call_of waiting.request).path
        named =
            file-slot s.files p n waiting.requests.found waiting.requests.names
            ∙ ap (λ (path : ℕ). let r : SysPath = record { 0 = path } in Some r)
            (request-path s p code it.state.running it.on next now call coded (length s.terms) waiting.request waiting.requests)

    path-stays : Stays rest.files
    path-stays = record {
      io = by_touch (comes-of attempt);
      locks = λ place is.
          come-same (made_in attempt) it.state.running.kinds (state-covered s p code it.state.running it.on next now call coded (length s.terms)) it.on.held place
          (λ names. apart (subst (NamesCause s.files.io p n) (sym is) names)) rest.files.records (records-come attempt);
    }
      where
        by_touch : OnDevice attempt ⊎ TouchesNone attempt ⊎ WaitsOnRecord attempt → StaysFor cause s.files.io rest.files.io
        by_touch (inl on) = device-stays on.0.device on.0.device_is on.0.attempted
        by_touch (inr (inl none)) = file-stays none
        by_touch (inr (inr waiting)) = record-stays waiting

  -- ---- each service

  -- what reads a file at most
  left-stays : {reached : Option ℕ} {of : CallResult} (files : Files) → LeavesFiles reached s.files of files → Stays files
  left-stays files left = same-files files left.io (ap (λ (records : Records). records.locks.held) left.records)

  module _ (t : State) (untouched : Touches s p t cause → ⊥) where
    -- the process has ended in it
    end-stays : HasEnded t p → Stays (files_ended s.files p)
    end-stays ended =
        ended-so (λ n names. untouched (Touches.by_path n ended names)) (λ n reads is. untouched (Touches.by_read n ended reads is))
        (λ path lock there owner is. untouched (Touches.by_lock path lock ended there owner is))

    instruction-stays : (outcome : Outcome) → t.processes ≡ after_instruction s.processes p outcome → Stays (files_after_instruction s.files p outcome)
    instruction-stays (Done effect) is = same-files s.files refl refl
    instruction-stays (Calls code regs) is = same-files s.files refl refl
    instruction-stays (Aborts status) is =
        end-stays (ap (λ (m : Processes). is_living m.records p) is ∙ ended-gone _ p status)

    delivery-stays : (signal : ℕ) → act_of s.processes p ≡ delivers signal → (result : Result Processes ℕ) (m : Processes) → t.processes ≡ after_delivery m p result
        → Stays (files_after_delivery s.files p result)
    delivery-stays signal next (Ok n) m is = record {
      io = interrupted-stays p s.files.io cause waits-apart;
      locks = λ place on. locks-same place s.files.records.locks (files_interrupted s.files p).records.locks refl;
    }
      where
        by_request : (pending : PendingCall) → pending_at s.files.io p ≡ Some pending → IsPathFor cause s.files.io pending.path.0 → (request : Option Request) → request_of s.files.records.locks p
            ≡ request → ⊥
        by_request pending there path None none =
            untouched (Touches.by_delivery signal next (waits-so s.files.io s.files.records.locks p cause none
            (ap (λ (place : Option PendingCall). option_and_then cause_by (option_and_then (λ (pending : PendingCall). target_of s.files.io pending.path) place)) there
            ∙ ap (λ (place : Option Desc). option_and_then cause_by (option_map (λ (desc : Desc). desc.target) place)) path.there ∙ path.on)))
        by_request pending there path (Some request) some =
            not-file cause path.desc.target path.on
            (ap (λ (desc : Desc). desc.target) (same_Some path.desc asked.on.desc (sym path.there ∙ ap (λ (pending : PendingCall). desc_of s.files.io.paths pending.path.0) same ∙ asked.on.there))
            ∙ asked.on.on)
          where
            asked : IsAskedFor s p request
            asked = it.on.asked p request some

            same : pending ≡ call_of request
            same = same_Some pending (call_of request) (sym there ∙ (it.state.running.requested p request some).kept)

        waits-apart : (pending : PendingCall) → pending_at s.files.io p ≡ Some pending → IsPathFor cause s.files.io pending.path.0 → ⊥
        waits-apart pending there path = by_request pending there path (request_of s.files.records.locks p) refl
    delivery-stays signal next (Err status) m is =
        end-stays (ap (λ (m : Processes). is_living m.records p) is ∙ ended-gone _ p status)

    call-stays : (result : CallResult) → t.processes ≡ after_attempt s.processes p result → Stays (files_after_call s.files p result)
    call-stays (done n) is = same-files s.files refl refl
    call-stays (refused number) is = same-files s.files refl refl
    call-stays (waits n) is = same-files s.files refl refl
    call-stays (ends status) is =
        end-stays (ap (λ (m : Processes). is_living m.records p) is ∙ ended-gone _ p status)

    module _ (code : ℕ) (next : act_of s.processes p ≡ attempts code) (lives : IsLiving s.processes.records p) where
      fork-stays : service_of code ≡ on_processes Call.Fork → {reached : Option ℕ} {of : CallResult} (files : Files) → LeavesFiles reached s.files of files → (result : CallResult)
          → NamesChild s.processes p result → Stays (files_after_fork files p result)
      fork-stays serves files left (done n) names = record {
        io = subst (λ (io : Io). StaysFor cause s.files.io (io_started io p (regs_at n p).a)) (sym left.io)
            (started-stays p (regs_at n p).a s.files.io cause (λ m low named. untouched (Touches.by_fork code m next serves low named))
            (child-apart (regs_at n p).a names));
        locks = λ place on. locks-same place s.files.records.locks (files_after_fork files p (done n)).records.locks (ap (λ (records : Records). records.locks.held) left.records);
      }
      fork-stays serves files left (refused number) names = left-stays files left
      fork-stays serves files left (waits n) names = left-stays files left
      fork-stays serves files left (ends status) names = left-stays files left

      abbrev files_in : Rest → Files
      files_in rest = rest.files

      rest-stays : (rest : Rest) (files : Files) → files_in rest ≡ files → Stays files → Stays rest.files
      rest-stays rest files same stays = subst Stays (sym same) stays

      serves-stay : (now : TimePacket) (service : Service) → service_of code ≡ service → (result : CallResult) (rest : Rest)
          → t.processes ≡ after_attempt s.processes p result → Serves service s now p result rest → Stays rest.files
      serves-stay now loads serves result rest is (files, read, same) =
          rest-stays rest files (ap files_in same) (left-stays files (load-leaves s.processes (asker_of s.processes p now) s.files (length s.terms) p result files read))
      serves-stay now (on_processes Call.Fork) serves result rest is (files, read, same) =
          rest-stays rest (files_after_fork files p result) (ap files_in same)
          (fork-stays serves files (fork-leaves s.processes (asker_of s.processes p now) s.files (length s.terms) p result files read) result
          (fork-attempt-names s.processes p lives (asker_of s.processes p now) s.files (length s.terms) result files read))
      serves-stay now (on_processes Call.Chain) serves result rest is (files, read, same) =
          rest-stays rest files (ap files_in same) (left-stays files (chain-leaves s.processes (asker_of s.processes p now) s.files (length s.terms) p result files read))
      serves-stay now (on_processes call) serves result rest is served =
          rest-stays rest (files_after_call s.files p result) (ap files_in served.1) (call-stays result is)
      serves-stay now (on_time call) serves result rest is (clock, timed, same) =
          rest-stays rest s.files (ap files_in same) (same-files s.files refl refl)
      serves-stay now (on_paths call) serves result rest is (attempted, clock) =
          path-stays code next now call (subst (Asks code) serves (asks code)) result rest attempted (λ names. untouched (Touches.by_call code call now next serves names))
      serves-stay now no_call serves result rest is (refusal, same) =
          rest-stays rest s.files (ap files_in same) (same-files s.files refl refl)

  -- ---- an event

  pub acts-stay : (act : Act) (end : EventEnd) (t : State) → IsLiving s.processes.records p → act_of s.processes p ≡ act → Acts act s p end t → (Touches s p t cause → ⊥) → Stays t.files
  acts-stay executes end t lives next (over, is) untouched =
      subst (λ (t : State). Stays t.files) (sym is) (instruction-stays t untouched (next_instruction s.processes p) (ap (λ (t : State). t.processes) is))
  acts-stay (delivers signal) end t lives next (over, is) untouched =
      subst (λ (t : State). Stays t.files) (sym is)
      (delivery-stays t untouched signal next (delivered (before_delivery s p) p signal) (before_delivery s p) (ap (λ (t : State). t.processes) is))
  acts-stay (attempts code) end t lives next (result, rest, (now, is_now, served), over, is) untouched =
      subst (λ (t : State). Stays t.files) (sym is) (serves-stay t untouched code next lives now (service_of code) refl result rest (ap (λ (t : State). t.processes) is) served)

-- ---- the call of another process

-- a call that waits for a record waits on no terminal and no pipe
pub request-idle : (io : Io) (q : ℕ) (pending : PendingCall) → pending_at io q ≡ Some pending → (place : FilePlace) → IsPathOn io.paths pending.path.0 place → io_may_go io q ≡ false
request-idle io q pending there place on =
    ap (λ (call : Option PendingCall). option_map_or (λ (pending : PendingCall). may_go_by io q pending (target_of io pending.path)) call false) there
    ∙ ap (λ (desc : Option Desc). may_go_by io q pending (option_map (λ (desc : Desc). desc.target) desc)) on.there
    ∙ ap (λ (target : Target). may_go_by io q pending (Some target)) on.on

module _ (s t : State) (end : EventEnd) (p q : ℕ) (cause : Cause) (it : IsRunLocked s) (living : AreOfLiving s) (event : Event s end t) (chosen : s.chosen ≡ Some p) (differ : q ≢ p)
    (waits : HasWaitCause s q cause) (untouched : Touches s p t cause → ⊥) where
  event-stays : Stays s p it living cause t.files
  event-stays = by_event event
    where
      by_event : Event s end t → Stays s p it living cause t.files
      by_event (one, is_chosen, lives, acts) =
          let same : one ≡ p = same_Some one p (sym is_chosen ∙ chosen) in
          acts-stay s p it living cause (act_of s.processes p) end t (subst (IsLiving s.processes.records) same lives) refl
          (subst (λ (p : ℕ). Acts (act_of s.processes p) s p end t) same acts) untouched

  others : LeavesIo s p t
  others = event-leaves-io s t end p chosen event

  requests : request_of t.files.records.locks q ≡ request_of s.files.records.locks q
  requests = (event-leaves-locks s t end p it chosen event).requests q differ

  -- it waits on a terminal or a pipe
  device-same : io_waits_for s.files.io q ≡ Some cause → io_may_go t.files.io q ≡ io_may_go s.files.io q
  device-same is = io-same cause s.files.io t.files.io q event-stays.io on (others.calls q differ) there
    where
      on : WaitsOn cause s.files.io q
      on = waits-on cause s.files.io q is

      there : desc_of t.files.io.paths on.pending.path.0 ≡ Some on.path.desc
      there =
          let keeps = it.state.running.kept q on.pending on.is in
          let opened : OpenPath = record { path = on.pending.path; desc = on.path.desc } in
          let open_stays = others.paths q (path_number keeps.call (regs_at s.processes q)) opened differ keeps.lives
          (opens s.files.io q (path_number keeps.call (regs_at s.processes q)) on.pending.path on.path.desc keeps.again.path on.path.there) in
          let same : open_stays.now ≡ opened = open_stays.device (is-device cause on.path.desc.target on.path.on) in
          subst (λ (now : OpenPath). desc_of t.files.io.paths now.path.0 ≡ Some now.desc) same
          (path-desc t.files.io q (path_number keeps.call (regs_at s.processes q)) open_stays.now open_stays.is)

  -- it waits for a record
  record-same : (tick : ℕ) (request : Request) → request_of s.files.records.locks q ≡ Some request → cause ≡ cause_of request.lock.file → files_may_go t.files tick q ≡ files_may_go s.files tick q
  record-same tick request is on =
      ap (λ (b : Bool). b || lock_may_go t.files.records.locks tick q) (request-idle t.files.io q (call_of request) then_kept request.lock.file then_asked.on)
      ∙ ap (request_may_go t.files.records.locks tick) (requests ∙ is)
      ∙ ap (λ (b : Bool). not b || is_late tick request) (conflicts-same request.lock s.files.records.locks t.files.records.locks (event-stays.locks request.lock.file on))
      ∙ sym (ap (request_may_go s.files.records.locks tick) is)
      ∙ sym (ap (λ (b : Bool). b || lock_may_go s.files.records.locks tick q) (request-idle s.files.io q
      (call_of request) (it.state.running.requested q request is).kept request.lock.file (it.on.asked q request is).on))
    where
      later : IsRunLocked t
      later = event-locked s t end event it

      then_asked : IsAskedFor t q request
      then_asked = later.on.asked q request (requests ∙ is)

      then_kept : pending_at t.files.io q ≡ Some (call_of request)
      then_kept = (later.state.running.requested q request (requests ∙ is)).kept

  pub event-same : (tick : ℕ) → files_may_go t.files tick q ≡ files_may_go s.files tick q
  event-same tick = by_request (request_of s.files.records.locks q) refl
    where
      by_request : (place : Option Request) → request_of s.files.records.locks q ≡ place → files_may_go t.files tick q ≡ files_may_go s.files tick q
      by_request None none =
          ap (λ (place : Option Request). io_may_go t.files.io q || request_may_go t.files.records.locks tick place) (requests ∙ none)
          ∙ ap (λ (b : Bool). b || false) (device-same (waits-device s.files.io s.files.records.locks q cause none waits))
          ∙ sym (ap (λ (place : Option Request). io_may_go s.files.io q || request_may_go s.files.records.locks tick place) none)
      by_request (Some request) is =
          record-same tick request is (sym (waits-record s.files.io s.files.records.locks q cause request is waits))
