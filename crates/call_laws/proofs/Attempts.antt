-- An attempt of a call keeps what holds of a state of a run.
use Rattle.std.proofs.Common.{◌≡◌, ◌≢◌, ◌⊎◌, ℕ, ◌==◌, not, Bool, true, false, Option, Some, None, is_some, List, length, refl, sym, ap, ◌∙◌, subst, inl, inr, arith}
use Rattle.std.specs.Prelude.{is_none, option_map, if◌then◌else◌}
use Rattle.std.specs.Option.{option_map_or}
use Rattle.std.proofs.lemmas.Bool.{eqb-true}
use Rattle.std.proofs.lemmas.Option.{none-some, same_Some}
use Rattle.os9_base.specs.declared.calls.TheConstants.{F_LOAD, F_STIME, F_TIME}
use Rattle.os9_base.specs.declared.errors.TheConstants.{E_BADTIME, E_BPADDR, E_UNKSVC}
use Rattle.os9_base.specs.declared.registers.TimePacket.{TimePacket}
use Rattle.os9_outer.specs.TerminalState.{TerminalState}
use Rattle.time_rules.specs.CivilTime.{is_time_packet}
use Rattle.proc_model.specs.declared.record.Record.{Record}
use Rattle.proc_model.specs.Records.{IsLiving, record_at, record_of}
use Rattle.proc_model.specs.declared.proc_call.ProcCall.{ProcCall}
use Rattle.proc_model.specs.declared.proc_call.ProcCall.TheVariants as Call
use Rattle.proc_model.specs.Attempts.{after_attempt, attempted}
use Rattle.proc_model.specs.CallResult.{CallResult, done, ends, refused, waits}
use Rattle.proc_model.specs.Codes.{call_of}
use Rattle.proc_model.specs.Processes.{Processes, cells_at, regs_at}
use Rattle.proc_model.specs.Ready.{act_of, attempts}
use Rattle.proc_model.specs.UserBytes.{user_bytes}
use Rattle.io_model.specs.Path.{inherited_numbers, numbers_of}
use Rattle.io_model.specs.declared.pending.PendingCall.{PendingCall}
use Rattle.io_model.specs.declared.path.Desc.{Desc}
use Rattle.io_model.specs.Attempts.{IoAttempts, result_by}
use Rattle.io_model.specs.Codes.{io_call_of}
use Rattle.io_model.specs.Io.{Io, pending_at}
use Rattle.io_model.specs.Processes.{io_ended, io_started}
use Rattle.io_model.specs.Waiting.{io_interrupted}
use Rattle.io_model.specs.Step.{IoEffect, IoEnd, answers, fails, keeps}
use Rattle.io_model.specs.declared.io_call.IoCall.{IoCall}
use Rattle.file_rules.specs.Attempts.{asker_of}
use Rattle.file_rules.specs.Codes.{path_call_of}
use Rattle.file_rules.specs.Files.{Files, place_of_target}
use Rattle.file_rules.specs.declared.path_call.PathCall.{PathCall}
use Rattle.file_laws.specs.Kinds.{AreKinds}
use Rattle.file_laws.proofs.Attempts.{attempt-stands, chain-kinds, fork-kinds, load-kinds}
use Rattle.file_laws.proofs.Starts.{kinds-ended, kinds-started}
use Rattle.machine_model.specs.ProcessEvent.{call_event_end}
use Rattle.machine_model.proofs.Ticks.{attempt-tick}
use Rattle.time_rules.specs.Attempts.{clock_after, result_of as time_result, time_step}
use Rattle.time_rules.specs.Clock.{IsClock}
use Rattle.time_rules.specs.Codes.{time_call_of}
use Rattle.time_rules.specs.Packet.{packet_bytes, packet_of}
use Rattle.time_rules.specs.STime.{sets_clock}
use Rattle.time_rules.specs.Step.{TimeStep, sets, tells, needs as time_needs, refused as time_refused, refuses as time_refuses}
use Rattle.time_rules.specs.declared.clock.Clock.{Clock}
use Rattle.time_rules.specs.declared.time_call.TimeCall.{TimeCall}
use Rattle.time_rules.specs.declared.time_call.TimeCall.TheVariants as Time
use Rattle.file_laws.specs.Attempt.{Attempt, OnDevice, TouchesNone, AttemptWaits, WaitsOnRecord}
use Rattle.file_laws.specs.Devices.{NoneRequested}
use Rattle.file_laws.specs.Touch.{IsFinalResult as IsAnswered, KeepsIo, WaitsForRecord}
use Rattle.file_laws.proofs.Codes.{code-none, code-there}
use Rattle.file_laws.proofs.Keeps.{io-kept}
use Rattle.file_laws.proofs.Loads.{chain-leaves, fork-leaves, load-leaves}
use Rattle.file_laws.proofs.OfAttempts.{comes-of, waits-of}
use Rattle.call_laws.proofs.PathsKept.{open-stays}
use Rattle.call_laws.proofs.OthersKept.{free-is, living-record}
use Rattle.call_laws.proofs.PathsKept.{io-ended, io-interrupted, left-numbers}
use Rattle.call_laws.proofs.EndsKept.{by-end}
use Rattle.call_laws.proofs.OthersLeft.{attempt-leaves, left-leaves}
use Rattle.call_laws.proofs.CallsKept.{AttemptLeft}
use Rattle.call_laws.proofs.ForksKept.{attempt-left}
use Rattle.call_laws.proofs.KeptEvents.{ended-none, io-keeps, io-path}
use Rattle.call_laws.proofs.InCalls.{IsWaiting, in-call, in-io}
use Rattle.call_laws.proofs.OnTerminals.{on-attempt, on-ended, on-interrupted}
use Rattle.call_laws.proofs.Places.{many-attempt, many-ended, many-interrupted}
use Rattle.call_laws.proofs.WaitsMade.{HasItsCall, attempt-has}
use Rattle.call_laws.specs.Pending.{ArePending, IsPendingCall, WaitsInCall}
use Rattle.call_laws.proofs.CallCodes.{not-both}
use Rattle.call_laws.proofs.Codes.{attempts-code}
use Rattle.machine_model.specs.Services.{CallAttempted, Serves, files_after_call, files_after_fork, loads, no_call, on_paths, on_processes, on_time, with_files}
use Rattle.machine_model.specs.State.{Rest, State, rest_of, with_rest}
use Rattle.call_laws.specs.Running.{AreRequested, IsRunning, WaitsOnPath}
use Rattle.call_laws.proofs.Aside.{Aside, IoAside, aside-in, aside-kept, aside-places, leaves-aside, left-aside, same-named}
use Rattle.call_laws.proofs.Loads.{Child, chain-over, fork-over, load-over}
use Rattle.call_laws.proofs.RecordWaits.{is-waiting, waits-aside, waits-in, waits-keep, waits-left, waits-on, waits-within}
use Rattle.call_laws.proofs.OnPaths.{all-wait, device-waits}
use Rattle.call_laws.proofs.Requested.{RequestsStay, attempt-stay, ended-stay, none-ended, none-then, same-stay, same-then, waits-others, waits-requested}
use Rattle.call_laws.proofs.RunningLaws.{running-then}
use Rattle.call_laws.proofs.Over.{IsOver, Over, aside-regs, aside-same, aside-stored, over-done, over-refused}

-- ---- codes

proc-no-io : (code : ℕ) (call : ProcCall) → call_of code ≡ Some call → io_call_of code ≡ None
proc-no-io code call coded = by_other (io_call_of code) refl
  where
    by_other : (other : Option IoCall) → io_call_of code ≡ other → other ≡ None
    by_other None is = refl
    by_other (Some other) is = absurd (not-both code call other coded is)

time-no-io : (code : ℕ) (call : TimeCall) → time_call_of code ≡ Some call → io_call_of code ≡ None
time-no-io code call coded = by_tests (F_TIME == code) (F_STIME == code) refl refl coded
  where
    by_tests : (one other : Bool) → (F_TIME == code) ≡ one → (F_STIME == code) ≡ other
        → option_map (λ (coded : ℕ × TimeCall). coded.1) (if one then Some (F_TIME, Time.Time) else
        (if other then Some (F_STIME, Time.STime) else None)) ≡ Some call → io_call_of code ≡ None
    by_tests true other first second is = ap io_call_of (sym (eqb-true F_TIME code first))
    by_tests false true first second is = ap io_call_of (sym (eqb-true F_STIME code second))
    by_tests false false first second is = absurd (none-some call is)

-- a process that attempts no call on paths waits in none
no-kept : (m : Processes) (io : Io) (p code : ℕ) → act_of m p ≡ attempts code → io_call_of code ≡ None → ArePending m io → pending_at io p ≡ None
no-kept m io p code next none all = by_place (pending_at io p) refl
  where
    by_place : (place : Option PendingCall) → pending_at io p ≡ place → place ≡ None
    by_place None is = refl
    by_place (Some kept) is =
        let it = all p kept is in
        let same : code ≡ kept.code = same_Some code kept.code (sym (attempts-code m p code next) ∙ it.made) in
        absurd (none-some it.call (sym none ∙ ap io_call_of same ∙ it.again.code))

-- ---- input and output

module _ (records : List (Option Record)) (terms p : ℕ) (old : Io) where
  pub io-same : IoAside records terms p old old
  io-same = record {
    numbers = λ q differ lives. refl;
    paths = λ q n opened differ lives is. same-named old q n opened is;
    calls = λ q differ. refl;
    places = refl;
    on = λ on. on;
  }

  io-touched : (new : Io) → KeepsIo p old new → IoAside records terms p old new
  io-touched new it = record {
    numbers = λ q differ lives. it.paths.numbers q differ;
    paths =
        λ q n opened differ lives is. (let (now, there, same) = it.paths.paths q n opened is in record {
          now = now;
          is = there;
          path = same.path;
          mode = ap (λ (d : Desc). d.mode) same.desc;
          target = ap (λ (d : Desc). d.target) same.desc;
        });
    calls = it.calls.others;
    places = it.calls.places;
    on =
        λ on path n desc there target. on path n desc (it.paths.no_device_new path desc there (ap place_of_target target)) target;
  }

  -- what the process had is closed
  pub io-closed : IoAside records terms p old (io_ended old p)
  io-closed = leaves-aside records terms p old (io_ended old p) (left-leaves p old (io_ended old p) (io-ended p old)) (many-ended old p) (on-ended terms old p)

  -- its call is broken off
  pub io-broken : IoAside records terms p old (io_interrupted old p)
  io-broken = leaves-aside records terms p old (io_interrupted old p) (left-leaves p old (io_interrupted old p) (io-interrupted p old)) (many-interrupted old p) (on-interrupted terms old p)

  io-begun : (child : ℕ) → record_of records child ≡ None → IoAside records terms p old (io_started old p child)
  io-begun child free = record {
    numbers = λ q differ lives. numbers q lives;
    paths =
        λ q n opened differ lives is. same-named (io_started old p child) q n opened (open-stays old (io_started old p child) q n opened (numbers q lives) (λ path d named there. there) is);
    calls = λ q differ. refl;
    places = refl;
    on = λ on. on;
  }
    where
      apart : (q : ℕ) → IsLiving records q → q ≢ child
      apart q lives same =
          none-some (record_at records q) (sym free ∙ ap (record_of records) (sym same) ∙ living-record records q lives)

      numbers : (q : ℕ) → IsLiving records q → numbers_of (io_started old p child).paths q ≡ numbers_of old.paths q
      numbers q lives =
          (left-numbers child old.paths (inherited_numbers (numbers_of old.paths p))).numbers q (apart q lives)

-- ---- what calls come to

pub time-over : (m : Processes) (p : ℕ) (step : TimeStep) → Over m p (time_result m p step)
time-over m p (time_refused number) = over-refused m p number
time-over m p (tells at packet) = over-done m p _ (aside-stored m p at (packet_bytes packet)) refl
time-over m p (sets clock) = over-done m p m (aside-same m p) refl

-- the clock stays one
module _ (clock : Clock) (m : Processes) (is : IsClock clock m.tick) where
  abbrev Stays : TimeStep → Type 0
  Stays step = IsClock (clock_after clock step) m.tick

  clock-set : (packet : TimePacket) (civil : Bool) → is_time_packet packet ≡ civil → Stays (time_refuses (not civil) E_BADTIME (sets (record { from = packet; since = m.tick })))
  clock-set packet true civil = record { civil = civil; set = omega arith }
  clock-set packet false civil = is

  clock-read : (bytes : Option (List ℕ)) → Stays (time_needs bytes E_BPADDR (λ bytes. sets_clock m.tick (packet_of bytes)))
  clock-read None = is
  clock-read (Some bytes) = clock-set (packet_of bytes) (is_time_packet (packet_of bytes)) refl

  clock-told : (at : ℕ) (now : TimePacket) (missing : Bool) → Stays (time_refuses missing E_BPADDR (tells at now))
  clock-told at now true = is
  clock-told at now false = is

  clock-stays : (call : TimeCall) (now : TimePacket) (p : ℕ) → Stays (time_step call m now p)
  clock-stays Time.Time now p =
      clock-told (regs_at m p).x now (is_none (user_bytes (cells_at m p) (regs_at m p).x 6))
  clock-stays Time.STime now p = clock-read (user_bytes (cells_at m p) (regs_at m p).x 6)

answered-over : (m : Processes) (p : ℕ) (result : CallResult) → IsAnswered m p result → Over m p result
answered-over m p result (inl it) =
    subst (Over m p) (sym it.is) (over-done m p _ (aside-regs m p it.at it.bytes it.regs) refl)
answered-over m p result (inr (number, is)) = subst (Over m p) (sym is) (over-refused m p number)

-- an attempt of a call on paths leaves the tick
path-tick : (m : Processes) (p : ℕ) (effect : IoEffect) (end : IoEnd) → (after_attempt m p (result_by end m p effect)).tick ≡ m.tick
path-tick m p effect (answers regs) = refl
path-tick m p effect (fails number) = refl
path-tick m p effect (keeps pending) = refl

-- ---- the next state

-- the others go on, and this holds of the process itself
pub next-running : (s : State) (p : ℕ) (t : State) → IsRunning s → Aside s.processes t.processes p → IoAside s.processes.records
    (length s.terms) p s.files.io t.files.io → ((pending : PendingCall) → pending_at t.files.io p ≡ Some pending → IsPendingCall t.processes
    t.files.io p pending) → (IsWaiting t.processes.records p → WaitsInCall t.processes t.files.io p) → length t.terms ≡ length
    s.terms → AreRequested t.files → RequestsStay p s.files.records t.files.records
    → ((pending : PendingCall) → pending_at t.files.io p ≡ Some pending → WaitsOnPath t.files p pending) → AreKinds t.files
    → IsClock t.clock t.processes.tick → IsRunning t
next-running s p t running aside io pending in_calls long requested stay own kinds clock =
    running-then s t running
    (aside-kept s.processes t.processes (length s.terms) p s.files.io t.files.io aside io pending running.kept)
    (aside-in s.processes t.processes (length s.terms) p s.files.io t.files.io aside io in_calls running.in_calls)
    (aside-places s.processes t.processes (length s.terms) p s.files.io t.files.io aside io running.places)
    (io.on running.on) long requested
    (all-wait s.processes (length s.terms) p s.files t.files running.kept io stay running.waits own)
    (let records = aside.places in let requests = stay.places in let rooms = running.rooms in omega (arith, records, requests, rooms)) kinds clock

-- ---- an attempt

module _ (s : State) (p code : ℕ) (running : IsRunning s) (lives : IsLiving s.processes.records p) (next : act_of s.processes p ≡ attempts code) where
  abbrev after : CallResult → Rest → State
  after result rest = with_rest s (after_attempt s.processes p result) rest

  abbrev Runs : CallResult → Rest → Type 0
  Runs result rest = IsRunning (after result rest)

  -- the process waits in no call on paths then
  abbrev BesideIo : Io → Type 0
  BesideIo new = IoAside s.processes.records (length s.terms) p s.files.io new × (pending_at new p ≡ None)

  -- and in no request
  abbrev EndsRequest : Files → Type 0
  EndsRequest new =
      (NoneRequested p s.files new × RequestsStay p s.files.records new.records) ⊎ ((pending_at s.files.io p ≡ None) × (new.records ≡ s.files.records))

  stays-then : (new : Files) → EndsRequest new → RequestsStay p s.files.records new.records
  stays-then new (inl (none, stay)) = stay
  stays-then new (inr (none, same)) = same-stay p s.files.records new.records same

  requested-then : (new : Files) → IoAside s.processes.records (length s.terms) p s.files.io new.io → EndsRequest new → AreRequested new
  requested-then new io (inl (none, stay)) = none-then p s.files new io.calls running.requested none
  requested-then new io (inr (none, same)) = same-then p s.files new io.calls running.requested none same

  over-runs : (result : CallResult) (rest : Rest) → Over s.processes p result → BesideIo rest.files.io
      → EndsRequest rest.files → rest.terms ≡ s.terms → AreKinds rest.files → IsClock rest.clock s.processes.tick
      → Runs result rest
  over-runs result rest over io gone terms kinds clock =
      next-running s p (after result rest) running over.aside io.0
      (λ pending is. absurd (none-some pending (sym io.1 ∙ is))) (λ waiting. absurd (over.runs waiting))
      (ap (λ (terms : List TerminalState). length terms) terms) (requested-then rest.files io.0 gone) (stays-then rest.files gone)
      (λ pending is. absurd (none-some pending (sym io.1 ∙ is))) kinds
      (subst (IsClock rest.clock) (sym over.tick) clock)

  none-kept : io_call_of code ≡ None → pending_at s.files.io p ≡ None
  none-kept none = no-kept s.processes s.files.io p code next none running.kept

  beside : (new : Io) → io_call_of code ≡ None → new ≡ s.files.io → BesideIo new
  beside new none is =
      subst BesideIo (sym is) (io-same s.processes.records (length s.terms) p s.files.io, none-kept none)

  -- ---- files that are loaded

  module _ (now : TimePacket) (result : CallResult) (rest : Rest) (long : length rest.terms ≡ length s.terms) where
    load-runs : (code == F_LOAD) ≡ true → Serves loads s now p result rest → Runs result rest
    load-runs is (files, it, rest_is) =
        subst (Runs result) (sym rest_is) (over-runs result (with_files s files) (load-over s.processes (asker_of s.processes p now) s.files (length s.terms) p result files it)
        (beside files.io (ap io_call_of (eqb-true code F_LOAD is)) (load-leaves s.processes (asker_of s.processes p now) s.files (length s.terms) p result files it).io)
        (inr (none-kept (ap io_call_of (eqb-true code F_LOAD is)), (load-leaves s.processes (asker_of s.processes p now) s.files (length s.terms) p result files it).records)) refl
        (load-kinds s.processes (asker_of s.processes p now) s.files (length s.terms) p result files it running.kinds) running.clock)

    chain-runs : call_of code ≡ Some Call.Chain → Serves (on_processes Call.Chain) s now p result rest → Runs result rest
    chain-runs coded (files, it, rest_is) =
        subst (Runs result) (sym rest_is) (over-runs result (with_files s files) (chain-over s.processes (asker_of s.processes p now) s.files (length s.terms) p result files it)
        (beside files.io (proc-no-io code Call.Chain coded) (chain-leaves s.processes (asker_of s.processes p now) s.files (length s.terms) p result files it).io)
        (inr (none-kept (proc-no-io code Call.Chain coded), (chain-leaves s.processes (asker_of s.processes p now) s.files (length s.terms) p result files it).records)) refl
        (chain-kinds s.processes (asker_of s.processes p now) s.files (length s.terms) p result files it running.kinds) running.clock)

    time-runs : (call : TimeCall) → time_call_of code ≡ Some call → Serves (on_time call) s now p result rest → Runs result rest
    time-runs call coded (clock, it, rest_is) =
        subst (Runs result) (sym rest_is) (over-runs result (record (rest_of s) { clock = clock })
        (subst (Over s.processes p) (sym it.result_is) (time-over s.processes p (time_step call s.processes now p)))
        (beside s.files.io (time-no-io code call coded) refl) (inr (none-kept (time-no-io code call coded), refl)) refl running.kinds
        (subst (λ (clock : Clock). IsClock clock s.processes.tick) (sym it.clock_is) (clock-stays s.clock s.processes running.clock call now p)))

    none-runs : io_call_of code ≡ None → Serves no_call s now p result rest → Runs result rest
    none-runs none (is, rest_is) =
        subst (Runs result) (sym rest_is) (over-runs result (rest_of s) (subst (Over s.processes p) (sym is) (over-refused s.processes p E_UNKSVC))
        (beside s.files.io none refl) (inr (none-kept none, refl)) refl running.kinds running.clock)

    -- ---- paths

    -- a call on a terminal or a pipe
    io-runs : (device : IoCall) → io_call_of code ≡ Some device → IoAttempts device s.processes s.files.io
        (length s.files.drives) p result rest.files.io s.terms rest.terms
        → NoneRequested p s.files rest.files × RequestsStay p s.files.records rest.files.records
        → ((pending : PendingCall) → pending_at rest.files.io p ≡ Some pending → WaitsOnPath rest.files p pending) → AreKinds rest.files → IsClock rest.clock (after_attempt s.processes p result).tick
        → Runs result rest
    io-runs device is it none own kinds clock =
        let drives = length s.files.drives in
        let many : length rest.files.io.calls ≡ length s.files.io.calls = many-attempt s.files.io p device s.processes drives result rest.files.io s.terms rest.terms it in
        let io : IoAside s.processes.records (length s.terms) p s.files.io rest.files.io = leaves-aside s.processes.records
        (length s.terms) p s.files.io rest.files.io (attempt-leaves device s.processes s.files.io rest.files.io drives
        p result s.terms rest.terms it) many (on-attempt device s.processes s.files.io p drives result rest.files.io
        s.terms rest.terms it) in
        next-running s p (after result rest) running
        (left-aside s.processes p (call_event_end result) (after_attempt s.processes p result) (subst (AttemptLeft s.processes p) (sym it.result_is) (by-end s.processes p it.effect it.effect.end)))
        io
        (io-keeps s.processes s.files.io p running.kept lives code device drives result rest.files.io s.terms rest.terms next is it)
        (in-io s.processes s.files.io p running.in_calls lives running.places code device drives result rest.files.io s.terms rest.terms next many it)
        long (requested-then rest.files io (inl none)) none.1 own kinds clock

    -- a call that waits for a record of a file
    record-runs : (call : PathCall) → path_call_of code ≡ Some call → WaitsForRecord call s.processes s.files now p result
        rest.files s.terms rest.terms → RequestsStay p s.files.records rest.files.records → AreKinds rest.files
        → IsClock rest.clock (after_attempt s.processes p result).tick → Runs result rest
    record-runs call coded it stay kinds clock =
        let then_is = is-waiting s p code running lives next now call coded result rest.files s.terms rest.terms it in
        next-running s p (after result rest) running
        (left-aside s.processes p (call_event_end result) (after_attempt s.processes p result) (waits-left s p code running lives next now call coded result rest.files s.terms rest.terms it))
        (waits-aside s p code running lives next now call coded result rest.files s.terms rest.terms it)
        (λ pending is. subst (λ (n : Processes). IsPendingCall n rest.files.io p pending) (sym then_is)
        (waits-keep s p code running lives next now call coded result rest.files s.terms rest.terms it pending is))
        (subst (λ (n : Processes). IsWaiting n.records p → WaitsInCall n rest.files.io p) (sym then_is) (waits-in s p code running lives next now call coded result rest.files s.terms rest.terms it))
        long (waits-requested call s.processes s.files now p result rest.files s.terms rest.terms running.requested it
        (waits-within s p code running lives next now call coded result rest.files s.terms rest.terms it)) stay
        (waits-on s p code running lives next now call coded result rest.files s.terms rest.terms it) kinds clock

    path-runs : (call : PathCall) → path_call_of code ≡ Some call → Serves (on_paths call) s now p result rest → Runs result rest
    path-runs call coded (it, clock_is) = by_touch (comes-of attempt)
      where
        attempt : Attempt
        attempt = record {
          call = call;
          processes = s.processes;
          files = s.files;
          now = now;
          process = p;
          result = result;
          new = rest.files;
          before = s.terms;
          after = rest.terms;
          attempted = it;
        }

        kinds : AreKinds rest.files
        kinds = (attempt-stands call s.processes s.files now p result rest.files s.terms rest.terms it running.kinds).kinds

        clock : IsClock rest.clock s.processes.tick
        clock = subst (λ (clock : Clock). IsClock clock s.processes.tick) (sym clock_is) running.clock

        tick : (after_attempt s.processes p result).tick ≡ s.processes.tick
        tick =
            ap (λ (result : CallResult). (after_attempt s.processes p result).tick) it.result_is ∙ path-tick s.processes p _ it.effect.end

        -- a call that waits then
        own : OnDevice attempt → (pending : PendingCall) → pending_at rest.files.io p ≡ Some pending → WaitsOnPath rest.files p pending
        own on pending is = by_wait (waits-of attempt (ap is_some is))
          where
            by_wait : AttemptWaits attempt ⊎ WaitsOnRecord attempt → WaitsOnPath rest.files p pending
            by_wait (inl waiting) =
                device-waits call on.0.device s.processes s.files rest.files p on.0.device_is waiting pending
                (io-path s.processes s.files.io p running.kept lives code on.0.device (length s.files.drives) result rest.files.io s.terms rest.terms next
                (code-there code call coded ∙ on.0.device_is) on.0.attempted pending is)
            by_wait (inr waiting) = waits-on s p code running lives next now call coded result rest.files s.terms rest.terms waiting pending is

        by_touch : OnDevice attempt ⊎ TouchesNone attempt ⊎ WaitsOnRecord attempt → Runs result rest
        by_touch (inr (inr waiting)) =
            record-runs call coded waiting (attempt-stay attempt (waits-others call s.processes s.files now p result rest.files s.terms rest.terms running.requested waiting))
            kinds (subst (IsClock rest.clock) (sym tick) clock)
        by_touch (inl on) =
            io-runs on.0.device (code-there code call coded ∙ on.0.device_is)
            on.0.attempted (on.0.requests, attempt-stay attempt on.0.requests.others) (own on) kinds (subst (IsClock rest.clock) (sym tick) clock)
        by_touch (inr (inl none)) =
            over-runs result rest (answered-over s.processes p result none.over)
            (let io = io-kept s.processes s.files p result rest.files s.terms rest.terms none in (io-touched s.processes.records (length s.terms) p s.files.io rest.files.io io, io.calls.none))
            (inl (none.requests, attempt-stay attempt none.requests.others)) none.terminals kinds clock

    -- ---- processes

    fork-by : (files : Files) → files.io ≡ s.files.io → files.records ≡ s.files.records → AreKinds files
        → call_of code ≡ Some Call.Fork → (result : CallResult) → IsOver (Child s.processes p) result
        → Runs result (with_files s (files_after_fork files p result))
    fork-by files io same kinds coded (done t) child =
        over-runs (done t) (with_files s (files_started_by t)) (over-done s.processes p t child.aside child.tick)
        (subst (λ (io : Io). BesideIo (io_started io p (regs_at t p).a)) (sym io) (
          io-begun s.processes.records (length s.terms) p s.files.io (regs_at t p).a
              (free-is s.processes.records (regs_at t p).a child.number).none,
          none-kept (proc-no-io code Call.Fork coded),
        ))
        (inr (none-kept (proc-no-io code Call.Fork coded), same)) refl (kinds-started files kinds p (regs_at t p).a) running.clock
      where
        files_started_by : Processes → Files
        files_started_by t = files_after_fork files p (done t)
    fork-by files io same kinds coded (refused number) over =
        over-runs (refused number) (with_files s files) (over-refused s.processes p number)
        (beside files.io (proc-no-io code Call.Fork coded) io)
        (inr (none-kept (proc-no-io code Call.Fork coded), same)) refl kinds running.clock
    fork-by files io same kinds coded (waits t) over = absurd over
    fork-by files io same kinds coded (ends status) over = absurd over

    fork-runs : call_of code ≡ Some Call.Fork → Serves (on_processes Call.Fork) s now p result rest → Runs result rest
    fork-runs coded (files, it, rest_is) =
        subst (Runs result) (sym rest_is) (fork-by files (fork-leaves s.processes (asker_of s.processes p now) s.files
        (length s.terms) p result files it).io (fork-leaves s.processes (asker_of s.processes p now) s.files
        (length s.terms) p result files it).records
        (fork-kinds s.processes (asker_of s.processes p now) s.files (length s.terms) p result files it running.kinds) coded result
        (fork-over s.processes (asker_of s.processes p now) s.files (length s.terms) p result files lives it))

    -- a call that starts no program of a file
    call-beside : io_call_of code ≡ None → (result : CallResult) → BesideIo (files_after_call s.files p result).io
    call-beside none (done t) = beside s.files.io none refl
    call-beside none (refused number) = beside s.files.io none refl
    call-beside none (waits t) = beside s.files.io none refl
    call-beside none (ends status) = (io-closed s.processes.records (length s.terms) p s.files.io, ended-none s.files.io p)

    call-ends : io_call_of code ≡ None → (result : CallResult) → EndsRequest (files_after_call s.files p result)
    call-ends none (done t) = inr (none-kept none, refl)
    call-ends none (refused number) = inr (none-kept none, refl)
    call-ends none (waits t) = inr (none-kept none, refl)
    call-ends none (ends status) = inl (none-ended s.files p, ended-stay s.files p)

    call-kinds : (result : CallResult) → AreKinds (files_after_call s.files p result)
    call-kinds (done t) = running.kinds
    call-kinds (refused number) = running.kinds
    call-kinds (waits t) = running.kinds
    call-kinds (ends status) = kinds-ended s.files running.kinds p

    call-runs : (call : ProcCall) → call_of code ≡ Some call → (result ≡ attempted call s.processes p) × (rest ≡ with_files s (files_after_call s.files p result)) → Runs result rest
    call-runs call coded (is, rest_is) =
        let io = call-beside (proc-no-io code call coded) result in
        subst (Runs result) (sym rest_is) (next-running s p (after result (with_files s (files_after_call s.files p result))) running
        (left-aside s.processes p (call_event_end result) (after_attempt s.processes p result)
        (subst (AttemptLeft s.processes p) (sym is) (attempt-left s.processes p call lives (code, next, coded))))
        io.0 (λ pending there. absurd (none-some pending (sym io.1 ∙ there)))
        (in-call s.processes s.files.io p running.in_calls lives running.places code call result _ next coded (subst (HasItsCall s.processes p) (sym is) (attempt-has s.processes p call)))
        refl (requested-then (files_after_call s.files p result) io.0 (call-ends (proc-no-io code call coded) result))
        (stays-then (files_after_call s.files p result) (call-ends (proc-no-io code call coded) result))
        (λ pending there. absurd (none-some pending (sym io.1 ∙ there))) (call-kinds result)
        (subst (IsClock s.clock) (sym (ap (λ (result : CallResult). (after_attempt s.processes p result).tick) is ∙ attempt-tick s.processes p call)) running.clock))

    process-runs : (call : ProcCall) → call_of code ≡ Some call → Serves (on_processes call) s now p result rest → Runs result rest
    process-runs Call.Fork coded it = fork-runs coded it
    process-runs Call.Chain coded it = chain-runs coded it
    process-runs Call.Link coded it = call-runs Call.Link coded it
    process-runs Call.UnLink coded it = call-runs Call.UnLink coded it
    process-runs Call.Wait coded it = call-runs Call.Wait coded it
    process-runs Call.Exit coded it = call-runs Call.Exit coded it
    process-runs Call.Mem coded it = call-runs Call.Mem coded it
    process-runs Call.Send coded it = call-runs Call.Send coded it
    process-runs Call.Icpt coded it = call-runs Call.Icpt coded it
    process-runs Call.Sleep coded it = call-runs Call.Sleep coded it
    process-runs Call.Id coded it = call-runs Call.Id coded it
    process-runs Call.SPrior coded it = call-runs Call.SPrior coded it
    process-runs Call.PrsNam coded it = call-runs Call.PrsNam coded it
    process-runs Call.CmpNam coded it = call-runs Call.CmpNam coded it
    process-runs Call.Crc coded it = call-runs Call.Crc coded it
    process-runs Call.SUser coded it = call-runs Call.SUser coded it
    process-runs Call.UnLoad coded it = call-runs Call.UnLoad coded it

    -- ---- by the code

    by-path : (call : Option PathCall) → path_call_of code ≡ call → Serves (option_map_or on_paths call no_call) s now p result rest → Runs result rest
    by-path None coded it = none-runs (code-none code coded) it
    by-path (Some call) coded it = path-runs call coded it

    by-time : (call : Option TimeCall) → time_call_of code ≡ call → Serves (option_map_or on_time call (option_map_or on_paths (path_call_of code) no_call)) s now p result rest → Runs result rest
    by-time None coded it = by-path (path_call_of code) refl it
    by-time (Some call) coded it = time-runs call coded it

    by-process : (call : Option ProcCall) → call_of code ≡ call
        → Serves (option_map_or on_processes call (option_map_or on_time (time_call_of code)
        (option_map_or on_paths (path_call_of code) no_call))) s now p result rest → Runs result rest
    by-process None coded it = by-time (time_call_of code) refl it
    by-process (Some call) coded it = process-runs call coded it

    by-load : (load : Bool) → (code == F_LOAD) ≡ load → Serves (if load then loads else option_map_or on_processes
        (call_of code) (option_map_or on_time (time_call_of code) (option_map_or on_paths (path_call_of code)
        no_call))) s now p result rest → Runs result rest
    by-load true is it = load-runs is it
    by-load false is it = by-process (call_of code) refl it

  pub attempt-runs : (result : CallResult) (rest : Rest) → length rest.terms ≡ length s.terms → CallAttempted code s p result rest → Runs result rest
  attempt-runs result rest long (now, at, it) = by-load now result rest long (code == F_LOAD) refl it
