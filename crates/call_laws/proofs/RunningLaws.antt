-- What holds of every state of a run: at the start, after a tick and a choice.
use Rattle.std.proofs.Common.{◌≡◌, ◌≢◌, ℕ, zero, suc, ◌+◌, ◌<◌, ◌≤◌, ◌==◌, not, Bool, true, false, Option, Some, None, is_some, List, [], ◌∷◌, length, replicate, refl, sym, ap, ◌∙◌, subst, inl, inr, arith}
use Rattle.std.specs.Prelude.{if◌then◌else◌, slice_index_or, ◌&&◌}
use Rattle.std.proofs.lemmas.Bool.{cases_eq, cases_lt, false≢true}
use Rattle.std.proofs.lemmas.List.{get_or-set_same, get_or-set_other, get_or_past, get_or-replicate, length-replicate, length-map, length-set}
use Rattle.std.proofs.lemmas.Option.{none-some}
use Rattle.os9_base.specs.Cells.{FitsIn}
use Rattle.os9_base.specs.declared.limits.TheConstants.{PROCESS_PLACES}
use Rattle.os9_base.specs.declared.registers.Pid.{Pid}
use Rattle.os9_base.specs.declared.registers.Regs.{Regs}
use Rattle.os9_outer.specs.TerminalState.{TerminalState}
use Rattle.proc_model.specs.Memory.{MemoryState}
use Rattle.proc_model.specs.declared.own.Own.{Own}
use Rattle.proc_model.specs.declared.record.Record.{Record}
use Rattle.proc_model.specs.declared.record.SendFault.TheVariants.{NoProcess, Pending}
use Rattle.proc_model.specs.Records.{IsLiving, after_make, has_ended, is_living, is_waiting, new_record, record_at, record_of, record_passes, with_regs}
use Rattle.proc_model.specs.Signals.{after_send, is_reached, send_fault, wake_signal, with_sent, with_signal}
use Rattle.proc_model.specs.Processes.{Processes, no_own, own_at, regs_at}
use Rattle.proc_model.specs.Program.{start_regs}
use Rattle.io_model.specs.Path.{numbers_of}
use Rattle.io_model.specs.declared.pending.PendingCall.{PendingCall}
use Rattle.io_model.specs.Arrivals.{ArrivesAt, ArrivesFrom, Desk, after_key_signal, every_user}
use Rattle.io_model.specs.Io.{Io, first_io, pending_at, open_path}
use Rattle.machine_model.specs.Terminals.{TerminalsOnlyGain}
use Rattle.time_rules.specs.CivilTime.{is_time_packet}
use Rattle.file_rules.specs.Files.{Files, with_io}
use Rattle.file_laws.specs.Kinds.{AreKinds}
use Rattle.file_laws.proofs.Starts.{kinds-same, kinds-start}
use Rattle.time_rules.specs.Clock.{IsClock}
use Rattle.time_rules.specs.declared.clock.Clock.{Clock}
use Rattle.machine_model.specs.Run.{Choose, Tick, desk_of}
use Rattle.machine_model.specs.Start.{Boot, Starts}
use Rattle.machine_model.specs.State.{State}
use Rattle.machine_model.specs.Console.{terminals_emptied}
use Rattle.machine_model.specs.ProcessStart.{first_priority, first_process, first_start, no_parent, superuser}
use Rattle.machine_model.specs.Terminals.{TerminalsOnlyGain}
use Rattle.machine_model.proofs.Gains.{tick-gains}
use Rattle.call_laws.specs.Running.{AreOnPaths, AreRequested, IsRunning}
use Rattle.call_laws.proofs.Requested.{calls-then, paths-then}
use Rattle.lock_model.specs.Locks.{request_of}
use Rattle.lock_model.proofs.Ranks.{first-quiet}
use Rattle.call_laws.proofs.OthersKept.{living-record, living-within}
use Rattle.call_laws.specs.Pending.{AreInCalls, ArePending, WaitsInCall}
use Rattle.call_laws.specs.Terminals.{AreOnTerminals}
use Rattle.call_laws.proofs.InCalls.{IsWaiting, put-waits, waits-runs}
use Rattle.call_laws.proofs.KeptEvents.{keeps-on, lives-runs, there-at, there-lives}
use Rattle.call_laws.proofs.Named.{seen}
use Rattle.call_laws.proofs.OnTerminals.{on-first}

-- ---- the number of terminals

pub zip-length : (before now : List TerminalState) → TerminalsOnlyGain before now → length now ≡ length before
zip-length [] [] gains = refl
zip-length [] (y ∷ now) gains = absurd gains
zip-length (x ∷ before) [] gains = absurd gains
zip-length (x ∷ before) (y ∷ now) gains =
    let rest : length now ≡ length before = zip-length before now gains.1 in omega (arith, rest)

-- what holds, by its parts
pub running-then : (s t : State) → IsRunning s → ArePending t.processes t.files.io → AreInCalls t.processes t.files.io
    → length t.processes.records ≤ length t.files.io.calls → AreOnTerminals (length s.terms) t.files.io.paths
    → length t.terms ≡ length s.terms → AreRequested t.files → AreOnPaths t.files
    → length t.processes.records ≤ length t.files.records.locks.requests → AreKinds t.files → IsClock t.clock t.processes.tick
    → IsRunning t
running-then s t running kept in_calls places on long requested waits rooms kinds clock = record {
  kept = kept;
  in_calls = in_calls;
  places = places;
  on = subst (λ (n : ℕ). AreOnTerminals n t.files.io.paths) (sym long) on;
  some = subst (λ (n : ℕ). 0 < n) (sym long) running.some;
  few = subst (λ (n : ℕ). n ≤ 4) (sym long) running.few;
  requested = requested;
  waits = waits;
  rooms = rooms;
  kinds = kinds;
  clock = clock;
}

-- ---- signals of keys

-- a process that lives goes on in the same call
record GoesOn (records then_records : List (Option Record)) (q : ℕ) : Type 0 where
  pub new : Record
  pub is : record_of then_records q ≡ Some new
  pub life : new.life ≡ (record_at records q).life
  pub regs : new.regs ≡ (record_at records q).regs

goes-same : (records : List (Option Record)) (q : ℕ) → IsLiving records q → GoesOn records records q
goes-same records q lives = record { new = record_at records q; is = living-record records q lives; life = refl; regs = refl }

goes-signalled : (records : List (Option Record)) (to : ℕ) (signal : Option ℕ) (q : ℕ) → IsLiving records to → IsLiving records q → GoesOn records (with_signal records to signal) q
goes-signalled records to signal q there lives =
    elim (cases_eq q to) [
      | inl same ↦ record {
        new = record (record_at records to) { signal = signal };
        is =
            ap (record_of (with_signal records to signal)) same ∙ get_or-set_same records to (Some (record (record_at records to) { signal = signal })) None (living-within records to there);
        life = ap (λ (q : ℕ). (record_at records q).life) (sym same);
        regs = ap (λ (q : ℕ). (record_at records q).regs) (sym same);
      }
      | inr differ ↦ record {
        new = record_at records q;
        is =
            get_or-set_other records to q (Some (record (record_at records to) { signal = signal })) None differ ∙ living-record records q lives;
        life = refl;
        regs = refl;
      }
    ]

-- a signal that is not refused is sent to a process that lives
sent-lives : (records : List (Option Record)) (user to signal : ℕ) → is_some (send_fault records user to signal) ≡ false → IsLiving records to
sent-lives records user to signal is = by_reached (is_reached records user to) refl is
  where
    first-true : (one other : Bool) → (one && other) ≡ true → one ≡ true
    first-true true other both = refl
    first-true false other both = both

    by_reached : (reached : Bool) → is_reached records user to ≡ reached
        → is_some (if not reached then Some NoProcess else (if not (signal == wake_signal) && is_some
        (record_at records to).signal then Some Pending else None)) ≡ false → IsLiving records to
    by_reached true there is = first-true (is_living records to) _ there
    by_reached false there is = absurd (false≢true (sym is))

goes-sent : (records : List (Option Record)) (user to signal q : ℕ) → IsLiving records q → GoesOn records (after_send records user to signal) q
goes-sent records user to signal q lives = by_fault (is_some (send_fault records user to signal)) refl
  where
    by_wake : IsLiving records to → (wake : Bool) → GoesOn records (if wake then records else with_signal records to (Some signal)) q
    by_wake there true = goes-same records q lives
    by_wake there false = goes-signalled records to (Some signal) q there lives

    by_fault : (fault : Bool) → is_some (send_fault records user to signal) ≡ fault → GoesOn records (if fault then records else with_sent records to signal) q
    by_fault true is = goes-same records q lives
    by_fault false is = by_wake (sent-lives records user to signal is) (signal == wake_signal)

goes-key : (processes : Processes) (user : Option Pid) (signal : Option ℕ) (q : ℕ) → IsLiving processes.records q → GoesOn processes.records (after_key_signal processes user signal).records q
goes-key processes None signal q lives = goes-same processes.records q lives
goes-key processes (Some process) None q lives = goes-same processes.records q lives
goes-key processes (Some process) (Some signal) q lives = goes-sent processes.records every_user process.0 signal q lives

own-key : (processes : Processes) (user : Option Pid) (signal : Option ℕ) (q : ℕ) → own_at (after_key_signal processes user signal) q ≡ own_at processes q
own-key processes None signal q = refl
own-key processes (Some process) None q = refl
own-key processes (Some process) (Some signal) q = refl

-- a process that lives then lived
lived-signalled : (records : List (Option Record)) (to : ℕ) (signal : Option ℕ) → IsLiving records to → (q : ℕ) → IsLiving (with_signal records to signal) q → IsLiving records q
lived-signalled records to signal there q lives =
    elim (cases_eq q to) [
      | inl same ↦ subst (IsLiving records) (sym same) there
      | inr differ ↦ sym (ap (record_passes (λ r. not (has_ended r.life))) (get_or-set_other records to q (Some (record (record_at records to) { signal = signal })) None differ)) ∙ lives
    ]

lived-sent : (records : List (Option Record)) (user to signal q : ℕ) → IsLiving (after_send records user to signal) q → IsLiving records q
lived-sent records user to signal q = by_fault (is_some (send_fault records user to signal)) refl
  where
    by_wake : IsLiving records to → (wake : Bool) → IsLiving (if wake then records else with_signal records to (Some signal)) q → IsLiving records q
    by_wake there true lives = lives
    by_wake there false lives = lived-signalled records to (Some signal) there q lives

    by_fault : (fault : Bool) → is_some (send_fault records user to signal) ≡ fault → IsLiving (if fault then records else with_sent records to signal) q → IsLiving records q
    by_fault true wrong lives = lives
    by_fault false wrong lives = by_wake (sent-lives records user to signal wrong) (signal == wake_signal) lives

lived-key : (processes : Processes) (user : Option Pid) (signal : Option ℕ) (q : ℕ) → IsLiving (after_key_signal processes user signal).records q → IsLiving processes.records q
lived-key processes None signal q lives = lives
lived-key processes (Some process) None q lives = lives
lived-key processes (Some process) (Some signal) q lives = lived-sent processes.records every_user process.0 signal q lives

-- no place comes or goes
long-sent : (records : List (Option Record)) (user to signal : ℕ) → length (after_send records user to signal) ≡ length records
long-sent records user to signal = by_tests (is_some (send_fault records user to signal)) (signal == wake_signal)
  where
    by_tests : (fault wake : Bool) → length (if fault then records else (if wake then records else with_signal records to (Some signal))) ≡ length records
    by_tests true wake = refl
    by_tests false true = refl
    by_tests false false = length-set records to _

long-key : (processes : Processes) (user : Option Pid) (signal : Option ℕ) → length (after_key_signal processes user signal).records ≡ length processes.records
long-key processes None signal = refl
long-key processes (Some process) None = refl
long-key processes (Some process) (Some signal) = long-sent processes.records every_user process.0 signal

-- what the signals of keys leave of the processes
pub record SignalsLeave (m n : Processes) : Type 0 where
  pub memory : n.memory ≡ m.memory
  pub lives : (q : ℕ) → IsLiving m.records q → IsLiving n.records q
  pub had : (q : ℕ) (r : Record) → record_of n.records q ≡ Some r → (old : Record) × (record_of m.records q ≡ Some old)

had-signalled : (records : List (Option Record)) (to : ℕ) (signal : Option ℕ) → IsLiving records to
    → (q : ℕ) (r : Record) → record_of (with_signal records to signal) q ≡ Some r
    → (old : Record) × (record_of records q ≡ Some old)
had-signalled records to signal there q r is =
    elim (cases_eq q to) [
      | inl same ↦ (record_at records to, ap (record_of records) same ∙ living-record records to there)
      | inr differ ↦ (r, sym (get_or-set_other records to q (Some (record (record_at records to) { signal = signal })) None differ) ∙ is)
    ]

had-sent : (records : List (Option Record)) (user to signal q : ℕ) (r : Record) → record_of (after_send records user to signal) q ≡ Some r → (old : Record) × (record_of records q ≡ Some old)
had-sent records user to signal q r = by_fault (is_some (send_fault records user to signal)) refl
  where
    by_wake : IsLiving records to → (wake : Bool) → record_of (if wake then records else with_signal records to (Some signal)) q ≡ Some r → (old : Record) × (record_of records q ≡ Some old)
    by_wake there true is = (r, is)
    by_wake there false is = had-signalled records to (Some signal) there q r is

    by_fault : (fault : Bool) → is_some (send_fault records user to signal) ≡ fault
        → record_of (if fault then records else with_sent records to signal) q ≡ Some r
        → (old : Record) × (record_of records q ≡ Some old)
    by_fault true wrong is = (r, is)
    by_fault false wrong is = by_wake (sent-lives records user to signal wrong) (signal == wake_signal) is

key-leaves : (processes : Processes) (user : Option Pid) (signal : Option ℕ) → SignalsLeave processes (after_key_signal processes user signal)
key-leaves processes None signal = record { memory = refl; lives = λ q lives. lives; had = λ q r is. (r, is) }
key-leaves processes (Some process) None = record { memory = refl; lives = λ q lives. lives; had = λ q r is. (r, is) }
key-leaves processes (Some process) (Some signal) = record {
  memory = refl;
  lives = λ q lives.
      let goes = goes-sent processes.records every_user process.0 signal q lives in
      there-lives (after_send processes.records every_user process.0 signal) q goes.new goes.is (ap has_ended goes.life ∙ lives-runs processes.records q lives);
  had = had-sent processes.records every_user process.0 signal;
}

signals-leave : (tick n count : ℕ) (old new : Desk) → ArrivesFrom tick n count old new → SignalsLeave old.processes new.processes
signals-leave tick n zero old new is =
    subst (λ (desk : Desk). SignalsLeave old.processes desk.processes) (sym is) (record { memory = refl; lives = λ q lives. lives; had = λ q r is. (r, is) })
signals-leave tick n (suc count) old new (between, here, later) =
    let first : SignalsLeave old.processes between.processes = subst (SignalsLeave old.processes) (sym here.signal) (key-leaves old.processes here.terminal.user here.answer.signal) in
    let rest : SignalsLeave between.processes new.processes = signals-leave tick (n + 1) count between new later in
    record {
      memory = rest.memory ∙ first.memory;
      lives = λ q lives. rest.lives q (first.lives q lives);
      had = λ q r is. (let there = rest.had q r is in first.had q there.0 there.1);
    }

-- a tick leaves memory, and who has a record and lives
pub tick-leaves : (s t : State) → Tick s t → SignalsLeave s.processes t.processes
tick-leaves s t (desk, arrives, is) =
    let left = signals-leave (s.processes.tick + 1) 0 (length s.terms) (desk_of s) desk arrives in
    subst (λ (t : State). SignalsLeave s.processes t.processes) (sym is) (record { memory = left.memory; lives = left.lives; had = left.had })

-- and the registers of a process that lives
key-regs : (processes : Processes) (user : Option Pid) (signal : Option ℕ) (q : ℕ) → IsLiving processes.records q → regs_at (after_key_signal processes user signal) q ≡ regs_at processes q
key-regs processes user signal q lives =
    let goes = goes-key processes user signal q lives in
    ap (λ (r : Record). r.regs) (there-at (after_key_signal processes user signal).records q goes.new goes.is) ∙ goes.regs

signals-regs : (tick n count : ℕ) (old new : Desk) → ArrivesFrom tick n count old new → (q : ℕ) → IsLiving old.processes.records q → regs_at new.processes q ≡ regs_at old.processes q
signals-regs tick n zero old new is q lives = ap (λ (desk : Desk). regs_at desk.processes q) is
signals-regs tick n (suc count) old new (between, here, later) q lives =
    let first : SignalsLeave old.processes between.processes = subst (SignalsLeave old.processes) (sym here.signal) (key-leaves old.processes here.terminal.user here.answer.signal) in
    signals-regs tick (n + 1) count between new later q (first.lives q lives)
    ∙ ap (λ (processes : Processes). regs_at processes q) here.signal
    ∙ key-regs old.processes here.terminal.user here.answer.signal q lives

pub tick-regs : (s t : State) → Tick s t → (q : ℕ) → IsLiving s.processes.records q → regs_at t.processes q ≡ regs_at s.processes q
tick-regs s t (desk, arrives, is) q lives =
    ap (λ (t : State). regs_at t.processes q) is
    ∙ signals-regs (s.processes.tick + 1) 0 (length s.terms) (desk_of s) desk arrives q lives

-- ---- a tick

-- calls that wait, and paths, are left
pub record DeskLeft (old new : Desk) : Type 0 where
  pub kept : ArePending old.processes old.io → ArePending new.processes new.io
  pub in_calls : AreInCalls old.processes old.io → AreInCalls new.processes new.io
  pub long : length new.processes.records ≡ length old.processes.records
  pub calls : new.io.calls ≡ old.io.calls
  pub paths : new.io.paths ≡ old.io.paths

arrival-left : (tick n : ℕ) (old new : Desk) → ArrivesAt tick n old new → DeskLeft old new
arrival-left tick n old new arrives = record {
  kept = kept;
  in_calls = in_calls;
  long = ap (λ (processes : Processes). length processes.records) arrives.signal ∙ long-key old.processes arrives.terminal.user arrives.answer.signal;
  calls = ap (λ (io : Io). io.calls) arrives.io;
  paths = ap (λ (io : Io). io.paths) arrives.io;
}
  where
    in_calls : AreInCalls old.processes old.io → AreInCalls new.processes new.io
    in_calls all q lives waits =
        let lived : IsLiving old.processes.records q =
        lived-key old.processes arrives.terminal.user arrives.answer.signal q (subst (λ (processes : Processes). IsLiving processes.records q) arrives.signal lives) in
        let goes = goes-key old.processes arrives.terminal.user arrives.answer.signal q lived in
        let at : record_of new.processes.records q ≡ Some goes.new = ap (λ (processes : Processes). record_of processes.records q) arrives.signal ∙ goes.is in
        let life : (record_at new.processes.records q).life ≡ (record_at old.processes.records q).life = ap (λ (r : Record). r.life) (there-at new.processes.records q goes.new at) ∙ goes.life in
        let it : WaitsInCall old.processes old.io q = all q lived (sym (ap is_waiting life) ∙ waits) in
        record {
          code = it.code;
          made =
              ap (λ (processes : Processes). (own_at processes q).call) arrives.signal ∙ ap (λ (own : Own). own.call) (own-key old.processes arrives.terminal.user arrives.answer.signal q) ∙ it.made;
          kept = λ some. ap (λ (io : Io). is_some (pending_at io q)) arrives.io ∙ it.kept some;
        }

    kept : ArePending old.processes old.io → ArePending new.processes new.io
    kept all q call is =
        let before : pending_at old.io q ≡ Some call = sym (ap (λ (io : Io). pending_at io q) arrives.io) ∙ is in
        let it = all q call before in
        let goes = goes-key old.processes arrives.terminal.user arrives.answer.signal q it.lives in
        let at : record_of new.processes.records q ≡ Some goes.new = ap (λ (processes : Processes). record_of processes.records q) arrives.signal ∙ goes.is in
        let here = there-at new.processes.records q goes.new at in
        keeps-on old.processes new.processes old.io new.io q call
        (there-lives new.processes.records q goes.new at (ap has_ended goes.life ∙ lives-runs old.processes.records q it.lives))
        (ap (λ (r : Record). r.life) here ∙ goes.life) (ap (λ (r : Record). r.regs) here ∙ goes.regs)
        (ap (λ (processes : Processes). (own_at processes q).call) arrives.signal ∙ ap (λ (own : Own). own.call) (own-key old.processes arrives.terminal.user arrives.answer.signal q))
        (ap (λ (io : Io). numbers_of io.paths q) arrives.io)
        (λ at count. subst (λ (memory : MemoryState). FitsIn (seen memory q) at count)
        (sym (ap (λ (processes : Processes). processes.memory) arrives.signal ∙ (key-leaves old.processes arrives.terminal.user
        arrives.answer.signal).memory)))
        (λ number opened is. ap (λ (io : Io). open_path io q number) arrives.io ∙ is) it

pub arrivals-left : (tick n count : ℕ) (old new : Desk) → ArrivesFrom tick n count old new → DeskLeft old new
arrivals-left tick n zero old new is = record {
  kept = λ kept. subst (λ (desk : Desk). ArePending desk.processes desk.io) (sym is) kept;
  in_calls = λ in_calls. subst (λ (desk : Desk). AreInCalls desk.processes desk.io) (sym is) in_calls;
  long = ap (λ (desk : Desk). length desk.processes.records) is;
  calls = ap (λ (desk : Desk). desk.io.calls) is;
  paths = ap (λ (desk : Desk). desk.io.paths) is;
}
arrivals-left tick n (suc count) old new (between, here, later) =
    let first = arrival-left tick n old between here in
    let rest = arrivals-left tick (n + 1) count between new later in
    record {
      kept = λ kept. rest.kept (first.kept kept);
      in_calls = λ in_calls. rest.in_calls (first.in_calls in_calls);
      long = rest.long ∙ first.long;
      calls = rest.calls ∙ first.calls;
      paths = rest.paths ∙ first.paths;
    }

-- the tick and the order of choice are no part of what is kept
kept-same : (m n : Processes) (io : Io) → n.records ≡ m.records → n.own ≡ m.own → n.memory ≡ m.memory → ArePending m io → ArePending n io
kept-same m n io records own memory all q kept is =
    let it = all q kept is in
    keeps-on m n io io q kept (subst (λ (records : List (Option Record)). IsLiving records q) (sym records) it.lives)
    (ap (λ (records : List (Option Record)). (record_at records q).life) records) (ap (λ (records : List (Option Record)). (record_at records q).regs) records)
    (ap (λ (owns : List Own). (slice_index_or owns q no_own).call) own) refl
    (λ at count. subst (λ (memory : MemoryState). FitsIn (seen memory q) at count) (sym memory)) (λ number opened is. is) it

in_calls-same : (m n : Processes) (io : Io) → n.records ≡ m.records → n.own ≡ m.own → AreInCalls m io → AreInCalls n io
in_calls-same m n io records own all q lives waits =
    let it : WaitsInCall m io q = all q (subst (λ (records : List (Option Record)). IsLiving records q) records lives)
    (sym (ap (λ (records : List (Option Record)). is_waiting (record_at records q).life) records) ∙ waits) in
    record {
      code = it.code;
      made = ap (λ (owns : List Own). (slice_index_or owns q no_own).call) own ∙ it.made;
      kept = it.kept;
    }

-- ---- the clock

pub clock-later : (clock : Clock) (tick later : ℕ) → tick ≤ later → IsClock clock tick → IsClock clock later
clock-later clock tick later past it = record { civil = it.civil; set = omega (arith, past, it.set) }

key-tick : (processes : Processes) (user : Option Pid) (signal : Option ℕ) → (after_key_signal processes user signal).tick ≡ processes.tick
key-tick processes None signal = refl
key-tick processes (Some process) None = refl
key-tick processes (Some process) (Some signal) = refl

-- keys that arrive leave the tick
arrivals-tick : (tick n count : ℕ) (old new : Desk) → ArrivesFrom tick n count old new → new.processes.tick ≡ old.processes.tick
arrivals-tick tick n zero old new is = ap (λ (desk : Desk). desk.processes.tick) is
arrivals-tick tick n (suc count) old new (between, here, later) =
    arrivals-tick tick (n + 1) count between new later
    ∙ ap (λ (processes : Processes). processes.tick) here.signal ∙ key-tick old.processes here.terminal.user here.answer.signal

-- ---- a tick, a choice, the console

pub tick-running : (s t : State) → Tick s t → IsRunning s → IsRunning t
tick-running s t (desk, arrives, is) running =
    let left = arrivals-left (s.processes.tick + 1) 0 (length s.terms) (desk_of s) desk arrives in
    let tick : desk.processes.tick ≡ s.processes.tick + 1 = arrivals-tick (s.processes.tick + 1) 0 (length s.terms) (desk_of s) desk arrives in
    running-then s t running
    (subst (λ (t : State). ArePending t.processes t.files.io) (sym is) (left.kept (kept-same s.processes (desk_of s).processes s.files.io refl refl refl running.kept)))
    (subst (λ (t : State). AreInCalls t.processes t.files.io) (sym is) (left.in_calls (in_calls-same s.processes (desk_of s).processes s.files.io refl refl running.in_calls)))
    (subst (λ (t : State). length t.processes.records ≤ length t.files.io.calls) (sym is)
    (subst (λ (n : ℕ). n ≤ length desk.io.calls) (sym left.long)
    (subst (λ (calls : List (Option PendingCall)). length s.processes.records ≤ length calls) (sym left.calls)
    running.places)))
    (subst (λ (t : State). AreOnTerminals (length s.terms) t.files.io.paths) (sym is) (subst (AreOnTerminals (length s.terms)) (sym left.paths) running.on))
    (zip-length s.terms t.terms (tick-gains s t (desk, arrives, is)).terminals)
    (subst (λ (t : State). AreRequested t.files) (sym is) (calls-then s.files (with_io s.files desk.io) refl left.calls running.requested))
    (subst (λ (t : State). AreOnPaths t.files) (sym is) (paths-then s.files (with_io s.files desk.io) refl left.calls left.paths running.waits))
    (subst (λ (t : State). length t.processes.records ≤ length t.files.records.locks.requests) (sym is)
    (subst (λ (n : ℕ). n ≤ length s.files.records.locks.requests) (sym left.long) running.rooms))
    (subst (λ (t : State). AreKinds t.files) (sym is) (kinds-same s.files desk.io left.paths running.kinds))
    (subst (λ (t : State). IsClock t.clock t.processes.tick) (sym is) (clock-later s.clock s.processes.tick desk.processes.tick (omega (arith, tick)) running.clock))

pub choice-running : (s t : State) → Choose s t → IsRunning s → IsRunning t
choice-running s t is running =
    running-then s t running
    (subst (λ (t : State). ArePending t.processes t.files.io) (sym is) (kept-same s.processes _ s.files.io refl refl refl running.kept))
    (subst (λ (t : State). AreInCalls t.processes t.files.io) (sym is) (in_calls-same s.processes _ s.files.io refl refl running.in_calls))
    (subst (λ (t : State). length t.processes.records ≤ length t.files.io.calls) (sym is) running.places)
    (subst (λ (t : State). AreOnTerminals (length s.terms) t.files.io.paths) (sym is) running.on)
    (ap (λ (t : State). length t.terms) is)
    (subst (λ (t : State). AreRequested t.files) (sym is) running.requested)
    (subst (λ (t : State). AreOnPaths t.files) (sym is) running.waits)
    (subst (λ (t : State). length t.processes.records ≤ length t.files.records.locks.requests) (sym is) running.rooms)
    (subst (λ (t : State). AreKinds t.files) (sym is) running.kinds)
    (subst (λ (t : State). IsClock t.clock t.processes.tick) (sym is) running.clock)

pub emptied-running : (m : State) → IsRunning m → IsRunning (record m { terms = terminals_emptied m.terms })
emptied-running m running =
    running-then m (record m { terms = terminals_emptied m.terms }) running running.kept running.in_calls running.places running.on
    (simp length-map) running.requested running.waits running.rooms running.kinds running.clock

-- ---- the start

none-first : (p : ℕ) → pending_at first_io p ≡ None
none-first p =
    elim (cases_lt p 33) [
      | inl within ↦ get_or-replicate 33 p None None within
      | inr past ↦ get_or_past (replicate 33 (let none : Option PendingCall = None in none)) p None (omega (arith, length-replicate 33 (let none : Option PendingCall = None in none)))
    ]

-- the only process runs
first-runs : (regs : Regs) (p : ℕ) → IsWaiting (with_regs (after_make (replicate PROCESS_PLACES None) no_parent superuser first_priority) first_process.0 regs) p → ⊥
first-runs regs p waiting =
    elim (cases_eq p 2) [
      | inl same ↦ waits-runs (put-waits first 2 (record (record_at first 2) { regs = regs }) (subst (IsWaiting (with_regs first 2 regs)) same waiting))
      | inr apart ↦ false≢true (sym (ap (record_passes (λ r. not (has_ended r.life))) (get_or-set_other first 2 p
          (Some (record (record_at first 2) { regs = regs })) None apart ∙ none apart)) ∙ waiting.0)
    ]
  where
    first : List (Option Record)
    first = after_make (replicate PROCESS_PLACES None) no_parent superuser first_priority

    none : p ≢ 2 → record_of first p ≡ None
    none apart =
        get_or-set_other (replicate 33 None) 2 p (Some (new_record no_parent superuser first_priority)) None apart ∙ nothing
      where
        nothing : record_of (replicate 33 None) p ≡ None
        nothing =
            elim (cases_lt p 33) [
              | inl within ↦ get_or-replicate 33 p None None within
              | inr past ↦ get_or_past (replicate 33 (let none : Option Record = None in none)) p None (omega (arith, length-replicate 33 (let none : Option Record = None in none)))
            ]

pub start-running : (boot : Boot) (s : State) → Starts boot s → 0 < length boot.terms → length boot.terms ≤ 4 → is_time_packet boot.time ≡ true → IsRunning s
start-running boot s starts some few time = subst IsRunning (sym starts.is) (record {
  kept = λ p kept is. absurd (none-some kept (sym (ap (λ (io : Io). pending_at io p) io_is ∙ none-first p) ∙ is));
  in_calls = λ p lives waits. absurd (first-runs (start_regs (first_start starts.number starts.entry)) p (lives, waits));
  places = subst (λ (io : Io). PROCESS_PLACES ≤ length io.calls) (sym io_is) (omega arith);
  on = subst (λ (io : Io). AreOnTerminals (length boot.terms) io.paths) (sym io_is) (on-first (length boot.terms) some);
  some = some;
  few = few;
  requested =
      λ p request is. absurd (none-some request (sym (ap (λ (files : Files). request_of files.records.locks p) starts.mounted.is ∙ first-quiet p) ∙ is));
  waits = λ p kept is. absurd (none-some kept (sym (ap (λ (io : Io). pending_at io p) io_is ∙ none-first p) ∙ is));
  rooms = subst (λ (files : Files). PROCESS_PLACES ≤ length files.records.locks.requests) (sym starts.mounted.is) (omega arith);
  kinds = kinds-start boot.images boot.drives starts.files starts.mounted;
  clock = record { civil = time; set = omega arith };
})
  where
    io_is : starts.files.io ≡ first_io
    io_is = ap (λ (files : Files). files.io) starts.mounted.is
