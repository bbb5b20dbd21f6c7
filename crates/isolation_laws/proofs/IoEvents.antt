-- What each event leaves of the input and output of the others.
use Rattle.std.proofs.Common.{◌≡◌, ◌≢◌, ◌⊎◌, ℕ, ◌<◌, ◌≤◌, Option, Some, None, Result, Ok, Err, List, [], length, refl, sym, ap, ◌∙◌, subst, inl, inr}
use Rattle.std.specs.Prelude.{option_and_then, option_map, slice_index_or}
use Rattle.std.specs.Option.{option_map_or}
use Rattle.std.proofs.lemmas.Bool.{cases_eq, cases_lt}
use Rattle.std.proofs.lemmas.List.{get_or-set_same, get_or-set_other, get_or_past, length-set}
use Rattle.std.proofs.lemmas.Option.{none-some, same_Some}
use Rattle.os9_base.specs.declared.registers.TimePacket.{TimePacket}
use Rattle.cpu_model.specs.Step.{Outcome, Done, Calls, Aborts}
use Rattle.proc_model.specs.Records.{IsLiving, free_process, record_at, record_of}
use Rattle.proc_model.specs.Attempts.{after_attempt}
use Rattle.proc_model.specs.CallResult.{CallResult, done, refused, waits, ends}
use Rattle.proc_model.specs.Delivery.{delivered}
use Rattle.proc_model.specs.Processes.{Processes, regs_at}
use Rattle.proc_model.specs.Ready.{Act, attempts, delivers, executes, act_of}
use Rattle.proc_model.specs.declared.proc_call.ProcCall.TheVariants as Call
use Rattle.io_model.specs.Path.{PathTable, desc_of, free_number, free_path, inherited_numbers, numbers_of, paths_after_begin, paths_after_inherit, slot_of, with_desc, with_path}
use Rattle.io_model.specs.Terminal.{Terminal, new_terminal, used_by, without_reading}
use Rattle.io_model.specs.declared.path.Desc.{Desc}
use Rattle.io_model.specs.declared.path.SysPath.{SysPath}
use Rattle.io_model.specs.Attempts.{IoAttempts}
use Rattle.io_model.specs.Codes.{direction_of, direction_of_call, io_call_of}
use Rattle.io_model.specs.Io.{Io, OpenPath, pending_at, open_path, terminal_at}
use Rattle.io_model.specs.Processes.{io_started}
use Rattle.io_model.specs.Waiting.{pid}
use Rattle.io_model.specs.declared.io_call.Direction.TheVariants.{Writing}
use Rattle.io_model.specs.declared.io_call.IoCall.{IoCall}
use Rattle.file_rules.specs.Attempts.{asker_of}
use Rattle.file_rules.specs.Files.{Asker, Files, OpenFile, open_file}
use Rattle.file_rules.specs.declared.path_call.PathCall.{PathCall}
use Rattle.file_rules.specs.declared.path_call.PathCall.TheVariants as OnPath
use Rattle.machine_model.specs.ProcessEvent.{next_instruction}
use Rattle.machine_model.specs.declared.ends.EventEnd.{EventEnd}
use Rattle.call_laws.specs.Terminals.{KeepsReading}
use Rattle.call_laws.specs.Others.{AttemptsCall}
use Rattle.call_laws.proofs.ForkedChildren.{NamesChild}
use Rattle.call_laws.proofs.PathsKept.{open-stays}
use Rattle.call_laws.specs.PathOthers.{LeavesPaths}
use Rattle.call_laws.proofs.IoKept.{EffectLeft, FailsOn}
use Rattle.call_laws.proofs.OthersLeft.{attempt-leaves, effect-left, left-leaves}
use Rattle.call_laws.proofs.OthersKept.{free-is, living-record}
use Rattle.call_laws.proofs.PathsKept.{IoLeft, PathsLeft, io-call, io-ended, io-interrupted, io-same, left-numbers}
use Rattle.file_laws.specs.Devices.{DeviceAttempted, number_in}
use Rattle.file_laws.specs.Touch.{ChangesPath, IsSamePath, KeepsIo, TouchesNoDevice, PathsMove, WaitsForRecord}
use Rattle.file_rules.specs.Locking.{call_of}
use Rattle.file_laws.proofs.TouchAttempts.{attempt-comes}
use Rattle.file_laws.proofs.Codes.{code-there}
use Rattle.file_laws.proofs.Keeps.{IsNamed, file-named, free-desc, io-kept}
use Rattle.file_laws.proofs.Loads.{chain-leaves, fork-leaves, load-leaves}
use Rattle.machine_model.specs.Event.{Acts, Event, before_delivery, files_after_delivery, files_after_instruction}
use Rattle.machine_model.specs.Services.{Serves, Service, files_after_call, files_after_fork, loads, no_call, on_paths, on_processes, on_time, service_of, with_files}
use Rattle.machine_model.specs.State.{Rest, State, with_rest}
use Rattle.isolation_laws.specs.Drives.{AttemptsService}
use Rattle.isolation_laws.specs.InputOutput.{FailsInWrite, IsGivenPaths, LeavesIo, MovesPath, StaysOpen}
use Rattle.isolation_laws.proofs.Asked.{Asks, asks}
use Rattle.isolation_laws.proofs.Children.{fork-attempt-names}

-- ---- open paths

-- a path that a number names is there
path-there : (io : Io) (q n : ℕ) (opened : OpenPath) → open_path io q n ≡ Some opened → desc_of io.paths opened.path.0 ≡ Some opened.desc
path-there io q n opened is = by_slot (slot_of io.paths q n) is
  where
    with_place : SysPath → Option Desc → Option OpenPath
    with_place s place = option_map (λ (desc : Desc). let r : OpenPath = record { path = s; desc = desc } in r) place

    by_desc : (s : SysPath) (place : Option Desc) → desc_of io.paths s.0 ≡ place → with_place s place ≡ Some opened → desc_of io.paths opened.path.0 ≡ Some opened.desc
    by_desc s None at is = absurd (none-some opened is)
    by_desc s (Some d) at is =
        subst (λ (opened : OpenPath). desc_of io.paths opened.path.0 ≡ Some opened.desc) (same_Some (record { path = s; desc = d }) opened is) at

    by_slot : (place : Option SysPath) → option_and_then (λ (s : SysPath). with_place s (desc_of io.paths s.0)) place ≡ Some opened → desc_of io.paths opened.path.0 ≡ Some opened.desc
    by_slot None is = absurd (none-some opened is)
    by_slot (Some s) is = by_desc s (desc_of io.paths s.0) refl is

stays-open : (s : State) (p : ℕ) (t : State) (q n : ℕ) (opened : OpenPath) → open_path t.files.io q n ≡ Some opened → StaysOpen s p t q n opened
stays-open s p t q n opened is = record {
  now = opened;
  is = is;
  same = record { path = refl; desc = refl };
  position = inl refl;
  device = λ device. refl;
}

-- ---- what a call on paths does with the paths that are there

-- a path that begins is none that is there
begun-desc : (paths : PathTable) (p : ℕ) (new : Desc) (path : ℕ) (desc : Desc) → desc_of paths path ≡ Some desc → desc_of (paths_after_begin paths p new) path ≡ Some desc
begun-desc paths p new path desc was = by_places (free_number paths p) (free_path paths) refl
  where
    apart : (free : ℕ) → free_path paths ≡ Some free → path ≢ free
    apart free at same =
        none-some desc (sym (free-desc paths free at) ∙ ap (desc_of paths) (sym same) ∙ was)

    by_places : (number place : Option ℕ) → free_path paths ≡ place → desc_of (option_map_or (λ (n : ℕ). option_map_or (with_path paths p new n) place paths) number paths) path ≡ Some desc
    by_places None place at = was
    by_places (Some n) None at = was
    by_places (Some n) (Some free) at =
        get_or-set_other paths.descs free path (Some new) None (apart free at) ∙ was

-- the number of a path that a call takes is the same at all times
number-same : (call : PathCall) (m : Processes) (p : ℕ) (now other : TimePacket) → number_in call (asker_of m p now) ≡ number_in call (asker_of m p other)
number-same OnPath.PErr m p now other = refl
number-same call m p now other = refl

module _ (s : State) (p : ℕ) (call : PathCall) (attempted : AttemptsService s p (on_paths call)) (now : TimePacket) where
  abbrev asker : Asker
  asker = asker_of s.processes p now

  -- its descriptor stays, or the call moves its position
  abbrev DescComes : PathTable → OpenPath → Type 0
  DescComes paths opened = (desc_of paths opened.path.0 ≡ Some opened.desc) ⊎ MovesPath s p opened

  module _ (opened : OpenPath) (was : desc_of s.files.io.paths opened.path.0 ≡ Some opened.desc) where
    -- the path that its number names gets another descriptor
    desc-changed : (paths : PathTable) (found : OpenFile) (new : Desc) → ChangesPath call asker → open_file s.files p
        (number_in call asker) ≡ Some found → paths ≡ with_desc s.files.io.paths found.opened.path.0 (Some new)
        → DescComes paths opened
    desc-changed paths found new changes named is = by_path (cases_eq opened.path.0 found.opened.path.0)
      where
        there : IsNamed s.files p (number_in call asker) found
        there = file-named s.files p (number_in call asker) found named

        by_path : (opened.path.0 ≡ found.opened.path.0) ⊎ (opened.path.0 ≢ found.opened.path.0) → DescComes paths opened
        by_path (inl same) =
            let path : found.opened.path ≡ opened.path = λ i. record { 0 = sym same i } in
            let desc : found.opened.desc ≡ opened.desc = same_Some found.opened.desc opened.desc (sym there.desc ∙ ap (desc_of s.files.io.paths) (sym same) ∙ was) in
            inr (record {
              call = call;
              attempted = attempted;
              moves = changes;
              found = found;
              named = ap (open_file s.files p) (number-same call s.processes p s.clock.from now) ∙ named;
              same = λ i. record { path = path i; desc = desc i };
            })
        by_path (inr differ) =
            inl (ap (λ (paths : PathTable). desc_of paths opened.path.0) is ∙ get_or-set_other s.files.io.paths.descs found.opened.path.0 opened.path.0 (Some new) None differ ∙ was)

    desc-comes : (paths : PathTable) → PathsMove call asker s.files paths → DescComes paths opened
    desc-comes paths (inl same) = inl (ap (λ (paths : PathTable). desc_of paths opened.path.0) same ∙ was)
    desc-comes paths (inr (inl moved)) =
        desc-changed paths moved.found (record moved.found.opened.desc { at = moved.at }) (inl moved.moves) moved.named moved.is
    desc-comes paths (inr (inr (inl set))) =
        desc-changed paths set.found (record set.found.opened.desc { ticks = asker.caller.regs.x }) (inr set.sets) set.named set.is
    desc-comes paths (inr (inr (inr begins))) =
        inl (ap (λ (paths : PathTable). desc_of paths opened.path.0) begins.is ∙ begun-desc s.files.io.paths p _ opened.path.0 opened.desc was)

  -- where input and output stay but for paths on files
  module _ (t : State) (move : PathsMove call asker s.files t.files.io.paths) (kept : KeepsIo p s.files.io t.files.io) where
    stays-by : (q n : ℕ) (opened now : OpenPath) → open_path t.files.io q n ≡ Some now → IsSamePath opened now → desc_of t.files.io.paths opened.path.0 ≡ Some opened.desc → now ≡ opened
    stays-by q n opened now is same stays =
        let there : desc_of t.files.io.paths now.path.0 ≡ Some now.desc = path-there t.files.io q n now is in
        let descs : now.desc ≡ opened.desc = same_Some now.desc opened.desc (sym there ∙ ap (λ (path : SysPath). desc_of t.files.io.paths path.0) same.path ∙ stays) in
        λ i. record { path = same.path i; desc = descs i }

    path-comes : (q n : ℕ) (opened now : OpenPath) → open_path t.files.io q n ≡ Some now → IsSamePath opened now → DescComes t.files.io.paths opened → (now ≡ opened) ⊎ MovesPath s p opened
    path-comes q n opened now is same (inl stays) = inl (stays-by q n opened now is same stays)
    path-comes q n opened now is same (inr moves) = inr moves

    path-stays : (q n : ℕ) (opened : OpenPath) → open_path s.files.io q n ≡ Some opened → StaysOpen s p t q n opened
    path-stays q n opened is =
        let was : desc_of s.files.io.paths opened.path.0 ≡ Some opened.desc = path-there s.files.io q n opened is in
        let (now, is_now, same) = kept.paths.paths q n opened is in
        record {
          now = now;
          is = is_now;
          same = same;
          position = path-comes q n opened now is_now same (desc-comes opened was t.files.io.paths move);
          device = λ device. stays-by q n opened now is_now same (kept.paths.devices opened.path.0 opened.desc was device);
        }

    leaves-by-kept : LeavesIo s p t
    leaves-by-kept = record {
      numbers = λ q differ. inl (kept.paths.numbers q differ);
      paths = λ q n opened differ lives was. path-stays q n opened was;
      calls = kept.calls.others;
      readings = λ n q differ is.
          inl (subst (KeepsReading (terminal_at s.files.io n)) (ap (λ (terminals : List Terminal). slice_index_or terminals n new_terminal) (sym kept.terminals)) refl);
    }

-- ---- what a change of input and output leaves

leaves-by : (s : State) (p : ℕ) (t : State) → IoLeft p s.files.io t.files.io → LeavesIo s p t
leaves-by s p t left =
    let leaves = left-leaves p s.files.io t.files.io left in
    record {
      numbers = λ q differ. inl (leaves.numbers q differ);
      paths = λ q n opened differ lives is. stays-open s p t q n opened (leaves.paths q n opened differ is);
      calls = leaves.calls;
      readings = λ n q differ is. inl (left.readings n q differ is);
    }

leaves-same : (s : State) (p : ℕ) (t : State) → t.files.io ≡ s.files.io → LeavesIo s p t
leaves-same s p t same = leaves-by s p t (subst (IoLeft p s.files.io) (sym same) (io-same p s.files.io))

-- a call on a terminal or a pipe
module _ (s : State) (p code : ℕ) (call : IoCall) (next : act_of s.processes p ≡ attempts code)
    (coded : io_call_of code ≡ Some call) (drives : ℕ) (result : CallResult) (t : State)
    (attempt : IoAttempts call s.processes s.files.io drives p result t.files.io s.terms t.terms) where
  direction : direction_of_call call ≡ Some Writing → direction_of code ≡ Some Writing
  direction is = ap (option_and_then direction_of_call) coded ∙ is

  left : EffectLeft call p s.files.io attempt.effect.io s.terms t.terms
  left = effect-left call s.processes s.files.io t.files.io drives p result s.terms t.terms attempt

  leaves : LeavesPaths p s.files.io t.files.io
  leaves = attempt-leaves call s.processes s.files.io t.files.io drives p result s.terms t.terms attempt

  same-terminal : (n : ℕ) → terminal_at t.files.io n ≡ terminal_at attempt.effect.io n
  same-terminal n = ap (λ (io : Io). terminal_at io n) attempt.state

  by-reading : (n q : ℕ) → KeepsReading (terminal_at s.files.io n) (terminal_at attempt.effect.io n) ⊎
      (direction_of_call call ≡ Some Writing) × FailsOn n s.terms t.terms × (terminal_at attempt.effect.io n ≡
      without_reading (used_by (pid p) (terminal_at s.files.io n))) → KeepsReading (terminal_at s.files.io n)
      (terminal_at t.files.io n) ⊎ FailsInWrite s p n t × (terminal_at t.files.io n ≡ without_reading
      (used_by (pid p) (terminal_at s.files.io n)))
  by-reading n q (inl stays) = inl (subst (KeepsReading (terminal_at s.files.io n)) (sym (same-terminal n)) stays)
  by-reading n q (inr (way, failed, gone)) =
      inr (record { writes = (code, next, direction way); failed = failed }, same-terminal n ∙ gone)

  device-leaves : LeavesIo s p t
  device-leaves = record {
    numbers = λ q differ. inl (leaves.numbers q differ);
    paths = λ q n opened differ lives is. stays-open s p t q n opened (leaves.paths q n opened differ is);
    calls = leaves.calls;
    readings = λ n q differ is. by-reading n q (left.readings n q differ is);
  }

-- ---- a child is given the standard paths

module _ (s : State) (p : ℕ) (call : AttemptsCall s.processes p Call.Fork) (child : ℕ) (free : free_process s.processes.records ≡ Some child) where
  abbrev begun : Io
  begun = io_started s.files.io p child

  begun-left : PathsLeft child s.files.io.paths (paths_after_inherit s.files.io.paths p child)
  begun-left = left-numbers child s.files.io.paths (inherited_numbers (numbers_of s.files.io.paths p))

  not-child : (q : ℕ) → IsLiving s.processes.records q → q ≢ child
  not-child q lives same =
      none-some (record_at s.processes.records q) (sym (free-is s.processes.records child free).none ∙ ap (record_of s.processes.records) (sym same) ∙ living-record s.processes.records q lives)

  abbrev NumbersCome : ℕ → Io → Type 0
  NumbersCome q io = (numbers_of io.paths q ≡ numbers_of s.files.io.paths q) ⊎ IsGivenPaths s p q (numbers_of io.paths q)

  at-child : (child < length s.files.io.paths.own) ⊎ (length s.files.io.paths.own ≤ child) → NumbersCome child begun
  at-child (inl within) =
      inr (subst (IsGivenPaths s p child)
      (sym (get_or-set_same s.files.io.paths.own child (inherited_numbers (numbers_of s.files.io.paths p)) []
      within)) (record { call = call; number = free; given = refl }))
  at-child (inr past) =
      inl (get_or_past begun.paths.own child [] (rw length-set past) ∙ sym (get_or_past s.files.io.paths.own child [] past))

  by-child : (q : ℕ) → (q ≡ child) ⊎ (q ≢ child) → NumbersCome q begun
  by-child q (inl same) =
      subst (λ (q : ℕ). NumbersCome q begun) (sym same) (at-child (cases_lt child (length s.files.io.paths.own)))
  by-child q (inr differ) = inl (begun-left.numbers q differ)

  started-leaves : (t : State) → t.files.io ≡ begun → LeavesIo s p t
  started-leaves t is = record {
    numbers = λ q differ. subst (NumbersCome q) (sym is) (by-child q (cases_eq q child));
    paths =
        λ q n opened differ lives was. stays-open s p t q n opened (ap (λ (io : Io). open_path io q n) is ∙ open-stays
        s.files.io begun q n opened (begun-left.numbers q (not-child q lives)) (λ path d named there. there) was);
    calls = λ q differ. ap (λ (io : Io). pending_at io q) is;
    readings = λ n q differ reads.
        inl (subst (KeepsReading (terminal_at s.files.io n)) (ap (λ (io : Io). terminal_at io n) (sym is)) refl);
  }

-- ---- an attempt of a call

module _ (s : State) (p code : ℕ) (next : act_of s.processes p ≡ attempts code) (lives : IsLiving s.processes.records p) (now : TimePacket) (rest : Rest) (processes : Processes) where
  abbrev then : State
  then = with_rest s processes rest

  fork-leaves-io : AttemptsCall s.processes p Call.Fork → (files : Files) (result : CallResult) → NamesChild s.processes p
      result → files.io ≡ s.files.io → rest ≡ with_files s (files_after_fork files p result) → LeavesIo s p then
  fork-leaves-io call files (done t) names same is =
      started-leaves s p call (regs_at t p).a names then
      (ap (λ (rest : Rest). rest.files.io) is ∙ ap (λ (io : Io). io_started io p (regs_at t p).a) same)
  fork-leaves-io call files (refused number) names same is =
      leaves-same s p then (ap (λ (rest : Rest). rest.files.io) is ∙ same)
  fork-leaves-io call files (waits t) names same is =
      leaves-same s p then (ap (λ (rest : Rest). rest.files.io) is ∙ same)
  fork-leaves-io call files (ends status) names same is =
      leaves-same s p then (ap (λ (rest : Rest). rest.files.io) is ∙ same)

  call-leaves-io : (result : CallResult) → rest ≡ with_files s (files_after_call s.files p result) → LeavesIo s p then
  call-leaves-io (done t) is = leaves-same s p then (ap (λ (rest : Rest). rest.files.io) is)
  call-leaves-io (refused number) is = leaves-same s p then (ap (λ (rest : Rest). rest.files.io) is)
  call-leaves-io (waits t) is = leaves-same s p then (ap (λ (rest : Rest). rest.files.io) is)
  call-leaves-io (ends status) is =
      leaves-by s p then
      (subst (IoLeft p s.files.io) (ap (λ (rest : Rest). rest.files.io) (sym is)) (io-ended p s.files.io))

  serves-io : (service : Service) (result : CallResult) → service_of code ≡ service → Asks code service → Serves service s now p result rest → LeavesIo s p then
  serves-io loads result serves asked (files, it, is) =
      let left = load-leaves s.processes (asker_of s.processes p now) s.files (length s.terms) p result files it in
      leaves-same s p then (ap (λ (rest : Rest). rest.files.io) is ∙ left.io)
  serves-io (on_processes Call.Fork) result serves asked (files, it, is) =
      let left = fork-leaves s.processes (asker_of s.processes p now) s.files (length s.terms) p result files it in
      fork-leaves-io (code, next, asked) files result (fork-attempt-names s.processes p lives (asker_of s.processes p now) s.files (length s.terms) result files it) left.io is
  serves-io (on_processes Call.Chain) result serves asked (files, it, is) =
      let left = chain-leaves s.processes (asker_of s.processes p now) s.files (length s.terms) p result files it in
      leaves-same s p then (ap (λ (rest : Rest). rest.files.io) is ∙ left.io)
  serves-io (on_processes call) result serves asked it = call-leaves-io result it.1
  serves-io (on_time call) result serves asked (clock, it, is) = leaves-same s p then (ap (λ (rest : Rest). rest.files.io) is)
  serves-io (on_paths call) result serves asked (it, same) =
      by_device (attempt-comes call s.processes s.files now p result rest.files s.terms rest.terms it)
    where
      by_device : DeviceAttempted call s.processes s.files p result rest.files s.terms rest.terms ⊎ TouchesNoDevice call s.processes
          s.files now p result rest.files s.terms rest.terms ⊎ WaitsForRecord call s.processes s.files now p result
          rest.files s.terms rest.terms → LeavesIo s p then
      by_device (inl on) =
          device-leaves s p code on.device next (code-there code call asked ∙ on.device_is) (length s.files.drives) result then on.attempted
      by_device (inr (inl none)) =
          leaves-by-kept s p call (code, next, serves) now then none.paths (io-kept s.processes s.files p result rest.files s.terms rest.terms none)
      by_device (inr (inr waiting)) =
          leaves-by s p then (subst (IoLeft p s.files.io) (sym waiting.io) (io-call p s.files.io (Some (call_of waiting.request))))
  serves-io no_call result serves asked (result_is, is) = leaves-same s p then (ap (λ (rest : Rest). rest.files.io) is)

-- ---- each event

after-instruction : (s : State) (p : ℕ) (outcome : Outcome) → IoLeft p s.files.io (files_after_instruction s.files p outcome).io
after-instruction s p (Done effect) = io-same p s.files.io
after-instruction s p (Calls code regs) = io-same p s.files.io
after-instruction s p (Aborts status) = io-ended p s.files.io

after-delivery : (s : State) (p : ℕ) (result : Result Processes ℕ) → IoLeft p s.files.io (files_after_delivery s.files p result).io
after-delivery s p (Ok t) = io-interrupted p s.files.io
after-delivery s p (Err status) = io-ended p s.files.io

acts-leave-io : (act : Act) (s : State) (p : ℕ) (end : EventEnd) (t : State) → IsLiving s.processes.records p → act_of s.processes p ≡ act → Acts act s p end t → LeavesIo s p t
acts-leave-io executes s p end t lives next (over, is) =
    subst (LeavesIo s p) (sym is) (leaves-by s p _ (after-instruction s p (next_instruction s.processes p)))
acts-leave-io (delivers signal) s p end t lives next (over, is) =
    subst (LeavesIo s p) (sym is) (leaves-by s p _ (after-delivery s p (delivered (before_delivery s p) p signal)))
acts-leave-io (attempts code) s p end t lives next (result, rest, (now, is_now, it), over, is) =
    subst (LeavesIo s p) (sym is) (serves-io s p code next lives now rest (after_attempt s.processes p result) (service_of code) result refl (asks code) it)

-- the process of an event is the one that was chosen
pub event-leaves-io : (s t : State) (end : EventEnd) (p : ℕ) → s.chosen ≡ Some p → Event s end t → LeavesIo s p t
event-leaves-io s t end p chosen (q, chosen_too, lives, acts) =
    let same : q ≡ p = same_Some q p (sym chosen_too ∙ chosen) in
    subst (λ (p : ℕ). LeavesIo s p t) same (acts-leave-io (act_of s.processes q) s q end t lives refl acts)
