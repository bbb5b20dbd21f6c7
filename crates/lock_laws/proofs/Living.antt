-- Only living processes have paths, in every state of a run.
use Rattle.std.proofs.Common.{◌≡◌, ◌≢◌, ◌⊎◌, ℕ, zero, suc, ◌<◌, ◌≤◌, not, Bool, true, false, Option, Some, None, Result, Ok, Err, List, [], ◌∷◌, ◌+◌, length, get_or, replicate, refl, sym, ap, ◌∙◌, subst, inl, inr, arith}
use Rattle.std.specs.Prelude.{slice_set, if◌then◌else◌}
use Rattle.std.specs.Option.{option_map_or}
use Rattle.std.proofs.lemmas.Bool.{cases_eq, cases_lt, false≢true}
use Rattle.std.proofs.lemmas.List.{get_or-replicate, get_or-set_other, get_or-set_same, get_or_past, length-set}
use Rattle.std.proofs.lemmas.Option.{none-some}
use Rattle.os9_base.specs.declared.registers.Regs.{Regs}
use Rattle.os9_base.specs.declared.registers.TimePacket.{TimePacket}
use Rattle.os9_outer.specs.TerminalState.{TerminalState}
use Rattle.cpu_model.specs.Step.{Aborts, Calls, Done, Outcome}
use Rattle.proc_model.specs.Records.{IsLiving, has_ended, is_living, record_at, record_of, record_passes, with_record}
use Rattle.proc_model.specs.declared.record.Record.{Record}
use Rattle.proc_model.specs.Attempts.{after_attempt, done_regs, goes_on, refused_regs}
use Rattle.proc_model.specs.CallResult.{CallResult, done, ends, refused, waits}
use Rattle.proc_model.specs.Delivery.{after_delivery, delivered}
use Rattle.proc_model.specs.Processes.{Processes, regs_at}
use Rattle.proc_model.specs.Ready.{Act, act_of, attempts, delivers, executes}
use Rattle.proc_model.specs.declared.proc_call.ProcCall.TheVariants as Call
use Rattle.io_model.specs.Path.{PathTable, free_number, free_path, inherited_numbers, is_held, no_paths, numbers_of, path_at, paths_after_begin, paths_after_close, paths_after_dup, paths_after_inherit, slot_of, with_desc, with_path, with_slot}
use Rattle.io_model.specs.declared.path.Desc.{Desc}
use Rattle.io_model.specs.declared.path.SysPath.{SysPath}
use Rattle.io_model.specs.declared.path.Target.TheVariants.{Pipe, Term}
use Rattle.io_model.specs.declared.path.TheConstants.{PROCESS_PATHS}
use Rattle.io_model.specs.Attempts.{HasIoEffect, IoAttempts, caller_of, step_of}
use Rattle.io_model.specs.Close.{after_close}
use Rattle.io_model.specs.Io.{Io, new_desc}
use Rattle.io_model.specs.Processes.{closed_below, closed_if_open, io_ended, io_started}
use Rattle.io_model.specs.Step.{Caller, IoEffect, IoStep, comes, reads, refused as io_refused, writes}
use Rattle.io_model.specs.declared.io_call.IoCall.{IoCall}
use Rattle.file_rules.specs.Attempts.{FileAttempts, asker_of}
use Rattle.file_rules.specs.Files.{Asker, Files}
use Rattle.file_rules.specs.declared.path_call.PathCall.{PathCall}
use Rattle.call_laws.specs.Others.{ComesOf}
use Rattle.call_laws.proofs.CallsKept.{AttemptLeft}
use Rattle.call_laws.proofs.EndsKept.{by-end}
use Rattle.call_laws.proofs.ForksKept.{attempt-left}
use Rattle.call_laws.proofs.OthersKept.{living-within, record-other}
use Rattle.call_laws.proofs.OthersLeft.{attempt-leaves as others-leave}
use Rattle.call_laws.proofs.PathsKept.{io-ended, left-begin, left-dup}
use Rattle.call_laws.proofs.StepWalk.{StepGives, Walk, step-gives}
use Rattle.file_laws.specs.Attempt.{Attempt, OnDevice, TouchesNone, WaitsOnRecord, asker_in}
use Rattle.file_laws.specs.Touch.{PathsMove}
use Rattle.file_laws.proofs.Keeps.{stays}
use Rattle.file_laws.proofs.OfAttempts.{comes-of}
use Rattle.lock_laws.proofs.Descs.{close-paths, closes-ended, closes-if, interrupted-paths}
use Rattle.os9_base.specs.declared.errors.TheConstants.{E_UNKSVC}
use Rattle.proc_model.specs.declared.record.Life.TheVariants.{Running, Waiting}
use Rattle.proc_model.specs.Records.{with_regs}
use Rattle.proc_model.specs.Attempts.{attempted}
use Rattle.proc_model.specs.declared.proc_call.ProcCall.{ProcCall}
use Rattle.io_model.specs.Attempts.{result_by}
use Rattle.io_model.specs.Io.{first_io, first_paths}
use Rattle.io_model.specs.Step.{IoEnd, answers, fails, keeps}
use Rattle.io_model.specs.Waiting.{interrupted_count}
use Rattle.file_rules.specs.Attempts.{io_effect}
use Rattle.time_rules.specs.Attempts.{time_step}
use Rattle.file_laws.proofs.Loads.{chain-leaves, fork-leaves, load-leaves}
use Rattle.machine_model.specs.Console.{terminals_emptied}
use Rattle.machine_model.specs.ProcessEvent.{after_instruction, delivery_end, next_instruction}
use Rattle.machine_model.specs.ProcessStart.{first_start, only_process}
use Rattle.machine_model.specs.declared.ends.EventEnd.{EventEnd}
use Rattle.machine_model.specs.Event.{Acts, Event, before_delivery, files_after_delivery, files_after_instruction}
use Rattle.machine_model.specs.Run.{Choose, Tick, desk_of, is_going}
use Rattle.machine_model.specs.Services.{Serves, Service, files_after_call, files_after_fork, loads, no_call, on_paths, on_processes, on_time, service_of, with_files}
use Rattle.machine_model.specs.Start.{Boot, Starts}
use Rattle.machine_model.specs.State.{Rest, State, with_rest}
use Rattle.isolation_laws.proofs.Asked.{Asks, asks}
use Rattle.isolation_laws.proofs.EventsKept.{event-leaves}
use Rattle.call_laws.proofs.Attempts.{time-over}
use Rattle.call_laws.proofs.Loads.{Child, chain-over, fork-over, load-over}
use Rattle.call_laws.proofs.Over.{IsNoEnd, IsOver, Over, aside-goes_on, over-refused}
use Rattle.call_laws.proofs.RunningLaws.{arrivals-left, tick-leaves}
use Rattle.lock_laws.proofs.VolumeEvents.{attempt_by}
use Rattle.run_laws.proofs.Going.{broken-goes, instruction-goes}
use Rattle.lock_laws.specs.Living.{AreOfLiving}

-- ---- how many numbers

-- a process has no more numbers than before
few-slot : (paths : PathTable) (p q n : ℕ) (path : Option SysPath) → length (numbers_of (with_slot paths p n path) q) ≤ length (numbers_of paths q)
few-slot paths p q n path = by_process (cases_eq q p)
  where
    by_place : (p < length paths.own) ⊎ (length paths.own ≤ p) → length (numbers_of (with_slot paths p n path) p) ≤ length (numbers_of paths p)
    by_place (inl within) =
        let is : numbers_of (with_slot paths p n path) p ≡ slice_set (numbers_of paths p) n path = get_or-set_same paths.own p (slice_set (numbers_of paths p) n path) [] within in
        let long : length (numbers_of (with_slot paths p n path) p) ≡ length (numbers_of paths p) = ap (λ (numbers : List
        (Option SysPath)). length numbers) is ∙ length-set (numbers_of paths p) n path in
        omega (arith, long)
    by_place (inr past) =
        let none : length (numbers_of (with_slot paths p n path) p) ≡ 0 = ap (λ (numbers : List
        (Option SysPath)). length numbers) (get_or_past (with_slot paths p n path).own p [] (rw length-set past)) in
        omega (arith, none)

    by_process : (q ≡ p) ⊎ (q ≢ p) → length (numbers_of (with_slot paths p n path) q) ≤ length (numbers_of paths q)
    by_process (inl same) =
        subst (λ (q : ℕ). length (numbers_of (with_slot paths p n path) q) ≤ length (numbers_of paths q)) (sym same) (by_place (cases_lt p (length paths.own)))
    by_process (inr differ) =
        let is : length (numbers_of (with_slot paths p n path) q) ≡ length (numbers_of paths q) = ap (λ (numbers : List (Option SysPath)). length numbers)
        (get_or-set_other paths.own p q (slice_set (numbers_of paths p) n path) [] differ) in
        omega (arith, is)

inherited-few : (numbers : List (Option SysPath)) → length (inherited_numbers numbers) ≤ PROCESS_PATHS
inherited-few [] = omega arith
inherited-few (a ∷ []) = omega arith
inherited-few (a ∷ b ∷ []) = omega arith
inherited-few (a ∷ b ∷ c ∷ rest) = omega arith

module _ (q : ℕ) where
  abbrev Few : PathTable → Type 0
  Few paths = length (numbers_of paths q) ≤ PROCESS_PATHS

  few-then : (old new : PathTable) → length (numbers_of new q) ≤ length (numbers_of old q) → Few old → Few new
  few-then old new less few = omega (arith, less, few)

  few-dup : (paths : PathTable) (p n : ℕ) → Few paths → Few (paths_after_dup paths p n)
  few-dup paths p n few = by_place (free_number paths p)
    where
      by_place : (free : Option ℕ) → Few (option_map_or (λ free. with_slot paths p free (slot_of paths p n)) free paths)
      by_place None = few
      by_place (Some free) =
          few-then paths (with_slot paths p free (slot_of paths p n)) (few-slot paths p q free (slot_of paths p n)) few

  few-begin : (paths : PathTable) (p : ℕ) (desc : Desc) → Few paths → Few (paths_after_begin paths p desc)
  few-begin paths p desc few = by_places (free_number paths p) (free_path paths)
    where
      by_places : (number path : Option ℕ) → Few (option_map_or (λ n. option_map_or (with_path paths p desc n) path paths) number paths)
      by_places None path = few
      by_places (Some n) None = few
      by_places (Some n) (Some s) =
          few-then (with_desc paths s (Some desc)) (with_path paths p desc n s) (few-slot (with_desc paths s (Some desc)) p q n (Some (record { 0 = s }))) few

  few-close : (paths : PathTable) (p n : ℕ) → Few paths → Few (paths_after_close paths p n)
  few-close paths p n few = by_holder (is_held (with_slot paths p n None) (path_at paths p n))
    where
      freed : Few (with_slot paths p n None)
      freed = few-then paths (with_slot paths p n None) (few-slot paths p q n None) few

      by_holder : (held : Bool) → Few (if held then with_slot paths p n None else with_desc (with_slot paths p n None) (path_at paths p n) None)
      by_holder true = freed
      by_holder false = freed

  few-closed : (io : Io) (p n : ℕ) → Few io.paths → Few (after_close io p n).paths
  few-closed io p n few = subst Few (sym (close-paths io p n)) (few-close io.paths p n few)

  few-if : (io : Io) (p n : ℕ) (path : Option SysPath) → Few io.paths → Few (closed_if_open io p n path).paths
  few-if io p n None few = few
  few-if io p n (Some path) few = few-closed io p n few

  few-below : (io : Io) (p n : ℕ) → Few io.paths → Few (closed_below io p n).paths
  few-below io p zero few = few
  few-below io p (suc n) few =
      few-if (closed_below io p n) p n (slot_of (closed_below io p n).paths p n) (few-below io p n few)

  few-ended : (p : ℕ) (io : Io) → Few io.paths → Few (io_ended io p).paths
  few-ended p io few = few-below io p PROCESS_PATHS few

  few-inherit : (paths : PathTable) (p child : ℕ) → Few paths → Few (paths_after_inherit paths p child)
  few-inherit paths p child few = by_process (cases_eq q child)
    where
      by_place : (child < length paths.own) ⊎ (length paths.own ≤ child) → length (numbers_of (paths_after_inherit paths p child) child) ≤ PROCESS_PATHS
      by_place (inl within) =
          subst (λ (numbers : List (Option SysPath)). length numbers ≤ PROCESS_PATHS) (sym (get_or-set_same paths.own child
          (inherited_numbers (numbers_of paths p)) [] within)) (inherited-few (numbers_of paths p))
      by_place (inr past) =
          let none : length (numbers_of (paths_after_inherit paths p child) child) ≡ 0 = ap (λ (numbers : List (Option SysPath)). length numbers)
          (get_or_past (paths_after_inherit paths p child).own child [] (rw length-set past)) in
          omega (arith, none)

      by_process : (q ≡ child) ⊎ (q ≢ child) → Few (paths_after_inherit paths p child)
      by_process (inl same) =
          subst (λ (q : ℕ). length (numbers_of (paths_after_inherit paths p child) q) ≤ PROCESS_PATHS) (sym same) (by_place (cases_lt child (length paths.own)))
      by_process (inr differ) =
          subst (λ (numbers : List (Option SysPath)). length numbers ≤ PROCESS_PATHS) (sym (get_or-set_other paths.own child q (inherited_numbers (numbers_of paths p)) [] differ)) few

  few-walk : (caller : Caller) (io : Io) (terms : ℕ) → Few io.paths → Walk (λ io. Few io.paths) caller io terms
  few-walk caller io terms few = record {
    same = few;
    pipes = λ pipes. few;
    dup = few-dup io.paths caller.process.0 caller.regs.a few;
    close = few-closed io caller.process.0 caller.regs.a few;
    on_terminal = λ terminal within. few-begin io.paths caller.process.0 (new_desc (Term terminal) caller.regs.a) few;
    on_pipe = λ pipe free. few-begin io.paths caller.process.0 (new_desc (Pipe pipe) caller.regs.a) few;
  }

  few-does : (call : IoCall) (caller : Caller) (io : Io) (step : IoStep) (effect : IoEffect)
      (before after : List TerminalState) → Few io.paths → StepGives call (λ io. Few io.paths) caller io step → HasIoEffect step caller io effect
      before after → Few effect.io.paths
  few-does call caller io (io_refused number) effect before after few gives (is, same) =
      subst (λ (effect : IoEffect). Few effect.io.paths) (sym is) few
  few-does call caller io (comes it) effect before after few gives (is, same) =
      subst (λ (effect : IoEffect). Few effect.io.paths) (sym is) gives
  few-does call caller io (reads read) effect before after few gives does =
      subst (λ (effect : IoEffect). Few effect.io.paths) (sym does.effect_is) few
  few-does call caller io (writes write) effect before after few gives does =
      subst (λ (effect : IoEffect). Few effect.io.paths) (sym does.effect_is) few

  few-device : (call : IoCall) (m : Processes) (io : Io) (p drives : ℕ) (result : CallResult) (new : Io)
      (before after : List TerminalState) → IoAttempts call m io drives p result new before after → Few io.paths → Few new.paths
  few-device call m io p drives result new before after attempt few =
      subst (λ (new : Io). Few new.paths) (sym attempt.state)
      (few-does call (caller_of m p) io (step_of call m p io drives before) attempt.effect before after few
      (step-gives call (λ io. Few io.paths) (caller_of m p) io drives (length before) (few-walk (caller_of m p) io (length before) few)) attempt.does)

  few-moved : (call : PathCall) (asker : Asker) (files : Files) (paths : PathTable) → PathsMove call asker files paths → Few files.io.paths → Few paths
  few-moved call asker files paths (inl same) few = subst Few (sym same) few
  few-moved call asker files paths (inr (inl moves)) few = subst Few (sym moves.is) few
  few-moved call asker files paths (inr (inr (inl sets))) few = subst Few (sym sets.is) few
  few-moved call asker files paths (inr (inr (inr begins))) few =
      subst Few (sym begins.is) (few-begin files.io.paths asker.caller.process.0 (new_desc begins.target asker.caller.regs.a) few)

  pub few-attempt : (it : Attempt) → Few it.files.io.paths → Few it.new.io.paths
  few-attempt it few = by_touch (comes-of it)
    where
      by_touch : OnDevice it ⊎ TouchesNone it ⊎ WaitsOnRecord it → Few it.new.io.paths
      by_touch (inl on) =
          few-device on.0.device it.processes it.files.io it.process (length it.files.drives) it.result it.new.io it.before it.after on.0.attempted few
      by_touch (inr (inl none)) = few-moved it.call (asker_in it) it.files it.new.io.paths none.paths few
      by_touch (inr (inr waiting)) = subst (λ (io : Io). Few io.paths) (sym waiting.io) few

-- ---- an ended process has no path

freed-none : (paths : PathTable) (p n : ℕ) → slot_of (with_slot paths p n None) p n ≡ None
freed-none paths p n = by_place (cases_lt p (length paths.own))
  where
    by_number : (n < length (numbers_of paths p)) ⊎ (length (numbers_of paths p) ≤ n) → get_or (slice_set (numbers_of paths p) n None) n None ≡ None
    by_number (inl within) = get_or-set_same (numbers_of paths p) n None None within
    by_number (inr past) = get_or_past (slice_set (numbers_of paths p) n None) n None (rw length-set past)

    by_place : (p < length paths.own) ⊎ (length paths.own ≤ p) → slot_of (with_slot paths p n None) p n ≡ None
    by_place (inl within) =
        ap (λ (numbers : List (Option SysPath)). get_or numbers n None) (get_or-set_same paths.own p (slice_set (numbers_of paths p) n None) [] within)
        ∙ by_number (cases_lt n (length (numbers_of paths p)))
    by_place (inr past) =
        ap (λ (numbers : List (Option SysPath)). get_or numbers n None) (get_or_past (with_slot paths p n None).own p [] (rw length-set past))

closed-none : (paths : PathTable) (p n : ℕ) → slot_of (paths_after_close paths p n) p n ≡ None
closed-none paths p n = by_holder (is_held (with_slot paths p n None) (path_at paths p n))
  where
    by_holder : (held : Bool) → slot_of (if held then with_slot paths p n None else with_desc (with_slot paths p n None) (path_at paths p n) None) p n ≡ None
    by_holder true = freed-none paths p n
    by_holder false = freed-none paths p n

if-none : (p : ℕ) (io : Io) (n : ℕ) (path : Option SysPath) → slot_of io.paths p n ≡ path → slot_of (closed_if_open io p n path).paths p n ≡ None
if-none p io n None named = named
if-none p io n (Some path) named =
    ap (λ (paths : PathTable). slot_of paths p n) (close-paths io p n) ∙ closed-none io.paths p n

-- a number that names no path names none later
stays-none : (p : ℕ) (old new : PathTable) → ((n : ℕ) (path : SysPath) → slot_of new p n ≡ Some path → slot_of old p n ≡ Some path) → (n : ℕ) → slot_of old p n ≡ None → slot_of new p n ≡ None
stays-none p old new slots n none = by_slot (slot_of new p n) refl
  where
    by_slot : (slot : Option SysPath) → slot_of new p n ≡ slot → slot ≡ None
    by_slot None is = refl
    by_slot (Some path) is = absurd (none-some path (sym none ∙ slots n path is))

below-none : (p : ℕ) (io : Io) (k n : ℕ) → n < k → slot_of (closed_below io p k).paths p n ≡ None
below-none p io zero n low = absurd (omega (arith, low))
below-none p io (suc k) n low = by_number (below-none p io k n) (cases_eq n k)
  where
    before : Io
    before = closed_below io p k

    by_number : (n < k → slot_of (closed_below io p k).paths p n ≡ None) → (n ≡ k) ⊎ (n ≢ k) → slot_of (closed_below io p (suc k)).paths p n ≡ None
    by_number later (inl same) =
        ap (λ (n : ℕ). slot_of (closed_below io p (suc k)).paths p n) same ∙ if-none p before k (slot_of before.paths p k) refl
    by_number later (inr differ) =
        stays-none p before.paths (closed_below io p (suc k)).paths (closes-if p before k (slot_of before.paths p k) refl).slots n (later (omega (arith, low, differ)))

pub ended-none : (p : ℕ) (io : Io) → length (numbers_of io.paths p) ≤ PROCESS_PATHS → (n : ℕ) → slot_of (io_ended io p).paths p n ≡ None
ended-none p io few n = by_number (cases_lt n PROCESS_PATHS)
  where
    by_number : (n < PROCESS_PATHS) ⊎ (PROCESS_PATHS ≤ n) → slot_of (io_ended io p).paths p n ≡ None
    by_number (inl low) = below-none p io PROCESS_PATHS n low
    by_number (inr past) =
        stays-none p io.paths (io_ended io p).paths (closes-ended p io).slots n (get_or_past (numbers_of io.paths p) n None (omega (arith, few, past)))

-- ---- a process that goes on lives

put-lives : (records : List (Option Record)) (p : ℕ) (r : Record) → p < length records → has_ended r.life ≡ false → IsLiving (with_record records p r) p
put-lives records p r within runs =
    ap (record_passes (λ r. not (has_ended r.life))) (get_or-set_same records p (Some r) None within) ∙ ap not runs

on-lives : (t : Processes) (p : ℕ) (regs : Regs) → p < length (goes_on t p regs).records → IsLiving (goes_on t p regs).records p
on-lives t p regs within =
    put-lives (with_regs t.records p regs) p (record (record_at (with_regs t.records p regs) p) { life = Running }) (subst (λ (n : ℕ). p < n) (length-set (with_regs t.records p regs) p _) within) refl

attempt-lives : (m : Processes) (p : ℕ) (result : CallResult) → IsNoEnd result → p < length (after_attempt m p result).records → IsLiving (after_attempt m p result).records p
attempt-lives m p (done t) none within = on-lives t p (done_regs (regs_at t p)) within
attempt-lives m p (refused number) none within = on-lives m p (refused_regs (regs_at m p) number) within
attempt-lives m p (waits t) none within =
    put-lives t.records p (record (record_at t.records p) { life = Waiting }) (subst (λ (n : ℕ). p < n) (length-set t.records p _) within) refl
attempt-lives m p (ends status) none within = absurd none

-- ---- the other processes

-- one that does not live then did not live, or is new
dead-was : (m : Processes) (p : ℕ) (end : EventEnd) (n : Processes) (q : ℕ) → ComesOf m p end n q (record_of m.records q) (record_of n.records q)
    → is_living n.records q ≡ false → is_living m.records q ≡ false
dead-was m p end n q so dead = by_places (record_of m.records q) (record_of n.records q) so dead
  where
    by_places : (old new : Option Record) → ComesOf m p end n q old new → record_passes (λ r. not (has_ended r.life)) new ≡ false → record_passes (λ r. not (has_ended r.life)) old ≡ false
    by_places (Some old) (Some new) still dead =
        sym (ap (λ (r : Record). not (has_ended r.life)) still.record_is.others) ∙ dead
    by_places (Some old) None goes dead = ap not goes.had_ended
    by_places None new so dead = refl

module _ (s t : State) (end : EventEnd) (p : ℕ) (it : AreOfLiving s) (chosen : s.chosen ≡ Some p) (event : Event s end t) where
  -- the others keep their numbers
  others-none : (q : ℕ) → q ≢ p → numbers_of t.files.io.paths q ≡ numbers_of s.files.io.paths q → is_living t.processes.records q ≡ false → (n : ℕ) → slot_of t.files.io.paths q n ≡ None
  others-none q differ same dead n =
      ap (λ (numbers : List (Option SysPath)). get_or numbers n None) same
      ∙ it.none q (dead-was s.processes p end t.processes q ((event-leaves s t end p chosen event).others q differ) dead) n

  -- what holds then, by what the process leaves
  living-then : ((q : ℕ) → length (numbers_of t.files.io.paths q) ≤ PROCESS_PATHS)
      → ((q : ℕ) → q ≢ p → (numbers_of t.files.io.paths q ≡ numbers_of s.files.io.paths q) ⊎ IsLiving t.processes.records q)
      → (is_living t.processes.records p ≡ false → (n : ℕ) → slot_of t.files.io.paths p n ≡ None) → AreOfLiving t
  living-then few others itself = record { few = few; none = λ q dead n. by_process q dead n (cases_eq q p) }
    where
      by_other : (q : ℕ) → q ≢ p → is_living t.processes.records q ≡ false → (n : ℕ)
          → (numbers_of t.files.io.paths q ≡ numbers_of s.files.io.paths q) ⊎ IsLiving t.processes.records q → slot_of t.files.io.paths q n ≡ None
      by_other q differ dead n (inl same) = others-none q differ same dead n
      by_other q differ dead n (inr lives) = absurd (false≢true (sym dead ∙ lives))

      by_process : (q : ℕ) → is_living t.processes.records q ≡ false → (n : ℕ) → (q ≡ p) ⊎ (q ≢ p) → slot_of t.files.io.paths q n ≡ None
      by_process q dead n (inl same) =
          ap (λ (q : ℕ). slot_of t.files.io.paths q n) same ∙ itself (ap (is_living t.processes.records) (sym same) ∙ dead) n
      by_process q dead n (inr differ) = by_other q differ dead n (others q differ)

  -- the process lives
  goes-then : ((q : ℕ) → length (numbers_of t.files.io.paths q) ≤ PROCESS_PATHS) → ((q : ℕ) → q ≢ p → (numbers_of t.files.io.paths q ≡ numbers_of s.files.io.paths q) ⊎ IsLiving t.processes.records q)
      → IsLiving t.processes.records p → AreOfLiving t
  goes-then few others lives = living-then few others (λ dead. absurd (false≢true (sym dead ∙ lives)))

  same-then : t.files.io.paths ≡ s.files.io.paths → IsLiving t.processes.records p → AreOfLiving t
  same-then same lives =
      goes-then (λ q. subst (λ (paths : PathTable). length (numbers_of paths q) ≤ PROCESS_PATHS) (sym same) (it.few q))
      (λ q differ. inl (ap (λ (paths : PathTable). numbers_of paths q) same)) lives

  -- it has ended
  ended-then : t.files.io ≡ io_ended s.files.io p → AreOfLiving t
  ended-then is =
      living-then (λ q. subst (λ (io : Io). length (numbers_of io.paths q) ≤ PROCESS_PATHS) (sym is) (few-ended q p s.files.io (it.few q)))
      (λ q differ. inl (ap (λ (io : Io). numbers_of io.paths q) is ∙ (io-ended p s.files.io).paths.numbers q differ))
      (λ dead n. ap (λ (io : Io). slot_of io.paths p n) is ∙ ended-none p s.files.io (it.few p) n)

  -- ---- an attempt

  module _ (lives : IsLiving s.processes.records p) (result : CallResult) (rest : Rest) (is : t ≡ with_rest s (after_attempt s.processes p result) rest)
      (long : length (after_attempt s.processes p result).records ≡ length s.processes.records) where
    files-are : t.files ≡ rest.files
    files-are = ap (λ (t : State). t.files) is

    on-then : IsNoEnd result → IsLiving t.processes.records p
    on-then none =
        let within : p < length s.processes.records = living-within s.processes.records p lives in
        subst (λ (t : State). IsLiving t.processes.records p) (sym is) (attempt-lives s.processes p result none (omega (arith, within, long)))

    -- paths are the same
    still-then : IsNoEnd result → rest.files.io.paths ≡ s.files.io.paths → AreOfLiving t
    still-then none same = same-then (ap (λ (files : Files). files.io.paths) files-are ∙ same) (on-then none)

    path-then : (now : TimePacket) (call : PathCall) → FileAttempts call s.processes s.files now p result rest.files s.terms rest.terms → IsNoEnd result → AreOfLiving t
    path-then now call attempted none =
        goes-then (λ q. subst (λ (files : Files). length (numbers_of files.io.paths q) ≤ PROCESS_PATHS) (sym files-are) (few-attempt q attempt (it.few q)))
        (λ q differ. inl (ap (λ (files : Files). numbers_of files.io.paths q) files-are ∙ others q differ (comes-of attempt))) (on-then none)
      where
        attempt : Attempt
        attempt = attempt_by s p now call result rest attempted

        others : (q : ℕ) → q ≢ p → OnDevice attempt ⊎ TouchesNone attempt ⊎ WaitsOnRecord attempt → numbers_of rest.files.io.paths q ≡ numbers_of s.files.io.paths q
        others q differ (inl on) =
            (others-leave on.0.device s.processes s.files.io rest.files.io (length s.files.drives) p result s.terms rest.terms on.0.attempted).numbers q differ
        others q differ (inr (inl none)) =
            (stays call (asker_of s.processes p now) s.files rest.files.io.paths none.paths).numbers q differ
        others q differ (inr (inr waiting)) = ap (λ (io : Io). numbers_of io.paths q) waiting.io

-- a call on paths ends no process
path-goes-on : (processes : Processes) (p : ℕ) (effect : IoEffect) (end : IoEnd) → IsNoEnd (result_by end processes p effect)
path-goes-on processes p effect (answers regs) = tt
path-goes-on processes p effect (fails number) = tt
path-goes-on processes p effect (keeps kept) = tt

module _ (s : State) (p : ℕ) (it : AreOfLiving s) (chosen : s.chosen ≡ Some p) (lives : IsLiving s.processes.records p) where
  -- ---- each service

  module _ (t : State) (end : EventEnd) (event : Event s end t) (code : ℕ) (next : act_of s.processes p ≡ attempts code) (now : TimePacket) (result : CallResult) (rest : Rest)
      (is : t ≡ with_rest s (after_attempt s.processes p result) rest) where
    abbrev paths_in : Rest → PathTable
    paths_in rest = rest.files.io.paths

    -- what is loaded, or asked of the clock
    over-then : Over s.processes p result → rest.files.io ≡ s.files.io → AreOfLiving t
    over-then over same =
        still-then s t end p it chosen event lives result rest is over.aside.places over.no_end (ap (λ (io : Io). io.paths) same)

    call-then : (call : ProcCall) → Asks code (on_processes call) → result ≡ attempted call s.processes p → rest ≡ with_files s (files_after_call s.files p result) → AreOfLiving t
    call-then call asked answer same = by_result result refl
      where
        long : length (after_attempt s.processes p result).records ≡ length s.processes.records
        long = (subst (AttemptLeft s.processes p) (sym answer) (attempt-left s.processes p call lives (code, next, asked))).places

        files-so : (of : CallResult) → result ≡ of → rest.files.io ≡ (files_after_call s.files p of).io
        files-so of so = ap (λ (rest : Rest). rest.files.io) same ∙ ap (λ (result : CallResult). (files_after_call s.files p result).io) so

        goes : (of : CallResult) → result ≡ of → IsNoEnd of → (files_after_call s.files p of).io ≡ s.files.io → AreOfLiving t
        goes of so none io =
            still-then s t end p it chosen event lives result rest is long (subst IsNoEnd (sym so) none) (ap (λ (io : Io). io.paths) (files-so of so ∙ io))

        by_result : (of : CallResult) → result ≡ of → AreOfLiving t
        by_result (done n) so = goes (done n) so tt refl
        by_result (refused number) so = goes (refused number) so tt refl
        by_result (waits n) so = goes (waits n) so tt refl
        by_result (ends status) so =
            ended-then s t end p it chosen event (ap (λ (t : State). t.files.io) is ∙ files-so (ends status) so)

    -- the child has images of the standard paths, and lives
    fork-then : (files : Files) → files.io ≡ s.files.io → rest ≡ with_files s (files_after_fork files p result) → IsOver (Child s.processes p) result → AreOfLiving t
    fork-then files io same over = by_result result refl over
      where
        long_then : (n : Processes) → Child s.processes p n → length (after_attempt s.processes p (done n)).records ≡ length s.processes.records
        long_then n child = (aside-goes_on s.processes n p (done_regs (regs_at n p)) child.aside).places

        io-so : (of : CallResult) → result ≡ of → t.files.io ≡ (files_after_fork files p of).io
        io-so of so =
            ap (λ (t : State). t.files.io) is ∙ ap (λ (rest : Rest). rest.files.io) same ∙ ap (λ (result : CallResult). (files_after_fork files p result).io) so

        begun : (n : Processes) → result ≡ done n → Child s.processes p n → AreOfLiving t
        begun n so child =
            goes-then s t end p it chosen event
            (λ q. subst (λ (io : Io). length (numbers_of io.paths q) ≤ PROCESS_PATHS) (sym (io-so (done n) so))
            (subst (λ (io : Io). length (numbers_of (io_started io p (regs_at n p).a).paths q) ≤ PROCESS_PATHS) (sym io) (few-inherit q s.files.io.paths p (regs_at n p).a (it.few q))))
            (λ q differ. by_child q differ (cases_eq q (regs_at n p).a))
            (on-then s t end p it chosen event lives result rest is (subst (λ (of : CallResult). length
            (after_attempt s.processes p of).records ≡ length s.processes.records) (sym so) (long_then n child)) (subst IsNoEnd (sym so) tt))
          where
            by_child : (q : ℕ) → q ≢ p → (q ≡ (regs_at n p).a) ⊎ (q ≢ (regs_at n p).a) → (numbers_of t.files.io.paths q ≡ numbers_of s.files.io.paths q) ⊎ IsLiving t.processes.records q
            by_child q differ (inr apart) =
                inl (ap (λ (io : Io). numbers_of io.paths q) (io-so (done n) so)
                ∙ get_or-set_other files.io.paths.own (regs_at n p).a q (inherited_numbers (numbers_of files.io.paths p)) [] apart
                ∙ ap (λ (io : Io). numbers_of io.paths q) io)
            by_child q differ (inl at) =
                inr (subst (λ (t : State). IsLiving t.processes.records q) (sym is)
                (subst (λ (of : CallResult). IsLiving (after_attempt s.processes p of).records q) (sym so)
                (ap (record_passes (λ r. not (has_ended r.life))) (record-other (with_regs n.records p (done_regs (regs_at n p))) p _ q differ ∙ record-other n.records p _ q differ)
                ∙ subst (IsLiving n.records) (sym at) child.living)))

        by_result : (of : CallResult) → result ≡ of → IsOver (Child s.processes p) of → AreOfLiving t
        by_result (done n) so child = begun n so child
        by_result (refused number) so over =
            over-then (subst (Over s.processes p) (sym so) (over-refused s.processes p number))
            (ap (λ (rest : Rest). rest.files.io) same ∙ ap (λ (result : CallResult). (files_after_fork files p result).io) so ∙ io)
        by_result (waits n) so over = absurd over
        by_result (ends status) so over = absurd over

    serves-then : (service : Service) → Asks code service → Serves service s now p result rest → AreOfLiving t
    serves-then loads asked (files, read, same) =
        over-then (load-over s.processes (asker_of s.processes p now) s.files (length s.terms) p result files read)
        (ap (λ (rest : Rest). rest.files.io) same ∙ (load-leaves s.processes (asker_of s.processes p now) s.files (length s.terms) p result files read).io)
    serves-then (on_processes Call.Fork) asked (files, read, same) =
        fork-then files (fork-leaves s.processes (asker_of s.processes p now) s.files (length s.terms) p result files read).io same
        (fork-over s.processes (asker_of s.processes p now) s.files (length s.terms) p result files lives read)
    serves-then (on_processes Call.Chain) asked (files, read, same) =
        over-then (chain-over s.processes (asker_of s.processes p now) s.files (length s.terms) p result files read)
        (ap (λ (rest : Rest). rest.files.io) same ∙ (chain-leaves s.processes (asker_of s.processes p now) s.files (length s.terms) p result files read).io)
    serves-then (on_processes call) asked served = call-then call asked served.0 served.1
    serves-then (on_time call) asked (clock, timed, same) =
        over-then (subst (Over s.processes p) (sym timed.result_is) (time-over s.processes p (time_step call s.processes now p))) (ap (λ (rest : Rest). rest.files.io) same)
    serves-then (on_paths call) asked (attempted, clock) =
        path-then s t end p it chosen event lives result rest is
        (ap (λ (result : CallResult). length (after_attempt s.processes p result).records) attempted.result_is ∙ (by-end s.processes p (io_effect attempted.effect) attempted.effect.end).places)
        now call attempted (subst IsNoEnd (sym attempted.result_is) (path-goes-on s.processes p (io_effect attempted.effect) attempted.effect.end))
    serves-then no_call asked (answer, same) =
        over-then (subst (Over s.processes p) (sym answer) (over-refused s.processes p E_UNKSVC)) (ap (λ (rest : Rest). rest.files.io) same)

  -- ---- an event

  instruction-then : (t : State) (end : EventEnd) → Event s end t → act_of s.processes p ≡ executes → (outcome : Outcome)
      → t ≡ record s { processes = after_instruction s.processes p outcome; files = files_after_instruction s.files p outcome } → AreOfLiving t
  instruction-then t end event next (Done effect) is =
      same-then s t end p it chosen event (ap (λ (t : State). t.files.io.paths) is)
      (subst (λ (t : State). IsLiving t.processes.records p) (sym is) (instruction-goes s.processes p lives next (Done effect) refl).lives)
  instruction-then t end event next (Calls code regs) is =
      same-then s t end p it chosen event (ap (λ (t : State). t.files.io.paths) is)
      (subst (λ (t : State). IsLiving t.processes.records p) (sym is) (instruction-goes s.processes p lives next (Calls code regs) refl).lives)
  instruction-then t end event next (Aborts status) is =
      ended-then s t end p it chosen event (ap (λ (t : State). t.files.io) is)

  delivery-then : (t : State) (end : EventEnd) → Event s end t → (signal : ℕ) → act_of s.processes p ≡ delivers signal → (result : Result Processes ℕ)
      → delivered (before_delivery s p) p signal ≡ result
      → t ≡ record s { processes = after_delivery (before_delivery s p) p result; files = files_after_delivery s.files p result } → AreOfLiving t
  delivery-then t end event signal next (Ok n) answer is =
      same-then s t end p it chosen event (ap (λ (t : State). t.files.io.paths) is ∙ interrupted-paths s.files.io p)
      (subst (λ (t : State). IsLiving t.processes.records p) (sym is)
      (subst (λ (result : Result Processes ℕ). IsLiving (after_delivery (before_delivery s p) p result).records p) answer
      (broken-goes s.processes p lives signal next (interrupted_count s.files.io p) (ap (λ (result : Result Processes ℕ). is_going (delivery_end result)) answer)).lives))
  delivery-then t end event signal next (Err status) answer is =
      ended-then s t end p it chosen event (ap (λ (t : State). t.files.io) is)

  acts-then : (t : State) (end : EventEnd) → Event s end t → (act : Act) → act_of s.processes p ≡ act → Acts act s p end t → AreOfLiving t
  acts-then t end event executes next (over, is) = instruction-then t end event next (next_instruction s.processes p) is
  acts-then t end event (delivers signal) next (over, is) =
      delivery-then t end event signal next (delivered (before_delivery s p) p signal) refl is
  acts-then t end event (attempts code) next (result, rest, (now, is_now, served), over, is) =
      serves-then t end event code next now result rest is (service_of code) (asks code) served

pub event-living : (s t : State) (end : EventEnd) → Event s end t → AreOfLiving s → AreOfLiving t
event-living s t end (p, chosen, lives, acts) it =
    acts-then s p it chosen lives t end (p, chosen, lives, acts) (act_of s.processes p) refl acts

-- ---- a tick, a choice, the host

pub tick-living : (s t : State) → Tick s t → AreOfLiving s → AreOfLiving t
tick-living s t (desk, arrives, is) it = record {
  few = λ q. subst (λ (paths : PathTable). length (numbers_of paths q) ≤ PROCESS_PATHS) (sym paths) (it.few q);
  none = λ q dead n. ap (λ (paths : PathTable). slot_of paths q n) paths ∙ it.none q (was q dead) n;
}
  where
    paths : t.files.io.paths ≡ s.files.io.paths
    paths =
        ap (λ (t : State). t.files.io.paths) is ∙ (arrivals-left (s.processes.tick + 1) 0 (length s.terms) (desk_of s) desk arrives).paths

    was : (q : ℕ) → is_living t.processes.records q ≡ false → is_living s.processes.records q ≡ false
    was q dead = by_life (is_living s.processes.records q) refl
      where
        by_life : (life : Bool) → is_living s.processes.records q ≡ life → life ≡ false
        by_life false was = refl
        by_life true was = absurd (false≢true (sym dead ∙ (tick-leaves s t (desk, arrives, is)).lives q was))

pub choice-living : (s t : State) → Choose s t → AreOfLiving s → AreOfLiving t
choice-living s t is it = subst AreOfLiving (sym is) (record { few = it.few; none = it.none })

pub emptied-living : (m : State) → AreOfLiving m → AreOfLiving (record m { terms = terminals_emptied m.terms })
emptied-living m it = record { few = it.few; none = it.none }

-- ---- the start

first-few : (q : ℕ) → length (numbers_of no_paths q) ≤ PROCESS_PATHS
first-few q = by_place (cases_lt q 33)
  where
    sixteen : List (Option SysPath)
    sixteen = replicate 16 None

    by_place : (q < 33) ⊎ (33 ≤ q) → length (numbers_of no_paths q) ≤ PROCESS_PATHS
    by_place (inl within) =
        subst (λ (numbers : List (Option SysPath)). length numbers ≤ PROCESS_PATHS) (sym (get_or-replicate 33 q sixteen [] within)) (omega arith)
    by_place (inr past) =
        subst (λ (numbers : List (Option SysPath)). length numbers ≤ PROCESS_PATHS) (sym (get_or_past no_paths.own q [] past)) (omega arith)

first-none : (q n : ℕ) → slot_of no_paths q n ≡ None
first-none q n = by_place (cases_lt q 33)
  where
    sixteen : List (Option SysPath)
    sixteen = replicate 16 None

    by_number : (n < 16) ⊎ (16 ≤ n) → get_or sixteen n None ≡ None
    by_number (inl within) = get_or-replicate 16 n None None within
    by_number (inr past) = get_or_past sixteen n None past

    by_place : (q < 33) ⊎ (33 ≤ q) → slot_of no_paths q n ≡ None
    by_place (inl within) =
        ap (λ (numbers : List (Option SysPath)). get_or numbers n None) (get_or-replicate 33 q sixteen [] within) ∙ by_number (cases_lt n 16)
    by_place (inr past) =
        ap (λ (numbers : List (Option SysPath)). get_or numbers n None) (get_or_past no_paths.own q [] past)

pub start-living : (boot : Boot) (s : State) → Starts boot s → AreOfLiving s
start-living boot s starts = subst AreOfLiving (sym starts.is) (record {
  few = λ q. subst (λ (io : Io). length (numbers_of io.paths q) ≤ PROCESS_PATHS) (sym io_is)
      (few-dup q one 2 0 (few-dup q begun 2 0 (few-begin q no_paths 2 (new_desc (Term 0) 3) (first-few q))));
  none = λ q dead n. ap (λ (io : Io). slot_of io.paths q n) io_is ∙ by_process q dead n (cases_eq q 2);
})
  where
    begun : PathTable
    begun = paths_after_begin no_paths 2 (new_desc (Term 0) 3)

    one : PathTable
    one = paths_after_dup begun 2 0

    io_is : starts.files.io ≡ first_io
    io_is = ap (λ (files : Files). files.io) starts.mounted.is

    numbers : (q : ℕ) → q ≢ 2 → numbers_of first_paths q ≡ numbers_of no_paths q
    numbers q differ =
        (left-dup 2 one 0).numbers q differ ∙ (left-dup 2 begun 0).numbers q differ ∙ (left-begin 2 no_paths (new_desc (Term 0) 3)).numbers q differ

    by_process : (q : ℕ) → is_living (only_process starts.memory (first_start starts.number starts.entry)).records q ≡ false → (n : ℕ) → (q ≡ 2) ⊎ (q ≢ 2) → slot_of first_paths q n ≡ None
    by_process q dead n (inl same) =
        absurd (false≢true (sym (ap (is_living (only_process starts.memory (first_start starts.number starts.entry)).records) (sym same) ∙ dead)))
    by_process q dead n (inr differ) =
        ap (λ (numbers : List (Option SysPath)). get_or numbers n None) (numbers q differ) ∙ first-none q n
