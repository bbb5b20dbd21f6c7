-- Locks and requests are on their files, in every state of slices and runs; an event leaves those of the other processes.
use Rattle.std.proofs.Common.{◌≡◌, ℕ, ◌+◌, Some, List, length, refl, sym, ap, ◌∙◌, subst}
use Rattle.std.proofs.lemmas.Option.{none-some, same_Some}
use Rattle.os9_base.specs.declared.registers.Regs.{Regs}
use Rattle.proc_model.specs.Records.{IsLiving, is_living}
use Rattle.proc_model.specs.Processes.{regs_at}
use Rattle.io_model.specs.Path.{PathTable}
use Rattle.lock_model.specs.Locks.{lock_of, request_of}
use Rattle.lock_model.specs.declared.lock.Held.{Held}
use Rattle.lock_model.specs.declared.lock.Request.{Request}
use Rattle.lock_model.proofs.Keeping.{first-free}
use Rattle.lock_model.proofs.Ranks.{first-quiet}
use Rattle.file_rules.specs.Files.{Files}
use Rattle.file_rules.specs.Locking.{call_of}
use Rattle.file_rules.specs.Processes.{first_files}
use Rattle.file_laws.specs.Claims.{CoversCall}
use Rattle.machine_model.specs.Console.{terminals_emptied}
use Rattle.machine_model.specs.declared.ends.EventEnd.{EventEnd}
use Rattle.machine_model.specs.declared.ends.SliceEnd.{SliceEnd}
use Rattle.proc_model.specs.Ready.{act_of}
use Rattle.machine_model.proofs.Induction.{IsCarriedByMoves, along-run, along-slice}
use Rattle.machine_model.specs.Event.{Event}
use Rattle.machine_model.specs.Run.{Choose, Run, Slice, Tick, desk_of}
use Rattle.machine_model.specs.Start.{Boot, Starts}
use Rattle.machine_model.specs.State.{State}
use Rattle.call_laws.proofs.RunningLaws.{arrivals-left, tick-leaves, tick-regs}
use Rattle.lock_laws.specs.Contents.{IsPathOn}
use Rattle.lock_laws.specs.Locked.{AllRunLocked, AreOnFiles, IsAskedFor, IsRunLocked, LeavesLocks}
use Rattle.lock_laws.proofs.AskedEvents.{event-asked}
use Rattle.lock_laws.proofs.Held.{LeavesRecords}
use Rattle.lock_laws.proofs.HeldEvents.{acts-leave}
use Rattle.lock_laws.proofs.Owners.{event-owned}
use Rattle.lock_laws.proofs.Runs.{choice-agrees, emptied-agrees, event-agrees, tick-agrees}

-- ---- an event

event-leaves : (s t : State) (end : EventEnd) (p : ℕ) → IsRunLocked s → s.chosen ≡ Some p → Event s end t → LeavesRecords p s.files t.files
event-leaves s t end p it chosen (q, is_chosen, lives, acts) =
    subst (λ (p : ℕ). LeavesRecords p s.files t.files) (same_Some q p (sym is_chosen ∙ chosen)) (acts-leave s q it (act_of s.processes q) end t refl acts)

pub event-leaves-locks : (s t : State) (end : EventEnd) (p : ℕ) → IsRunLocked s → s.chosen ≡ Some p → Event s end t → LeavesLocks s p t
event-leaves-locks s t end p it chosen event =
    let left = event-leaves s t end p it chosen event in
    record { requests = left.requests; held = left.held; gained = left.gained }

pub event-locked : (s t : State) (end : EventEnd) → Event s end t → IsRunLocked s → IsRunLocked t
event-locked s t end (p, chosen, lives, acts) it =
    let left = event-leaves s t end p it chosen (p, chosen, lives, acts) in
    record {
      state = event-agrees s t end (p, chosen, lives, acts) it.state;
      on = record {
        owned = event-owned s t end p chosen lives acts it left;
        held = left.on;
        asked = event-asked s t end p chosen (p, chosen, lives, acts) it left.requests;
      };
    }

-- ---- a tick, a choice, the host

-- a request stays for bytes of its file if records and paths stay, and the registers of the process that waits
asked-same : (s t : State) (q : ℕ) (request : Request) → t.files.io.paths ≡ s.files.io.paths → regs_at t.processes q ≡ regs_at s.processes q → IsAskedFor s q request → IsAskedFor t q request
asked-same s t q request paths regs asked = record {
  on = subst (λ (paths : PathTable). IsPathOn paths request.path request.lock.file) (sym paths) asked.on;
  call = asked.call;
  code = asked.code;
  covers = subst (λ (regs : Regs). CoversCall asked.call regs request) (sym regs) asked.covers;
}

pub tick-locked : (s t : State) → Tick s t → IsRunLocked s → IsRunLocked t
tick-locked s t (desk, arrives, is) it = record {
  state = tick-agrees s t (desk, arrives, is) it.state;
  on = record {
    owned = λ path lock there. (tick-leaves s t (desk, arrives, is)).lives lock.owner.0
        (it.on.owned path lock (sym (ap (λ (t : State). lock_of t.files.records.locks path) is) ∙ there));
    held = λ path lock there. subst (λ (paths : PathTable). IsPathOn paths path lock.file) (sym paths)
        (it.on.held path lock (sym (ap (λ (t : State). lock_of t.files.records.locks path) is) ∙ there));
    asked = λ q request there.
        let was : request_of s.files.records.locks q ≡ Some request = sym (ap (λ (t : State). request_of t.files.records.locks q) is) ∙ there in
        let kept = it.state.running.kept q (call_of request) (it.state.running.requested q request was).kept in
        asked-same s t q request paths (tick-regs s t (desk, arrives, is) q kept.lives) (it.on.asked q request was);
  };
}
  where
    paths : t.files.io.paths ≡ s.files.io.paths
    paths =
        ap (λ (t : State). t.files.io.paths) is
        ∙ (arrivals-left (s.processes.tick + 1) 0 (length s.terms) (desk_of s) desk arrives).paths

-- nothing changes that locks and requests speak of
on-same : (s t : State) → t.files ≡ s.files → ((q : ℕ) → regs_at t.processes q ≡ regs_at s.processes q) → ((q : ℕ) → IsLiving s.processes.records q → IsLiving t.processes.records q)
    → AreOnFiles s → AreOnFiles t
on-same s t files regs live it = record {
  owned = λ path lock there. live lock.owner.0
      (it.owned path lock (sym (ap (λ (files : Files). lock_of files.records.locks path) files) ∙ there));
  held = λ path lock there. subst (λ (files : Files). IsPathOn files.io.paths path lock.file) (sym files)
      (it.held path lock (sym (ap (λ (files : Files). lock_of files.records.locks path) files) ∙ there));
  asked = λ q request there. asked-same s t q request (ap (λ (files : Files). files.io.paths) files) (regs q)
      (it.asked q request (sym (ap (λ (files : Files). request_of files.records.locks q) files) ∙ there));
}

pub choice-locked : (s t : State) → Choose s t → IsRunLocked s → IsRunLocked t
choice-locked s t is it = record {
  state = choice-agrees s t is it.state;
  on = on-same s t (ap (λ (t : State). t.files) is) (λ q. ap (λ (t : State). regs_at t.processes q) is)
      (λ q lives. ap (λ (t : State). is_living t.processes.records q) is ∙ lives) it.on;
}

pub emptied-locked : (m : State) → IsRunLocked m → IsRunLocked (record m { terms = terminals_emptied m.terms })
emptied-locked m it = record {
  state = emptied-agrees m it.state;
  on = on-same m (record m { terms = terminals_emptied m.terms }) refl (λ q. refl) (λ q lives. lives) it.on;
}

-- ---- the start

pub start-on : (boot : Boot) (s : State) → Starts boot s → AreOnFiles s
start-on boot s starts = record {
  owned = λ path lock is. absurd (none-held path lock is);
  held = λ path lock is. absurd (none-held path lock is);
  asked = λ q request is. absurd (none-some request (sym (ap (λ (files : Files). request_of files.records.locks q) files ∙ first-quiet q) ∙ is));
}
  where
    files : s.files ≡ first_files starts.mounted.volumes boot.drives
    files = ap (λ (s : State). s.files) starts.is ∙ starts.mounted.is

    none-held : (path : ℕ) (lock : Held) → lock_of s.files.records.locks path ≡ Some lock → ⊥
    none-held path lock is =
        none-some lock (sym (ap (λ (files : Files). lock_of files.records.locks path) files ∙ first-free path) ∙ is)

-- ---- one induction

abbrev AreLocked : State → List State → State → Type 0
AreLocked s states t = IsRunLocked s → AllRunLocked states t

carried : IsCarriedByMoves AreLocked
carried = record {
  events = record {
    none = λ s it. record { through = tt; last = it };
    event = λ s m t end states event rest it.
        (let next = event-locked s m end event it in
        let all = rest next in
        record { through = (next, all.through); last = all.last });
  };
  tick = λ s m t states ticks rest it. rest (tick-locked s m ticks it);
  choice = λ s m t states chooses rest it. rest (choice-locked s m chooses it);
  emptied = λ m t states rest it. rest (emptied-locked m it);
}

pub slice-locked : (n : ℕ) (s t : State) (states : List State) (end : SliceEnd) → Slice n s states end t → IsRunLocked s → AllRunLocked states t
slice-locked n s t states end slice = along-slice AreLocked carried n s t states end slice

pub run-locked : (slices written : List ℕ) (s t : State) (states : List State) → Run slices s states written t → IsRunLocked s → AllRunLocked states t
run-locked slices written s t states run = along-run AreLocked carried slices written s t states run
