-- Attempts of calls that may load a file.
use Rattle.std.proofs.Common.{◌≡◌, ◌≢◌, ◌∙◌, ℕ, Option, Some, None, Result, Ok, Err, length, refl, sym, ap, subst, arith}
use Rattle.std.proofs.lemmas.Option.{none-some}
use Rattle.std.specs.Prelude.{IfSome, nat_le, slice_index_or}
use Rattle.os9_base.specs.declared.call.CallEnd.{CallEnd}
use Rattle.os9_base.specs.declared.call.CallEnd.TheVariants.{Done, Error, Wait}
use Rattle.os9_base.specs.declared.errors.TheConstants.{E_MEMFUL}
use Rattle.os9_base.specs.declared.registers.TimePacket.{TimePacket}
use Rattle.proc_model.specs.declared.memory.TheConstants.{MOST_LINKS}
use Rattle.proc_model.specs.Records.{IsLiving, free_process, record_at}
use Rattle.proc_state.specs.Tie.{ReturnsCallEnd, RepresentsProcesses}
use Rattle.proc_state.specs.declared.state.ProcState.{ProcState}
use Rattle.proc_model.specs.Attempts.{after_attempt}
use Rattle.proc_model.specs.CallResult.{CallResult, done, refused, waits, ends}
use Rattle.call_dispatch.specs.Waits.{waits_for}
use Rattle.proc_model.specs.Codes.{call_of}
use Rattle.proc_model.specs.Processes.{Processes, no_own, own_at, regs_at}
use Rattle.proc_model.specs.declared.proc_call.ProcCall.{ProcCall}
use Rattle.proc_model.specs.declared.proc_call.ProcCall.TheVariants as Call
use Rattle.proc_model.specs.Link.{links_at, mapped_group}
use Rattle.io_model.specs.declared.pending.PendingCall.{PendingCall}
use Rattle.io_model.specs.Io.{Io, pending_at}
use Rattle.file_rules.specs.Locking.{call_wait}
use Rattle.os9_sched.specs.Members.{member_of, wait_at}
use Rattle.os9_sched.specs.declared.member.Wait.{Wait as Waiting}
use Rattle.call_laws.proofs.OthersKept.{free-is, living-record}
use Rattle.call_laws.specs.Pending.{ArePending}
use Rattle.file_rules.specs.Attempts.{asker_of}
use Rattle.file_rules.specs.Files.{Asker, Files}
use Rattle.file_rules.specs.Load.{GoesOnLoaded, Loaded, LoadAttempts, links_first}
use Rattle.file_rules.specs.Processes.{files_started}
use Rattle.file_rules.specs.ProgramFile.{ProgramFile}
use Rattle.file_state.specs.Attempt.{MachineOnDrives}
use Rattle.file_laws.proofs.Loads.{fork-leaves}
use Rattle.machine_model.specs.Services.{Serves, files_after_fork, service_of, with_files}
use Rattle.machine_model.specs.State.{State}
use Rattle.call_laws.proofs.Loads.{Child, chain-over, fork-over, load-over}
use Rattle.call_laws.proofs.Over.{IsOver, of-needs, of-refuses, over-by}
use Rattle.os9_kernel.specs.Causes.{wait_by, wait_for}
use Rattle.os9_kernel.specs.Loads.{AttemptsLoad, LoadsSo}
use Rattle.os9_kernel.specs.Paths.{MayBegin, files_begun, number_in_a}
use Rattle.os9_kernel.specs.Services.{load_in_machine}
use Rattle.os9_kernel.specs.declared.service.LoadCall.{LoadCall}
use Rattle.os9_kernel.specs.declared.service.LoadCall.TheVariants.{Load, Fork, Chain}
use Rattle.os9_kernel.specs.declared.kernel.Kernel.{Kernel}
use Rattle.os9_kernel.proofs.Serving.{process-served}

-- ---- what it comes to

-- the files of the machine behind the call
abbrev pub begun_on : LoadCall → Files → ℕ → CallResult → Files
begun_on Load left p result = left
begun_on Fork left p result = files_after_fork left p result
begun_on Chain left p result = left

pub serves-load : (call : LoadCall) (s : State) (now : TimePacket) (p : ℕ) (result : CallResult) (left : Files)
    → AttemptsLoad call s.processes (asker_of s.processes p now) s.files (length s.terms) p result left
    → Serves (load_in_machine call) s now p result (with_files s (begun_on call left p result))
serves-load Load s now p result left it = (left, it, refl)
serves-load Fork s now p result left it = (left, it, refl)
serves-load Chain s now p result left it = (left, it, refl)

-- the processes that a call leaves have the same tick
pub load-tick : (call : LoadCall) (m : Processes) (asker : Asker) (old : Files) (terms p : ℕ) (result : CallResult)
    (new : Files) → IsLiving m.records p → AttemptsLoad call m asker old terms p result new
    → (after_attempt m p result).tick ≡ m.tick
load-tick Load m asker old terms p result new lives it = (load-over m asker old terms p result new it).tick
load-tick Fork m asker old terms p result new lives it =
    (over-by m p _ result (fork-over m asker old terms p result new lives it) (λ t child. (child.aside, child.tick))).tick
load-tick Chain m asker old terms p result new lives it = (chain-over m asker old terms p result new it).tick

-- an attempt of the call that this one is
pub loads-as : (call one : LoadCall) (m : Processes) (was : Files) (now : TimePacket) (terms p : ℕ) (end : CallEnd)
    (before after : MachineOnDrives) → call ≡ one → LoadsSo one m was now terms p end before after → LoadsSo call m was now
    terms p end before after
loads-as call one m was now terms p end before after is it =
    subst (λ (call : LoadCall). LoadsSo call m was now terms p end before after) (sym is) it

-- ---- F$Load waits for nothing

abbrev Anything : Processes → Type 0
Anything t = Unit {0}

links-answers : (m : Processes) (p : ℕ) (file : ProgramFile) (loaded : Loaded) → IsOver Anything (links_first m p file loaded)
links-answers m p file loaded =
    of-needs Anything (mapped_group loaded.memory p loaded.first.entry.group) E_MEMFUL _
    (λ mapped is. of-refuses Anything (nat_le MOST_LINKS (links_at (own_at m p) mapped.slot)) E_MEMFUL _ tt)

goes-answers : (m : Processes) (p : ℕ) (reading : Result ProgramFile ℕ) (result : CallResult) → GoesOnLoaded m reading (links_first m p) result → IsOver Anything result
goes-answers m p (Err number) result is = subst (IsOver Anything) (sym is) tt
goes-answers m p (Ok file) result (Err number, loads, is) = subst (IsOver Anything) (sym is) tt
goes-answers m p (Ok file) result (Ok loaded, loads, is) = subst (IsOver Anything) (sym is) (links-answers m p file loaded)

answers-so : (m : Processes) (p : ℕ) (result : CallResult) (processes : ProcState) → IsOver Anything result → ReturnsCallEnd m p result Wait processes → ⊥
answers-so m p (done t) processes over (end, there) = let no : Wait ≡ Done = end in cc
answers-so m p (refused number) processes over (end, there) = let no : Wait ≡ Error number = end in cc
answers-so m p (waits t) processes over told = over
answers-so m p (ends status) processes over told = over

load-answers : (m : Processes) (asker : Asker) (old : Files) (terms p : ℕ) (result : CallResult) (new : Files)
    (processes : ProcState) → LoadAttempts m asker old terms p result new → ReturnsCallEnd m p result Wait processes → ⊥
load-answers m asker old terms p result new processes it told =
    answers-so m p result processes (goes-answers m p it.reading result it.comes) told

-- ---- the child of F$Fork

-- no call is kept of a process that does not live
quiet-at : (m : Processes) (io : Io) → ArePending m io → (q : ℕ) → (IsLiving m.records q → ⊥) → (place : Option PendingCall) → pending_at io q ≡ place → place ≡ None
quiet-at m io kept q gone None is = refl
quiet-at m io kept q gone (Some call) is = absurd (gone (kept q call is).lives)

number-tied : (t : Processes) (p : ℕ) (processes : ProcState) → RepresentsProcesses processes t → number_in_a processes.table p ≡ (regs_at t p).a
number-tied t p processes there = sym (ap (λ (m : Processes). number_in_a m.records p) there.is)

module _ (m : Processes) (io : Io) (p : ℕ) (processes : ProcState) (kept : ArePending m io) (long : length m.records ≡ 33) where
  free-begins : (child : ℕ) → free_process m.records ≡ Some child → MayBegin io child
  free-begins child free =
      let place = free-is m.records child free in
      let gone : IsLiving m.records child → ⊥ = (λ lives. none-some (record_at m.records child) (sym place.none ∙ living-record m.records child lives)) in
      record { process = omega (arith, place.within, long); quiet = quiet-at m io kept child gone (pending_at io child) refl }

  child-by : (result : CallResult) → IsOver (Child m p) result → ReturnsCallEnd m p result Done processes → MayBegin io (number_in_a processes.table p)
  child-by (done t) child (end, there) =
      free-begins (number_in_a processes.table p) (child.number ∙ ap Some (sym (number-tied t p processes there)))
  child-by (refused number) child (end, there) = let no : Done ≡ Error number = end in cc
  child-by (waits t) child told = absurd child
  child-by (ends status) child told = absurd child

-- it may begin
pub child-begins : (call : LoadCall) (m : Processes) (was : Files) (now : TimePacket) (terms p : ℕ)
    (before after : MachineOnDrives) → ArePending m was.io → length m.records ≡ 33 → IsLiving m.records p → call ≡ Fork
    → LoadsSo call m was now terms p Done before after → MayBegin after.files.io (number_in_a after.processes.table p)
child-begins Load m was now terms p before after kept long lives is it = cc
child-begins Fork m was now terms p before after kept long lives is it =
    let same : was.io ≡ after.files.io = sym (fork-leaves m (asker_of m p now) was terms p it.result it.left it.attempted).io ∙ it.stands.io in
    subst (λ (io : Io). MayBegin io (number_in_a after.processes.table p)) same (child-by m was.io p after.processes
    kept long it.result (fork-over m (asker_of m p now) was terms p it.result it.left lives it.attempted)
    it.comes)
child-begins Chain m was now terms p before after kept long lives is it = cc

-- the files then are those of the machine
fork-tied : (m : Processes) (p : ℕ) (left : Files) (processes : ProcState) (result : CallResult) (end : CallEnd)
    → ReturnsCallEnd m p result end processes → files_begun Fork end left p (number_in_a processes.table p) ≡ files_after_fork
    left p result
fork-tied m p left processes (done t) end (is, there) =
    ap (λ (end : CallEnd). files_begun Fork end left p (number_in_a processes.table p)) is
    ∙ ap (files_started left p) (number-tied t p processes there)
fork-tied m p left processes (refused number) end (is, there) =
    ap (λ (end : CallEnd). files_begun Fork end left p (number_in_a processes.table p)) is
fork-tied m p left processes (waits t) end (is, there) =
    ap (λ (end : CallEnd). files_begun Fork end left p (number_in_a processes.table p)) is
fork-tied m p left processes (ends status) end (is, there) =
    ap (λ (end : CallEnd). files_begun Fork end left p (number_in_a processes.table p)) is

pub begun-tied : (call : LoadCall) (m : Processes) (p : ℕ) (left : Files) (processes : ProcState) (result : CallResult)
    (end : CallEnd) → ReturnsCallEnd m p result end processes → files_begun call end left p (number_in_a processes.table p) ≡
    begun_on call left p result
begun-tied Load m p left processes result end told = refl
begun-tied Fork m p left processes result end told = fork-tied m p left processes result end told
begun-tied Chain m p left processes result end told = refl

-- ---- what it waits for

-- the calls that start a program wait for nothing that the scheduler has to know
pub loads-rest : (call : LoadCall) (m : Processes) (was : Files) (now : TimePacket) (terms p : ℕ) (before after : MachineOnDrives) → LoadsSo call m was now terms p Wait before after → call ≢ Load
loads-rest Load m was now terms p before after it is =
    load-answers m (asker_of m p now) was terms p it.result it.left after.processes it.attempted it.comes
loads-rest Fork m was now terms p before after it is = cc
loads-rest Chain m was now terms p before after it is = cc

rests-by : (kernel : Kernel) (code p : ℕ) (call : ProcCall) → call_of code ≡ Some call
    → waits_for call (slice_index_or kernel.machine.processes.own.items p no_own) ≡ None → IfSome (wait_for kernel code p)
    (λ wait. wait_at (member_of kernel.machine.processes.sched.members p) ≡ Some wait)
rests-by kernel code p call coded none =
    subst (λ (wait : Option Waiting). IfSome wait (λ wait. wait_at (member_of kernel.machine.processes.sched.members p) ≡ Some
    wait)) (sym (ap (λ (call : Option ProcCall). wait_by call (slice_index_or kernel.machine.processes.own.items p no_own)
    (call_wait kernel.machine.files.io kernel.machine.files.records.locks p)) coded ∙ none)) tt

pub rests-there : (kernel : Kernel) (code p : ℕ) (call : LoadCall) → service_of code ≡ load_in_machine call
    → call ≢ Load → IfSome (wait_for kernel code p) (λ wait. wait_at (member_of kernel.machine.processes.sched.members p) ≡
    Some wait)
rests-there kernel code p Load serves other = absurd (other refl)
rests-there kernel code p Fork serves other = rests-by kernel code p Call.Fork (process-served code Call.Fork serves) refl
rests-there kernel code p Chain serves other = rests-by kernel code p Call.Chain (process-served code Call.Chain serves) refl
