-- Whose calls may go on is known, but for those whom the last calls concern.
use Rattle.std.proofs.Common.{◌≡◌, ◌≢◌, ℕ, ◌≤◌, ◌||◌, Option, Some, sym, ap, ◌∙◌, subst, arith}
use Rattle.std.specs.Prelude.{option_and_then}
use Rattle.std.proofs.lemmas.Bool.{false≢true}
use Rattle.os9_base.specs.declared.registers.TimePacket.{TimePacket}
use Rattle.os9_sched.specs.declared.member.Cause.{Cause}
use Rattle.proc_model.specs.Records.{IsLiving}
use Rattle.proc_model.specs.IoReady.{has_io}
use Rattle.proc_model.specs.Ready.{act_of, attempts, delivers}
use Rattle.proc_model.specs.declared.proc_call.ProcCall.TheVariants.{Fork}
use Rattle.io_model.specs.Path.{ArePaths}
use Rattle.io_model.specs.Io.{Io, OpenPath}
use Rattle.io_model.specs.Waiting.{io_may_go}
use Rattle.lock_model.specs.Waits.{lock_may_go}
use Rattle.file_rules.specs.Attempts.{asker_of}
use Rattle.file_rules.specs.Locking.{wait_cause}
use Rattle.file_rules.specs.declared.path_call.PathCall.{PathCall}
use Rattle.file_laws.specs.Devices.{number_in}
use Rattle.machine_model.specs.declared.ends.EventEnd.{EventEnd}
use Rattle.machine_model.specs.Event.{Event}
use Rattle.machine_model.specs.Services.{on_paths, on_processes, service_of}
use Rattle.machine_model.specs.State.{State}
use Rattle.lock_laws.specs.Living.{IsRunOpen}
use Rattle.lock_laws.specs.Touches.{NamesCause, Touches, cause_on}
use Rattle.lock_laws.proofs.Events.{event-same}
use Rattle.lock_laws.proofs.Waits.{waits-same}
use Rattle.os9_kernel.specs.Marks.{Concerns, named_cause}
use Rattle.os9_kernel.specs.Tie.{IsKnown}
use Rattle.os9_kernel.specs.declared.kernel.Kernel.{Kernel}
use Rattle.os9_kernel.specs.declared.marks.Known.{Known}
use Rattle.os9_kernel.specs.declared.marks.Marks.TheVariants.{Everyone}

-- the kernel that asks everyone again
abbrev pub forgets : Kernel → Kernel
forgets kernel = record kernel { known = record kernel.known { marks = Everyone } }

pub never-known : (kernel : Kernel) → IsKnown (forgets kernel)
never-known kernel tick p cause from below few waits clear = absurd (clear tt)

-- what is known stays known while files stay
pub known-later : (old new : Kernel) → new.known ≡ old.known → new.machine.files.io ≡ old.machine.files.io → new.machine.files.records ≡ old.machine.files.records
    → old.machine.processes.tick ≤ new.machine.processes.tick → IsKnown old → IsKnown new
known-later old new known io records later it tick p cause from below few waits clear =
    ap (λ (known : Known). has_io known.ready p) known
    ∙ it tick p cause (omega (arith, later, from)) (omega (arith, below, ap (λ (known : Known). known.until) known)) few
    ((λ i. wait_cause (sym io i) (sym records i).locks p) ∙ waits)
    (λ concerned. clear (subst (λ (known : Known). Concerns known.marks p cause) (sym known) concerned))
    ∙ (λ i. io_may_go (sym io i) p || lock_may_go (sym records i).locks tick p)

pub known-still : (old new : Kernel) → new.known ≡ old.known → new.machine.files.io ≡ old.machine.files.io → new.machine.files.records ≡ old.machine.files.records
    → new.machine.processes.tick ≡ old.machine.processes.tick → IsKnown old → IsKnown new
known-still old new known io records same it = known-later old new known io records (omega (arith, same)) it

-- ---- an attempt of a call on a path

-- what a number names is the cause on it
names-so : (io : Io) (p n : ℕ) (cause : Cause) → NamesCause io p n cause → named_cause io p n ≡ Some cause
names-so io p n cause names =
    ap (λ (place : Option OpenPath). option_and_then (λ (opened : OpenPath). cause_on opened.desc.target) place) names.is ∙ names.on

same-code : (code other : ℕ) → attempts code ≡ attempts other → code ≡ other
same-code code other is = cc

module _ (s t : State) (end : EventEnd) (p code : ℕ) (call : PathCall) (it : IsRunOpen s) (event : Event s end t) (chosen : s.chosen ≡ Some p)
    (next : act_of s.processes p ≡ attempts code) (serves : service_of code ≡ on_paths call) (lives : IsLiving t.processes.records p) where
  -- it is on nothing but what its number names
  apart : (cause : Cause) → ((now : TimePacket) → named_cause s.files.io p (number_in call (asker_of s.processes p now)) ≡ Some cause → ⊥) → Touches s p t cause → ⊥
  apart cause other (Touches.by_call made asked now attempted served names) =
      let same : code ≡ made = same-code code made (sym next ∙ attempted) in
      let asks : on_paths call ≡ on_paths asked = sym serves ∙ ap service_of same ∙ served in
      let call_is : call ≡ asked = cc in
      other now (names-so s.files.io p (number_in call (asker_of s.processes p now)) cause
      (subst (λ (call : PathCall). NamesCause s.files.io p (number_in call (asker_of s.processes p now)) cause) (sym call_is) names))
  apart cause other (Touches.by_fork made n attempted served low names) =
      let same : code ≡ made = same-code code made (sym next ∙ attempted) in
      let asks : on_paths call ≡ on_processes Fork = sym serves ∙ ap service_of same ∙ served in
      absurd cc
  apart cause other (Touches.by_delivery signal delivered waits) =
      let acts : attempts code ≡ delivers signal = sym next ∙ delivered in
      absurd cc
  apart cause other (Touches.by_path n ended names) = false≢true (sym ended ∙ lives)
  apart cause other (Touches.by_read n ended reads is) = false≢true (sym ended ∙ lives)
  apart cause other (Touches.by_lock path lock ended there owner is) = false≢true (sym ended ∙ lives)

  -- what is known of those whom it does not concern is so after it
  module _ (old new : Kernel) (io_was : s.files.io ≡ old.machine.files.io) (records_was : s.files.records ≡ old.machine.files.records)
      (io_is : t.files.io ≡ new.machine.files.io) (records_is : t.files.records ≡ new.machine.files.records) (paths : ArePaths s.files.io.paths)
      (ready : new.known.ready ≡ old.known.ready) (until : new.known.until ≡ old.known.until) (same : new.machine.processes.tick ≡ old.machine.processes.tick)
      (kept : (q : ℕ) (cause : Cause) → Concerns old.known.marks q cause → Concerns new.known.marks q cause)
      (own : (cause : Cause) → Concerns new.known.marks p cause)
      (waiters : (q : ℕ) (cause : Cause) (now : TimePacket) → named_cause s.files.io p (number_in call (asker_of s.processes p now)) ≡ Some cause → Concerns new.known.marks q cause) where
    pub known-after : IsKnown old → IsKnown new
    known-after known tick q cause from below few waits clear =
        ap (λ ready. has_io ready q) ready
        ∙ known tick q cause (omega (arith, from, same)) (omega (arith, below, until)) few
        ((λ i. wait_cause (sym io_was i) (sym records_was i).locks q) ∙ waits_s) (λ concerned. clear (kept q cause concerned))
        ∙ (λ i. io_may_go (sym io_was i) q || lock_may_go (sym records_was i).locks tick q)
        ∙ sym (event-same s t end p q cause it.locked it.paths event chosen differ waits_s untouched tick)
        ∙ (λ i. io_may_go (io_is i) q || lock_may_go (records_is i).locks tick q)
      where
        differ : q ≢ p
        differ is = clear (subst (λ (q : ℕ). Concerns new.known.marks q cause) (sym is) (own cause))

        waits_t : wait_cause t.files.io t.files.records.locks q ≡ Some cause
        waits_t = (λ i. wait_cause (io_is i) (records_is i).locks q) ∙ waits

        waits_s : wait_cause s.files.io s.files.records.locks q ≡ Some cause
        waits_s = sym (waits-same s t end p q it.locked paths event chosen differ) ∙ waits_t

        untouched : Touches s p t cause → ⊥
        untouched = apart cause (λ now named. clear (waiters q cause now named))
