-- What is kept of the request of a process and of its call, by how the request was answered.
use Rattle.std.proofs.Common.{◌≡◌, ◌∙◌, ℕ, ◌==◌, not, Bool, true, false, Option, Some, None, IfSome, length, refl, ap, sym, subst, inl, inr}
use Rattle.std.specs.Prelude.{is_none, slice_set, if◌then◌else◌}
use Rattle.std.proofs.lemmas.Bool.{cases_lt}
use Rattle.std.proofs.lemmas.List.{get_or-set_same, get_or_past, length-set}
use Rattle.std.proofs.lemmas.Option.{none-some, same_Some}
use Rattle.os9_base.specs.declared.registers.Pid.{Pid}
use Rattle.io_model.specs.Io.{Io, pending_at, open_path}
use Rattle.io_model.specs.declared.path.Target.{Target}
use Rattle.io_model.specs.declared.path.Target.TheVariants.{File, Folder, Term, Pipe}
use Rattle.io_model.specs.Path.{slot_of}
use Rattle.io_model.specs.declared.pending.PendingCall.{PendingCall}
use Rattle.io_model.specs.declared.path.SysPath.{SysPath}
use Rattle.io_model.specs.Again.{IsAgain, IsPending as IsKeptCall, path_number}
use Rattle.io_model.specs.declared.io_call.IoCall.{IoCall}
use Rattle.os9_base.specs.declared.registers.Regs.{Regs}
use Rattle.io_state.proofs.HeldLemmas.{slot-held}
use Rattle.io_state.proofs.OpenedLemmas.{opened-slot, opened-target}
use Rattle.io_state.specs.Files.{IsOnDisk}
use Rattle.io_state.specs.Sound.{IsIo, IsNoRead, target_at}
use Rattle.lock_model.proofs.Keeping.{may-hold}
use Rattle.lock_model.specs.Conflict.{conflicts}
use Rattle.lock_model.specs.Laws.{MayHold}
use Rattle.lock_model.specs.Locks.{Locks, request_of, with_request}
use Rattle.lock_model.specs.Waits.{closes, first_answer, is_late, later_answer}
use Rattle.lock_model.specs.declared.lock.Grant.TheVariants.{Granted, Locked, Deadlock, Wait}
use Rattle.lock_model.specs.declared.lock.Held.{Held}
use Rattle.lock_model.specs.declared.lock.Request.{Request}
use Rattle.file_rules.specs.Locking.{answer_in, call_of}
use Rattle.lock_model.specs.declared.place.FilePlace.{FilePlace}
use Rattle.file_rules.specs.Files.{place_of_target}
use Rattle.file_state.specs.Asking.{MayBeGranted, IsPendingRequest, IsRequestOf, KeepsRequest, MayAsk}
use Rattle.file_state.specs.Opened.{IsPathOf, path_of}
use Rattle.file_state.specs.declared.state.OpenFile.{OpenFile}

-- ---- the request of a call

-- the request in which a process waits, if it may ask
pub kept-own : (io : Io) (locks : Locks) (p : Pid) (opened : OpenFile) (request : Request) → IsIo io
    → MayAsk io locks p.0 opened → request_of locks p.0 ≡ Some request → IsRequestOf io locks p.0 request
kept-own io locks p opened request sound ask is =
    let kept : IsPendingRequest io p.0 request = subst (λ (o : Option Request). IfSome o (IsPendingRequest io p.0)) is ask.kept in
    record {
      owner = kept.owner;
      only = subst (λ (o : Option Request). IfSome o (λ kept. kept ≡ request)) (sym is) refl;
      may = sound.waits.calls p.0 (call_of request) kept.kept;
      covers = kept.covers;
    }

-- ---- what is granted

first-free : (conflict late cycle : Bool) → (if not conflict then Granted else (if late then Locked else (if cycle then Deadlock else Wait))) ≡ Granted → conflict ≡ false
first-free false late cycle is = refl
first-free true true cycle is = let e : Locked ≡ Granted = is in cc
first-free true false true is = let e : Deadlock ≡ Granted = is in cc
first-free true false false is = let e : Wait ≡ Granted = is in cc

later-free : (conflict late : Bool) → (if not conflict then Granted else (if late then Locked else Wait)) ≡ Granted → conflict ≡ false
later-free false late is = refl
later-free true true is = let e : Locked ≡ Granted = is in cc
later-free true false is = let e : Wait ≡ Granted = is in cc

granted-free : (locks : Locks) (p tick : ℕ) (request : Request) → answer_in locks p tick request ≡ Granted → conflicts locks request.lock ≡ false
granted-free locks p tick request is = by (is_none (request_of locks p)) is
  where
    by : (first : Bool) → (if first then first_answer locks request else later_answer locks tick request) ≡ Granted → conflicts locks request.lock ≡ false
    by true is = first-free (conflicts locks request.lock) (request.ticks == 1) (closes locks request.lock) is
    by false is = later-free (conflicts locks request.lock) (is_late tick request) is

forgotten-at : (locks : Locks) (p : ℕ) → request_of (with_request locks p None) p ≡ None
forgotten-at locks p =
    elim (cases_lt p (length locks.requests)) [
      | inl within ↦ get_or-set_same locks.requests p None None within
      | inr past ↦ get_or_past (slice_set locks.requests p None) p None (rw length-set past)
    ]

-- its process then waits in none, and may hold the lock
pub is-granted : (locks : Locks) (p tick : ℕ) (request : Request) → request.lock.owner.0 ≡ p → answer_in locks p tick request ≡ Granted → MayBeGranted (with_request locks p None) request.lock
is-granted locks p tick request owner is = record {
  quiet = ap (request_of (with_request locks p None)) owner ∙ forgotten-at locks p;
  free = granted-free locks p tick request is;
}

pub granted-holds : (locks : Locks) (lock : Held) → MayBeGranted locks lock → MayHold locks lock
granted-holds locks lock it = may-hold locks lock it.quiet it.free

-- ---- who may ask

on-disk : (target : Target) (place : FilePlace) → place_of_target target ≡ Some place → IsOnDisk target
on-disk (File drive number) place is = tt
on-disk (Folder drive number) place is = tt
on-disk (Term terminal) place is = none-some place is
on-disk (Pipe pipe) place is = none-some place is

-- a process that has opened a file, and the call of its request is kept
pub may-ask : (io : Io) (locks : Locks) (p n : ℕ) (opened : OpenFile) → IsPathOf io opened → open_path io p n ≡ Some
    (path_of opened) → place_of_target opened.desc.target ≡ Some opened.place → KeepsRequest io locks p
    → MayAsk io locks p opened
may-ask io locks p n opened path names place kept = record {
  path = path;
  held = slot-held io.paths p n opened.path (opened-slot io p n (path_of opened) names).0;
  on_disk = on-disk opened.desc.target opened.place place;
  kept = kept;
}

-- ---- further attempts

-- a call that is attempted again on a file is not a read of a terminal
pub no-read-again : (io : Io) (p n : ℕ) (opened : OpenFile) (call : IoCall) (regs : Regs) → IsAgain call regs io p
    → path_number call regs ≡ n → open_path io p n ≡ Some (path_of opened) → place_of_target opened.desc.target ≡ Some
    opened.place → IfSome (pending_at io p) (IsNoRead io)
no-read-again io p n opened call regs again number names place = by (pending_at io p) again
  where
    no_terminal : (t : ℕ) → opened.desc.target ≡ Term t → ⊥
    no_terminal t is = none-some opened.place (ap place_of_target (sym is) ∙ place)

    one : (pending : PendingCall) → IsKeptCall call regs io p pending → IsNoRead io pending
    one pending it t at reads =
        let slot : slot_of io.paths p n ≡ Some pending.path = subst (λ (k : ℕ). slot_of io.paths p k ≡ Some pending.path) number it.path in
        let same : pending.path ≡ opened.path = same_Some pending.path opened.path (sym slot ∙ (opened-slot io p n (path_of opened) names).0) in
        let here : target_at io.paths opened.path.0 ≡ Some (Term t) = subst (λ (s : SysPath). target_at io.paths s.0 ≡ Some (Term t)) same at in
        no_terminal t (same_Some opened.desc.target (Term t) (sym (opened-target io p n (path_of opened) names) ∙ here))

    by : (pending : Option PendingCall) → IfSome pending (IsKeptCall call regs io p) → IfSome pending (IsNoRead io)
    by None again = tt
    by (Some pending) again = one pending again
