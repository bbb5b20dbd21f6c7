-- Requests for records stay those of calls that wait.
use Rattle.std.proofs.Common.{◌≡◌, ◌≢◌, ◌⊎◌, ℕ, ◌<◌, ◌==◌, Option, Some, None, IsSome, List, length, refl, sym, ap, ◌∙◌, subst, inl, inr}
use Rattle.std.specs.Prelude.{slice_index_or, slice_set, unwrap_or}
use Rattle.std.proofs.lemmas.Bool.{cases_eq, cases_lt}
use Rattle.std.proofs.lemmas.List.{get_or-set_other, get_or-set_same, get_or_past, length-set}
use Rattle.std.proofs.lemmas.Option.{none-some, same_Some}
use Rattle.os9_base.specs.declared.registers.TimePacket.{TimePacket}
use Rattle.os9_outer.specs.TerminalState.{TerminalState}
use Rattle.proc_model.specs.CallResult.{CallResult}
use Rattle.proc_model.specs.Processes.{Processes}
use Rattle.lock_model.specs.Laws.{Covers}
use Rattle.lock_model.specs.Locks.{request_of}
use Rattle.lock_model.specs.Records.{Records, ends_locks_below, with_waiting}
use Rattle.lock_model.specs.declared.lock.Request.{Request}
use Rattle.lock_model.specs.declared.lock.TheConstants.{PATH_PLACES}
use Rattle.io_model.specs.declared.pending.PendingCall.{PendingCall}
use Rattle.io_model.specs.Path.{PathTable, desc_of}
use Rattle.io_model.specs.Io.{Io, pending_at}
use Rattle.file_rules.specs.Attempts.{asker_of}
use Rattle.file_rules.specs.Files.{Files}
use Rattle.file_rules.specs.Locking.{call_of, files_interrupted, first_request, lock_ends, pending_request}
use Rattle.file_rules.specs.Processes.{files_ended, io_left}
use Rattle.file_rules.specs.declared.path_call.PathCall.{PathCall}
use Rattle.file_laws.specs.Attempt.{Attempt, made_in}
use Rattle.file_laws.specs.Claims.{MadePathCall}
use Rattle.file_laws.specs.Devices.{IsDevice, NoneRequested}
use Rattle.file_laws.specs.Recorded.{RecordsCome, settled}
use Rattle.file_laws.specs.Touch.{WaitsForRecord}
use Rattle.file_laws.proofs.Claimed.{records-come}
use Rattle.file_laws.proofs.TouchCounts.{claims-as}
use Rattle.file_laws.proofs.Requests.{KeepsOthers, below-requests, emptied-at, keeps-forgotten, keeps-same, none-requested, without-requests}
use Rattle.call_laws.specs.Running.{AreOnPaths, AreRequested, IsRequested}

-- ---- one process goes on

module _ (p : ℕ) (old new : Files) (calls : (q : ℕ) → q ≢ p → pending_at new.io q ≡ pending_at old.io q) (all : AreRequested old) where
  others-requested : KeepsOthers p old.records new.records → ((request : Request) → request_of new.records.locks p ≡ Some request → IsRequested new p request) → AreRequested new
  others-requested others itself q request is =
      elim (cases_eq q p) [
        | inl same ↦ subst (λ (q : ℕ). IsRequested new q request) (sym same) (itself request (ap (request_of new.records.locks) (sym same) ∙ is))
        | inr differ ↦ (let it = all q request (sym (others q differ) ∙ is) in record { kept = calls q differ ∙ it.kept; owner = it.owner; covers = it.covers })
      ]

  -- it has no request then
  pub none-then : NoneRequested p old new → AreRequested new
  none-then it = others-requested it.others (λ request is. absurd (none-some request (sym it.none ∙ is)))

  -- no call of it waited, and the records are as they were
  pub same-then : pending_at old.io p ≡ None → new.records ≡ old.records → AreRequested new
  same-then none same =
      others-requested (λ q differ. ap (λ (records : Records). request_of records.locks q) same)
      (λ request is. absurd (none-some (call_of request) (sym none ∙ (all p request (sym (ap (λ (records : Records). request_of records.locks p) same) ∙ is)).kept)))

-- ---- all calls are as they were

pub calls-then : (old new : Files) → new.records ≡ old.records → new.io.calls ≡ old.io.calls → AreRequested old → AreRequested new
calls-then old new same calls all q request is =
    let it = all q request (sym (ap (λ (records : Records). request_of records.locks q) same) ∙ is) in
    record { kept = ap (λ (calls : List (Option PendingCall)). slice_index_or calls q None) calls ∙ it.kept; owner = it.owner; covers = it.covers }

-- and so are the paths
pub paths-then : (old new : Files) → new.records ≡ old.records → new.io.calls ≡ old.io.calls → new.io.paths ≡ old.io.paths → AreOnPaths old → AreOnPaths new
paths-then old new same calls paths all q kept is =
    let it = all q kept (sym (ap (λ (calls : List (Option PendingCall)). slice_index_or calls q None) calls) ∙ is) in
    record {
      desc = it.desc;
      there = ap (λ (paths : PathTable). desc_of paths kept.path.0) paths ∙ it.there;
      on = subst (λ (records : Records). IsDevice it.desc.target ⊎ IsSome (request_of records.locks q)) (sym same) it.on;
    }

-- ---- ends and interruptions

pub none-ended : (files : Files) (p : ℕ) → NoneRequested p files (files_ended files p)
none-ended files p = record {
  none =
      ap (λ (requests : List (Option Request)). slice_index_or requests p None) same ∙ emptied-at files.records.locks.requests p;
  others = λ q differ. keeps-same p (with_waiting files.records p None) ended same q differ ∙ keeps-forgotten p files.records q differ;
}
  where
    ended : Records
    ended = ends_locks_below (lock_ends (io_left files p).io.paths (λ owner. owner == p)) PATH_PLACES (with_waiting files.records p None)

    same : ended.locks.requests ≡ (with_waiting files.records p None).locks.requests
    same = below-requests (lock_ends (io_left files p).io.paths (λ owner. owner == p)) PATH_PLACES (with_waiting files.records p None)

pub none-interrupted : (files : Files) (p : ℕ) → NoneRequested p files (files_interrupted files p)
none-interrupted files p = none-requested p files (files_interrupted files p) files.records (λ q differ. refl) refl

-- ---- the requests of the others, and the places for requests

pub record RequestsStay (p : ℕ) (old new : Records) : Type 0 where
  pub others : KeepsOthers p old new
  pub places : length new.locks.requests ≡ length old.locks.requests

pub same-stay : (p : ℕ) (old new : Records) → new ≡ old → RequestsStay p old new
same-stay p old new same = record {
  others = λ q differ. ap (λ (records : Records). request_of records.locks q) same;
  places = ap (λ (records : Records). length records.locks.requests) same;
}

pub ended-stay : (files : Files) (p : ℕ) → RequestsStay p files.records (files_ended files p).records
ended-stay files p = record {
  others = (none-ended files p).others;
  places =
      ap length (below-requests (lock_ends (io_left files p).io.paths (λ owner. owner == p)) PATH_PLACES (with_waiting files.records p None))
      ∙ length-set files.records.locks.requests p None;
}

pub interrupted-stay : (files : Files) (p : ℕ) → RequestsStay p files.records (files_interrupted files p).records
interrupted-stay files p = record {
  others = (none-interrupted files p).others;
  places = length-set files.records.locks.requests p None;
}

-- an attempt leaves the places
come-places : (m : MadePathCall) (now : Records) → RecordsCome m now → length now.locks.requests ≡ length m.files.records.locks.requests
come-places m now (RecordsCome.stay is) =
    ap (λ (records : Records). length records.locks.requests) is ∙ length-set m.files.records.locks.requests m.asker.caller.process.0 None
come-places m now (RecordsCome.holds request kind bytes it taken is) =
    ap (λ (records : Records). length records.locks.requests) is ∙ length-set m.files.records.locks.requests m.asker.caller.process.0 None
come-places m now (RecordsCome.writes request bytes it sent is) =
    ap (λ (records : Records). length records.locks.requests) is ∙ length-set m.files.records.locks.requests m.asker.caller.process.0 None
come-places m now (RecordsCome.ends found names ends is) =
    ap (λ (records : Records). length records.locks.requests) is
    ∙ ap length (without-requests found.opened.path.0 (settled m)) ∙ length-set m.files.records.locks.requests m.asker.caller.process.0 None
come-places m now (RecordsCome.waits request requests answer is) =
    ap (λ (records : Records). length records.locks.requests) is ∙ length-set m.files.records.locks.requests request.lock.owner.0 (Some request)

pub attempt-stay : (it : Attempt) → KeepsOthers it.process it.files.records it.new.records → RequestsStay it.process it.files.records it.new.records
attempt-stay it others = record { others = others; places = come-places (made_in it) it.new.records (records-come it) }

-- ---- a call that waits for a record

put-is : (requests : List (Option Request)) (p : ℕ) (request other : Request) → slice_index_or (slice_set requests p (Some request)) p None ≡ Some other → request ≡ other
put-is requests p request other is =
    elim (cases_lt p (length requests)) [
      | inl within ↦ same_Some request other (sym (get_or-set_same requests p (Some request) None within) ∙ is)
      | inr past ↦ absurd (none-some other (sym (get_or_past (slice_set requests p (Some request)) p None (rw length-set past)) ∙ is))
    ]

module _ (call : PathCall) (processes : Processes) (files : Files) (now : TimePacket) (p : ℕ) (result : CallResult)
    (new : Files) (before after : List TerminalState) (all : AreRequested files) (it : WaitsForRecord call processes files
    now p result new before after) where
  pub waits-owner : it.request.lock.owner.0 ≡ p
  waits-owner = by_kept (pending_request (asker_of processes p now) files) refl it.requests.is
    where
      by_kept : (kept : Option Request) → pending_request (asker_of processes p now) files ≡ kept → it.request ≡ unwrap_or
          kept (first_request (asker_of processes p now) it.requests.found it.requests.claim) → it.request.lock.owner.0 ≡
          p
      by_kept None none is = ap (λ (request : Request). request.lock.owner.0) is
      by_kept (Some request) there is =
          ap (λ (request : Request). request.lock.owner.0) is ∙ (all p request there).owner

  waits-covers : Covers it.request.lock.range it.request.count
  waits-covers = by_kept (pending_request (asker_of processes p now) files) refl it.requests.is
    where
      by_kept : (kept : Option Request) → pending_request (asker_of processes p now) files ≡ kept → it.request ≡ unwrap_or
          kept (first_request (asker_of processes p now) it.requests.found it.requests.claim)
          → Covers it.request.lock.range it.request.count
      by_kept None none is =
          subst (λ (request : Request). Covers request.lock.range request.count) (sym is)
          (claims-as (asker_of processes p now) files it.requests.found call it.requests.claim none
          it.requests.claims).covers
      by_kept (Some request) there is =
          subst (λ (request : Request). Covers request.lock.range request.count) (sym is) (all p request there).covers

  waits-records : new.records ≡ with_waiting files.records p (Some it.request)
  waits-records = it.records ∙ ap (λ (n : ℕ). with_waiting files.records n (Some it.request)) waits-owner

  pub waits-calls : (q : ℕ) → q ≢ p → pending_at new.io q ≡ pending_at files.io q
  waits-calls q differ =
      ap (λ (io : Io). pending_at io q) it.io ∙ get_or-set_other files.io.calls p q (Some (call_of it.request)) None differ

  pub waits-kept : p < length files.io.calls → pending_at new.io p ≡ Some (call_of it.request)
  waits-kept within =
      ap (λ (io : Io). pending_at io p) it.io ∙ get_or-set_same files.io.calls p (Some (call_of it.request)) None within

  pub waits-others : KeepsOthers p files.records new.records
  waits-others q differ =
      ap (λ (records : Records). request_of records.locks q) waits-records ∙ get_or-set_other files.records.locks.requests p q (Some it.request) None differ

  pub waits-there : p < length files.records.locks.requests → request_of new.records.locks p ≡ Some it.request
  waits-there within =
      ap (λ (records : Records). request_of records.locks p) waits-records ∙ get_or-set_same files.records.locks.requests p (Some it.request) None within

  pub waits-requested : p < length files.io.calls → AreRequested new
  waits-requested within =
      others-requested p files new waits-calls all waits-others
      (λ request is. by_request request (put-is files.records.locks.requests p it.request request (sym (ap (λ (records : Records). request_of records.locks p) waits-records) ∙ is)))
    where
      by_request : (request : Request) → it.request ≡ request → IsRequested new p request
      by_request request same =
          subst (IsRequested new p) same (record { kept = waits-kept within; owner = waits-owner; covers = waits-covers })
