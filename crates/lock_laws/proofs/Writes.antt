-- A change of a file that a path is on is a write of the chosen process, which the history has then, or a drive fails.
use Rattle.std.proofs.Common.{◌≡◌, ◌⊎◌, ℕ, Option, Some, List, length, refl, sym, ap, ◌∙◌, subst, inl, inr}
use Rattle.os9_base.specs.declared.registers.TimePacket.{TimePacket}
use Rattle.proc_model.specs.Records.{IsLiving}
use Rattle.proc_model.specs.Attempts.{after_attempt}
use Rattle.proc_model.specs.CallResult.{CallResult, refused}
use Rattle.proc_model.specs.Ready.{act_of, attempts}
use Rattle.lock_model.specs.History.{put}
use Rattle.lock_model.specs.Locks.{request_of}
use Rattle.lock_model.specs.Records.{Records, written_by}
use Rattle.lock_model.specs.declared.lock.Request.{Request}
use Rattle.lock_model.specs.declared.place.FilePlace.{FilePlace}
use Rattle.rbf_model.specs.Volume.{DiskVolume}
use Rattle.file_rules.specs.Attempts.{FileAttempts}
use Rattle.file_rules.specs.declared.path_call.PathCall.{PathCall}
use Rattle.time_rules.specs.Clock.{IsNow}
use Rattle.file_laws.specs.Attempt.{Attempt, ReportsDriveFault, made_in}
use Rattle.machine_model.specs.declared.ends.EventEnd.{EventEnd}
use Rattle.machine_model.specs.Event.{Event}
use Rattle.machine_model.specs.Services.{Serves, Service, on_paths, service_of}
use Rattle.machine_model.specs.State.{Rest, State, with_rest}
use Rattle.isolation_laws.proofs.Asked.{Asks, asks}
use Rattle.lock_laws.specs.Contents.{ChangesWithin, ContentsCome, HasPath, IsCovered, contents_of}
use Rattle.file_laws.specs.Recorded.{IsGranted, path_in, settled}
use Rattle.lock_laws.proofs.Contents.{contents-come}
use Rattle.lock_laws.specs.Cycles.{EndsInFault}
use Rattle.lock_laws.specs.Locked.{IsRunLocked}
use Rattle.lock_laws.specs.Written.{IsFileWriteCutShort, IsFileWritten, WritesWithin}
use Rattle.lock_laws.proofs.Changes.{owner-is}
use Rattle.lock_laws.proofs.Covered.{state-covered}
use Rattle.lock_laws.proofs.PutBytes.{put-bytes}
use Rattle.lock_laws.proofs.VolumeEvents.{acts-so, attempt_by}

module _ (s : State) (p : ℕ) (chosen : s.chosen ≡ Some p) (lives : IsLiving s.processes.records p) (it : IsRunLocked s) (place : FilePlace) (path : HasPath s.files place) where
  abbrev Fact : State → Type 0
  Fact t = (contents_of t.files place ≡ contents_of s.files place) ⊎ (IsFileWritten s t place ⊎ IsFileWriteCutShort s t place)

  stays : (t : State) → t.files.volumes ≡ s.files.volumes → Fact t
  stays t same =
      inl (ap (λ (volumes : List (Option DiskVolume)). contents_of (record s.files { volumes = volumes }) place) same)

  own : (request : Request) → request_of s.files.records.locks p ≡ Some request → request.lock.owner.0 ≡ p
  own request there = (it.state.running.requested p request there).owner

  module _ (code : ℕ) (next : act_of s.processes p ≡ attempts code) (now : TimePacket) (is_now : IsNow s.clock s.processes.tick now)
      (call : PathCall) (serves : service_of code ≡ on_paths call) (result : CallResult) (rest : Rest)
      (attempted : FileAttempts call s.processes s.files now p result rest.files s.terms rest.terms) (clock : rest.clock ≡ s.clock) where
    abbrev then : State
    then = with_rest s (after_attempt s.processes p result) rest

    abbrev attempt : Attempt
    attempt = attempt_by s p now call result rest attempted

    covered : IsCovered (made_in attempt)
    covered =
        state-covered s p code it.state.running it.on next now call (subst (Asks code) serves (asks code)) (length s.terms)

    -- a write that the history has
    written-so : (request : Request) (bytes : List ℕ) (granted : IsGranted (made_in attempt) request) → request.lock.file ≡ place
        → ChangesWithin request.lock.range bytes (contents_of s.files place) (contents_of rest.files place)
        → rest.files.records ≡ written_by (settled (made_in attempt)) (path_in granted) request.lock bytes
        → IsFileWritten s then place
    written-so request bytes granted file changes is = record {
      entry = put (path_in granted) request.lock bytes;
      last = ap (λ (records : Records). records.history) is;
      writes = refl;
      process = chosen ∙ ap (λ (p : ℕ). Some p) (sym (owner-is (made_in attempt) it.state.agreed.records it.state.agreed.places own request granted.requests));
      file = file;
      within = changes;
      bytes =
          put-bytes attempt covered place (put (path_in granted) request.lock bytes) refl file (ap (λ (records : Records). records.history) is);
    }

    -- a call that is answered the fault of a drive
    faulted-so : ReportsDriveFault attempt → EndsInFault s then
    faulted-so fault = (
      code,
      record {
        drive = fault.drive;
        number = fault.number;
        failed = fault.failed;
        refused = record {
          process = p;
          chosen = chosen;
          lives = lives;
          attempted = next;
          attempt = (
            now,
            is_now,
            subst (λ (service : Service). Serves service s now p (refused fault.number) rest) (sym serves)
                (subst (λ (result : CallResult). Serves (on_paths call) s now p result rest) fault.answer (attempted, clock)),
          );
          now = ap (λ (result : CallResult). with_rest s (after_attempt s.processes p result) rest) fault.answer;
        };
      },
    )

    -- what it has changed then
    cut-short : ReportsDriveFault attempt → WritesWithin (made_in attempt) place (contents_of s.files place) (contents_of rest.files place) → IsFileWriteCutShort s then place
    cut-short fault changes = record {
      fault = faulted-so fault;
      within = record {
        process = p;
        chosen = chosen;
        code = code;
        attempted = next;
        call = call;
        serves = serves;
        now = now;
        is_now = is_now;
        so = changes;
      };
    }

    contents-so : ContentsCome (made_in attempt) place rest.files.records (ReportsDriveFault attempt) (contents_of s.files place) (contents_of rest.files place) → Fact then
    contents-so (ContentsCome.stay same) = inl same
    contents-so (ContentsCome.within request bytes granted file writes changes (inl is)) =
        inr (inl (written-so request bytes granted file changes is))
    contents-so (ContentsCome.within request bytes granted file writes changes (inr fault)) =
        inr (inr (cut-short fault (record { request = request; granted = granted; file = file; bytes = bytes; writes = writes; within = changes })))

    attempt-so : Fact then
    attempt-so =
        contents-so (contents-come attempt place it.state.running.kinds path covered)

pub event-written : (s t : State) (end : EventEnd) (place : FilePlace) → IsRunLocked s → Event s end t
    → HasPath s.files place → (contents_of t.files place ≡ contents_of s.files place) ⊎
    (IsFileWritten s t place ⊎ IsFileWriteCutShort s t place)
event-written s t end place it (p, chosen, lives, acts) path =
    acts-so s p (Fact s p chosen lives it place path) (stays s p chosen lives it place path) (attempt-so s p chosen lives it place path) (act_of s.processes p) end t refl acts
