-- An event of another process changes no byte that a file has in a locked range.
use Rattle.std.proofs.Common.{◌≡◌, ◌≢◌, ◌⊎◌, ℕ, ◌<◌, ◌≤◌, true, false, Option, Some, None, List, length, refl, sym, ap, ◌∙◌, subst, inl, inr, arith}
use Rattle.std.proofs.lemmas.Bool.{false≢true}
use Rattle.std.proofs.lemmas.Option.{none-some}
use Rattle.proc_model.specs.Ready.{act_of}
use Rattle.lock_model.specs.Conflict.{conflicts}
use Rattle.lock_model.specs.Laws.{IsIn}
use Rattle.lock_model.specs.Locks.{Locks, lock_of, request_of}
use Rattle.lock_model.specs.declared.lock.Held.{Held}
use Rattle.lock_model.specs.declared.lock.Range.{Range}
use Rattle.lock_model.specs.declared.lock.Request.{Request}
use Rattle.lock_model.proofs.Chains.{some-opposer}
use Rattle.rbf_model.specs.Volume.{DiskVolume}
use Rattle.file_laws.specs.Attempt.{Attempt, ReportsDriveFault, made_in}
use Rattle.machine_model.specs.declared.ends.EventEnd.{EventEnd}
use Rattle.machine_model.specs.Event.{Event}
use Rattle.machine_model.specs.State.{State}
use Rattle.isolation_laws.proofs.Asked.{Asks, asks}
use Rattle.lock_laws.specs.Contents.{ChangesWithin, ContentsCome, IsBefore, contents_of}
use Rattle.lock_laws.proofs.Contents.{contents-come}
use Rattle.lock_laws.specs.Locked.{IsRunLocked}
use Rattle.lock_laws.specs.Written.{KeepsLocked}
use Rattle.lock_laws.proofs.Apart.{against-so}
use Rattle.lock_laws.proofs.Changes.{granted-free, owner-is}
use Rattle.lock_laws.proofs.Covered.{state-covered}
use Rattle.lock_laws.proofs.Overlaps.{overlaps-by}
use Rattle.lock_laws.proofs.VolumeEvents.{IsAfterAttempts, acts-so, attempt_by}

-- ---- a range that is granted to one process, and one that another has locked

kept-locked : (range : Range) (old new : List ℕ) → new ≡ old → KeepsLocked range old new
kept-locked range old new same = subst (KeepsLocked range old) (sym same) (record {
  kept = λ at inside there. record { there = there; same = refl };
  none_new = λ open_end at from there. there;
})

module _ (locks : Locks) (path : ℕ) (lock : Held) (is : lock_of locks path ≡ Some lock) (asked : Held)
    (free : conflicts locks asked ≡ false) (differ : asked.owner.0 ≢ lock.owner.0) (file : asked.file ≡ lock.file)
  where
    -- they have no byte in common
    disjoint : (byte : ℕ) → IsIn byte asked.range → IsIn byte lock.range → ⊥
    disjoint byte one two =
        false≢true (sym free ∙ some-opposer locks asked (λ owner. true) lock.owner.0 (record {
          path = path;
          lock = lock;
          is = is;
          owned = refl;
          against = against-so asked lock differ file (overlaps-by asked.range lock.range byte one two);
        }) refl)

    keeps-locked : (bytes old new : List ℕ) → ChangesWithin asked.range bytes old new → KeepsLocked lock.range old new
    keeps-locked bytes old new changes = record {
      kept = λ at inside there. changes.kept at (λ granted. disjoint at granted inside) there;
      none_new = λ open_end at from there. by_gain at open_end from (changes.gained at there);
    }
      where
        -- a place behind the start of a range without an end is in it
        inside : lock.range.end ≡ None → (at : ℕ) → lock.range.start ≤ at → IsIn at lock.range
        inside open_end at from = record { from = from; to = λ last end. absurd (none-some last (sym open_end ∙ end)) }

        by_gain : (at : ℕ) → lock.range.end ≡ None → lock.range.start ≤ at → (at < length old) ⊎ (IsIn at asked.range ⊎ IsBefore at asked.range) → at < length old
        by_gain at open_end from (inl there) = there
        by_gain at open_end from (inr (inl granted)) = absurd (disjoint at granted (inside open_end at from))
        by_gain at open_end from (inr (inr (before, begins))) =
            absurd (disjoint asked.range.start begins (inside open_end asked.range.start (omega (arith, from, before))))

-- ---- an event

module _ (s : State) (p : ℕ) (it : IsRunLocked s) (path : ℕ) (lock : Held) (is : lock_of s.files.records.locks path ≡ Some lock) (differ : p ≢ lock.owner.0) where
  abbrev Keeps : State → Type 0
  Keeps t = KeepsLocked lock.range (contents_of s.files lock.file) (contents_of t.files lock.file)

  -- the volumes stay
  keeps-volumes : (t : State) → t.files.volumes ≡ s.files.volumes → Keeps t
  keeps-volumes t same =
      kept-locked lock.range (contents_of s.files lock.file) (contents_of t.files lock.file)
      (ap (λ (volumes : List (Option DiskVolume)). contents_of (record s.files { volumes = volumes }) lock.file) same)

  own : (request : Request) → request_of s.files.records.locks p ≡ Some request → request.lock.owner.0 ≡ p
  own request there = (it.state.running.requested p request there).owner

  path-keeps : IsAfterAttempts s p Keeps
  path-keeps code next now is_now call serves result rest attempted clock =
      by_contents (contents-come attempt lock.file it.state.running.kinds (path, it.on.held path lock is)
      (state-covered s p code it.state.running it.on next now call (subst (Asks code) serves (asks code)) (length s.terms)))
    where
      attempt : Attempt
      attempt = attempt_by s p now call result rest attempted

      by_contents : ContentsCome (made_in attempt) lock.file rest.files.records (ReportsDriveFault attempt) (contents_of s.files lock.file) (contents_of rest.files lock.file)
          → KeepsLocked lock.range (contents_of s.files lock.file) (contents_of rest.files lock.file)
      by_contents (ContentsCome.stay same) =
          kept-locked lock.range (contents_of s.files lock.file) (contents_of rest.files lock.file) same
      by_contents (ContentsCome.within request bytes granted file writes changes entered) =
          keeps-locked s.files.records.locks path lock is request.lock
          (granted-free s.files.records.locks p s.processes.tick request (request_of s.files.records.locks p) granted.answer)
          (λ same. differ (sym (owner-is (made_in attempt) it.state.agreed.records it.state.agreed.places own request granted.requests) ∙ same))
          file bytes (contents_of s.files lock.file) (contents_of rest.files lock.file) changes

pub event-keeps-locked : (s t : State) (end : EventEnd) (path : ℕ) (lock : Held) → IsRunLocked s → Event s end t
    → lock_of s.files.records.locks path ≡ Some lock → s.chosen ≢ Some lock.owner.0 → KeepsLocked lock.range
    (contents_of s.files lock.file) (contents_of t.files lock.file)
event-keeps-locked s t end path lock it (p, chosen, lives, acts) is other =
    acts-so s p (Keeps s p it path lock is differ) (keeps-volumes s p it path lock is differ) (path-keeps s p it path lock is differ) (act_of s.processes p) end t refl acts
  where
    differ : p ≢ lock.owner.0
    differ same = other (chosen ∙ ap (λ (p : ℕ). Some p) same)
