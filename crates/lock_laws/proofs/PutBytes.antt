-- The bytes of a write in the history are those that its file has then.
use Rattle.std.proofs.Common.{◌≡◌, ℕ, zero, suc, ◌+◌, ◌-◌, ◌<◌, ◌≤◌, ◌==◌, Bool, true, false, Option, Some, None, List, [], ◌∷◌, ◌++◌, length, take, drop, replicate, refl, sym, ap, ◌∙◌, subst, inl, inr, append_assoc, arith}
use Rattle.std.specs.Prelude.{option_and_then, slice_index_or, slice_set, if◌then◌else◌}
use Rattle.std.specs.Option.{option_map_or}
use Rattle.std.proofs.lemmas.Bool.{cases_lt, eq-eqb}
use Rattle.std.proofs.lemmas.List.{get_or-set_same, get_or_past, length-append, length-replicate, length-take-le}
use Rattle.std.proofs.lemmas.Option.{none-some}
use Rattle.os9_base.specs.declared.registers.TimePacket.{TimePacket}
use Rattle.os9_outer.specs.TerminalState.{TerminalState}
use Rattle.lock_model.specs.History.{dropped, got, put}
use Rattle.lock_model.specs.Locks.{lock_of}
use Rattle.lock_model.specs.Records.{Records, entered, without_lock, written_by}
use Rattle.lock_model.specs.declared.history.Entry.{Entry}
use Rattle.lock_model.specs.declared.lock.EntryKind.TheVariants.{Drop, Get, Put}
use Rattle.lock_model.specs.declared.lock.Held.{Held}
use Rattle.lock_model.specs.declared.lock.Request.{Request}
use Rattle.lock_model.specs.declared.place.FilePlace.{FilePlace}
use Rattle.rbf_change.specs.Calls.{WritesFileAt}
use Rattle.rbf_change.specs.Contents.{extended, written}
use Rattle.rbf_model.specs.File.{DiskFile}
use Rattle.rbf_model.specs.Volume.{DiskVolume}
use Rattle.rbf_model.specs.Writes.{put_at}
use Rattle.io_model.specs.Step.{IoEnd, answers, fails, keeps}
use Rattle.file_rules.specs.Attempts.{file_step}
use Rattle.file_rules.specs.Change.{Change, AppliesChange}
use Rattle.file_rules.specs.Files.{Files, volume_at}
use Rattle.file_rules.specs.Locking.{records_after}
use Rattle.file_rules.specs.Read.{lock_by}
use Rattle.file_rules.specs.Seek.{long_of}
use Rattle.file_rules.specs.Step.{Deed, DoesDeed, FileDoes, FileEffect, FileStep, as_io, changes, deed_of, drive_of, leaves_so}
use Rattle.file_laws.specs.Attempt.{Attempt, made_in}
use Rattle.file_laws.specs.Claims.{MadePathCall}
use Rattle.file_laws.specs.Recorded.{IsGranted, path_in}
use Rattle.file_laws.proofs.Claimed.{claimed}
use Rattle.file_laws.proofs.ClaimSteps.{Claimed, IsClaimedChange, LeftSo, StepClaimed}
use Rattle.lock_laws.specs.Contents.{IsCovered, contents_of}
use Rattle.lock_laws.proofs.Covering.{request-file}
use Rattle.lock_laws.specs.Written.{HasBytesAt}

-- ---- bytes that were written

drop-front : (one two : List ℕ) (n : ℕ) → length one ≡ n → drop n (one ++ two) ≡ two
drop-front [] two zero long = refl
drop-front [] two (suc n) long = absurd (omega (arith, long))
drop-front (byte ∷ one) two zero long = absurd (omega (arith, long))
drop-front (byte ∷ one) two (suc n) long = drop-front one two n (omega (arith, long))

pub take-front : (one two : List ℕ) → take (length one) (one ++ two) ≡ one
take-front [] two = refl
take-front (byte ∷ one) two = ap (λ (bytes : List ℕ). byte ∷ bytes) (take-front one two)

put-back : (old bytes : List ℕ) (at : ℕ) → at ≤ length old → HasBytesAt (put_at old at bytes) at bytes
put-back old bytes at low =
    let rest : List ℕ = drop (at + length bytes) old in
    ap (λ (all : List ℕ). take (length bytes) (drop at all)) (append_assoc (take at old) bytes rest)
    ∙ ap (take (length bytes)) (drop-front (take at old) (bytes ++ rest) at (length-take-le at old low))
    ∙ take-front bytes rest

written-back : (old bytes : List ℕ) (at : ℕ) → HasBytesAt (written old at bytes) at bytes
written-back old [] at = refl
written-back old (byte ∷ rest) at = put-back (extended old at) (byte ∷ rest) at low
  where
    low : at ≤ length (extended old at)
    low =
        let gap : List ℕ = replicate (at - length old) 0 in
        let long : length (old ++ gap) ≡ length old + (at - length old) = length-append old gap ∙ ap (λ (n : ℕ). length old + n) (length-replicate (at - length old) 0) in
        omega (arith, long)

-- ---- the last entry

pub same-rest : (front one two : List Entry) → front ++ one ≡ front ++ two → one ≡ two
same-rest [] one two is = is
same-rest (entry ∷ front) one two is =
    same-rest front one two (let same : (entry ∷ (front ++ one)) ≡ (entry ∷ (front ++ two)) = is in cc)

pub one-entry : (one two : Entry) → (one ∷ []) ≡ (two ∷ []) → one ≡ two
one-entry one two is = cc

get-put : Get ≡ Put → ⊥
get-put is = cc

drop-put : Drop ≡ Put → ⊥
drop-put is = cc

-- what is kept of a call is not of the history
pub after-history : (end : IoEnd) (records : Records) (p : ℕ) → (records_after end records p).history ≡ records.history
after-history (answers regs) records p = refl
after-history (fails number) records p = refl
after-history (keeps kept) records p = refl

abbrev contents_in : List (Option DiskVolume) → FilePlace → List ℕ
contents_in volumes place =
    option_map_or (λ (file : DiskFile). file.contents) (option_and_then (λ (v : DiskVolume). v.files place.number) (slice_index_or volumes place.drive None)) []

module _ (it : Attempt) (covered : IsCovered (made_in it)) (place : FilePlace) (entry : Entry) (writes_it : entry.kind ≡ Put) (file : entry.file ≡ place) where
  abbrev m : MadePathCall
  m = made_in it

  abbrev old : List Entry
  old = it.files.records.history

  -- the entry is the only one that the history has gained then
  abbrev Gained : Records → Type 0
  Gained records = records.history ≡ old ++ entry ∷ []

  abbrev Has : List (Option DiskVolume) → Type 0
  Has volumes = HasBytesAt (contents_in volumes place) entry.range.start entry.bytes

  none-gained : (records : Records) → records.history ≡ old → Gained records → ⊥
  none-gained records same gained =
      let long : length old ≡ length old + 1 = ap length (sym same ∙ gained) ∙ length-append old (entry ∷ []) in
      omega (arith, long)

  same-records : (records : Records) → records ≡ it.files.records → Gained records → ⊥
  same-records records same gained = none-gained records (ap (λ (records : Records). records.history) same) gained

  gained-is : (records : Records) (other : Entry) → records.history ≡ old ++ other ∷ [] → Gained records → other ≡ entry
  gained-is records other is gained = one-entry other entry (same-rest old (other ∷ []) (entry ∷ []) (sym is ∙ gained))

  other-kind : (records : Records) (other : Entry) → (other.kind ≡ Put → ⊥) → records.history ≡ old ++ other ∷ [] → Gained records → ⊥
  other-kind records other differ is gained =
      differ (ap (λ (entry : Entry). entry.kind) (gained-is records other is gained) ∙ writes_it)

  -- a lock that ends is no write
  no-drop : (path : ℕ) (records : Records) → records ≡ without_lock it.files.records path → Gained records → ⊥
  no-drop path records is gained = by_lock (lock_of it.files.records.locks path) is
    where
      by_lock : (lock : Option Held) → records ≡ option_map_or (λ (lock : Held). entered it.files.records path None (dropped path lock)) lock it.files.records → ⊥
      by_lock None is = same-records records is gained
      by_lock (Some lock) is =
          other-kind records (dropped path lock) drop-put (ap (λ (records : Records). records.history) is) gained

  left-none : (effect : FileEffect) → LeftSo it.call m.asker it.files m.terms effect → Gained effect.files.records → ⊥
  left-none effect (LeftSo.still so) gained = same-records effect.files.records so.records gained
  left-none effect (LeftSo.held request kind bytes granted taken done is) gained =
      other-kind effect.files.records (got (path_in granted) (lock_by kind request.lock bytes) bytes) get-put
      (ap (λ (records : Records). records.history) is) gained
  left-none effect (LeftSo.ended found names ends done is) gained =
      no-drop found.opened.path.0 effect.files.records is gained
  left-none effect (LeftSo.waited request requests answer is) gained =
      none-gained effect.files.records (ap (λ (it : FileEffect). it.files.records.history) is) gained
  left-none effect (LeftSo.opposed request requests (inl (answer, is))) gained =
      none-gained effect.files.records (ap (λ (it : FileEffect). it.files.records.history) is) gained
  left-none effect (LeftSo.opposed request requests (inr (answer, is))) gained =
      none-gained effect.files.records (ap (λ (it : FileEffect). it.files.records.history) is) gained

  -- ---- a change of a volume

  module _ (drive : ℕ) (v w : DiskVolume) (mounted : volume_at it.files drive ≡ Some v) (volumes : List (Option DiskVolume)) (set : volumes ≡ slice_set it.files.volumes drive (Some w)) where
    drive-low : drive < length it.files.volumes
    drive-low = elim (cases_lt drive (length it.files.volumes)) [
      | inl low ↦ low
      | inr past ↦ absurd (none-some v (sym (get_or_past it.files.volumes drive None past) ∙ mounted))
    ]

    now-volume : place.drive ≡ drive → slice_index_or volumes place.drive None ≡ Some w
    now-volume here =
        ap (λ (volumes : List (Option DiskVolume)). slice_index_or volumes place.drive None) set
        ∙ ap (λ (n : ℕ). slice_index_or (slice_set it.files.volumes drive (Some w)) n None) here
        ∙ get_or-set_same it.files.volumes drive (Some w) None drive-low

    written-has : place.drive ≡ drive → (number at : ℕ) (bytes : List ℕ) (now : TimePacket) → place.number ≡ number
        → WritesFileAt v w number at bytes now → HasBytesAt (contents_in volumes place) at bytes
    written-has here number at bytes now same makes =
        subst (λ (contents : List ℕ). HasBytesAt contents at bytes) (sym contents) (written-back makes.old.contents bytes at)
      where
        there : w.files place.number ≡ Some makes.new
        there =
            ap (λ (w : DiskVolume). w.files place.number) makes.volume
            ∙ ap (λ (b : Bool). if b then Some makes.new else v.files place.number) (eq-eqb place.number number same)

        contents : contents_in volumes place ≡ written makes.old.contents at bytes
        contents =
            ap (λ (v : Option DiskVolume). option_map_or (λ (file : DiskFile). file.contents) (option_and_then (λ (v : DiskVolume). v.files place.number) v) []) (now-volume here)
            ∙ ap (λ (file : Option DiskFile). option_map_or (λ (file : DiskFile). file.contents) file []) there
            ∙ ap (λ (file : DiskFile). file.contents) makes.changed.file

    -- the entry is one of this write
    entry-has : (request : Request) (bytes : List ℕ) (granted : IsGranted m request) → drive ≡ granted.requests.found.place.drive
        → AppliesChange (Change.writes granted.requests.found.place.number request.lock.range.start bytes) m.asker.user m.asker.now v w 0
        → put (path_in granted) request.lock bytes ≡ entry → Has volumes
    entry-has request bytes granted on makes is =
        subst (λ (entry : Entry). HasBytesAt (contents_in volumes place) entry.range.start entry.bytes) is
        (written-has (ap (λ (place : FilePlace). place.drive) where-is ∙ sym on) granted.requests.found.place.number request.lock.range.start bytes m.asker.now
        (ap (λ (place : FilePlace). place.number) where-is) makes)
      where
        where-is : place ≡ granted.requests.found.place
        where-is =
            sym file ∙ sym (ap (λ (entry : Entry). entry.file) is) ∙ request-file m covered request granted.requests

    made-has : (change : Change) (records : Records) → IsClaimedChange it.call m.asker it.files m.terms drive change records
        → Gained records → (n : ℕ) → AppliesChange change m.asker.user m.asker.now v w n → Has volumes
    made-has change records (IsClaimedChange.by_write request bytes granted sent on is covers recorded) gained n makes =
        entry-has request bytes granted on (subst (λ (change : Change). AppliesChange change m.asker.user m.asker.now v w n) is makes)
        (gained-is records (put (path_in granted) request.lock bytes) (ap (λ (records : Records). records.history) recorded) gained)
    made-has change records (IsClaimedChange.by_size request granted set on is covers recorded) gained n makes =
        by_size (length granted.requests.found.file.contents == long_of m.asker.caller.regs) recorded
      where
        by_size : (same : Bool) → records ≡ (if same then without_lock it.files.records (path_in granted) else
            written_by it.files.records (path_in granted) request.lock []) → Has volumes
        by_size true is = absurd (no-drop (path_in granted) records is gained)
        by_size false is =
            subst (λ (entry : Entry). HasBytesAt (contents_in volumes place) entry.range.start entry.bytes)
            (gained-is records (put (path_in granted) request.lock []) (ap (λ (records : Records). records.history) is) gained) refl
    made-has change records (IsClaimedChange.by_attributes k attributes is recorded) gained n makes =
        absurd (same-records records recorded gained)
    made-has change records (IsClaimedChange.by_file d name attributes is folder recorded) gained n makes =
        absurd (same-records records recorded gained)
    made-has change records (IsClaimedChange.by_directory d name attributes is folder recorded) gained n makes =
        absurd (same-records records recorded gained)
    made-has change records (IsClaimedChange.by_deletion d k name is folder closed recorded) gained n makes =
        absurd (same-records records recorded gained)

  -- ---- an attempt

  deed-has : (reached : Option ℕ) (deed : Deed) → Claimed it.call m.asker it.files m.terms reached deed
      → (effect : FileEffect) (before after : List TerminalState) → Gained effect.files.records
      → DoesDeed deed m.asker it.files effect before after → Has effect.files.volumes
  deed-has reached (leaves_so left) so effect before after gained (is, same) =
      absurd (left-none left so (subst (λ (effect : FileEffect). Gained effect.files.records) is gained))
  deed-has reached (as_io io) so effect before after gained (done, does, is) =
      absurd (none-gained effect.files.records (ap (λ (it : FileEffect). it.files.records.history) is) gained)
  deed-has reached (changes change) so effect before after gained (inl changed, same) =
      made-has change.drive changed.old changed.new changed.is effect.files.volumes set change.change
      (change.effect changed.number).files.records (so.claimed changed.number)
      (subst (λ (effect : FileEffect). Gained effect.files.records) changed.effect_is gained) changed.number changed.makes
    where
      set : effect.files.volumes ≡ slice_set it.files.volumes change.drive (Some changed.new)
      set =
          ap (λ (it : FileEffect). it.files.volumes) changed.effect_is
          ∙ ap (λ (volumes : List (Option DiskVolume)). slice_set volumes change.drive (Some changed.new)) (so.answered changed.number).volumes
  deed-has reached (changes change) so effect before after gained (inr long, same) =
      absurd (none-gained effect.files.records (ap (λ (it : FileEffect). it.files.records.history) long.effect_is) gained)

  does-has : (step : FileStep) → StepClaimed it.call m.asker it.files m.terms step → (effect : FileEffect)
      (before after : List TerminalState) → Gained effect.files.records → FileDoes step m.asker it.files effect before
      after → Has effect.files.volumes
  does-has step so effect before after gained (inl well) =
      subst (λ (effect : FileEffect). Has effect.files.volumes) (sym well.effect_is)
      (deed-has (drive_of step) (deed_of step it.files) so well.it before after
      (subst (λ (effect : FileEffect). Gained effect.files.records) well.effect_is gained) well.does)
  does-has step so effect before after gained (inr (broken, same)) =
      absurd (none-gained effect.files.records (ap (λ (it : FileEffect). it.files.records.history) broken.effect_is) gained)

  pub put-bytes : Gained it.new.records → HasBytesAt (contents_of it.new place) entry.range.start entry.bytes
  put-bytes gained =
      subst (λ (new : Files). HasBytesAt (contents_of new place) entry.range.start entry.bytes) (sym it.attempted.state)
      (does-has (file_step it.call m.asker it.files m.terms) (claimed it.call m.asker it.files m.terms) it.attempted.effect it.before it.after
      (sym (after-history it.attempted.effect.end it.attempted.effect.files.records it.process)
      ∙ sym (ap (λ (new : Files). new.records.history) it.attempted.state) ∙ gained) it.attempted.does)
