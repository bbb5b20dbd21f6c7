-- The bytes of a read in the history are those that its file had.
use Rattle.std.proofs.Common.{◌≡◌, ℕ, ◌+◌, Bool, true, false, Option, Some, None, List, [], ◌∷◌, ◌++◌, length, take, drop, refl, sym, ap, ◌∙◌, subst, append_assoc, arith}
use Rattle.std.specs.Prelude.{option_and_then, if◌then◌else◌}
use Rattle.std.specs.Option.{option_map_or}
use Rattle.std.proofs.lemmas.List.{length-append, take-append-drop}
use Rattle.io_model.specs.Line.{has_return, line_length}
use Rattle.io_model.specs.declared.terminal.ReadKind.{ReadKind}
use Rattle.io_model.specs.declared.terminal.ReadKind.TheVariants.{Bytes, WholeLine}
use Rattle.lock_model.specs.History.{dropped, got, put}
use Rattle.lock_model.specs.Locks.{lock_of}
use Rattle.lock_model.specs.Records.{Records, entered}
use Rattle.lock_model.specs.declared.history.Entry.{Entry}
use Rattle.lock_model.specs.declared.lock.EntryKind.TheVariants.{Drop, Get, Put}
use Rattle.lock_model.specs.declared.lock.Held.{Held}
use Rattle.lock_model.specs.declared.lock.Request.{Request}
use Rattle.rbf_change.specs.Contents.{bytes_from}
use Rattle.rbf_model.specs.File.{DiskFile}
use Rattle.rbf_model.specs.Volume.{DiskVolume}
use Rattle.file_rules.specs.Files.{OpenFile}
use Rattle.file_rules.specs.Read.{lock_by, part_of}
use Rattle.file_laws.proofs.Named.{is-named}
use Rattle.file_laws.specs.Attempt.{Attempt, made_in}
use Rattle.file_laws.specs.Claims.{MadePathCall}
use Rattle.file_laws.specs.Devices.{number_in}
use Rattle.file_laws.specs.Recorded.{IsGranted, IsTaken, RecordsCome, path_in, settled}
use Rattle.file_laws.proofs.Claimed.{records-come}
use Rattle.lock_laws.specs.Contents.{IsCovered, contents_of}
use Rattle.lock_laws.proofs.Covering.{request-file}
use Rattle.lock_laws.specs.Written.{HasBytesAt}
use Rattle.lock_laws.proofs.HeldAttempts.{lock-file}
use Rattle.lock_laws.proofs.PutBytes.{one-entry, same-rest, take-front}

-- ---- bytes that are read

front-has : (one two all : List ℕ) → all ≡ one ++ two → take (length one) all ≡ one
front-has one two all is = ap (take (length one)) is ∙ take-front one two

part-has : (kind : ReadKind) (contents : List ℕ) (at count : ℕ) → HasBytesAt contents at (part_of kind (bytes_from contents at count))
part-has Bytes contents at count =
    front-has (take count (drop at contents)) (drop count (drop at contents)) (drop at contents) (sym (take-append-drop count (drop at contents)))
part-has WholeLine contents at count =
    front-has (take line some) (drop line some ++ rest) (drop at contents)
    (sym (take-append-drop count (drop at contents)) ∙ ap (λ (some : List ℕ). some ++ rest) (sym (take-append-drop line some)) ∙ append_assoc (take line some) (drop line some) rest)
  where
    some : List ℕ
    some = take count (drop at contents)

    rest : List ℕ
    rest = drop count (drop at contents)

    line : ℕ
    line = line_length some

-- the lock of a read begins at the bytes that were read
lock-start : (kind : ReadKind) (lock : Held) (bytes : List ℕ) → (lock_by kind lock bytes).range.start ≡ lock.range.start
lock-start Bytes lock bytes = refl
lock-start WholeLine lock bytes = by_return (has_return bytes)
  where
    by_return : (returns : Bool) → (if returns then record lock.range { end = Some (lock.range.start + length bytes) } else lock.range).start ≡ lock.range.start
    by_return true = refl
    by_return false = refl

-- what is taken is in the file
taken-has : (m : MadePathCall) (found : OpenFile) (request : Request) (kind : ReadKind) (bytes : List ℕ)
    → IsTaken m found request kind bytes → HasBytesAt found.file.contents request.lock.range.start bytes
taken-has m found request kind bytes (IsTaken.by_read call is) =
    subst (HasBytesAt found.file.contents request.lock.range.start) (sym is) (part-has kind found.file.contents request.lock.range.start m.asker.caller.regs.y)
taken-has m found request kind bytes (IsTaken.by_lock call code one none) =
    subst (HasBytesAt found.file.contents request.lock.range.start) (sym none) refl

-- ---- an attempt

put-get : Put ≡ Get → ⊥
put-get is = cc

pub drop-get : Drop ≡ Get → ⊥
drop-get is = cc

module _ (it : Attempt) (covered : IsCovered (made_in it)) (entry : Entry) (reads_it : entry.kind ≡ Get) where
  abbrev m : MadePathCall
  m = made_in it

  abbrev old : List Entry
  old = it.files.records.history

  -- the entry is the only one that the history has gained then
  abbrev IsGained : Records → Type 0
  IsGained records = records.history ≡ old ++ entry ∷ []

  abbrev Had : Type 0
  Had = HasBytesAt (contents_of it.files entry.file) entry.range.start entry.bytes

  not-same : (records : Records) → records.history ≡ old → IsGained records → Had
  not-same records same gained =
      let long : length old ≡ length old + 1 = ap length (sym same ∙ gained) ∙ length-append old (entry ∷ []) in
      absurd (omega (arith, long))

  gained-is : (records : Records) (other : Entry) → records.history ≡ old ++ other ∷ [] → IsGained records → other ≡ entry
  gained-is records other is gained = one-entry other entry (same-rest old (other ∷ []) (entry ∷ []) (sym is ∙ gained))

  other-kind : (records : Records) (other : Entry) → (other.kind ≡ Get → ⊥) → records.history ≡ old ++ other ∷ [] → IsGained records → Had
  other-kind records other differ is gained =
      absurd (differ (ap (λ (entry : Entry). entry.kind) (gained-is records other is gained) ∙ reads_it))

  held-had : (request : Request) (kind : ReadKind) (bytes : List ℕ) (granted : IsGranted m request)
      → IsTaken m granted.requests.found request kind bytes → got (path_in granted) (lock_by kind request.lock bytes) bytes ≡ entry → Had
  held-had request kind bytes granted taken same =
      subst (λ (entry : Entry). HasBytesAt (contents_of it.files entry.file) entry.range.start entry.bytes) same
      (subst (λ (contents : List ℕ). HasBytesAt contents (lock_by kind request.lock bytes).range.start bytes) (sym contents)
      (subst (λ (at : ℕ). HasBytesAt found.file.contents at bytes) (sym (lock-start kind request.lock bytes)) (taken-has m found request kind bytes taken)))
    where
      found : OpenFile
      found = granted.requests.found

      contents : contents_of it.files (lock_by kind request.lock bytes).file ≡ found.file.contents
      contents =
          let named = is-named it.files it.process (number_in it.call m.asker) found granted.requests.names in
          ap (contents_of it.files) (lock-file kind request.lock bytes ∙ request-file m covered request granted.requests)
          ∙ ap (λ (v : Option DiskVolume). option_map_or (λ (file : DiskFile). file.contents) (option_and_then (λ (v : DiskVolume). v.files found.place.number) v) []) named.mounted
          ∙ ap (λ (file : Option DiskFile). option_map_or (λ (file : DiskFile). file.contents) file []) named.there

  come-had : (now : Records) → RecordsCome m now → IsGained now → Had
  come-had now (RecordsCome.stay is) gained = not-same now (ap (λ (records : Records). records.history) is) gained
  come-had now (RecordsCome.holds request kind bytes granted taken is) gained =
      held-had request kind bytes granted taken
      (gained-is now (got (path_in granted) (lock_by kind request.lock bytes) bytes) (ap (λ (records : Records). records.history) is) gained)
  come-had now (RecordsCome.writes request bytes granted sent is) gained =
      other-kind now (put (path_in granted) request.lock bytes) put-get (ap (λ (records : Records). records.history) is) gained
  come-had now (RecordsCome.ends found names ends is) gained = by_lock (lock_of (settled m).locks found.opened.path.0) is
    where
      by_lock : (lock : Option Held) → now ≡ option_map_or (λ (lock : Held). entered (settled m) found.opened.path.0 None (dropped found.opened.path.0 lock)) lock (settled m) → Had
      by_lock None is = not-same now (ap (λ (records : Records). records.history) is) gained
      by_lock (Some lock) is =
          other-kind now (dropped found.opened.path.0 lock) drop-get (ap (λ (records : Records). records.history) is) gained
  come-had now (RecordsCome.waits request requests answer is) gained =
      not-same now (ap (λ (records : Records). records.history) is) gained

  pub get-bytes : IsGained it.new.records → Had
  get-bytes gained = come-had it.new.records (records-come it) gained
