-- The request of a call, the answer to it, the lock that it then holds, and the files that are there still after a read.
use Rattle.std.proofs.Common.{◌≡◌, ◌+◌, ℕ, Bool, true, false, Option, Some, None, IfSome, List, length, sym, refl, subst}
use Rattle.std.specs.Prelude.{unwrap_or, if◌then◌else◌}
use Rattle.io_model.specs.Line.{has_return}
use Rattle.io_model.specs.declared.terminal.ReadKind.{ReadKind}
use Rattle.io_model.specs.declared.terminal.ReadKind.TheVariants.{Bytes, WholeLine}
use Rattle.lock_model.proofs.Keeping.{part-held}
use Rattle.lock_model.specs.Laws.{Covers, MayHold}
use Rattle.lock_model.specs.Locks.{Locks}
use Rattle.lock_model.specs.declared.lock.Held.{Held}
use Rattle.file_rules.specs.Read.{lock_by}
use Rattle.file_state.proofs.AskingLemmas.{granted-holds}
use Rattle.file_state.specs.Asking.{MayBeGranted}
use Rattle.os9_base.specs.declared.call.CallEnd.{CallEnd}
use Rattle.os9_base.specs.declared.call.CallEnd.TheVariants.{Error}
use Rattle.os9_base.specs.declared.errors.TheConstants.{E_DEADLK, E_LOCK}
use Rattle.lock_model.specs.declared.lock.Grant.{Grant}
use Rattle.lock_model.specs.declared.lock.Grant.TheVariants.{Granted, Locked, Deadlock, Wait}
use Rattle.lock_model.specs.declared.lock.Request.{Request}
use Rattle.lock_model.specs.declared.place.FilePlace.{FilePlace}
use Rattle.rbf_access.specs.declared.volume.Volume.{Volume}
use Rattle.rbf_model.specs.File.{DiskFile}
use Rattle.rbf_model.specs.Volume.{DiskVolume}
use Rattle.file_drives.specs.Drives.{DriveView}
use Rattle.file_drives.specs.Mounted.{AreMounted, HasDataFileAt, HasFileAt, ReadsFile}
use Rattle.file_rules.specs.Locking.{end_by, start_of}

-- the request in which a process waits counts as many bytes as the first one, if it was for as many
pub counts : (kept : Option Request) (first : Request) (count : ℕ) → IfSome kept (λ request. request.count ≡ count) → first.count ≡ count → (unwrap_or kept first).count ≡ count
counts None first count as_many is = is
counts (Some request) first count as_many is = as_many

-- a request begins at the position of its call, if the first one begins at that of the path
pub start-own : (kept : Option Request) (first : Request) (at : ℕ) → first.lock.range.start ≡ at → start_of kept at ≡ (unwrap_or kept first).lock.range.start
start-own None first at is = sym is
start-own (Some request) first at is = refl

-- a call that does not end by the answer to its request goes on
pub goes-on : (grant : Grant) → ((end : CallEnd) → end_by grant ≡ Some end → ⊥) → grant ≡ Granted
goes-on Granted none = refl
goes-on Locked none = absurd (none (Error E_LOCK) refl)
goes-on Deadlock none = absurd (none (Error E_DEADLK) refl)
goes-on Wait none = absurd (none CallEnd.Wait refl)

-- the number of a fault by which a drive was read
pub as-fault : (place : FilePlace) (found : Option ℕ) (number : ℕ) (most : DiskVolume → DiskFile → ℕ)
    (disks new : List (Option Volume)) (views now : List DriveView) → found ≡ Some number → ReadsFile place found most
    disks views new now → ReadsFile place (Some number) most disks views new now
as-fault place found number most disks new views now is it =
    subst (λ (found : Option ℕ). ReadsFile place found most disks views new now) is it

-- ---- the lock of a read may be held if it was granted: all of it, or the line alone

module _ (locks : Locks) (lock : Held) (bytes : List ℕ) (granted : MayBeGranted locks lock) (covers : Covers lock.range (length bytes)) where
  line-held : (ended : Bool) → MayHold locks (record lock {
    range = if ended then record lock.range { end = Some (lock.range.start + length bytes) } else lock.range;
  })
  line-held true = part-held locks lock (lock.range.start + length bytes) covers (granted-holds locks lock granted)
  line-held false = granted-holds locks lock granted

  pub read-held : (kind : ReadKind) → MayHold locks (lock_by kind lock bytes)
  read-held Bytes = granted-holds locks lock granted
  read-held WholeLine = line-held (has_return bytes)

-- ---- a file that is there is there still if its drive was only read

module _ (place : FilePlace) (fault : Option ℕ) (most : DiskVolume → DiskFile → ℕ)
    (disks between new : List (Option Volume)) (views now : List DriveView) (same : new ≡ between) where
  pub file-stays : HasFileAt disks views place → ReadsFile place fault most disks views between now → HasFileAt new now place
  file-stays has reads = record {
    volumes = has.volumes;
    mounted = subst (λ (all : List (Option Volume)). AreMounted all now has.volumes) (sym same) (reads.mounted has.volumes has.mounted);
    volume = has.volume;
    is = has.is;
    file = has.file;
    there = has.there;
  }

  pub data-stays : HasDataFileAt disks views place → ReadsFile place fault most disks views between now → HasDataFileAt new now place
  unfolding file-stays
  data-stays it reads = record { has = file-stays it.has reads; not_directory = it.not_directory }
