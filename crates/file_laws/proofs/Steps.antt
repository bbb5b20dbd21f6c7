-- Attempts of calls on files that keep paths and directories on what they are on: by their steps, where no drive fails
-- and where one does.
use Rattle.std.proofs.Common.{◌≡◌, ℕ, Bool, true, false, Option, Some, None, Result, Ok, Err, List, is_some, length, refl, sym, ap, ◌∙◌, subst, inl, inr}
use Rattle.std.proofs.lemmas.Bool.{false≢true}
use Rattle.std.proofs.lemmas.Option.{none-some, same_Some}
use Rattle.os9_base.specs.declared.errors.TheConstants.{E_BPADDR, E_BPNAM, E_MNF, E_FNA, E_PNNF}
use Rattle.os9_outer.specs.TerminalState.{TerminalState}
use Rattle.os9_base.specs.declared.name_fault.NameFault.{NameFault}
use Rattle.os9_base.specs.declared.name_fault.NameFault.TheVariants.{Unreadable, NoName}
use Rattle.rbf_model.specs.Volume.{DiskVolume}
use Rattle.rbf_model.specs.Walk.{WalkEnd, arrives, not_allowed, not_found, walk}
use Rattle.io_model.specs.PathList.{PathList}
use Rattle.io_model.specs.Step.{IoStep}
use Rattle.file_rules.specs.Change.{AppliesChange, ChangeMayLeave}
use Rattle.file_rules.specs.Files.{Files, Asker, DriveState, volume_at, with_drives, with_io, with_volume}
use Rattle.file_rules.specs.Step.{Step, refused, comes, reaches, needs, refuses, drive_of, FileEffect, FileStep, VolumeChange, Deed, leaves_so, as_io, changes, deed_of, refuses_so, DoesDeed, MayBeLeft, FileDoes}
use Rattle.file_rules.specs.Route.{Found, reads_list, walk_ends, walks}
use Rattle.lock_model.specs.declared.place.FilePlace.{FilePlace}
use Rattle.file_laws.specs.Kinds.{AreKinds}
use Rattle.file_laws.specs.Mounted.{KeepsMountedDrives}
use Rattle.io_model.specs.Step.{keeps}
use Rattle.file_rules.specs.Step.{leaves}
use Rattle.file_rules.specs.Locking.{answer_to, asks, asks_by, call_of, waiting_in}
use Rattle.lock_model.specs.Records.{with_waiting}
use Rattle.lock_model.specs.declared.lock.Grant.{Grant}
use Rattle.lock_model.specs.declared.lock.Grant.TheVariants.{Granted, Locked, Deadlock, Wait}
use Rattle.lock_model.specs.declared.lock.Request.{Request}
use Rattle.os9_base.specs.declared.errors.TheConstants.{E_LOCK, E_DEADLK}
use Rattle.file_laws.proofs.Counts.{Stands, many-then, many-volume, none-many, stands-io, stands-records, stands-same}
use Rattle.file_laws.proofs.Kept.{kinds-drives, kinds-still}
use Rattle.file_laws.proofs.Volumes.{all-same}
use Rattle.file_laws.proofs.Paths.{LeavesOn}

-- ---- what holds of each part of a step holds of it

module _ {E : Type 0} (P : Step E → Type 0) (none : (number : ℕ) → P (refused number)) where
  pub needs-by : {A : Type 0} (o : Option A) (number : ℕ) (next : A → Step E) → ((a : A) → o ≡ Some a → P (next a)) → P (needs o number next)
  needs-by None number next holds = none number
  needs-by (Some a) number next holds = holds a refl

  pub refuses-by : (test : Bool) (number : ℕ) (next : Step E) → (test ≡ false → P next) → P (refuses test number next)
  refuses-by true number next holds = none number
  refuses-by false number next holds = holds refl

  pub list-by : (list : Result PathList NameFault) (test : Step E → Step E) (next : PathList → Step E)
      → ((step : Step E) → P step → P (test step)) → ((list : PathList) → P (next list))
      → P (reads_list list test next)
  list-by (Ok list) test next tests holds = tests (next list) (holds list)
  list-by (Err Unreadable) test next tests holds = none E_BPADDR
  list-by (Err NoName) test next tests holds = tests (refused E_BPNAM) (none E_BPNAM)

-- a volume that is there
volume-of : (o : Option DiskVolume) → is_some o ≡ true → (v : DiskVolume) × (o ≡ Some v)
volume-of None some = absurd (false≢true some)
volume-of (Some v) some = (v, refl)

-- a file that was found is on the volume of its drive
pub record IsFound (files : Files) (found : Found) : Type 0 where
  pub mounted : volume_at files found.place.drive ≡ Some found.volume
  pub there : found.volume.files found.place.number ≡ Some found.file

module _ (asker : Asker) (files : Files) where
  -- what is done keeps them, where no drive fails
  abbrev pub KeptWell : Deed → Type 0
  KeptWell deed = (effect : FileEffect) (old new : List TerminalState) → DoesDeed deed asker files effect old new → Stands files effect.files

  -- and where this drive does
  abbrev pub KeptBroken : ℕ → Deed → Type 0
  KeptBroken drive deed = (was left : DiskVolume) → volume_at files drive ≡ Some was → MayBeLeft deed asker was left → Stands files (with_volume files drive left)

  -- what is done on this drive keeps them
  pub record KeptOn (drive : ℕ) (step : FileStep) : Type 0 where
    pub well : KeptWell (deed_of step files)
    pub broken : KeptBroken drive (deed_of step files)

  pub record Kept (step : FileStep) : Type 0 where
    pub well : KeptWell (deed_of step files)
    pub broken : (drive : ℕ) → drive_of step ≡ Some drive → KeptBroken drive (deed_of step files)

  module _ (kinds : AreKinds files) where
    leaves-well : (it : FileEffect) → Stands files it.files → KeptWell (leaves_so it)
    leaves-well it kept effect old new (is, same) = subst (λ (effect : FileEffect). Stands files effect.files) (sym is) kept

    -- the volume is as it was
    pub same-volume : (drive : ℕ) (was left : DiskVolume) → volume_at files drive ≡ Some was → left ≡ was → Stands files (with_volume files drive left)
    same-volume drive was left is same = record {
      kinds = kinds-still files drive was left is (all-same was left same) kinds;
      many = many-volume files drive was left is;
    }

    pub on-refused : (drive number : ℕ) → KeptOn drive (refused number)
    on-refused drive number = record { well = leaves-well (refuses_so number files) (stands-same files kinds); broken = same-volume drive }

    pub on-leaves : (drive : ℕ) (it : FileEffect) → Stands files it.files → KeptOn drive (comes (leaves_so it))
    on-leaves drive it kept = record { well = leaves-well it kept; broken = same-volume drive }

    pub on-changes : (it : VolumeChange) → ((number : ℕ) → KeepsMountedDrives files (it.effect number).files)
        → ((was now : DiskVolume) (number : ℕ) → volume_at files it.drive ≡ Some was → AppliesChange it.change asker.user
        asker.now was now number → AreKinds (with_volume (it.effect number).files it.drive now))
        → ((was left : DiskVolume) → volume_at files it.drive ≡ Some was → ChangeMayLeave it.change asker.user asker.now was
        left → AreKinds (with_volume files it.drive left)) → KeptOn it.drive (comes (changes it))
    on-changes it many made left = record {
      well = well;
      broken = λ was left_now is may. record { kinds = left was left_now is may; many = many-volume files it.drive was left_now is };
    }
      where
        -- the volume is changed beside what is left
        changed : (was now : DiskVolume) (number : ℕ) → volume_at files it.drive ≡ Some was → KeepsMountedDrives files (with_volume (it.effect number).files it.drive now)
        changed was now number is =
            let beside = volume-of (volume_at (it.effect number).files it.drive) ((many number).mounted it.drive ∙ ap is_some is) in
            many-then files (it.effect number).files (with_volume (it.effect number).files it.drive now) (many number) (many-volume (it.effect number).files it.drive beside.0 now beside.1)

        well : KeptWell (changes it)
        well effect old new (inl is, same) =
            subst (λ (effect : FileEffect). Stands files effect.files) (sym is.effect_is) (record { kinds = made is.old is.new is.number is.is is.makes; many = changed is.old is.new is.number is.is })
        well effect old new (inr is, same) = subst (λ (effect : FileEffect). Stands files effect.files) (sym is.effect_is) (stands-same files kinds)

    -- a request: the call goes on, is refused or waits
    asks-by : (drive : ℕ) (grant : Grant) (request : Request) (next : FileStep) → KeptOn drive next → KeptOn drive (asks_by grant files request next)
    asks-by drive Granted request next kept = kept
    asks-by drive Locked request next kept = on-refused drive E_LOCK
    asks-by drive Deadlock request next kept = on-refused drive E_DEADLK
    asks-by drive Wait request next kept =
        on-leaves drive (leaves (keeps (call_of request)) (waiting_in files request)) (stands-records files kinds
        files (with_waiting files.records request.lock.owner.0 (Some request)) (stands-same files kinds))

    pub asks-on : (drive : ℕ) (request : Request) (next : FileStep) → KeptOn drive next → KeptOn drive (asks asker files request next)
    asks-on drive request next kept = asks-by drive (answer_to asker files request) request next kept

    pub refused-kept : (number : ℕ) → Kept (refused number)
    refused-kept number = record {
      well = leaves-well (refuses_so number files) (stands-same files kinds);
      broken = λ drive reached. absurd (none-some drive reached);
    }

    pub leaves-kept : (it : FileEffect) → Stands files it.files → Kept (comes (leaves_so it))
    leaves-kept it kept = record {
      well = leaves-well it kept;
      broken = λ drive reached. absurd (none-some drive reached);
    }

    pub io-kept : (step : IoStep) → LeavesOn files step asker.caller files.io → Kept (comes (as_io step))
    io-kept step on = record { well = well; broken = λ drive reached. absurd (none-some drive reached) }
      where
        well : KeptWell (as_io step)
        well effect old new (it, does, is) =
            subst (λ (effect : FileEffect). Stands files effect.files) (sym is) (stands-records files kinds
            (with_io files it.io) (with_waiting files.records asker.caller.process.0 None)
            (stands-io files kinds it.io (on it old new does)))

    -- a step that reaches a drive, and goes on on it
    pub reaches-kept : (drive : ℕ) (step : FileStep) → KeptOn drive step → Kept (reaches drive step)
    reaches-kept drive step on = record {
      well = on.well;
      broken = λ other reached. subst (λ (d : ℕ). KeptBroken d (deed_of step files)) (same_Some drive other reached) on.broken;
    }

    -- a walk, and what is done with the file where it ends
    pub walks-kept : (execute : Bool) (place : FilePlace) (names : List (List ℕ)) (next : Found → FileStep)
        → ((found : Found) → IsFound files found → KeptOn found.place.drive (next found))
        → Kept (walks asker files execute place names next)
    walks-kept execute place names next on =
        needs-by Kept refused-kept (volume_at files place.drive) E_MNF (λ v. reaches place.drive (walk_ends place.drive v (walk v.files asker.user execute place.number names) next))
        (λ v is. reaches-kept place.drive (walk_ends place.drive v (walk v.files asker.user execute place.number names) next) (by_end v is (walk v.files asker.user execute place.number names)))
      where
        by_end : (v : DiskVolume) → volume_at files place.drive ≡ Some v → (end : WalkEnd) → KeptOn place.drive (walk_ends place.drive v end next)
        by_end v is (arrives n) =
            needs-by (KeptOn place.drive) (on-refused place.drive) (v.files n) E_PNNF (λ file. next (record { place = record { drive = place.drive; number = n }; volume = v; file = file }))
            (λ file there. on (record { place = record { drive = place.drive; number = n }; volume = v; file = file }) (record { mounted = is; there = there }))
        by_end v is not_allowed = on-refused place.drive E_FNA
        by_end v is not_found = on-refused place.drive E_PNNF

    -- an attempt, where as many drives are there as before
    many-drives-of : (left : Files) → KeepsMountedDrives files left → (drives : List DriveState) → length drives ≡ length files.drives → KeepsMountedDrives files (with_drives left drives)
    many-drives-of left many drives same = record {
      drives = same;
      directories = many.directories;
      volumes = many.volumes;
      mounted = λ drive. many.mounted drive;
    }

    pub does-kept : (step : FileStep) (effect : FileEffect) (old new : List TerminalState) → Kept step → FileDoes step asker files effect old new → Stands files effect.files
    does-kept step effect old new kept (inl well) =
        let left : Stands files well.it.files = kept.well well.it old new well.does in
        subst (λ (effect : FileEffect). Stands files effect.files) (sym well.effect_is) (record {
          kinds = kinds-drives well.it.files left.kinds well.drives;
          many = many-drives-of well.it.files left.many well.drives (none-many files.drives well.drives well.none_failed);
        })
    does-kept step effect old new kept (inr (broken, same)) =
        let left : Stands files (with_volume files broken.drive broken.left) = kept.broken broken.drive broken.reached broken.old broken.left broken.is broken.may_be in
        subst (λ (effect : FileEffect). Stands files effect.files) (sym broken.effect_is) (record {
          kinds = kinds-drives (with_volume files broken.drive broken.left) left.kinds broken.drives;
          many = many-drives-of (with_volume files broken.drive broken.left) left.many broken.drives broken.failed.as_many;
        })
