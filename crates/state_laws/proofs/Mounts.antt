-- The files that a kernel stands for with its drives are one state.
use Rattle.std.proofs.Common.{◌≡◌, ◌∙◌, ℕ, ◌<◌, Option, Some, None, List, length, get_or, refl, sym, ap, arith}
use Rattle.std.proofs.lemmas.List.{ext_get_or}
use Rattle.std.proofs.lemmas.Option.{slice_get-get_or}
use Rattle.rbf_model.specs.Volume.{DiskVolume}
use Rattle.rbf_access.specs.declared.volume.Volume.{Volume}
use Rattle.rbf_walk.proofs.Stepping.{same_content}
use Rattle.file_rules.specs.Files.{Files}
use Rattle.file_drives.specs.Drives.{DriveView, unused_drive}
use Rattle.file_drives.specs.Mounted.{AgreesOnDrive, AreMounted, disk_at, mounted_at}
use Rattle.file_state.specs.Tie.{RepresentsFiles}
use Rattle.file_state.specs.declared.state.FileState.{FileState}

-- one volume at most is mounted on a drive
on-a-drive : (kept : Option Volume) (view : DriveView) (one other : Option DiskVolume) → AgreesOnDrive kept view one → AgreesOnDrive kept view other → one ≡ other
on-a-drive None view None None agrees agrees_too = refl
on-a-drive None view None (Some w) agrees agrees_too = absurd agrees_too
on-a-drive None view (Some v) other agrees agrees_too = absurd agrees
on-a-drive (Some volume) view None other agrees agrees_too = absurd agrees
on-a-drive (Some volume) view (Some v) None agrees agrees_too = absurd agrees_too
on-a-drive (Some volume) view (Some v) (Some w) agrees agrees_too =
    ap Some (same_content view.media v w agrees.on agrees_too.on)

-- the volumes that are mounted on the drives of a machine are one list
pub one-mounting : (disks : List (Option Volume)) (views : List DriveView) (one other : List (Option DiskVolume)) → AreMounted disks views one → AreMounted disks views other → one ≡ other
one-mounting disks views one other mounted mounted_too =
    ext_get_or None one other (mounted.as_many ∙ sym mounted_too.as_many) (λ n within. each n (omega (arith, within, mounted.as_many)))
  where
    each : (n : ℕ) → n < length views → mounted_at one n ≡ mounted_at other n
    each n there =
        let view : DriveView = get_or views n unused_drive in
        let is = slice_get-get_or views n unused_drive there in
        on-a-drive (disk_at disks n) view (mounted_at one n) (mounted_at other n) (mounted.each n view is) (mounted_too.each n view is)

pub files-one : (state : FileState) (views : List DriveView) (one other : Files) → RepresentsFiles state views one → RepresentsFiles state views other → one ≡ other
files-one state views one other stands stands_too = λ i. record {
  io = (stands.io ∙ sym stands_too.io) i;
  directories = (stands.directories ∙ sym stands_too.directories) i;
  records = (stands.records ∙ sym stands_too.records) i;
  volumes = one-mounting state.disks views one.volumes other.volumes stands.mounted stands_too.mounted i;
  drives = (stands.drives ∙ sym stands_too.drives) i;
}
