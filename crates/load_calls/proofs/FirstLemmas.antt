-- A new state of files, on a machine without drives.
use Rattle.std.proofs.Common.{◌≡◌, None, List, [], replicate, refl, ap, sym, subst, arith}
use Rattle.std.specs.declared.alloc.Global.{Global}
use Rattle.std.specs.declared.dyn_box.DynBox.{DynBox}
use Rattle.os9_outer.specs.declared.drive.BlockDriver.{Ghosts}
use Rattle.io_model.specs.Io.{first_io}
use Rattle.lock_model.specs.Records.{no_records}
use Rattle.file_rules.specs.Files.{no_directories}
use Rattle.file_rules.specs.Processes.{first_files}
use Rattle.file_drives.specs.Drives.{DriveView, drive_views}
use Rattle.file_laws.proofs.Starts.{kinds-start}
use Rattle.file_state.proofs.StateLemmas.{stands-first}
use Rattle.file_state.specs.Tie.{AreSoundFiles}
use Rattle.file_state.specs.declared.state.FileState.{FileState}

first-sound : (state : FileState) (views : List DriveView) → views ≡ [] → state.io ≡ first_io
    → state.disks ≡ replicate 4 None → state.directories ≡ replicate 33 no_directories → state.records ≡ no_records
    → AreSoundFiles state views
first-sound state views none io disks directories records =
    subst (λ (views : List DriveView). AreSoundFiles state views) (sym none) (record {
      files = record { io = first_io; directories = replicate 33 no_directories; volumes = []; drives = []; records = no_records };
      stands = stands-first state [] (omega arith) io disks directories records;
      kinds = kinds-start [] [] (first_files [] []) (record { volumes = []; mounted = tt; is = refl });
    })

-- where there are no drives
pub alone-sound : {Table : Type 0} {Driver : Table → Type 0} (members : (drive : DynBox Table Global Driver) → Ghosts (Driver drive.vtable))
    (drives : List (DynBox Table Global Driver)) (state : FileState) → drives ≡ [] → state.io ≡ first_io
    → state.disks ≡ replicate 4 None → state.directories ≡ replicate 33 no_directories → state.records ≡ no_records
    → AreSoundFiles state (drive_views members drives)
alone-sound members drives state none io disks directories records =
    first-sound state (drive_views members drives) (ap (drive_views members) none) io disks directories records
