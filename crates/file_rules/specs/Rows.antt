-- Calls on small volumes, worked through by hand.
use Rattle.std.specs.Prelude.{ℕ, ◌-◌, ◌/◌, ◌%◌, ◌==◌, nat_lt, false, Option, Some, None, List, [], ◌∷◌, ◌++◌, codes, replicate, if◌then◌else◌}
use Rattle.os9_base.specs.declared.registers.Regs.{Regs}
use Rattle.os9_base.specs.declared.registers.TimePacket.{TimePacket}
use Rattle.os9_outer.specs.declared.drive.DriveFault.TheVariants.{WriteFault}
use Rattle.proc_model.specs.Records.{zero_regs}
use Rattle.rbf_model.specs.File.{DiskFile}
use Rattle.rbf_model.specs.Volume.{DiskVolume}
use Rattle.rbf_change.specs.Calls.{replaced, minute_of, day_of}
use Rattle.rbf_change.specs.Names.{new_entry, new_listing}
use Rattle.io_model.specs.Path.{slot_of, with_slot, paths_after_begin}
use Rattle.io_model.specs.declared.path.Target.TheVariants.{File}
use Rattle.io_model.specs.Io.{first_io, new_desc, with_paths}
use Rattle.io_model.specs.Rows.{calling, opened_times}
use Rattle.io_model.specs.Step.{IoEnd, answers}
use Rattle.file_rules.specs.Attempts.{file_step, files_after}
use Rattle.file_rules.specs.Change.{Change, sets_attributes}
use Rattle.file_rules.specs.Files.{Files, Asker, DriveState, new_drive, with_io, with_path_table, with_volume}
use Rattle.file_rules.specs.Processes.{first_files}
use Rattle.file_rules.specs.Step.{Deed, leaves_so, as_io, changes, FileEffect, FileStep, deed_of, refuses_so}
use Rattle.file_rules.specs.declared.path_call.PathCall.{PathCall}
use Rattle.file_rules.specs.declared.path_call.PathCall.TheVariants as Call
use Rattle.lock_model.specs.declared.place.FilePlace.{FilePlace}

-- ---- the volume E: sixteen sectors, one a cluster; the map in sector 1, the root in 2, its entries in 3

-- the identification sector of a volume of `total` sectors, `k` a cluster, with two bytes of map and root 2
abbrev pub ident_of : ℕ → ℕ → List ℕ
ident_of total k = 0 ∷ 0 ∷ total ∷ 0 ∷ 0 ∷ 2 ∷ 0 ∷ k ∷ 0 ∷ 0 ∷ 2 ∷ replicate (256 - 11) 0

-- noon of 1 January 1990
abbrev pub noon : TimePacket
noon = record { year = 90; month = 1; day = 1; hour = 12; minute = 0; second = 0 }

abbrev pub old_minute : List ℕ
old_minute = 80 ∷ 1 ∷ 1 ∷ 0 ∷ 0 ∷ []

-- a file of user 0 with these attributes, segments and bytes
abbrev pub file_with : ℕ → List (ℕ × ℕ) → List ℕ → DiskFile
file_with attributes segments contents = record {
  attributes = attributes;
  owner = 0;
  modified = old_minute;
  links = 1;
  created = 80 ∷ 1 ∷ 1 ∷ [];
  segments = segments;
  contents = contents;
}

-- the root in sector 2 with these entries after its first two
abbrev pub root_with : List ℕ → DiskFile
root_with entries = file_with 0xBF ((3, 1) ∷ []) (new_listing 2 2 ++ entries)

-- a volume of sixteen sectors with this root, and another file of descriptor 4, if there is one
abbrev pub volume_with : DiskFile → Option DiskFile → DiskVolume
volume_with root other = record {
  ident = ident_of 16 1;
  files = λ n. if n == 2 then Some root else (if n == 4 then other else None);
  lost = λ c. false;
  rest = [];
}

abbrev pub volume_e : DiskVolume
volume_e = volume_with (root_with []) None

-- the same with every cluster marked: those in nothing are lost
abbrev pub volume_full : DiskVolume
volume_full = record volume_e { lost = λ c. nat_lt 3 c }

-- the same with a file `A` of twelve bytes in sector 5, which has these attributes
abbrev pub a_bytes : List ℕ
a_bytes = codes "one" ++ 13 ∷ (codes "two" ++ 13 ∷ codes "last")

abbrev pub file_a : ℕ → DiskFile
file_a attributes = file_with attributes ((5, 1) ∷ []) a_bytes

abbrev pub volume_a : ℕ → DiskVolume
volume_a attributes = volume_with (root_with (new_entry (codes "A") 4)) (Some (file_a attributes))

-- the same with a directory `CMDS` in place of the file
abbrev pub volume_cmds : DiskVolume
volume_cmds =
    volume_with (root_with (new_entry (codes "CMDS") 4)) (Some (file_with 0xBF ((5, 1) ∷ []) (new_listing 4 2)))

-- ---- attempts of process 2

-- the state at the start with this volume in D0, and no other
abbrev pub four_drives : List DriveState
four_drives = replicate 4 new_drive

abbrev pub on : DiskVolume → Files
on v = first_files (v ∷ []) four_drives

-- process 2 of a user, with these registers, and these bytes from address 0 on
abbrev pub asking_as : ℕ → Regs → List ℕ → Asker
asking_as user regs bytes = record { caller = calling 2 regs bytes; user = user; now = noon; tick = 9 }

abbrev pub asking : Regs → List ℕ → Asker
asking regs bytes = asking_as 0 regs bytes

-- what an attempt does on a machine with four terminals
abbrev pub step_on : PathCall → Regs → List ℕ → Files → FileStep
step_on call regs bytes files = file_step call (asking regs bytes) files 4

-- its effect if no drive fails and no volume is changed
abbrev pub effect_by : Deed → Files → FileEffect
effect_by (leaves_so it) files = it
effect_by (as_io step) files = refuses_so 0 files
effect_by (changes it) files = refuses_so 0 files

abbrev pub effect_on : PathCall → Regs → List ℕ → Files → FileEffect
effect_on call regs bytes files = effect_by (deed_of (step_on call regs bytes files) files) files

-- its end, and the state after it
abbrev pub end_on : PathCall → Regs → List ℕ → Files → IoEnd
end_on call regs bytes files = (effect_on call regs bytes files).end

abbrev pub files_on : PathCall → Regs → List ℕ → Files → Files
files_on call regs bytes files = files_after 2 (effect_on call regs bytes files)

-- the change that it makes; attempts that make none have this one
abbrev pub change_by : Deed → Change
change_by (leaves_so it) = sets_attributes 0 0
change_by (as_io step) = sets_attributes 0 0
change_by (changes it) = it.change

abbrev pub change_on : PathCall → Regs → List ℕ → Files → Change
change_on call regs bytes files = change_by (deed_of (step_on call regs bytes files) files)

-- registers with a mode or a path in A
abbrev pub with_a : ℕ → Regs
with_a a = record zero_regs { a = a }

-- the end of a call that opens a path list in a mode
abbrev pub opening_ends : ℕ → List ℕ → Files → IoEnd
opening_ends mode list files = end_on Call.Open (with_a mode) list files

-- the state after process 2 has opened the file A as its path 3
abbrev pub opened_a : ℕ → ℕ → Files
opened_a attributes mode = files_on Call.Open (with_a mode) (codes "A ") (on (volume_a attributes))

-- the registers of a call on path 3 that moves at most `count` bytes at address 0
abbrev pub moving : ℕ → Regs
moving count = record zero_regs { a = 3; y = count }

-- `count` bytes
abbrev pub blanks : ℕ → List ℕ
blanks count = replicate count 32

-- the state after it has opened the root as its path 3
abbrev pub opened_root : Files
opened_root = files_on Call.Open (with_a 0x81) (codes "/D0 ") (on volume_e)

-- the state after a seek of path 3 to a position
abbrev pub seeking : ℕ → Files → Files
seeking at files = files_on Call.Seek (record zero_regs { a = 3; x = at / 65536; u = at % 65536 }) [] files

-- the state after it has read six bytes
abbrev pub read_behind : Files
read_behind = files_on Call.Read (moving 6) (blanks 6) (opened_a 3 1)

-- the bytes that an attempt stores
abbrev pub bytes_on : PathCall → Regs → List ℕ → Files → List ℕ
bytes_on call regs bytes files = (effect_on call regs bytes files).bytes

-- the registers of a call on path 3 with a status code
abbrev pub with_code : ℕ → Regs
with_code code = record zero_regs { a = 3; b = code }

-- the end of an attempt on path 3 by a user
abbrev pub on_path : ℕ → PathCall → Regs → Files → IoEnd
on_path user call regs files =
    (effect_by (deed_of (file_step call (asking_as user regs []) files 4) files) files).end

-- the state in which standard error is the path of number 3
abbrev pub as_error : Files → Files
as_error files = with_io files (with_paths files.io (with_slot files.io.paths 2 2 (slot_of files.io.paths 2 3)))

-- a directory or file on D0
abbrev pub place_of : ℕ → FilePlace
place_of n = record { drive = 0; number = n }

-- the state at the start with nothing mounted
abbrev pub no_volume : Files
no_volume = first_files [] four_drives

-- the volume E with one free cluster
abbrev pub volume_of_one : DiskVolume
volume_of_one = record volume_e { lost = λ c. nat_lt 4 c }

-- the state in which all sixteen numbers of process 2 are in use
abbrev pub all_paths_used : Files
all_paths_used = with_io (on (volume_a 3)) (opened_times 13 2 (codes "/T1 ") first_io)

-- ---- a drive that fails

-- a call of process 2: its asker, and its step
pub record Calling : Type 0 where
  pub asker : Asker
  pub step : FileStep

-- I$Create of the file `New` on the volume E
abbrev pub creating_new : Asker
creating_new = asking (with_a 3) (codes "New ")

abbrev pub creation : Calling
creation = record { asker = creating_new; step = file_step Call.Create creating_new (on volume_e) 4 }

-- the drives after D0 has failed once, with a write
abbrev pub d0_failed : List DriveState
d0_failed = record { faults = 1; last = Some WriteFault } ∷ replicate 3 new_drive

-- ---- a new file

-- the file after its creation, in sector 4, and the root with its entry
abbrev pub file_new : DiskFile
file_new = record {
  attributes = 0;
  owner = 0;
  modified = minute_of noon;
  links = 1;
  created = day_of noon;
  segments = [];
  contents = [];
}

abbrev pub root_new : DiskFile
root_new = record (root_with (new_entry (codes "New") 4)) { modified = minute_of noon }

-- the volume E with it, and the effect of the call
abbrev pub volume_new : DiskVolume
volume_new = replaced (replaced volume_e 2 (Some root_new)) 4 (Some file_new)

abbrev pub new_opened : FileEffect
new_opened = record {
  end = answers (record zero_regs { a = 3; x = 3 });
  at = 0;
  bytes = [];
  files = with_volume (with_path_table (on volume_e)
      (paths_after_begin (on volume_e).io.paths 2 (new_desc (File 0 4) 3))) 0 volume_new;
}
