-- Records of a file of twelve bytes that are read for update, worked out by hand.
use Rattle.std.specs.Prelude.{ℕ, None, ◌+◌, ◌/◌, ◌%◌, Some, List, [], codes, slice_get, replicate}
use Rattle.os9_base.specs.declared.registers.Regs.{Regs}
use Rattle.proc_model.specs.Records.{zero_regs}
use Rattle.lock_model.specs.declared.lock.Held.{Held}
use Rattle.lock_model.specs.declared.lock.Range.{Range}
use Rattle.io_model.specs.Path.{with_slot, slot_of}
use Rattle.io_model.specs.Io.{with_paths}
use Rattle.io_model.specs.Rows.{calling}
use Rattle.io_model.specs.Step.{IoEnd}
use Rattle.file_rules.specs.Attempts.{file_step, files_after}
use Rattle.file_rules.specs.Files.{Files, Asker, with_io}
use Rattle.file_rules.specs.Rows.{noon, on, volume_a, blanks}
use Rattle.file_rules.specs.Step.{Deed, leaves_so, as_io, changes, FileEffect, deed_of, refuses_so}
use Rattle.file_rules.specs.declared.path_call.PathCall.{PathCall}
use Rattle.file_rules.specs.declared.path_call.PathCall.TheVariants as Call
use Rattle.file_rules.specs.declared.status.TheConstants.{SS_LOCK, SS_TICKS}

-- a process of the superuser in tick 9, with these registers, and these bytes from address 0 on
abbrev pub asking_by : ℕ → Regs → List ℕ → Asker
asking_by p regs bytes = record { caller = calling p regs bytes; user = 0; now = noon; tick = 9 }

-- what an attempt leaves if no drive fails, but for the bytes that it writes to a file
abbrev pub effect_made : Deed → Files → FileEffect
effect_made (leaves_so it) files = it
effect_made (as_io step) files = refuses_so 0 files
effect_made (changes it) files = it.effect 0

abbrev pub made_by : ℕ → PathCall → Regs → List ℕ → Files → FileEffect
made_by p call regs bytes files = effect_made (deed_of (file_step call (asking_by p regs bytes) files 4) files) files

abbrev pub ends_by : ℕ → PathCall → Regs → List ℕ → Files → IoEnd
ends_by p call regs bytes files = (made_by p call regs bytes files).end

abbrev pub after_by : ℕ → PathCall → Regs → List ℕ → Files → Files
after_by p call regs bytes files = files_after p (made_by p call regs bytes files)

-- a process opens the file to read and write it
abbrev pub opens : ℕ → Files → Files
opens p files = after_by p Call.Open (record zero_regs { a = 3 }) (codes "/D0/A ") files

-- it seeks to a place on a path
abbrev pub seeks : ℕ → ℕ → ℕ → Files → Files
seeks p n at files = after_by p Call.Seek (record zero_regs { a = n; u = at }) [] files

-- a call on a path that moves at most `count` bytes at address 0
abbrev pub moving_on : ℕ → ℕ → Regs
moving_on n count = record zero_regs { a = n; y = count }

-- it reads four bytes from a position on
abbrev pub reads_record : ℕ → ℕ → ℕ → Files → Files
reads_record p n at files = after_by p Call.Read (moving_on n 4) (blanks 4) (seeks p n at files)

abbrev pub reading_ends : ℕ → ℕ → ℕ → Files → IoEnd
reading_ends p n at files = ends_by p Call.Read (moving_on n 4) (blanks 4) (seeks p n at files)

-- processes 2, 3 and 4 have opened it twice each
abbrev pub opened_twice : Files
opened_twice = opens 4 (opens 4 (opens 3 (opens 3 (opens 2 (opens 2 (on (volume_a 3)))))))

-- and have read a record each, on the first of their paths
abbrev pub records_held : Files
records_held = reads_record 4 0 8 (reads_record 3 0 4 (reads_record 2 3 0 opened_twice))

-- processes 2 and 3 wait for the record of the next one, on the second
abbrev pub two_waiting : Files
two_waiting = reads_record 3 1 8 (reads_record 2 4 4 records_held)

-- the requests of process 4's second path do not wait
abbrev pub in_a_hurry : Files
in_a_hurry = after_by 4 Call.SetStt (record zero_regs { a = 1; b = SS_TICKS; x = 1 }) [] two_waiting

-- ---- a path that moves while its call waits

-- process 3 holds the first record by a path of its own; process 2 has another path on the file, and its child, process
-- 5, an image of it
abbrev pub shared_path : Files
shared_path =
    with_image (opens 2 (reads_record 3 0 0 (opens 3 (on (volume_a 3)))))
  where
    with_image : Files → Files
    with_image files = with_io files (with_paths files.io (with_slot files.io.paths 5 7 (slot_of files.io.paths 2 3)))

-- process 2 waits for that record, its child moves the path, and process 3 closes its own
abbrev pub moved_while_waiting : Files
moved_while_waiting =
    after_by 3 Call.Close (record zero_regs { a = 0 }) [] (seeks 5 7 8 (reads_record 2 3 0 shared_path))

-- process 2 goes on
abbrev pub gone_on : Files
gone_on = after_by 2 Call.Read (moving_on 3 4) (blanks 4) moved_while_waiting

abbrev pub lock_from : ℕ → ℕ → Held
lock_from p at = record {
  owner = record { 0 = p };
  file = record { drive = 0; number = 4 };
  range = record { start = at; end = Some (at + 4) };
}

-- ---- a history

-- process 2 reads `count` bytes, and writes four at the start
abbrev pub history_of : ℕ → Files
history_of count =
    after_by 2 Call.Write (moving_on 3 4) (codes "Abcd") (seeks 2 3 0
    (after_by 2 Call.Read (moving_on 3 count) (blanks count) (opens 2 (on (volume_a 3)))))

-- ---- locks that are asked for

-- process 2 sets a status of its path, to a number
abbrev pub sets_to : ℕ → ℕ → Files → Files
sets_to code number files =
    after_by 2 Call.SetStt (record zero_regs { a = 3; b = code; x = number / 65536; u = number % 65536 }) [] files

-- it has locked `count` bytes of the file
abbrev pub locked_file : ℕ → Files
locked_file count = sets_to SS_LOCK count (opens 2 (on (volume_a 3)))

-- the lock of the whole file
abbrev pub whole_lock : Held
whole_lock = record (lock_from 2 0) { range = record { start = 0; end = None } }
