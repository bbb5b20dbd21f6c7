-- The greatest number of drive calls in an attempt to read or write the file of a path (this project's own).
use Rattle.std.specs.Prelude.{ℕ, ◌+◌, List, length, if◌then◌else◌}
use Rattle.std.specs.Option.{option_map_or}
use Rattle.io_model.specs.Write.{error_line}
use Rattle.lock_model.specs.declared.lock.Held.{Held}
use Rattle.io_model.specs.declared.modes.TheConstants.{STANDARD_ERROR}
use Rattle.rbf_access.specs.Reading.{read_calls}
use Rattle.rbf_change.specs.Calls.{cluster_size}
use Rattle.rbf_change.specs.Growth.{clusters_needed}
use Rattle.rbf_write.specs.Outcomes.{laying_calls}
use Rattle.file_rules.specs.Files.{Asker, Files, OpenFile, open_file}
use Rattle.file_rules.specs.Locking.{is_for_update, position_of, pending_request}
use Rattle.file_rules.specs.Read.{read_start}
use Rattle.file_rules.specs.Write.{line_moved}

-- the descriptor is read before a request, whose range hangs on the size of the file
abbrev pub request_calls : OpenFile → ℕ
request_calls opened = if is_for_update opened.opened.desc.mode then 1 else 0

-- a read from the start of a lock that was granted: one for the descriptor, and one for each sector of which it reads a
-- byte
abbrev pub granted_read_calls : Held → Asker → Files → OpenFile → ℕ
granted_read_calls lock asker files opened = read_calls opened.file lock.range.start asker.caller.regs.y

-- a read
abbrev pub reading_attempt_calls : Asker → Files → OpenFile → ℕ
reading_attempt_calls asker files opened =
    request_calls opened + read_calls opened.file (read_start asker files opened) asker.caller.regs.y

-- the number of clusters that the file needs to have `size` bytes
abbrev pub needed_for : OpenFile → ℕ → ℕ
needed_for opened size = clusters_needed (cluster_size opened.volume) opened.file.segments size

-- a write of a number of bytes from a position on: one for the descriptor, and what the bytes take, with a sector of
-- the map for each cluster
abbrev pub laying_calls_at : ℕ → ℕ → OpenFile → ℕ
laying_calls_at at count opened =
    1 + laying_calls opened.volume opened.file (needed_for opened (at + count)) at (at + count)

abbrev pub granted_write_calls : Held → ℕ → Asker → Files → OpenFile → ℕ
granted_write_calls lock count asker files opened = laying_calls_at lock.range.start count opened

-- and one for the descriptor before
abbrev pub writing_calls_at : ℕ → ℕ → OpenFile → ℕ
writing_calls_at at count opened = 1 + laying_calls_at at count opened

abbrev pub writing_attempt_calls : ℕ → Asker → Files → OpenFile → ℕ
writing_attempt_calls count asker files opened = writing_calls_at (position_of asker files opened) count opened

-- ---- by the file that a number of the process names

-- a seek reaches no drive
abbrev pub i_seek_calls : Asker → Files → ℕ → ℕ
i_seek_calls asker files terms = 0

abbrev pub i_read_calls : Asker → Files → ℕ → ℕ
i_read_calls asker files terms =
    option_map_or (reading_attempt_calls asker files) (open_file files asker.caller.process.0 asker.caller.regs.a) 0

abbrev pub i_write_calls : Asker → Files → ℕ → ℕ
i_write_calls asker files terms =
    option_map_or (writing_attempt_calls asker.caller.regs.y asker files)
    (open_file files asker.caller.process.0 asker.caller.regs.a) 0

-- the number of bytes in the line of a line write
abbrev pub line_count : Asker → Files → ℕ
line_count asker files =
    option_map_or (λ (line : List ℕ). length line) (line_moved asker (pending_request asker files)) 0

abbrev pub i_writln_calls : Asker → Files → ℕ → ℕ
i_writln_calls asker files terms =
    option_map_or (writing_attempt_calls (line_count asker files) asker files)
    (open_file files asker.caller.process.0 asker.caller.regs.a) 0

abbrev pub f_perr_calls : Asker → Files → ℕ → ℕ
f_perr_calls asker files terms =
    option_map_or (writing_attempt_calls (length (error_line asker.caller.regs.b)) asker files)
    (open_file files asker.caller.process.0 STANDARD_ERROR) 0
