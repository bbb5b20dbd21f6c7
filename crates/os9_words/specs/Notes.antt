-- What a host notes of its calls, apart from all else that is observed of it: the files that it was asked to read and
-- to write, and its error stream.
use Rattle.std.specs.Prelude.{◌≡◌, ℕ, Option, List, ◌++◌}
use Rattle.os9_outer.specs.declared.host.Host.{Ghosts}

pub record Notes : Type 0 where
  pub read : List (List ℕ)  -- the names of the files that it was asked to read, in the order of the calls
  pub written : List (List ℕ)  -- and of those that it was asked to write
  pub err : Option (List ℕ)  -- the bytes written to the error stream
  pub err_faults : ℕ  -- the number of faults of the error stream

-- the notes of a host, as `notes_of H.Host host.now`
abbrev pub notes_of : {Host : Type 0} → Ghosts Host → Host → Notes
notes_of members host = record {
  read = members.files_read host;
  written = members.files_written host;
  err = members.bytes_err host;
  err_faults = members.err_stream_faults host;
}

-- the notes with these names added after those of the files read
abbrev pub having_read : List (List ℕ) → Notes → Notes
having_read names notes = record notes { read = notes.read ++ names }

-- the same after those of the files written
abbrev pub having_written : List (List ℕ) → Notes → Notes
having_written names notes = record notes { written = notes.written ++ names }

-- files of these names were requested for reading, each once and in this order, and nothing else is noted
pub record HasReadFiles (names : List (List ℕ)) (before after : Notes) : Type 0 where
  pub is : after ≡ having_read names before

-- the same for files requested for writing
pub record HasWritten (names : List (List ℕ)) (before after : Notes) : Type 0 where
  pub is : after ≡ having_written names before
