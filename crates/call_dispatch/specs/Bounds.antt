-- The greatest number of drive calls in an attempt of each call on paths, files and directories (this project's own).
use Rattle.std.specs.Prelude.{ℕ}
use Rattle.file_rules.specs.Files.{Asker, Files}
use Rattle.file_rules.specs.declared.path_call.PathCall.{PathCall}
use Rattle.file_rules.specs.declared.path_call.PathCall.TheVariants as Call
use Rattle.file_io.specs.Calls.{f_perr_calls, i_read_calls, i_seek_calls, i_write_calls, i_writln_calls}
use Rattle.name_calls.specs.OpenCalls.{i_create_calls, i_open_calls}
use Rattle.file_status.specs.Status.{i_getstt_calls, i_setstt_calls}
use Rattle.name_calls.specs.ListCalls.{i_chgdir_calls, i_delete_calls, i_deletx_calls, i_makdir_calls}

-- a call that never reaches a drive
abbrev pub no_calls : Asker → Files → ℕ → ℕ
no_calls asker files terms = 0

-- by the calling process, the files and the number of terminals
abbrev pub attempt_calls : PathCall → Asker → Files → ℕ → ℕ
attempt_calls Call.Dup = no_calls
attempt_calls Call.Create = i_create_calls
attempt_calls Call.Open = i_open_calls
attempt_calls Call.MakDir = i_makdir_calls
attempt_calls Call.ChgDir = i_chgdir_calls
attempt_calls Call.Delete = i_delete_calls
attempt_calls Call.DeletX = i_deletx_calls
attempt_calls Call.Seek = i_seek_calls
attempt_calls Call.Read = i_read_calls
attempt_calls Call.Write = i_write_calls
attempt_calls Call.ReadLn = i_read_calls
attempt_calls Call.WritLn = i_writln_calls
attempt_calls Call.GetStt = i_getstt_calls
attempt_calls Call.SetStt = i_setstt_calls
attempt_calls Call.Close = no_calls
attempt_calls Call.PErr = f_perr_calls
