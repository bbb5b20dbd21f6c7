-- What a write of a text to a stream of a host changes.
use Rattle.std.specs.Prelude.{◌≡◌, None, false, Result, List, ℕ, OnOk, OnErr}
use Rattle.os9_base.specs.Count.{Rose}
use Rattle.os9_outer.specs.Host.{OnFailed, UnlessFailed}
use Rattle.os9_outer.specs.Stream.{stream_with, GainsPrefix}
use Rattle.os9_outer.specs.declared.host.Host.{Ghosts}
use Rattle.os9_outer.specs.declared.host.HostFault.{HostFault}

-- of all that can be observed of a host, only its error stream and the count of that stream's faults changed
pub record ChangesErrOnly {Host : Type 0} (members : Ghosts Host) (before now : Host) : Type 0 where
  pub files : members.file_map now ≡ members.file_map before
  pub out : members.bytes_out now ≡ members.bytes_out before
  pub faults : members.host_faults now ≡ members.host_faults before
  pub name : members.failed_name now ≡ members.failed_name before
  pub in_read : members.failed_in_read now ≡ members.failed_in_read before
  pub read : members.files_read now ≡ members.files_read before
  pub written : members.files_written now ≡ members.files_written before

-- the text was written to the error stream, as far as the answer says
pub record WritesErr {Host Value : Type 0} (members : Ghosts Host) (text : List ℕ) (answer : Result Value HostFault)
    (before now : Host) : Type 0 where
  -- after Ok, the whole text was written
  pub whole : OnOk answer (members.bytes_err now ≡ stream_with (members.bytes_err before) text)
  -- in every case, a prefix of it was written
  pub prefix : GainsPrefix (members.bytes_err before) text (members.bytes_err now)
  -- each error is counted
  pub fault_counted : OnErr answer (Rose (members.err_stream_faults before) (members.err_stream_faults now))
  pub count_kept : OnOk answer (members.err_stream_faults now ≡ members.err_stream_faults before)
  -- nothing else changed
  pub others : ChangesErrOnly members before now

-- the text was written to the output stream, as far as the answer says
pub record WritesOut {Host Value : Type 0} (members : Ghosts Host) (text : List ℕ) (answer : Result Value HostFault)
    (before now : Host) : Type 0 where
  -- after Ok, the whole text was written
  pub whole : OnOk answer (members.bytes_out now ≡ stream_with (members.bytes_out before) text)
  -- in every case, a prefix of it was written
  pub prefix : GainsPrefix (members.bytes_out before) text (members.bytes_out now)
  -- after `Failed`, the fault is counted, and the output stream was the last to fail
  pub fault_counted : OnFailed answer (Rose (members.host_faults before) (members.host_faults now))
  pub fault_unnamed : OnFailed answer (members.failed_name now ≡ None)
  pub fault_in_out : OnFailed answer (members.failed_in_read now ≡ false)
  pub count_kept : UnlessFailed answer (members.host_faults now ≡ members.host_faults before)
  pub name_kept : UnlessFailed answer (members.failed_name now ≡ members.failed_name before)
  pub read_kept : UnlessFailed answer (members.failed_in_read now ≡ members.failed_in_read before)
  -- no file was read or written, and the error stream did not change
  pub files_kept : members.file_map now ≡ members.file_map before
  pub err_kept : members.bytes_err now ≡ members.bytes_err before
  pub err_count_kept : members.err_stream_faults now ≡ members.err_stream_faults before
  pub reads_kept : members.files_read now ≡ members.files_read before
  pub writes_kept : members.files_written now ≡ members.files_written before
