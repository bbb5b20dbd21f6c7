-- What an attempt of a write reads of the memory of its process.
use Rattle.std.specs.Prelude.{◌≡◌, ℕ, Bool, true, false, ⊤, IfSome, Option, Some, None, List, length, take, drop}
use Rattle.std.specs.Option.{option_map_or}
use Rattle.os9_base.specs.Cells.{Cells}
use Rattle.proc_model.specs.UserBytes.{user_bytes}
use Rattle.io_model.specs.declared.pending.PendingCall.{PendingCall}
use Rattle.io_model.specs.declared.path.Target.{Target}
use Rattle.io_model.specs.declared.path.Target.TheVariants.{File, Folder, Term, Pipe}
use Rattle.io_model.specs.declared.pipe.TheConstants.{PIPE_BYTES}
use Rattle.io_model.specs.Io.{Io, OpenPath, pending_at, open_path}

-- the target of a path is a pipe
abbrev pub is_pipe : Target → Bool
is_pipe (File drive sector) = false
is_pipe (Folder drive sector) = false
is_pipe (Term terminal) = false
is_pipe (Pipe pipe) = true

abbrev pub is_on_pipe : Option OpenPath → Bool
is_on_pipe path = option_map_or (λ (opened : OpenPath). is_pipe opened.desc.target) path false

-- the number of bytes of a call that earlier attempts moved
abbrev pub moved_before : Option PendingCall → ℕ
moved_before pending = option_map_or (λ (pending : PendingCall). pending.moved) pending 0

-- the bytes of a call that one attempt may put into a pipe, after the first `moved`
abbrev pub window : ℕ → List ℕ → List ℕ
window moved bytes = take PIPE_BYTES (drop moved bytes)

-- if the `count` bytes of a call from an address on are all there, a buffer has in their places the bytes that one
-- attempt may put into a pipe, after the first `moved`
abbrev pub HasWindow : Cells → ℕ → ℕ → ℕ → List ℕ → Type 0
HasWindow cells at moved count buffer =
    IfSome (user_bytes cells at count) (λ bytes. window moved (take count buffer) ≡ window moved bytes)

-- the bytes `read` were read for the `bytes` of a write on the path of a number: their counts are equal; on a pipe the
-- bytes that the attempt may move are the same, elsewhere all bytes are
pub record AreReadForWrite (io : Io) (p number : ℕ) (bytes read : List ℕ) : Type 0 where
  pub count : length read ≡ length bytes
  pub all : is_on_pipe (open_path io p number) ≡ false → read ≡ bytes
  pub moving : window (moved_before (pending_at io p)) read ≡ window (moved_before (pending_at io p)) bytes

-- `count` bytes at the front of a buffer were read for a write on the path of a number, if it has bytes
abbrev pub AreWriteBytesRead : Io → ℕ → ℕ → Option (List ℕ) → Option ℕ → List ℕ → Type 0
AreWriteBytesRead io p number None None buffer = ⊤
AreWriteBytesRead io p number None (Some count) buffer = ⊥
AreWriteBytesRead io p number (Some bytes) None buffer = ⊥
AreWriteBytesRead io p number (Some bytes) (Some count) buffer = AreReadForWrite io p number bytes (take count buffer)
