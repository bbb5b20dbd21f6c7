-- Attempts on the terminals, and the pending calls in them.
use Rattle.std.specs.Prelude.{◌≡◌, ℕ, ◌<◌, ◌≤◌, Option, Some, None, IfSome, List, slice_index_or, slice_set}
use Rattle.std.specs.declared.alloc.Global.{Global}
use Rattle.std.specs.declared.dyn_box.DynBox.{DynBox}
use Rattle.os9_outer.specs.TerminalState.{ChangesOneTerminal, TerminalState}
use Rattle.os9_outer.specs.declared.terminal.CharDriver.{Ghosts}
use Rattle.device_table.specs.Seen.{terminals_seen}
use Rattle.device_table.specs.declared.devices.DeviceTable.{DeviceTable}
use Rattle.io_model.specs.Terminal.{IsSameCall, Terminal, new_terminal}
use Rattle.io_model.specs.declared.pending.PendingCall.{PendingCall}
use Rattle.io_model.specs.declared.path.Target.TheVariants.{Term}
use Rattle.io_model.specs.declared.terminal.Progress.{Progress}
use Rattle.io_model.specs.declared.terminal.Progress.TheVariants.{Done, Wait, End, Fault, NoMemory}
use Rattle.io_model.specs.declared.terminal.ReadKind.{ReadKind}
use Rattle.io_model.specs.declared.terminal.Reading.{Reading}
use Rattle.io_model.specs.Io.{Io, pending_at, terminal_at, with_call, with_terminal}
use Rattle.io_state.specs.Sound.{MayWait, target_at, read_kind}

-- the pending call after an attempt with this answer
abbrev pub pending_after : Progress → PendingCall → Option PendingCall
pending_after (Done count) call = None
pending_after Wait call = Some call
pending_after End call = None
pending_after Fault call = None
pending_after NoMemory call = None

-- the number of bytes that an attempt moved
abbrev pub count_of : Progress → ℕ
count_of (Done count) = count
count_of Wait = 0
count_of End = 0
count_of Fault = 0
count_of NoMemory = 0

-- a process may attempt a read of this terminal in this call: it may wait in it, and it is the pending call, if there
-- is one
pub record MayReadTerminal (io : Io) (p n : ℕ) (kind : ReadKind) (call : PendingCall) : Type 0 where
  pub may : MayWait io.paths p call
  pub on : target_at io.paths call.path.0 ≡ Some (Term n)
  pub kind_is : read_kind call.code ≡ Some kind
  pub same : IfSome (pending_at io p) (λ pending. pending ≡ call)

-- a terminal may be asked for a read: of 1 to 256 bytes, and only in the call that its process began there
pub record MayBeAsked (request : Reading) (terminal : Terminal) : Type 0 where
  pub some : 0 < request.most
  pub most : request.most ≤ 256
  pub same : IsSameCall request terminal

-- ---- what an attempt changes

-- the terminal of this number and its driver, in the box of this number, changed together in this way, and no other
-- driver changed; as `ChangesWithDriver CharDriver-box n (Reads request result) self.old devices.old self.new
-- devices.new`
abbrev pub ChangesWithDriver : {Table : Type 0} {Driver : Table → Type 0} {Drives : Type 0}
    → ((terminal : DynBox Table Global Driver) → Ghosts (Driver terminal.vtable)) → ℕ
    → (Terminal → Terminal → TerminalState → TerminalState → Type 0) → List Terminal
    → DeviceTable Drives (DynBox Table Global Driver) → List Terminal
    → DeviceTable Drives (DynBox Table Global Driver) → Type 0
ChangesWithDriver members n change terms devices terms_after devices_after =
    ChangesOneTerminal (change (slice_index_or terms n new_terminal) (slice_index_or terms_after n new_terminal)) n
    (terminals_seen members devices) (terminals_seen members devices_after)

-- no terminal but this one changed
abbrev pub ChangesAlone : ℕ → List Terminal → List Terminal → Type 0
ChangesAlone n before after = after ≡ slice_set before n (slice_index_or after n new_terminal)

-- in a call of a process this terminal changed, and this is its pending call; all else is unchanged
abbrev pub ChangesInCall : ℕ → ℕ → Option PendingCall → Io → Io → Type 0
ChangesInCall n p kept before after = after ≡ with_call (with_terminal before n (terminal_at after n)) p kept
