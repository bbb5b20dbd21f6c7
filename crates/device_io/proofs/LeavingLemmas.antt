-- What an attempt leaves that stores bytes, by how it ends.
use Rattle.std.proofs.Common.{◌≡◌, ◌≢◌, ◌⊎◌, ◌+◌, ◌<◌, ◌≤◌, ℕ, Bool, None, Some, IsSome, List, take, inl, inr, sym, subst, arith}
use Rattle.os9_base.specs.Cells.{Cells, FitsIn}
use Rattle.os9_base.specs.declared.call.CallEnd.{CallEnd}
use Rattle.os9_base.specs.declared.registers.Regs.{Regs}
use Rattle.proc_model.specs.MemoryChanges.{stored}
use Rattle.proc_model.specs.Processes.{Processes, regs_at, with_memory, with_regs_of}
use Rattle.io_model.specs.Pending.{count_left, moved_on}
use Rattle.io_model.specs.Path.{PathTable}
use Rattle.io_model.specs.Pipe.{moved_count, read_answer, read_line_answer, bytes_moved}
use Rattle.io_model.specs.declared.pending.PendingCall.{PendingCall}
use Rattle.io_model.specs.declared.pipe.PipeAns.{PipeAns}
use Rattle.io_model.specs.declared.terminal.ReadKind.TheVariants.{Bytes, WholeLine}
use Rattle.io_model.specs.Alone.{is_alone}
use Rattle.io_model.specs.Attempts.{caller_of}
use Rattle.io_model.specs.Codes.{direction_of}
use Rattle.io_model.specs.Io.{Io, pipe_bytes, with_call}
use Rattle.io_model.specs.Pipes.{count_regs, after_taking, read_end, read_leaves, reads_pipe, read_line_end, read_line_leaves, reads_pipe_line}
use Rattle.io_model.specs.Read.{pipe_read}
use Rattle.io_model.specs.Step.{Caller, stores, answers, fails, keeps}
use Rattle.io_model.specs.declared.io_call.Direction.TheVariants.{Reading}
use Rattle.io_state.specs.Sound.{MayWait, SetsStatus}
use Rattle.proc_state.specs.Tie.{RepresentsProcesses}
use Rattle.proc_state.specs.declared.state.ProcState.{ProcState}
use Rattle.device_io.specs.Leaving.{LeavesIoState}

module _ (m : Processes) (p : ℕ) (at : ℕ) (bytes : List ℕ) (io : Io) (end : CallEnd) (processes : ProcState) (new : Io) where
  -- it is done, and the count is answered
  pub leaves-answer : (count : ℕ) (regs : Regs) → regs ≡ regs_at m p → end ≡ CallEnd.Done → RepresentsProcesses processes
      (with_regs_of (with_memory m (stored m.memory p at bytes)) p (record regs { y = count })) → new ≡ with_call io p
      None → LeavesIoState (stores at bytes (answers (count_regs (caller_of m p) count)) io) m p end processes new
  leaves-answer count regs same is tied left =
      ((is, subst (λ (r : Regs). RepresentsProcesses processes (with_regs_of (with_memory m (stored m.memory p at bytes)) p (record r { y = count }))) same tied), left)

  -- it waits
  pub leaves-wait : (call : PendingCall) → end ≡ CallEnd.Wait → RepresentsProcesses processes
      (with_memory m (stored m.memory p at bytes)) → new ≡ with_call io p (Some call)
      → LeavesIoState (stores at bytes (keeps call) io) m p end processes new
  leaves-wait call is tied left = ((is, tied), left)

  -- it is refused
  pub leaves-refusal : (number : ℕ) → end ≡ CallEnd.Error number → RepresentsProcesses processes m → new ≡ with_call io p None → LeavesIoState (stores at bytes (fails number) io) m p end processes new
  leaves-refusal number is tied left = ((is, tied), left)

-- a call of which more bytes were moved moves bytes or sets a status, as before
moves-on : (paths : PathTable) (call : PendingCall) (count : ℕ) → IsSome (direction_of call.code) ⊎ SetsStatus paths call → IsSome (direction_of call.code) ⊎ SetsStatus paths (moved_on call count)
moves-on paths call count (inl way) = inl way
moves-on paths call count (inr it) = inr (record { sets = it.sets; target = it.target; on = it.on; on_disk = it.on_disk })

-- a call may wait still after an attempt that moved bytes, if they were not the last
pub may-wait-on : (paths : PathTable) (p : ℕ) (call new : PendingCall) (count : ℕ) → new ≡ moved_on call count
    → call.moved + count ≤ call.count → MayWait paths p call → new.moved ≢ new.count → MayWait paths p new
may-wait-on paths p call new count is few may =
    subst (λ (k : PendingCall). k.moved ≢ k.count → MayWait paths p k) (sym is)
    (λ differ. record { moves = moves-on paths call count may.moves; left = omega arith; held = may.held; reads = may.reads })

-- a range that fits has parts that fit
pub fits-behind : (cells : Cells) (at count moved most : ℕ) → FitsIn cells at count → moved + most ≤ count → FitsIn cells (at + moved) most
fits-behind cells at count moved most fits within = (omega (arith, fits.0), λ k below. named k below)
  where
    named : (k : ℕ) → k < most → IsSome (cells (at + moved + k))
    named k below =
        let same : at + (moved + k) ≡ at + moved + k = omega arith in
        subst (λ (place : ℕ). IsSome (cells place)) same (fits.1 (moved + k) (omega arith))

module _ (m : Processes) (p pipe : ℕ) (regs : Regs) (call : PendingCall) (alone : Bool) (io between : Io) (moved : PipeAns) (into : List ℕ) (end : CallEnd) (processes : ProcState) (new : Io) where
  -- an I$Read, by what the pipe answered
  pub read-leaves : (a : PipeAns) → moved ≡ a → regs ≡ regs_at m p → alone ≡ is_alone io p call.path.0 Reading
      → moved ≡ read_answer (pipe_bytes io pipe) alone call.count
      → take (moved_count moved) into ≡ bytes_moved moved (pipe_bytes io pipe) → between ≡ after_taking io pipe moved
      → LeavesIoState (stores regs.x (take (moved_count a) into) (read_end (caller_of m p) call a) between) m p end processes new
      → LeavesIoState (pipe_read Bytes (caller_of m p) io pipe call) m p end processes new
  read-leaves a is same alone_is answer_is taken_is left leaves =
      let caller : Caller = caller_of m p in
      let in_moved = subst (λ (a : PipeAns). LeavesIoState (stores regs.x (take (moved_count a) into) (read_end caller call a) between) m p end processes new) (sym is) leaves in
      let in_state = subst (λ (i : Io). LeavesIoState (stores regs.x (take (moved_count moved) into) (read_end caller call moved) i) m p end processes new) left in_moved in
      let in_bytes = subst (λ (bytes : List ℕ). LeavesIoState (stores regs.x bytes (read_end caller call moved) (after_taking io pipe moved)) m p end processes new) taken_is in_state in
      let in_regs = subst (λ (r : Regs). LeavesIoState (stores r.x (bytes_moved moved (pipe_bytes io pipe))
      (read_end caller call moved) (after_taking io pipe moved)) m p end processes new) same in_bytes in
      let in_answer = subst (λ (a : PipeAns). LeavesIoState (read_leaves caller io pipe call a) m p end processes new) answer_is in_regs in
      subst (λ (alone : Bool). LeavesIoState (reads_pipe caller io pipe call alone) m p end processes new) alone_is in_answer

  -- an I$ReadLn, by what the pipe answered
  pub line-leaves : (a : PipeAns) → moved ≡ a → regs ≡ regs_at m p → alone ≡ is_alone io p call.path.0 Reading
      → moved ≡ read_line_answer (pipe_bytes io pipe) alone (count_left call)
      → take (moved_count moved) into ≡ bytes_moved moved (pipe_bytes io pipe) → between ≡ after_taking io pipe moved
      → LeavesIoState (stores (regs.x + call.moved) (take (moved_count a) into)
      (read_line_end (caller_of m p) alone call (take (moved_count a) into) a) between) m p end processes new
      → LeavesIoState (pipe_read WholeLine (caller_of m p) io pipe call) m p end processes new
  line-leaves a is same alone_is answer_is taken_is left leaves =
      let caller : Caller = caller_of m p in
      let in_moved = subst (λ (a : PipeAns). LeavesIoState (stores (regs.x + call.moved) (take (moved_count a) into)
      (read_line_end caller alone call (take (moved_count a) into) a) between) m p end processes new) (sym is) leaves in
      let in_state = subst (λ (i : Io). LeavesIoState (stores (regs.x + call.moved) (take (moved_count moved) into)
      (read_line_end caller alone call (take (moved_count moved) into) moved) i) m p end processes new) left in_moved in
      let in_bytes = subst (λ (bytes : List ℕ). LeavesIoState (stores (regs.x + call.moved) bytes
      (read_line_end caller alone call bytes moved) (after_taking io pipe moved)) m p end processes new) taken_is in_state in
      let in_regs = subst (λ (r : Regs). LeavesIoState (stores (r.x + call.moved) (bytes_moved moved (pipe_bytes io pipe))
      (read_line_end caller alone call (bytes_moved moved (pipe_bytes io pipe)) moved)
      (after_taking io pipe moved)) m p end processes new) same in_bytes in
      let in_answer = subst (λ (a : PipeAns). LeavesIoState (read_line_leaves caller io pipe call alone a) m p end processes new) answer_is in_regs in
      subst (λ (alone : Bool). LeavesIoState (reads_pipe_line caller io pipe call alone) m p end processes new) alone_is in_answer
