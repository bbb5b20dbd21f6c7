-- Which terminal an attempt of a read reads, and how.
use Rattle.std.proofs.Common.{◌≡◌, ◌≢◌, ℕ, ◌==◌, not, Bool, true, false, Option, Some, None, refl, sym, ap, ◌∙◌, arith}
use Rattle.std.specs.Prelude.{is_none, min, unwrap_or, if◌then◌else◌}
use Rattle.std.specs.Option.{option_map_or}
use Rattle.std.proofs.lemmas.Bool.{eqb-true}
use Rattle.std.proofs.lemmas.Option.{same_Some}
use Rattle.os9_base.specs.declared.calls.TheConstants.{I_READ, I_READLN}
use Rattle.os9_base.specs.declared.errors.TheConstants.{E_BPADDR, E_BPNUM, E_BMODE, E_EOF, E_UNKSVC, E_WRITE}
use Rattle.proc_model.specs.UserBytes.{user_bytes}
use Rattle.io_model.specs.declared.pending.PendingCall.{PendingCall}
use Rattle.io_model.specs.declared.path.Target.{Target}
use Rattle.io_model.specs.declared.path.Target.TheVariants.{File, Folder, Term, Pipe}
use Rattle.io_model.specs.declared.terminal.ReadKind.{ReadKind}
use Rattle.io_model.specs.declared.terminal.ReadKind.TheVariants.{Bytes, WholeLine}
use Rattle.io_model.specs.declared.terminal.Reading.{Reading}
use Rattle.io_model.specs.declared.terminal.TheConstants.{TYPE_AHEAD}
use Rattle.io_model.specs.Attempts.{io_step}
use Rattle.io_model.specs.Codes.{direction_of_call}
use Rattle.io_model.specs.Io.{Io, OpenPath, pending_at, open_path}
use Rattle.io_model.specs.Modes.{can_read}
use Rattle.io_model.specs.Read.{reads_path, reads_target, read_call}
use Rattle.io_model.specs.Step.{Caller, IoStep, answers, refused, comes, reads, writes, leaves, needs, refuses, done, TerminalRead}
use Rattle.io_model.specs.Terminals.{request_of}
use Rattle.io_model.specs.Transfer.{call_now, first_call, on_path, unless_nothing}
use Rattle.io_model.specs.declared.io_call.Direction.TheVariants as Way
use Rattle.io_model.specs.declared.io_call.IoCall.{IoCall}
use Rattle.io_model.specs.declared.io_call.IoCall.TheVariants as Call
use Rattle.call_laws.proofs.StepWalk.{StepGives}
use Rattle.stream_laws.specs.Keys.{asked_by, reading_of}

-- a read of this kind reads the terminal that its path was opened on, for as many bytes as its call asks for
pub record IsReadOn (kind : ReadKind) (caller : Caller) (io : Io) (read : TerminalRead) : Type 0 where
  pub path : (opened : OpenPath) × (open_path io caller.process.0 caller.regs.a ≡ Some opened) × (opened.desc.target ≡ Term read.terminal)
  pub request : request_of caller read ≡ reading_of kind io caller.process.0 caller.regs

-- the process has a path on this terminal
abbrev pub ReadsOn : Caller → Io → ℕ → Type 0
ReadsOn caller io n =
    (opened : OpenPath) × (open_path io caller.process.0 caller.regs.a ≡ Some opened) × (opened.desc.target ≡ Term n)

-- a path was opened on one thing
pub one-target : (caller : Caller) (io : Io) (one : OpenPath) (n : ℕ) → open_path io caller.process.0 caller.regs.a ≡ Some one → ReadsOn caller io n → one.desc.target ≡ Term n
one-target caller io one n is (other, too, on) =
    ap (λ (opened : OpenPath). opened.desc.target) (same_Some one other (sym is ∙ too)) ∙ on

pipe-term : (pipe n : ℕ) → Pipe pipe ≡ Term n → ⊥
pipe-term pipe n is = cc

-- the number is neither 211 nor 245
abbrev pub IsOther : ℕ → Type 0
IsOther number = (number ≢ E_EOF) × (number ≢ E_WRITE)

other-address : IsOther E_BPADDR
other-address = (λ same. omega (arith, same), λ same. omega (arith, same))

other-number : IsOther E_BPNUM
other-number = (λ same. omega (arith, same), λ same. omega (arith, same))

other-mode : IsOther E_BMODE
other-mode = (λ same. omega (arith, same), λ same. omega (arith, same))

other-service : IsOther E_UNKSVC
other-service = (λ same. omega (arith, same), λ same. omega (arith, same))

-- only a read reads a terminal; one that does not is refused with another number, or asks for no byte
abbrev pub StepReads : IoCall → Caller → Io → IoStep → Type 0
StepReads call caller io (refused number) = direction_of_call call ≡ Some Way.Reading → IsOther number
StepReads call caller io (comes effect) =
    direction_of_call call ≡ Some Way.Reading → (n : ℕ) → ReadsOn caller io n → (caller.regs.y ≡ 0) × (effect ≡ leaves (answers caller.regs) io)
StepReads call caller io (reads read) = (kind : ReadKind) × (call ≡ read_call kind) × IsReadOn kind caller io read
StepReads call caller io (writes write) = Unit {0}

module _ (kind : ReadKind) (code : ℕ) (caller : Caller) (io : Io) where
  abbrev Is : IoStep → Type 0
  Is step = StepReads (read_call kind) caller io step

  asked-is : (opened : OpenPath) → (call_now caller io code opened caller.regs.y).count ≡ asked_by io caller.process.0 caller.regs
  asked-is opened = by_kept (pending_at io caller.process.0)
    where
      by_kept : (place : Option PendingCall) → (unwrap_or place (first_call code opened caller.regs.y)).count ≡ (option_map_or (λ (pending : PendingCall). pending.count) place caller.regs.y)
      by_kept None = refl
      by_kept (Some pending) = refl

  on-target : (opened : OpenPath) → open_path io caller.process.0 caller.regs.a ≡ Some opened → (target : Target)
      → opened.desc.target ≡ target → Is (reads_target kind caller io (call_now caller io code opened caller.regs.y)
      target)
  on-target opened is (File drive sector) on = λ way. other-service
  on-target opened is (Folder drive sector) on = λ way. other-service
  on-target opened is (Pipe pipe) on =
      λ way n path. absurd (pipe-term pipe n (sym on ∙ one-target caller io opened n is path))
  on-target opened is (Term terminal) on = (
    kind,
    refl,
    record {
      path = (opened, is, on);
      request = ap (λ (count : ℕ). let r : Reading = record
          { process = caller.process; kind = kind; most = min count TYPE_AHEAD } in r) (asked-is opened);
    },
  )

  on-open : (opened : Option OpenPath) → open_path io caller.process.0 caller.regs.a ≡ opened
      → Is (needs opened E_BPNUM (λ opened. refuses (not (can_read opened.desc.mode)) E_BMODE
      (unless_nothing caller io (reads_target kind caller io (call_now caller io code opened caller.regs.y)
      opened.desc.target))))
  on-open None is = λ way. other-number
  on-open (Some opened) is = by_tests (can_read opened.desc.mode) (caller.regs.y == 0) refl
    where
      by_tests : (allowed nothing : Bool) → (caller.regs.y == 0) ≡ nothing
          → Is (refuses (not allowed) E_BMODE (if nothing then done caller.regs io else reads_target kind caller io
          (call_now caller io code opened caller.regs.y) opened.desc.target))
      by_tests false nothing none = λ way. other-mode
      by_tests true true none = λ way n path. (eqb-true caller.regs.y 0 none, refl)
      by_tests true false none = on-target opened is opened.desc.target refl

  pub read-reads : Is (reads_path kind code caller io)
  read-reads = by_buffer (is_none (user_bytes caller.cells caller.regs.x caller.regs.y))
    where
      by_buffer : (is_missing : Bool) → Is (refuses is_missing E_BPADDR (on_path caller io caller.regs.a can_read
          (λ opened. unless_nothing caller io (reads_target kind caller io (call_now caller io code opened
          caller.regs.y) opened.desc.target))))
      by_buffer true = λ way. other-address
      by_buffer false = on-open (open_path io caller.process.0 caller.regs.a) refl

-- a call that does not read reads no terminal
other-reads : (call : IoCall) (P : Io → Type 0) (caller : Caller) (io : Io)
    → (direction_of_call call ≡ Some Way.Reading → ⊥) → (step : IoStep) → StepGives call P caller io step
    → StepReads call caller io step
other-reads call P caller io other (refused number) gives = λ way. absurd (other way)
other-reads call P caller io other (comes effect) gives = λ way. absurd (other way)
other-reads call P caller io other (reads read) gives = absurd (other gives.0)
other-reads call P caller io other (writes write) gives = tt

none-reads : None ≡ Some Way.Reading → ⊥
none-reads is = cc

write-reads : Some Way.Writing ≡ Some Way.Reading → ⊥
write-reads is = cc

pub step-reads : (call : IoCall) (P : Io → Type 0) (caller : Caller) (io : Io) (drives terms : ℕ)
    → StepGives call P caller io (io_step call caller io drives terms) → StepReads call caller io
    (io_step call caller io drives terms)
step-reads Call.Read P caller io drives terms gives = read-reads Bytes I_READ caller io
step-reads Call.ReadLn P caller io drives terms gives = read-reads WholeLine I_READLN caller io
step-reads Call.Dup P caller io drives terms gives = other-reads Call.Dup P caller io none-reads (io_step Call.Dup caller io drives terms) gives
step-reads Call.Create P caller io drives terms gives = other-reads Call.Create P caller io none-reads (io_step Call.Create caller io drives terms) gives
step-reads Call.Open P caller io drives terms gives = other-reads Call.Open P caller io none-reads (io_step Call.Open caller io drives terms) gives
step-reads Call.Close P caller io drives terms gives = other-reads Call.Close P caller io none-reads (io_step Call.Close caller io drives terms) gives
step-reads Call.Write P caller io drives terms gives = other-reads Call.Write P caller io write-reads (io_step Call.Write caller io drives terms) gives
step-reads Call.WritLn P caller io drives terms gives = other-reads Call.WritLn P caller io write-reads (io_step Call.WritLn caller io drives terms) gives
step-reads Call.GetStt P caller io drives terms gives = other-reads Call.GetStt P caller io none-reads (io_step Call.GetStt caller io drives terms) gives
step-reads Call.SetStt P caller io drives terms gives = other-reads Call.SetStt P caller io none-reads (io_step Call.SetStt caller io drives terms) gives
step-reads Call.PErr P caller io drives terms gives = other-reads Call.PErr P caller io write-reads (io_step Call.PErr caller io drives terms) gives
