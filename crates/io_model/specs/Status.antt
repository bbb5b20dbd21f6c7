-- I$GetStt and I$SetStt: ask for the status of a path, and set it (System Programmer's Manual, I$GetStt and I$SetStt).
-- Take the path in A and the code in B. SS.Opt stores 32 bytes at X, SS.Ready returns in B the number of bytes that may
-- be read at once, SS.EOF returns 0 in B if the path is not at its end.
-- Errors: E$BPNum, E$UnkSvc, E$BPAddr, E$NotRdy.
use Rattle.std.specs.Prelude.{ℕ, ◌-◌, ◌==◌, is_none, min, List, ◌∷◌, length, replicate, if◌then◌else◌}
use Rattle.os9_base.specs.declared.errors.TheConstants.{E_BPNUM, E_BPADDR, E_UNKSVC, E_NOTRDY}
use Rattle.proc_model.specs.UserBytes.{user_bytes}
use Rattle.io_model.specs.declared.path.Target.{Target}
use Rattle.io_model.specs.declared.path.Target.TheVariants.{File, Folder, Term, Pipe}
use Rattle.io_model.specs.Io.{Io, open_path, terminal_at, pipe_bytes}
use Rattle.io_model.specs.Step.{Caller, IoStep, refused, comes, needs, refuses, done, answers, stores}
use Rattle.io_model.specs.declared.status.TheConstants.{SS_OPT, SS_READY, SS_EOF, OPTION_BYTES}

-- the first byte of the options of a path: its kind of target
abbrev pub option_kind : Target → ℕ
option_kind (File drive sector) = 1
option_kind (Folder drive sector) = 1
option_kind (Term terminal) = 0
option_kind (Pipe pipe) = 2

-- the options of a path
abbrev pub options : Target → List ℕ
options target = option_kind target ∷ replicate (OPTION_BYTES - 1) 0

-- the number of bytes that a terminal or a pipe has for a read
abbrev pub ready_count : Io → Target → ℕ
ready_count io (File drive sector) = 0
ready_count io (Folder drive sector) = 0
ready_count io (Term terminal) = length (terminal_at io terminal).ahead
ready_count io (Pipe pipe) = length (pipe_bytes io pipe)

-- SS.Opt
abbrev pub gets_options : Caller → Io → Target → IoStep
gets_options caller io target =
    refuses (is_none (user_bytes caller.cells caller.regs.x OPTION_BYTES)) E_BPADDR
    (comes (stores caller.regs.x (options target) (answers caller.regs) io))

-- SS.Ready
abbrev pub gets_ready : Caller → Io → Target → IoStep
gets_ready caller io target =
    refuses (ready_count io target == 0) E_NOTRDY
    (done (record caller.regs { b = min 255 (ready_count io target) }) io)

-- SS.EOF
abbrev pub gets_end : Caller → Io → Target → IoStep
gets_end caller io target = done (record caller.regs { b = 0 }) io

-- the status of this code
abbrev pub gets_status : Caller → Io → Target → ℕ → IoStep
gets_status caller io target code =
    if code == SS_OPT then gets_options caller io target
    else (if code == SS_READY then gets_ready caller io target
    else (if code == SS_EOF then gets_end caller io target else refused E_UNKSVC))

abbrev pub i_getstt : Caller → Io → IoStep
i_getstt caller io =
    needs (open_path io caller.process.0 caller.regs.a) E_BPNUM
    (λ opened. gets_status caller io opened.desc.target caller.regs.b)

-- no status of a terminal or a pipe can be set
abbrev pub i_setstt : Caller → Io → IoStep
i_setstt caller io = needs (open_path io caller.process.0 caller.regs.a) E_BPNUM (λ opened. refused E_UNKSVC)
