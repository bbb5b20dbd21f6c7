-- I$Open and I$Create: open a path (System Programmer's Manual, I$Open and I$Create).
-- Take the mode in A and the path list at X; return the number of the path in A, and X past the list. I$Create of a
-- terminal or a pipe opens it.
-- Errors: E$BPAddr, E$BMode, E$BPNam, E$MNF, E$PNNF, E$PthFul.
use Rattle.std.specs.Prelude.{ℕ, ◌%◌, not, Bool, Result, Ok, Err}
use Rattle.os9_base.specs.declared.errors.TheConstants.{E_BPADDR, E_BMODE, E_BPNAM, E_PTHFUL}
use Rattle.os9_base.specs.declared.registers.Regs.{Regs}
use Rattle.os9_base.specs.declared.name_fault.NameFault.{NameFault}
use Rattle.os9_base.specs.declared.name_fault.NameFault.TheVariants.{Unreadable, NoName}
use Rattle.io_model.specs.Path.{new_number, paths_after_begin}
use Rattle.io_model.specs.Pipe.{free_pipe, pipes_after_begin}
use Rattle.io_model.specs.declared.path.Desc.{Desc}
use Rattle.io_model.specs.declared.path.Target.TheVariants.{Term, Pipe}
use Rattle.io_model.specs.Io.{Io, new_desc, with_paths, with_pipes}
use Rattle.io_model.specs.Lead.{Lead, to_terminal, to_pipe, nowhere, Search, what_is_there, a_new_place, lead_of}
use Rattle.io_model.specs.Modes.{is_mode, can_write}
use Rattle.io_model.specs.PathList.{PathList, path_list}
use Rattle.io_model.specs.Step.{Caller, IoStep, refused, needs, refuses, done}

-- the registers after a path with this number was opened by this list; a list that ends at FFFF sets X to 0
abbrev pub opened_regs : Regs → PathList → ℕ → Regs
opened_regs regs list number = record regs { a = number; x = list.next % 65536 }

-- the process begins a path with this descriptor, if it has a number for it
abbrev pub begins : Caller → Io → PathList → Desc → IoStep
begins caller io list desc =
    needs (new_number io.paths caller.process.0) E_PTHFUL
    (λ number. done (opened_regs caller.regs list number)
    (with_paths io (paths_after_begin io.paths caller.process.0 desc)))

-- the process opens the target of its path list
abbrev pub opens_lead : Caller → Io → PathList → Lead → IoStep
opens_lead caller io list (to_terminal terminal) =
    begins caller io list (new_desc (Term terminal) caller.regs.a)
opens_lead caller io list to_pipe =
    needs (free_pipe io.pipes) E_PTHFUL
    (λ pipe. begins caller (with_pipes io (pipes_after_begin io.pipes)) list
    (new_desc (Pipe pipe) caller.regs.a))
opens_lead caller io list (nowhere number) = refused number

-- the call goes on with the path list that was read, or is refused; without a name it is refused after the mode is
-- tested
abbrev pub reads_list : Result PathList NameFault → Bool → (PathList → IoStep) → IoStep
reads_list (Ok list) is_allowed next = refuses (not is_allowed) E_BMODE (next list)
reads_list (Err Unreadable) is_allowed next = refused E_BPADDR
reads_list (Err NoName) is_allowed next = refuses (not is_allowed) E_BMODE (refused E_BPNAM)

-- an attempt on a machine with `drives` drives and `terms` terminals
abbrev pub opens : Search → Bool → Caller → Io → ℕ → ℕ → IoStep
opens search is_allowed caller io drives terms =
    reads_list (path_list caller.cells caller.regs.x) is_allowed
    (λ list. opens_lead caller io list (lead_of search drives terms list))

abbrev pub i_open : Caller → Io → ℕ → ℕ → IoStep
i_open caller io drives terms = opens what_is_there (is_mode caller.regs.a) caller io drives terms

abbrev pub i_create : Caller → Io → ℕ → ℕ → IoStep
i_create caller io drives terms = opens a_new_place (can_write caller.regs.a) caller io drives terms
