use Rattle.std.proofs.Common.{◌∙◌, not, Result, Err, vec_len, sym, ap}
use Rattle.os9_base.specs.declared.errors.TheConstants.{E_BMODE, E_BPNAM}
use Rattle.os9_base.specs.declared.registers.Regs.{Regs}
use Rattle.os9_base.specs.declared.name_fault.NameFault.{NameFault}
use Rattle.proc_model.specs.Processes.{cells_at, regs_at}
use Rattle.io_model.specs.Attempts.{caller_of}
use Rattle.io_model.specs.PathList.{path_list}
use Rattle.io_model.specs.Step.{IoStep, refused, refuses}
use Rattle.device_paths.specs.Listed.{listed_of}
use Rattle.device_paths.specs.declared.list.Listed.{Listed}
use Rattle.device_paths.specs.Openings.{opens_found}
use Rattle.device_paths.specs.Places.{search_of, allows}
use Rattle.device_paths.proofs.OpenLemmas.{open-unreadable, open-no_name, open-list, mode-now}
use Rattle.device_paths.proofs.open.find.Goals as goal

pub returns-in-Err-Unreadable-clause-found : goal.returns-in-Err-Unreadable-clause-found
returns-in-Err-Unreadable-clause-found g c m io tied =
    let p = c.args.p.0 in
    let read = c.read_list.ensures.list m tied ∙ ap (λ (r : Regs). listed_of (path_list (cells_at m p) r.x)) (c.regs-regs.ensures.tied m tied) in
    open-unreadable (search_of c.args.search) (allows c.args.search (regs_at m p).a) (caller_of m p) io (vec_len c.args.devices.now.drives) (vec_len c.args.devices.now.terms)
    (ap (λ (fault : NameFault). let r : Result Listed NameFault = Err fault in r) (sym c.in-Err-Unreadable.field-0-is) ∙ sym c.in-Err-Unreadable.is ∙ read)

pub returns-in-Err-NoName-clause-found : goal.returns-in-Err-NoName-clause-found
returns-in-Err-NoName-clause-found g c m io tied =
    let p = c.args.p.0 in
    let read = c.read_list.ensures.list m tied ∙ ap (λ (r : Regs). listed_of (path_list (cells_at m p) r.x)) (c.regs-regs.ensures.tied m tied) in
    open-no_name (search_of c.args.search) (allows c.args.search (regs_at m p).a) (caller_of m p) io (vec_len c.args.devices.now.drives) (vec_len c.args.devices.now.terms)
    (ap (λ (fault : NameFault). let r : Result Listed NameFault = Err fault in r) (sym c.in-Err-NoName.field-0-is) ∙ sym c.in-Err-NoName.is ∙ read)
    ∙ mode-now c.args.search c.regs-regs.result (regs_at m p) (refused E_BPNAM) (c.regs-regs.ensures.tied m tied)
    ∙ sym (c.if_allowed.ensures.found (caller_of m p) io)

pub returns-in-Ok-clause-found : goal.returns-in-Ok-clause-found
returns-in-Ok-clause-found g c m io tied =
    let p = c.args.p.0 in
    let read = c.read_list.ensures.list m tied ∙ ap (λ (r : Regs). listed_of (path_list (cells_at m p) r.x)) (c.regs-regs.ensures.tied m tied) in
    open-list (search_of c.args.search) (allows c.args.search (regs_at m p).a) (caller_of m p) io
    (vec_len c.args.devices.now.drives) (vec_len c.args.devices.now.terms) c.in-Ok.list
    (opens_found (caller_of m p) io c.find_by.result) (sym c.in-Ok.is ∙ read) (λ list is. c.find_by.ensures.found
    list (caller_of m p) io is)
    ∙ mode-now c.args.search c.regs-regs.result (regs_at m p) (opens_found (caller_of m p) io c.find_by.result) (c.regs-regs.ensures.tied m tied)
    ∙ sym (c.if_allowed-in-Ok.ensures.found (caller_of m p) io)
