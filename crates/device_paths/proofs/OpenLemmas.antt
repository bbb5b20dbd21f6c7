-- Openings: they reach no device, and are refused by what was read of their path list.
use Rattle.std.proofs.Common.{◌≡◌, ◌∙◌, ℕ, Bool, true, false, not, Option, Some, None, Result, Ok, Err, refl, sym, ap}
use Rattle.os9_base.specs.declared.errors.TheConstants.{E_BPADDR, E_BMODE, E_BPNAM, E_PTHFUL}
use Rattle.os9_base.specs.declared.registers.Regs.{Regs}
use Rattle.os9_base.specs.declared.name_fault.NameFault.{NameFault}
use Rattle.os9_base.specs.declared.name_fault.NameFault.TheVariants.{Unreadable, NoName}
use Rattle.io_model.specs.Path.{new_number, paths_after_begin}
use Rattle.io_model.specs.Pipe.{free_pipe, pipes_after_begin}
use Rattle.io_model.specs.declared.path.Desc.{Desc}
use Rattle.io_model.specs.declared.path.Target.TheVariants.{Term, Pipe}
use Rattle.io_model.specs.Io.{Io, new_desc, with_paths, with_pipes}
use Rattle.io_model.specs.Lead.{Lead, Search, to_terminal, to_pipe, nowhere, lead_of}
use Rattle.io_model.specs.Open.{begins, opened_regs, opens, opens_lead, reads_list}
use Rattle.io_model.specs.PathList.{PathList, path_list}
use Rattle.io_model.specs.Step.{Caller, IoStep, refused, refuses, needs, done}
use Rattle.device_paths.proofs.QuietLemmas.{IsQuiet}
use Rattle.device_paths.specs.Places.{allows}
use Rattle.device_paths.specs.declared.places.Search as Place
use Rattle.device_paths.specs.Listed.{listed, listed_of}
use Rattle.device_paths.specs.declared.list.Listed.{Listed}

begins-quiet : (caller : Caller) (io : Io) (list : PathList) (desc : Desc) → IsQuiet (begins caller io list desc)
begins-quiet caller io list desc = by (new_number io.paths caller.process.0)
  where
    by : (number : Option ℕ) → IsQuiet (needs number E_PTHFUL (λ number. done (opened_regs caller.regs list number) (with_paths io (paths_after_begin io.paths caller.process.0 desc))))
    by None = tt
    by (Some number) = tt

lead-quiet : (caller : Caller) (io : Io) (list : PathList) (lead : Lead) → IsQuiet (opens_lead caller io list lead)
lead-quiet caller io list (to_terminal terminal) = begins-quiet caller io list (new_desc (Term terminal) caller.regs.a)
lead-quiet caller io list to_pipe = by (free_pipe io.pipes)
  where
    by : (pipe : Option ℕ) → IsQuiet (needs pipe E_PTHFUL (λ pipe. begins caller (with_pipes io (pipes_after_begin io.pipes)) list (new_desc (Pipe pipe) caller.regs.a)))
    by None = tt
    by (Some pipe) = begins-quiet caller (with_pipes io (pipes_after_begin io.pipes)) list (new_desc (Pipe pipe) caller.regs.a)
lead-quiet caller io list (nowhere number) = tt

-- an opening reaches no device
pub open-quiet : (search : Search) (allowed : Bool) (caller : Caller) (io : Io) (drives terms : ℕ) → IsQuiet (opens search allowed caller io drives terms)
open-quiet search allowed caller io drives terms = by (path_list caller.cells caller.regs.x) allowed
  where
    by : (read : Result PathList NameFault) (allowed : Bool) → IsQuiet (reads_list read allowed (λ list. opens_lead caller io list (lead_of search drives terms list)))
    by (Ok list) true = lead-quiet caller io list (lead_of search drives terms list)
    by (Ok list) false = tt
    by (Err Unreadable) allowed = tt
    by (Err NoName) true = tt
    by (Err NoName) false = tt

-- ---- what was read

-- a list that was not read
pub read-fault : (read : Result PathList NameFault) (fault : NameFault) → listed_of read ≡ Err fault → read ≡ Err fault
read-fault (Ok list) fault is = absurd (let e : Ok (listed list) ≡ Err fault = is in cc)
read-fault (Err other) fault is = cc

-- a list that was read
pub read-list : (read : Result PathList NameFault) (found : Listed) → listed_of read ≡ Ok found → (list : PathList) × (read ≡ Ok list) × (found ≡ listed list)
read-list (Ok list) found is = (list, refl, let e : Ok (listed list) ≡ Ok found = is in cc)
read-list (Err fault) found is = absurd (let e : Err fault ≡ Ok found = is in cc)

-- an opening by a list that breaks off
pub open-unreadable : (search : Search) (allowed : Bool) (caller : Caller) (io : Io) (drives terms : ℕ)
    → Err Unreadable ≡ listed_of (path_list caller.cells caller.regs.x) → opens search allowed caller io drives terms
    ≡ refused E_BPADDR
open-unreadable search allowed caller io drives terms is =
    ap (λ (read : Result PathList NameFault). reads_list read allowed (λ list. opens_lead caller io list
    (lead_of search drives terms list))) (read-fault (path_list caller.cells caller.regs.x) Unreadable (sym is))

-- an opening by a list with a name that is none
pub open-no_name : (search : Search) (allowed : Bool) (caller : Caller) (io : Io) (drives terms : ℕ)
    → Err NoName ≡ listed_of (path_list caller.cells caller.regs.x) → opens search allowed caller io drives terms ≡
    refuses (not allowed) E_BMODE (refused E_BPNAM)
open-no_name search allowed caller io drives terms is =
    ap (λ (read : Result PathList NameFault). reads_list read allowed (λ list. opens_lead caller io list
    (lead_of search drives terms list))) (read-fault (path_list caller.cells caller.regs.x) NoName (sym is))

-- an opening by a list that was read, which comes to this where the mode is allowed
pub open-list : (search : Search) (allowed : Bool) (caller : Caller) (io : Io) (drives terms : ℕ) (found : Listed)
    (step : IoStep) → Ok found ≡ listed_of (path_list caller.cells caller.regs.x)
    → ((list : PathList) → found ≡ listed list → opens_lead caller io list (lead_of search drives terms list) ≡ step)
    → opens search allowed caller io drives terms ≡ refuses (not allowed) E_BMODE step
open-list search allowed caller io drives terms found step is comes =
    let read = read-list (path_list caller.cells caller.regs.x) found (sym is) in
    ap (λ (read : Result PathList NameFault). reads_list read allowed (λ list. opens_lead caller io list (lead_of search drives terms list))) read.1
    ∙ ap (λ (next : IoStep). refuses (not allowed) E_BMODE next) (comes read.0 read.2)

-- the mode that the registers have
pub mode-now : (search : Place.Search) (now then : Regs) (next : IoStep) → now ≡ then → refuses (not (allows search then.a)) E_BMODE next ≡ refuses (not (allows search now.a)) E_BMODE next
mode-now search now then next same = ap (λ (regs : Regs). refuses (not (allows search regs.a)) E_BMODE next) (sym same)
