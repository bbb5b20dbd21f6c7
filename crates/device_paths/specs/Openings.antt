-- What is opened, by what the path list names.
use Rattle.std.specs.Prelude.{ℕ, false, None, Result, Ok, Err, []}
use Rattle.os9_base.specs.declared.errors.TheConstants.{E_PTHFUL}
use Rattle.io_model.specs.declared.path.PathsFull.{PathsFull}
use Rattle.io_model.specs.Io.{Io}
use Rattle.io_model.specs.Open.{opened_regs, opens_lead}
use Rattle.io_model.specs.PathList.{PathList}
use Rattle.io_model.specs.Step.{Caller, IoStep, refused, done}
use Rattle.device_paths.specs.Places.{lead_to}
use Rattle.device_paths.specs.declared.open.Found.{Found}

-- a path list that ends before this address: opening it needs no more of it
abbrev pub ends_before : ℕ → PathList
ends_before next = record { device = None; names = []; slash = false; next = next }

-- the process opens a path on what was found
abbrev pub opens_at : Caller → Io → Found → IoStep
opens_at caller io found = opens_lead caller io (ends_before found.next) (lead_to (Ok found.place))

-- a path got this number, or no number is free; the state after it is this
abbrev pub begun : Result ℕ PathsFull → Caller → PathList → Io → IoStep
begun (Ok number) caller list io = done (opened_regs caller.regs list number) io
begun (Err full) caller list io = refused E_PTHFUL

-- the process opens a path on what was found, or is refused
abbrev pub opens_found : Caller → Io → Result Found ℕ → IoStep
opens_found caller io (Ok found) = opens_at caller io found
opens_found caller io (Err number) = refused number
