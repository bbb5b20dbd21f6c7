-- What a path list says about the place to which it leads.
use Rattle.std.specs.Prelude.{ℕ, ◌==◌, not, true, false, Option, Some, Result, Ok, Err, List, length}
use Rattle.os9_base.specs.Cells.{Cells}
use Rattle.os9_base.specs.declared.name_fault.NameFault.{NameFault}
use Rattle.io_model.specs.PathList.{PathList, ends_in_dots, names_at}
use Rattle.device_paths.specs.Tail.{tail_of}
use Rattle.device_paths.specs.declared.list.Listed.{Listed}
use Rattle.device_paths.specs.declared.names.Step.{Step}
use Rattle.device_paths.specs.declared.names.Step.TheVariants.{Another, Last}
use Rattle.device_paths.specs.declared.names.Tail.{Tail}

-- what a path list says
abbrev pub listed : PathList → Listed
listed list = record {
  device = list.device;
  has_names = not (length list.names == 0);
  dots = ends_in_dots list;
  slash = list.slash;
  next = list.next;
}

abbrev pub listed_of : Result PathList NameFault → Result Listed NameFault
listed_of (Ok list) = Ok (listed list)
listed_of (Err fault) = Err fault

-- what a list says that starts at this device, or at none, and whose names have this tail
abbrev pub listed_with : Option (List ℕ) → Result Tail NameFault → Result Listed NameFault
listed_with device (Ok tail) =
    Ok (record { device = device; has_names = true; dots = tail.dots; slash = tail.slash; next = tail.next })
listed_with device (Err fault) = Err fault

-- what a list says that starts at a device, by what follows the device's name
abbrev pub listed_by : List ℕ → (ℕ → Result Tail NameFault) → Result Step NameFault → Result Listed NameFault
listed_by device tails (Ok (Another next)) = listed_with (Some device) (tails next)
listed_by device tails (Ok (Last tail)) =
    Ok (record { device = Some device; has_names = false; dots = false; slash = tail.slash; next = tail.next })
listed_by device tails (Err fault) = Err fault

-- how the names from an address on end, after one name
abbrev pub tails : Cells → ℕ → Result Tail NameFault
tails cells at = tail_of (names_at cells at 65535)
