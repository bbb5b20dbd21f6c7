-- The processes of a machine before the first one begins, and the number of living ones.
use Rattle.std.specs.Prelude.{ℕ, Option, None, List, [], replicate, count_by, not}
use Rattle.os9_base.specs.declared.limits.TheConstants.{PROCESS_PLACES}
use Rattle.proc_model.specs.Memory.{first_memory}
use Rattle.proc_model.specs.declared.record.Record.{Record}
use Rattle.proc_model.specs.Records.{record_passes, has_ended}
use Rattle.proc_model.specs.Processes.{Processes, no_own}

-- the state of a machine with this number of blocks, without processes, before the first slice
abbrev pub first_processes : ℕ → Processes
first_processes blocks = record {
  memory = first_memory blocks;
  records = replicate PROCESS_PLACES None;
  own = replicate PROCESS_PLACES no_own;
  order = [];
  tick = 0;
}

-- the number of living processes
abbrev pub living_count : List (Option Record) → ℕ
living_count records = count_by (record_passes (λ r. not (has_ended r.life))) records
