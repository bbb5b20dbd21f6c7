-- Which processes live.
use Rattle.std.specs.Prelude.{ℕ, not, count_by}
use Rattle.proc_model.specs.Records.{record_passes, has_ended}
use Rattle.proc_model.specs.Processes.{Processes}

-- the number of living processes
abbrev pub living_count : Processes → ℕ
living_count processes = count_by (record_passes (λ r. not (has_ended r.life))) processes.records
