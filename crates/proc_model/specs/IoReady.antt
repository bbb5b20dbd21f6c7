-- The processes whose calls on input and output may go on (Level Two manual, process scheduling).
use Rattle.std.specs.Prelude.{ℕ, Bool, false, slice_index_or}
use Rattle.proc_model.specs.declared.io_ready.IoReady.{IoReady}

-- the call of this process on input and output may go on
abbrev pub has_io : IoReady → ℕ → Bool
has_io ready p = slice_index_or ready.places p false
