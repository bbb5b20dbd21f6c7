-- The end of a process (System Programmer's Manual, F$Exit): it gives up one link to its primary module and its whole
-- map. Its parent may wait for its status.
use Rattle.std.specs.Prelude.{ℕ}
use Rattle.proc_model.specs.MemoryChanges.{cleared}
use Rattle.proc_model.specs.Ends.{after_exit}
use Rattle.proc_model.specs.Turns.{without_turn}
use Rattle.proc_model.specs.Processes.{Processes, no_own, own_at, with_own}
use Rattle.proc_model.specs.ModuleLinks.{without_primary_link}

-- the state in which a process does not live any more, and has nothing
abbrev pub without_process : Processes → ℕ → ℕ → Processes
without_process s p status =
    with_own (record s {
      memory =
          cleared s.memory p;
      records = after_exit s.records p status;
      order = without_turn s.order p;
    }) p no_own

-- the state after the end of a process with a status
abbrev pub ended : Processes → ℕ → ℕ → Processes
ended s p status = without_process (without_primary_link s (own_at s p)) p status
