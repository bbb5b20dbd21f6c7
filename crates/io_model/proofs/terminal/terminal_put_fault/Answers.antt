use Rattle.std.proofs.Common.{refl, arith}
use Rattle.io_model.proofs.terminal.terminal_put_fault.Goals as goal

pub returns : goal.returns
returns c = record {
  outcome = record { terminal = refl; part = (1, omega arith, refl) };
  driver = record { keys = refl; never_falls = omega arith; faults = omega arith };
}
