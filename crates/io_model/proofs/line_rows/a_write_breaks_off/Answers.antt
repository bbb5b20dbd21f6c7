use Rattle.std.proofs.Common.{[], codes, refl, arith}
use Rattle.io_model.specs.Terminal.{new_terminal, used_by, driver_with}
use Rattle.io_model.specs.declared.terminal.Progress.TheVariants.{Fault}
use Rattle.os9_base.specs.declared.errors.TheConstants.{E_WRITE}
use Rattle.io_model.specs.Step.{fails}
use Rattle.io_model.proofs.line_rows.a_write_breaks_off.Goals as goal

pub returns-clause-refusal : goal.returns-clause-refusal
returns-clause-refusal c = record {
  answer = Fault;
  new = used_by (record { 0 = 2 }) new_terminal;
  end = fails E_WRITE;
  device = (
    driver_with [] [] 0,
    driver_with [] (codes "a") 1,
    refl,
    refl,
    record {
      outcome = record { terminal = refl; part = (1, omega arith, refl) };
      driver = record { keys = refl; never_falls = omega arith; faults = omega arith };
    },
  );
  ends = refl;
  effect_is = refl;
}
