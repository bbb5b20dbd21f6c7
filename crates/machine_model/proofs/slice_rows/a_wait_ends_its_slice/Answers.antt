use Rattle.std.proofs.Common.{refl, arith}
use Rattle.os9_base.specs.declared.calls.TheConstants.{F_SLEEP}
use Rattle.proc_model.specs.Ready.{attempts, executes}
use Rattle.cpu_model.specs.BasePage.{base_page}
use Rattle.cpu_model.specs.TenPage.{ten_page}
use Rattle.cpu_model.specs.Reading.{reading}
use Rattle.cpu_model.specs.Step.{window, effect_of, outcome_of, step_of}
use Rattle.cpu_model.specs.Table.{row}
use Rattle.machine_model.specs.declared.ends.EventEnd.TheVariants.{Ran, Waits}
use Rattle.machine_model.specs.SliceRows.{after_events, at_choice, at_start, falls_asleep}
use Rattle.machine_model.proofs.RowEvents.{event-is}
use Rattle.machine_model.proofs.Times.{first-second}
use Rattle.machine_model.proofs.slice_rows.a_wait_ends_its_slice.Goals as goal

pub returns-clause-waits : goal.returns-clause-waits
unfolding step_of window reading row outcome_of effect_of base_page ten_page
returns-clause-waits c = record {
  shows = first-second 11 refl;
  slice = (
    _,
    _,
    (_, refl, refl),
    refl,
    (
      refl,
      (
        omega arith,
        Ran,
        (event-is at_start (at_choice falls_asleep) 2 refl refl executes Ran refl tt refl),
        (
          omega arith,
          Waits,
          (event-is at_start (after_events at_start 1 (at_choice falls_asleep)) 2 refl refl
              (attempts F_SLEEP) Waits refl (tt, first-second 11 refl) refl),
          (refl, refl),
        ),
      ),
    ),
  );
  chosen = refl;
  does = refl;
}

pub returns-clause-idle : goal.returns-clause-idle
unfolding step_of window reading row outcome_of effect_of base_page ten_page
returns-clause-idle c = (_, _, (_, refl, refl), refl, (refl, refl, refl))

pub returns-clause-age : goal.returns-clause-age
unfolding step_of window reading row outcome_of effect_of base_page ten_page
returns-clause-age c = refl
