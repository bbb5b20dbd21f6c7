use Rattle.std.proofs.Common.{refl, arith}
use Rattle.os9_base.specs.declared.calls.TheConstants.{F_STIME}
use Rattle.time_rules.specs.CivilRows.{at}
use Rattle.proc_model.specs.Ready.{attempts, executes}
use Rattle.cpu_model.specs.BasePage.{base_page}
use Rattle.cpu_model.specs.TenPage.{ten_page}
use Rattle.cpu_model.specs.Reading.{reading}
use Rattle.cpu_model.specs.Step.{window, effect_of, outcome_of, step_of}
use Rattle.cpu_model.specs.Table.{row}
use Rattle.machine_model.specs.declared.ends.EventEnd.TheVariants.{Ran}
use Rattle.machine_model.specs.SliceRows.{after_events, at_choice, at_start, sets_time}
use Rattle.machine_model.proofs.RowEvents.{event-is}
use Rattle.machine_model.proofs.Times.{first-second}
use Rattle.machine_model.proofs.slice_rows.no_civil_time_is_set.Goals as goal

pub returns-clause-does : goal.returns-clause-does
unfolding step_of window reading row outcome_of effect_of base_page ten_page
returns-clause-does c = record {
  shows = first-second 11 refl;
  slice = (
    _,
    _,
    (_, refl, refl),
    refl,
    (
      refl,
      (
        omega arith,
        Ran,
        (event-is at_start (at_choice (sets_time (at 93 2 29 23 59 59))) 2 refl refl executes
            Ran refl tt refl),
        (
          omega arith,
          Ran,
          (event-is at_start (after_events at_start 1 (at_choice (sets_time (at 93 2 29 23 59 59)))) 2 refl refl
              (attempts F_STIME) Ran refl (tt, first-second 11 refl) refl),
          (
            omega arith,
            Ran,
            (event-is at_start (after_events at_start 2 (at_choice (sets_time (at 93 2 29 23 59 59)))) 2
                refl refl executes Ran refl tt refl),
            (refl, refl),
          ),
        ),
      ),
    ),
  );
  chosen = refl;
  does = refl;
}

pub returns-clause-error : goal.returns-clause-error
unfolding step_of window reading row outcome_of effect_of base_page ten_page
returns-clause-error c = refl

pub returns-clause-carry : goal.returns-clause-carry
unfolding step_of window reading row outcome_of effect_of base_page ten_page
returns-clause-carry c = refl

pub returns-clause-clock : goal.returns-clause-clock
unfolding step_of window reading row outcome_of effect_of base_page ten_page
returns-clause-clock c = refl
