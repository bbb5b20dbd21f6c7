use Rattle.std.proofs.Common.{refl, arith}
use Rattle.os9_base.specs.declared.calls.TheConstants.{F_TIME}
use Rattle.time_rules.specs.CivilRows.{at}
use Rattle.proc_model.specs.Ready.{attempts, executes}
use Rattle.cpu_model.specs.BasePage.{base_page}
use Rattle.cpu_model.specs.TenPage.{ten_page}
use Rattle.cpu_model.specs.Reading.{reading}
use Rattle.cpu_model.specs.Step.{window, effect_of, outcome_of, step_of}
use Rattle.cpu_model.specs.Table.{row}
use Rattle.machine_model.specs.declared.ends.EventEnd.TheVariants.{Ran}
use Rattle.machine_model.specs.SliceRows.{after_events, asks_for_time, at_choice}
use Rattle.machine_model.proofs.RowEvents.{event-is}
use Rattle.machine_model.proofs.Times.{one-second, two-seconds}
use Rattle.machine_model.proofs.slice_rows.the_time_is_told.Goals as goal

pub returns-clause-one_second : goal.returns-clause-one_second
unfolding step_of window reading row outcome_of effect_of base_page ten_page
returns-clause-one_second c = record {
  shows = one-second;
  slice = (
    _,
    _,
    (_, refl, refl),
    refl,
    (
      refl,
      (
        omega arith,
        Ran,
        (event-is (at 90 1 1 0 0 1) (at_choice (asks_for_time 118)) 2 refl refl executes Ran
            refl tt refl),
        (
          omega arith,
          Ran,
          (event-is (at 90 1 1 0 0 1) (after_events (at 90 1 1 0 0 1) 1
              (at_choice (asks_for_time 118))) 2 refl refl (attempts F_TIME) Ran refl (tt, one-second) refl),
          (
            omega arith,
            Ran,
            (event-is (at 90 1 1 0 0 1) (after_events (at 90 1 1 0 0 1) 2
                (at_choice (asks_for_time 118))) 2 refl refl executes Ran refl tt refl),
            (refl, refl),
          ),
        ),
      ),
    ),
  );
  chosen = refl;
  does = refl;
}

pub returns-clause-two_seconds : goal.returns-clause-two_seconds
unfolding step_of window reading row outcome_of effect_of base_page ten_page
returns-clause-two_seconds c = record {
  shows = two-seconds;
  slice = (
    _,
    _,
    (_, refl, refl),
    refl,
    (
      refl,
      (
        omega arith,
        Ran,
        (event-is (at 90 1 1 0 0 2) (at_choice (asks_for_time 119)) 2 refl refl executes Ran
            refl tt refl),
        (
          omega arith,
          Ran,
          (event-is (at 90 1 1 0 0 2) (after_events (at 90 1 1 0 0 2) 1
              (at_choice (asks_for_time 119))) 2 refl refl (attempts F_TIME) Ran refl (tt, two-seconds) refl),
          (
            omega arith,
            Ran,
            (event-is (at 90 1 1 0 0 2) (after_events (at 90 1 1 0 0 2) 2
                (at_choice (asks_for_time 119))) 2 refl refl executes Ran refl tt refl),
            (refl, refl),
          ),
        ),
      ),
    ),
  );
  chosen = refl;
  does = refl;
}

pub returns-clause-packet : goal.returns-clause-packet
unfolding step_of window reading row outcome_of effect_of base_page ten_page
returns-clause-packet c = refl

pub returns-clause-carry : goal.returns-clause-carry
unfolding step_of window reading row outcome_of effect_of base_page ten_page
returns-clause-carry c = refl
