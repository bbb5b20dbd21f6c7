use Rattle.std.proofs.Common.{refl, arith}
use Rattle.os9_base.specs.declared.calls.TheConstants.{F_ID}
use Rattle.proc_model.specs.Ready.{attempts, executes}
use Rattle.cpu_model.specs.BasePage.{base_page}
use Rattle.cpu_model.specs.TenPage.{ten_page}
use Rattle.cpu_model.specs.Reading.{reading}
use Rattle.cpu_model.specs.Step.{window, effect_of, outcome_of, step_of}
use Rattle.cpu_model.specs.Table.{row}
use Rattle.machine_model.specs.declared.ends.EventEnd.TheVariants.{Ran}
use Rattle.machine_model.specs.SliceRows.{after_events, after_slice, asks_for_id, at_choice, at_start}
use Rattle.machine_model.proofs.RowEvents.{event-is}
use Rattle.machine_model.proofs.Times.{first-second}
use Rattle.machine_model.proofs.slice_rows.a_call_is_attempted_after_its_instruction.Goals as goal

pub returns-clause-last : goal.returns-clause-last
unfolding step_of window reading row outcome_of effect_of base_page ten_page
returns-clause-last c = record {
  shows = first-second 11 refl;
  slice = (
    _,
    _,
    (_, refl, refl),
    refl,
    (
      refl,
      (
        omega arith,
        Ran,
        (event-is at_start (at_choice asks_for_id) 2 refl refl executes Ran refl tt refl),
        (
          omega arith,
          Ran,
          (event-is at_start (after_events at_start 1 (at_choice asks_for_id)) 2 refl refl executes Ran
              refl tt refl),
          (refl, refl),
        ),
      ),
    ),
  );
  chosen = refl;
  does = refl;
}

pub returns-clause-next : goal.returns-clause-next
unfolding step_of window reading row outcome_of effect_of base_page ten_page
returns-clause-next c = record {
  shows = first-second 12 refl;
  slice = (
    _,
    _,
    (_, refl, refl),
    refl,
    (
      refl,
      (
        omega arith,
        Ran,
        (event-is at_start (at_choice (after_slice at_start 2 asks_for_id)) 2 refl refl
            (attempts F_ID) Ran refl (tt, first-second 12 refl) refl),
        (
          omega arith,
          Ran,
          (event-is at_start (after_events at_start 1 (at_choice (after_slice at_start 2 asks_for_id)))
              2 refl refl executes Ran refl tt refl),
          (refl, refl),
        ),
      ),
    ),
  );
  chosen = refl;
  does = refl;
}

pub returns-clause-within : goal.returns-clause-within
unfolding step_of window reading row outcome_of effect_of base_page ten_page
returns-clause-within c = record {
  shows = first-second 11 refl;
  slice = (
    _,
    _,
    (_, refl, refl),
    refl,
    (
      refl,
      (
        omega arith,
        Ran,
        (event-is at_start (at_choice asks_for_id) 2 refl refl executes Ran refl tt refl),
        (
          omega arith,
          Ran,
          (event-is at_start (after_events at_start 1 (at_choice asks_for_id)) 2 refl refl executes Ran
              refl tt refl),
          (
            omega arith,
            Ran,
            (event-is at_start (after_events at_start 2 (at_choice asks_for_id)) 2 refl
                refl (attempts F_ID) Ran refl (tt, first-second 11 refl) refl),
            (
              omega arith,
              Ran,
              (event-is at_start (after_events at_start 3 (at_choice asks_for_id)) 2 refl refl executes Ran
                  refl tt refl),
              (refl, refl),
            ),
          ),
        ),
      ),
    ),
  );
  chosen = refl;
  does = refl;
}
