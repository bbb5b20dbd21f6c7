use Rattle.std.proofs.Common.{refl, arith}
use Rattle.proc_model.specs.Ready.{executes}
use Rattle.cpu_model.specs.BasePage.{base_page}
use Rattle.cpu_model.specs.TenPage.{ten_page}
use Rattle.cpu_model.specs.Reading.{reading}
use Rattle.cpu_model.specs.Step.{window, effect_of, outcome_of, step_of}
use Rattle.cpu_model.specs.Table.{row}
use Rattle.machine_model.specs.declared.ends.EventEnd.TheVariants.{Ran}
use Rattle.machine_model.specs.SliceRows.{after_slice, at_choice, at_start, two_running}
use Rattle.machine_model.proofs.RowEvents.{event-is}
use Rattle.machine_model.proofs.Times.{first-second}
use Rattle.machine_model.proofs.slice_rows.equals_are_chosen_in_turns.Goals as goal

pub returns-clause-first : goal.returns-clause-first
unfolding step_of window reading row outcome_of effect_of base_page ten_page
returns-clause-first c = record {
  shows = first-second 11 refl;
  slice = (_, _, (_, refl, refl), refl, (refl, (omega arith, Ran, (event-is at_start (at_choice two_running) 2 refl refl executes Ran refl tt refl), (refl, refl))));
  chosen = refl;
  does = refl;
}

pub returns-clause-second : goal.returns-clause-second
unfolding step_of window reading row outcome_of effect_of base_page ten_page
returns-clause-second c = record {
  shows = first-second 12 refl;
  slice = (_, _, (_, refl, refl), refl, (refl, (omega arith, Ran, (event-is at_start (at_choice (after_slice at_start 1 two_running)) 3 refl refl executes Ran refl tt refl), (refl, refl))));
  chosen = refl;
  does = refl;
}

pub returns-clause-first_again : goal.returns-clause-first_again
unfolding step_of window reading row outcome_of effect_of base_page ten_page
returns-clause-first_again c = record {
  shows = first-second 13 refl;
  slice = (
    _,
    _,
    (_, refl, refl),
    refl,
    (
      refl,
      (
        omega arith,
        Ran,
        (event-is at_start (at_choice (after_slice at_start 1 (after_slice at_start 1 two_running))) 2 refl refl
            executes Ran refl tt refl),
        (refl, refl),
      ),
    ),
  );
  chosen = refl;
  does = refl;
}
