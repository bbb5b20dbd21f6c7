use Rattle.std.proofs.Common.{refl, arith}
use Rattle.os9_base.specs.declared.calls.TheConstants.{F_ID}
use Rattle.proc_model.specs.Ready.{attempts, delivers, executes}
use Rattle.cpu_model.specs.BasePage.{base_page}
use Rattle.cpu_model.specs.TenPage.{ten_page}
use Rattle.cpu_model.specs.Reading.{reading}
use Rattle.cpu_model.specs.Step.{window, effect_of, outcome_of, step_of}
use Rattle.cpu_model.specs.Table.{row}
use Rattle.machine_model.specs.declared.ends.EventEnd.TheVariants.{Ran}
use Rattle.machine_model.specs.SliceRows.{after_events, at_choice, at_start, signalled_in_call}
use Rattle.machine_model.proofs.RowEvents.{event-is}
use Rattle.machine_model.proofs.Times.{first-second}
use Rattle.machine_model.proofs.slice_rows.a_signal_is_delivered_after_the_first_attempt.Goals as goal

pub returns : goal.returns
unfolding step_of window reading row outcome_of effect_of base_page ten_page
returns c = record {
  shows = first-second 11 refl;
  slice = (
    _,
    _,
    (_, refl, refl),
    refl,
    (
      refl,
      (
        omega arith,
        Ran,
        (event-is at_start (at_choice signalled_in_call) 2 refl refl (attempts F_ID) Ran refl
            (tt, first-second 11 refl) refl),
        (
          omega arith,
          Ran,
          (event-is at_start (after_events at_start 1 (at_choice signalled_in_call)) 2 refl refl
              (delivers 7) Ran refl tt refl),
          (
            omega arith,
            Ran,
            (event-is at_start (after_events at_start 2 (at_choice signalled_in_call)) 2 refl refl
                executes Ran refl tt refl),
            (refl, refl),
          ),
        ),
      ),
    ),
  );
  chosen = refl;
  does = refl;
}
