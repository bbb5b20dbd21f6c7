use Rattle.std.proofs.Common.{refl, arith}
use Rattle.proc_model.specs.Ready.{executes}
use Rattle.cpu_model.specs.BasePage.{base_page}
use Rattle.cpu_model.specs.Places.{byte_operand, place_of}
use Rattle.cpu_model.specs.Reading.{reading}
use Rattle.cpu_model.specs.Step.{window, effect_of, outcome_of, step_of}
use Rattle.cpu_model.specs.Table.{row}
use Rattle.machine_model.specs.declared.ends.EventEnd.TheVariants.{Ended}
use Rattle.machine_model.specs.SliceRows.{at_choice, at_start, loads_unnamed}
use Rattle.machine_model.proofs.RowEvents.{event-is}
use Rattle.machine_model.proofs.Times.{first-second}
use Rattle.machine_model.proofs.slice_rows.an_unnamed_slot_ends_the_process.Goals as goal

pub returns-clause-ends : goal.returns-clause-ends
unfolding step_of window reading row outcome_of effect_of base_page byte_operand place_of
returns-clause-ends c = record {
  shows = first-second 11 refl;
  slice = (_, _, (_, refl, refl), refl, (refl, (omega arith, Ended, (event-is at_start (at_choice loads_unnamed) 2 refl refl executes Ended refl tt refl), (refl, refl))));
  chosen = refl;
  does = refl;
}

pub returns-clause-status : goal.returns-clause-status
unfolding step_of window reading row outcome_of effect_of base_page byte_operand place_of
returns-clause-status c = refl
