use Rattle.call_laws.proofs.Refusing.{changes-nothing, ends-so, fails-so}
use Rattle.call_laws.proofs.refusals.refusals_change_nothing.Goals as goal

pub returns-clause-input_and_output : goal.returns-clause-input_and_output
returns-clause-input_and_output c = changes-nothing

pub returns-clause-end_of_file : goal.returns-clause-end_of_file
returns-clause-end_of_file c = ends-so

pub returns-clause-write_error : goal.returns-clause-write_error
returns-clause-write_error c = fails-so
