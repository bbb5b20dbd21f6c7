use Rattle.isolation_laws.proofs.DataAreas.{area-held}
use Rattle.isolation_laws.proofs.areas.a_program_begins_with_zeros_and_its_parameters.Goals as goal

pub returns : goal.returns
returns c = record { area = area-held }
