use Rattle.file_laws.proofs.TouchNamed.{create-leads, open-leads}
use Rattle.file_laws.proofs.touches.lists_lead_to_the_same_devices.Goals as goal

pub returns : goal.returns
returns c = record { opened = open-leads; created = create-leads }
