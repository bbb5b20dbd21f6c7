use Rattle.os9_boot.proofs.ByStatus.{writes-by-status}
use Rattle.os9_boot.proofs.laws.a_boot_writes_its_images_once.Goals as goal

pub returns : goal.returns
returns c = writes-by-status
