use Rattle.os9_boot.proofs.DebugLaws.{failed-if-told, failed-by-status}
use Rattle.os9_boot.proofs.laws.a_terminal_is_told_only_if_it_failed.Goals as goal

pub returns : goal.returns
returns c = record { end = failed-if-told; status = failed-by-status }
