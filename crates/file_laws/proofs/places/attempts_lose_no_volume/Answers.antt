use Rattle.file_laws.proofs.Attempts.{asked-stands, attempt-stands}
use Rattle.file_laws.proofs.places.attempts_lose_no_volume.Goals as goal

pub returns : goal.returns
returns c = record {
  attempt = λ call m files now p result new before after it kinds. (attempt-stands call m files now p result new before after it kinds).many;
  asked = λ call asker files end regs cells new before after it kinds. (asked-stands call asker files end regs cells new before after it kinds).many;
}
