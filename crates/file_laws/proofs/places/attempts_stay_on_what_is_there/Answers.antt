use Rattle.file_laws.proofs.Attempts.{asked-stands, attempt-stands}
use Rattle.file_laws.proofs.places.attempts_stay_on_what_is_there.Goals as goal

pub returns : goal.returns
returns c = record {
  attempt = λ call m files now p result new before after it kinds. (attempt-stands call m files now p result new before after it kinds).kinds;
  asked = λ call asker files end regs cells new before after it kinds. (asked-stands call asker files end regs cells new before after it kinds).kinds;
}
