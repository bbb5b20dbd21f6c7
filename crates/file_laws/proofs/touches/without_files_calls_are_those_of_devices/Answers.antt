use Rattle.file_laws.proofs.Bare.{bare-back}
use Rattle.file_laws.proofs.OfAttempts.{bare-of}
use Rattle.file_laws.proofs.touches.without_files_calls_are_those_of_devices.Goals as goal

pub returns : goal.returns
returns c = record {
  attempt = bare-of;
  back = λ call device m files now p result io before after bare is it. bare-back call device m files now p result is io before after bare it;
}
