use Rattle.file_laws.proofs.Starts.{kinds-interrupted, kinds-mounted, kinds-same}
use Rattle.file_laws.proofs.places.mounts_and_interruptions_keep_what_is_there.Goals as goal

pub returns : goal.returns
returns c = record {
  same = kinds-same;
  interrupted = kinds-interrupted;
  mounted = λ files drive image v kinds empty vol. kinds-mounted files kinds drive image v empty vol;
}
