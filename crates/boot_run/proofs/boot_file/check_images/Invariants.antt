-- The images below the number are well formed.
use Rattle.std.proofs.Common.{◌≤◌, length, take, All}
use Rattle.boot_run.specs.BootFile.{IsVolume}
use Rattle.boot_run.proofs.boot_file.check_images.Given as goal

abbrev pub invariant-loop-number : goal.invariant-loop-number
invariant-loop-number l = record {
  within : l.number ≤ length l.images;
  volumes : All IsVolume (take l.number l.images);
}
