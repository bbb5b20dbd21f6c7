-- No image below the place has the name.
use Rattle.std.proofs.Common.{◌≡◌, ◌≤◌, false, length, take, bytes_eq}
use Rattle.std.specs.List.{list_any}
use Rattle.os9_console.proofs.words.is_image.Given as goal

abbrev pub invariant-loop-place : goal.invariant-loop-place
invariant-loop-place l = record {
  within : l.place ≤ length l.boot.files;
  none : list_any (bytes_eq l.name) (take l.place l.boot.files) ≡ false;
}
