-- The images below the place are read.
use Rattle.std.proofs.Common.{◌≡◌, ◌≤◌, length, take}
use Rattle.std.specs.Prelude.{IfSome}
use Rattle.os9_kernel.specs.Outside.{Outside}
use Rattle.os9_words.specs.Notes.{HasReadFiles, notes_of}
use Rattle.boot_run.specs.Images.{images_of}
use Rattle.boot_run.specs.World.{world_of}
use Rattle.boot_run.proofs.files.read_images.Given as goal

abbrev pub invariant-loop-place : goal.invariant-loop-place
invariant-loop-place g l = record {
  within : l.place ≤ length l.run.files;
  count : length l.images ≡ l.place;
  contents : IfSome (g.H.Host.file_map l.initial.host) (λ files. l.images ≡ images_of files (take l.place l.run.files));
  kept : (devices : Outside) → world_of g.H.Host l.host devices ≡ world_of g.H.Host l.initial.host devices;
  notes : HasReadFiles (take l.place l.run.files) (notes_of g.H.Host l.initial.host) (notes_of g.H.Host l.host);
}
