-- The images below the number are written.
use Rattle.std.proofs.Common.{◌≡◌, ◌≤◌, length, take}
use Rattle.os9_outer.specs.Host.{IfObserved}
use Rattle.os9_words.specs.Notes.{HasWritten, notes_of}
use Rattle.boot_run.specs.World.{HasNoFault, world_of}
use Rattle.boot_run.proofs.ConsoleLemmas.{nowhere}
use Rattle.boot_run.proofs.ImageLemmas.{WritesFirst}
use Rattle.boot_run.proofs.write.write_images.Given as goal

abbrev pub invariant-loop-number : goal.invariant-loop-number
invariant-loop-number g l = record {
  within : l.number ≤ length l.images;
  files : IfObserved (WritesFirst l.number l.names l.images) (g.H.Host.file_map l.initial.host) (g.H.Host.file_map l.host);
  count : HasNoFault (world_of g.H.Host l.initial.host nowhere) (world_of g.H.Host l.host nowhere);
  out : g.H.Host.bytes_out l.host ≡ g.H.Host.bytes_out l.initial.host;
  notes : HasWritten (take l.number l.names) (notes_of g.H.Host l.initial.host) (notes_of g.H.Host l.host);
}
