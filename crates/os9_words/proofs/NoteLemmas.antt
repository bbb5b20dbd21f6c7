-- What a host notes where it wrote to its output stream, or noted nothing.
use Rattle.std.proofs.Common.{◌≡◌, List, ℕ}
use Rattle.std.specs.Prelude.{Result}
use Rattle.os9_outer.specs.declared.host.Host.{Ghosts}
use Rattle.os9_outer.specs.declared.host.HostFault.{HostFault}
use Rattle.os9_words.specs.Notes.{notes_of}
use Rattle.os9_words.specs.Streams.{WritesOut}

pub notes-kept : {Host Value : Type 0} (members : Ghosts Host) (text : List ℕ) (answer : Result Value HostFault)
    (before now : Host) → WritesOut members text answer before now → notes_of members now ≡ notes_of members before
notes-kept members text answer before now wrote = λ i. record {
  read = wrote.reads_kept i;
  written = wrote.writes_kept i;
  err = wrote.err_kept i;
  err_faults = wrote.err_count_kept i;
}
