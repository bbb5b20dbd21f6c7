-- The files of the kernel stand for those of the machine where a process ends whose call was broken off.
use Rattle.std.proofs.Common.{◌≡◌, ℕ, None, ap, ◌∙◌}
use Rattle.io_model.specs.Io.{Io}
use Rattle.io_model.specs.Processes.{io_ended}
use Rattle.lock_model.specs.Records.{Records, with_waiting}
use Rattle.file_rules.specs.Files.{Files, no_directories, with_directories_of, with_io, with_records}
use Rattle.file_rules.specs.Locking.{files_interrupted}
use Rattle.file_rules.specs.Processes.{files_ended, without_locks_of}
use Rattle.file_laws.proofs.Requests.{forgets-again}
use Rattle.os9_kernel.proofs.Ending.{ended-interrupted}

-- the end of a process whose call was broken off is its end
pub ended-so : (files : Files) (p : ℕ) → files_ended (files_interrupted files p) p ≡ files_ended files p
ended-so files p =
    let left : Io → Records → Files = λ io records. with_directories_of (without_locks_of (with_records (with_io files io) records) p) p no_directories in
    ap (λ (io : Io). left io (with_waiting (with_waiting files.records p None) p None)) (ended-interrupted files.io p)
    ∙ ap (left (io_ended files.io p)) (forgets-again p files.records)
