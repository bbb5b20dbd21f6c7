use Rattle.std.proofs.Common.{◌==◌, slice_set, ap, sym, subst}
use Rattle.lock_model.specs.Records.{Records, ends_locks_below}
use Rattle.lock_model.specs.declared.lock.TheConstants.{PATH_PLACES}
use Rattle.file_rules.specs.Files.{no_directories}
use Rattle.file_rules.specs.Locking.{lock_ends}
use Rattle.file_rules.specs.Processes.{files_ended}
use Rattle.file_state.proofs.StateLemmas.{stands-ended}
use Rattle.file_state.specs.Tie.{RepresentsFiles}
use Rattle.file_state.specs.declared.state.FileState.{FileState}
use Rattle.file_state.proofs.state.FileState.end.Goals as goal

pub returns : goal.returns
returns c views files stands =
    let p = c.args.p.0 in
    let ended : Records → Records = ends_locks_below (lock_ends c.end.new.self.paths (λ owner. owner == p)) PATH_PLACES in
    subst (λ (it : FileState). RepresentsFiles (record it { directories = slice_set it.directories p no_directories }) views (files_ended files p)) (sym c.end_locks_of.ensures)
    (stands-ended c.args.self.now views files p c.end.new.self (ended c.cancel.new.self) c.end.ensures (ap ended c.cancel.ensures) stands)
