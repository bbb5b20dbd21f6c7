use Rattle.std.proofs.Common.{◌∙◌, ap, sym, slice_index_or}
use Rattle.file_rules.specs.Files.{no_directories}
use Rattle.file_state.specs.Opened.{directory_in}
use Rattle.file_state.proofs.StateLemmas.{has-directories}
use Rattle.file_state.proofs.state.FileState.directory.Goals as goal

pub returns-clause-there : goal.returns-clause-there
returns-clause-there c views files stands kinds =
    has-directories c.args.self.now views files c.args.p.0 c.args.execute c.chosen.result stands kinds
    (c.chosen.ensures ∙ sym (ap (λ all. directory_in (slice_index_or all c.args.p.0 no_directories) c.args.execute) stands.directories))
