use Rattle.std.proofs.Common.{◌≡◌, ◌∙◌, Option, Some, IfSome, subst, sym}
use Rattle.io_model.specs.Io.{open_path}
use Rattle.file_state.specs.Opened.{IsPathOf, NumberNamesFile, path_of}
use Rattle.file_state.specs.declared.state.OpenFile.{OpenFile}
use Rattle.file_state.proofs.OpenedLemmas.{names-path, no-file, open-desc, path-named, path-opened}
use Rattle.file_state.proofs.state.FileState.open_file.Goals as goal

pub returns-in-Some-clause-file : goal.returns-in-Some-clause-file
returns-in-Some-clause-file c views files stands kinds =
    subst (λ (o : Option OpenFile). NumberNamesFile c.args.self.now views files c.args.p.0 c.args.n o) (sym c.opened_on.ensures)
    (names-path c.args.self.now views files c.args.p.0 c.args.n stands kinds c.in-Some.path c.in-Some.desc c.in-Some.ensures.path)

pub returns-in-Some-clause-path : goal.returns-in-Some-clause-path
returns-in-Some-clause-path c =
    subst (λ (o : Option OpenFile). IfSome o (IsPathOf c.args.self.now.io)) (sym c.opened_on.ensures)
    (path-opened c.args.self.now.io c.in-Some.path c.in-Some.desc c.in-Some.desc.target (open-desc c.args.self.now.io
    c.args.p.0 c.args.n c.in-Some.path c.in-Some.desc (sym c.in-Some.ensures.path)) c.in-Some.ensures.low)

pub returns-in-Some-clause-none : goal.returns-in-Some-clause-none
returns-in-Some-clause-none c none =
    no-file c.args.self.now.io c.args.p.0 c.args.n c.in-Some.path c.in-Some.desc c.in-Some.ensures.path (sym c.opened_on.ensures ∙ none)

pub returns-in-Some-clause-named : goal.returns-in-Some-clause-named
returns-in-Some-clause-named c =
    subst (λ (o : Option OpenFile). IfSome o (λ file. open_path c.args.self.now.io c.args.p.0 c.args.n ≡ Some (path_of file))) (sym c.opened_on.ensures)
    (path-named c.args.self.now.io c.args.p.0 c.args.n c.in-Some.path c.in-Some.desc c.in-Some.desc.target c.in-Some.ensures.path)
