use Rattle.std.proofs.Common.{◌∙◌, sym}
use Rattle.file_state.proofs.StateLemmas.{drops-gone, keeps-there, stands-closed}
use Rattle.file_state.proofs.state.FileState.close_file.Goals as goal

pub returns-then-not-is_there : goal.returns-then-not-is_there
returns-then-not-is_there c views files stands =
    stands-closed c.args.self.now views files c.args.p.0 c.args.n c.args.path.0 c.close.new.self c.drop_lock.new.self c.close.ensures
    (c.drop_lock.ensures ∙ drops-gone c.close.new.self c.args.path.0 c.args.self.now.records (sym c.is_there.ensures ∙ c.if-not-is_there.true)) stands

pub returns-else-not-is_there : goal.returns-else-not-is_there
returns-else-not-is_there c views files stands =
    stands-closed c.args.self.now views files c.args.p.0 c.args.n c.args.path.0 c.close.new.self c.args.self.now.records c.close.ensures
    (keeps-there c.close.new.self c.args.path.0 c.args.self.now.records (sym c.is_there.ensures ∙ c.if-not-is_there.false)) stands
