use Rattle.std.proofs.Common.{◌≡◌, ◌+◌, ◌*◌, ◌++◌, take}
use Rattle.io_model.specs.Edit.{rubouts}
use Rattle.line_edit.specs.Echo.{echoed}
use Rattle.line_edit.proofs.edit_out.EditOut.rub_out.Given as goal

abbrev pub invariant-loop : goal.invariant-loop
invariant-loop l = record {
  put : echoed l.self ≡ echoed l.fn.self ++ rubouts (take l.index l.bytes);
  len : l.self.echo_len ≡ l.fn.self.echo_len + 3 * l.index;
  end : l.self.end ≡ l.fn.self.end;
}
