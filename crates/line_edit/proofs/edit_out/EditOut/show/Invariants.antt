use Rattle.std.proofs.Common.{◌≡◌, ◌+◌, ◌++◌, take, map}
use Rattle.io_model.specs.Edit.{screen_byte}
use Rattle.line_edit.specs.Echo.{echoed}
use Rattle.line_edit.proofs.edit_out.EditOut.show.Given as goal

abbrev pub invariant-loop-byte : goal.invariant-loop-byte
invariant-loop-byte l = record {
  put : echoed l.self ≡ echoed l.fn.self ++ map screen_byte (take l.byte-index l.bytes);
  len : l.self.echo_len ≡ l.fn.self.echo_len + l.byte-index;
  end : l.self.end ≡ l.fn.self.end;
}
