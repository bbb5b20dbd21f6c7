-- What a key does, as an `EditOut` has it.
use Rattle.std.specs.Prelude.{◌≡◌, ℕ, ◌≤◌, List, take}
use Rattle.io_model.specs.Edit.{Editing, Edited}
use Rattle.line_edit.specs.declared.edit_out.EditOut.{EditOut}

-- the bytes that are put
abbrev pub echoed : EditOut → List ℕ
echoed out = take out.echo_len out.echo

-- the line and the result are what the key makes of a line
pub record IsEditResult (key : Edited) (line : Editing) (out : EditOut) : Type 0 where
  pub line_is : line ≡ key.line
  pub echo_is : echoed out ≡ key.echo
  pub end_is : out.end ≡ key.end
  pub fits : out.echo_len ≤ 1024
