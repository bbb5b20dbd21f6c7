-- A text of name characters is its own run of them.
use Rattle.std.proofs.Common.{sym}
use Rattle.vol_tools.proofs.Texts.{name_is, no_name}
use Rattle.vol_tools.proofs.name.name_of.Goals as goal

pub returns-in-Ok : goal.returns-in-Ok
returns-in-Ok c = let read = name_is c.args.text.now c.in-Ok.name (sym c.if-not-has_name_characters.ensures) c.in-Ok.ensures in record { is = read.0; named = read.1 }

pub returns-in-Err : goal.returns-in-Err
returns-in-Err c = no_name c.args.text.now (sym c.if-not-has_name_characters.ensures) c.in-Err.ensures
