use Rattle.os9_debug.proofs.Printing.{shows-one}
use Rattle.os9_debug.proofs.session_laws.a_session_shows_the_one_course.Goals as goal

pub returns : goal.returns
returns c = λ machine commands before after can call bare unfailed rise. shows-one (tt {0}) machine commands before after can call bare unfailed rise
