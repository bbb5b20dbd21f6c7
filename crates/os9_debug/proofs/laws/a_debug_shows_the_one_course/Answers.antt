use Rattle.os9_debug.proofs.OneCourse.{shows-one}
use Rattle.os9_debug.proofs.laws.a_debug_shows_the_one_course.Goals as goal

pub returns : goal.returns
returns c = shows-one
