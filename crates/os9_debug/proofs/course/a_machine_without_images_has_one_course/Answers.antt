use Rattle.os9_debug.proofs.Courses.{course-one, course-some}
use Rattle.os9_debug.proofs.course.a_machine_without_images_has_one_course.Goals as goal

pub returns : goal.returns
returns c = record { one = course-one; some = course-some }
