-- The course of the walking code, as the walk's definitions see it.
use Rattle.event_walk.specs.declared.Course.{Course as HeldCourse}
use Rattle.event_walk.specs.Course.{Course, course_of}

abbrev pub course_held : HeldCourse → Course
course_held c = course_of c.samples.now c.offsets.now c.movement
