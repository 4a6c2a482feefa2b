-- `event_walk::Course::start_heads` meets its contract.
use Rattle.event_walk.specs.Course.{course_of}
use Rattle.event_walk.proofs.Starts.{started, started_within}
use Rattle.event_walk.proofs.Course.start_heads.Goals as goal

pub returns : goal.returns
unfolding course_of
returns c = record {
  is = started c.args.self.now.walkable c.sample-first.result c.sample-first.ensures _ _ c.first_beyond.ensures c.first_beyond-2.ensures;
  within = started_within c.args.self.now.walkable c.sample-first.result c.sample-first.ensures _ _ c.first_beyond.ensures c.first_beyond-2.ensures;
}
