use Rattle.player.proofs.Front.{comes_as}
use Rattle.player.proofs.course.Course.coming.Goals as goal

pub returns : goal.returns
returns c = comes_as c.args.self.now c.requires c.deref.result.now c.len.result c.deref.ensures.0 c.len.ensures.value c.node_at-series.result c.node_at-series.ensures c.view_at.result c.view_at.ensures
