use Rattle.std.proofs.Common.{refl}
use Rattle.player.proofs.Stack.{first_lands}
use Rattle.player.proofs.course.Course.restart.Goals as goal

pub invariant_of-self : goal.invariant_of-self
invariant_of-self c =
    let p = first_lands c.args.self.now.deck _ _ _ _ _ c.clear.ensures c.push.ensures.items c.last_node.ensures c.settle-self.ensures in
    record { deep = p.deep; stacked = p.stacked; front = p.front }

pub returns : goal.returns
returns c =
    let p = first_lands c.args.self.now.deck _ _ _ _ _ c.clear.ensures c.push.ensures.items c.last_node.ensures c.settle-self.ensures in
    record { deck = refl; todo = p.todo_is; status = p.status_is }
