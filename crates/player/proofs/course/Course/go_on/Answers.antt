use Rattle.std.proofs.Common.{refl}
use Rattle.player.proofs.Stack.{some, put_lands}
use Rattle.player.proofs.course.Course.go_on.Goals as goal

pub replace-requires : goal.replace-requires
replace-requires c = some c.args.self.now c.requires.ready

pub invariant_of-self : goal.invariant_of-self
invariant_of-self c =
    let p = put_lands c.args.self.now c.requires.ready c.args.rest c.requires.fits _ refl _ c.replace.ensures _ _ c.settle-self.ensures in
    record { deep = p.deep; stacked = p.stacked; front = p.front }

pub returns : goal.returns
returns c =
    let p = put_lands c.args.self.now c.requires.ready c.args.rest c.requires.fits _ refl _ c.replace.ensures _ _ c.settle-self.ensures in
    record { deck = refl; todo = p.todo_is; status = p.status_is }
