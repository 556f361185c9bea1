use Rattle.std.proofs.Common.{refl}
use Rattle.player.proofs.Stack.{some, enter_lands}
use Rattle.player.proofs.course.Course.enter.Goals as goal

pub replace-requires : goal.replace-requires
replace-requires c = some c.args.self.now c.requires.under.ready

pub invariant_of-self : goal.invariant_of-self
invariant_of-self c =
    let p = enter_lands c.args.self.now c.requires.under.ready c.args.under c.requires.under.fits _ refl _ c.replace.ensures c.args.body c.requires.deep c.requires.inner _ _ _ c.push.ensures.items c.settle-self.ensures in
    record { deep = p.deep; stacked = p.stacked; front = p.front }

pub returns : goal.returns
returns c =
    let p = enter_lands c.args.self.now c.requires.under.ready c.args.under c.requires.under.fits _ refl _ c.replace.ensures c.args.body c.requires.deep c.requires.inner _ _ _ c.push.ensures.items c.settle-self.ensures in
    record { deck = refl; todo = p.todo_is; status = p.status_is }
