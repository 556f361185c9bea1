use Rattle.std.proofs.Common.{refl, arith}
use Rattle.player.proofs.Moves.{stop_while, past_while, into_while}
use Rattle.player.proofs.player.Player.turn.Goals as goal

pub amount_at-requires : goal.amount_at-requires
amount_at-requires g c = λ e. let p = (c.requires.comes.body c.args.test c.args.body c.requires.is).0 in omega arith

pub again-requires : goal.again-requires
again-requires g c =
    let p = c.requires.comes.body c.args.test c.args.body c.requires.is in
    record { under = record { ready = c.requires.ready; fits = c.requires.comes.again }; deep = p.1; inner = p.2 }

pub returns-in-Err : goal.returns-in-Err
returns-in-Err g c =
    record { deck = c.stop.ensures.deck; capacity = refl; slots = refl; state = stop_while c.args.self.now.course c.requires.ready c.args.coming c.requires.comes (g.S.Shelf.capacity c.args.self.now.shelf) (g.S.Shelf.values c.args.self.now.shelf) c.args.test c.args.body c.requires.is c.stop.new.self _ c.in-Err.ensures c.stop.ensures.todo c.stop.ensures.status }

pub returns-then-x-eq0 : goal.returns-then-x-eq0
returns-then-x-eq0 g c =
    record { deck = c.go_on.ensures.deck; capacity = refl; slots = refl; state = past_while c.args.self.now.course c.requires.ready c.args.coming c.requires.comes (g.S.Shelf.capacity c.args.self.now.shelf) (g.S.Shelf.values c.args.self.now.shelf) c.args.test c.args.body c.requires.is c.go_on.new.self c.in-Ok.x c.in-Ok.ensures c.if-x-eq0.true c.go_on.ensures }

pub returns-else-x-eq0 : goal.returns-else-x-eq0
returns-else-x-eq0 g c =
    record { deck = c.again.ensures.deck; capacity = refl; slots = refl; state = into_while c.args.self.now.course c.requires.ready c.args.coming c.requires.comes (g.S.Shelf.capacity c.args.self.now.shelf) (g.S.Shelf.values c.args.self.now.shelf) c.args.test c.args.body c.requires.is c.again.new.self c.in-Ok.x c.in-Ok.ensures c.if-x-eq0.false c.again.ensures }
