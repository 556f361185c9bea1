use Rattle.std.proofs.Common.{refl, ap}
use Rattle.player.proofs.Moves.{stop_assign, go_assign, crowd_assign}
use Rattle.player.proofs.player.Player.assign.Goals as goal

pub returns-in-Err : goal.returns-in-Err
returns-in-Err g c =
    record { deck = c.stop.ensures.deck; capacity = refl; slots = refl; state = stop_assign c.args.self.now.course c.requires.ready c.args.coming c.requires.comes (g.S.Shelf.capacity c.args.self.now.shelf) (g.S.Shelf.values c.args.self.now.shelf) c.args.target c.args.value c.requires.is c.stop.new.self _ c.evaluate.new.line c.in-Err.ensures c.stop.ensures.todo c.stop.ensures.status }

pub returns-in-Ok-store : goal.returns-in-Ok-store
returns-in-Ok-store g c =
    record {
      deck = c.go_on.ensures.deck;
      capacity = c.store.ensures.capacity_stays;
      slots = c.store.ensures.slots_stay;
      state = go_assign c.args.self.now.course c.requires.ready c.args.coming c.requires.comes (g.S.Shelf.capacity c.args.self.now.shelf) (g.S.Shelf.values c.args.self.now.shelf) c.args.target c.args.value c.requires.is _ (ap (λ x. x.c) c.node_at-to.ensures) c.in-Ok.value c.evaluate.new.line c.in-Ok.ensures c.go_on.new.self _ c.store.ensures.list _ c.in-Ok-store.ensures.answer c.go_on.ensures;
    }

pub returns-in-Err-store : goal.returns-in-Err-store
returns-in-Err-store g c =
    record {
      deck = c.stop-in-Err-store.ensures.deck;
      capacity = c.store.ensures.capacity_stays;
      slots = c.store.ensures.slots_stay;
      state = crowd_assign c.args.self.now.course c.requires.ready c.args.coming c.requires.comes (g.S.Shelf.capacity c.args.self.now.shelf) (g.S.Shelf.values c.args.self.now.shelf) c.args.target c.args.value c.requires.is _ (ap (λ x. x.c) c.node_at-to.ensures) c.in-Ok.value c.evaluate.new.line c.in-Ok.ensures c.stop-in-Err-store.new.self _ c.store.ensures.list c.in-Err-store.why c.in-Err-store.ensures.answer c.stop-in-Err-store.ensures.todo c.stop-in-Err-store.ensures.status;
    }
