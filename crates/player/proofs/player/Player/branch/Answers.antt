use Rattle.std.proofs.Common.{refl, arith}
use Rattle.deck.specs.Sheets.{sheet_of}
use Rattle.player.proofs.Moves.{branch_reaches, stop_if, go_if}
use Rattle.player.proofs.player.Player.branch.Goals as goal

pub amount_at-requires : goal.amount_at-requires
amount_at-requires g c = λ e. let p = (c.requires.comes.branches c.args.test c.args.then c.args.otherwise c.requires.is).0 in omega arith

pub enter-requires : goal.enter-requires
enter-requires g c =
    let p = c.requires.comes.branches c.args.test c.args.then c.args.otherwise c.requires.is in
    record { under = record { ready = c.requires.ready; fits = c.requires.comes.rest }; deep = p.1; inner = branch_reaches (sheet_of c.args.self.now.course.deck) c.in-Ok.x c.args.then c.args.otherwise c.chosen.result _ c.chosen.ensures p.2 p.3 }

pub returns-in-Err : goal.returns-in-Err
returns-in-Err g c =
    record { deck = c.stop.ensures.deck; capacity = refl; slots = refl; state = stop_if c.args.self.now.course c.requires.ready c.args.coming c.requires.comes (g.S.Shelf.capacity c.args.self.now.shelf) (g.S.Shelf.values c.args.self.now.shelf) c.args.test c.args.then c.args.otherwise c.requires.is c.stop.new.self _ c.in-Err.ensures c.stop.ensures.todo c.stop.ensures.status }

pub returns-in-Ok : goal.returns-in-Ok
returns-in-Ok g c =
    record { deck = c.enter.ensures.deck; capacity = refl; slots = refl; state = go_if c.args.self.now.course c.requires.ready c.args.coming c.requires.comes (g.S.Shelf.capacity c.args.self.now.shelf) (g.S.Shelf.values c.args.self.now.shelf) c.args.test c.args.then c.args.otherwise c.requires.is c.enter.new.self c.in-Ok.x c.chosen.result c.in-Ok.ensures c.chosen.ensures c.enter.ensures }
