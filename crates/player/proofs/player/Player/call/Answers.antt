use Rattle.std.proofs.Common.{refl}
use Rattle.deck.specs.Sheets.{sheet_of}
use Rattle.semantics.proofs.Runs.{still_call, ended, stopped}
use Rattle.player.specs.Of.{state_of, deck_of}
use Rattle.player.proofs.player.Player.call.Goals as goal

pub returns-in-Ended-Play : goal.returns-in-Ended-Play
returns-in-Ended-Play g c =
    let p = still_call (sheet_of (deck_of c.args.self.now)) (g.S.Shelf.capacity c.args.self.now.shelf) _ c.args.call _ (state_of g.S.Shelf.values c.args.self.now) _ c.in-Ended-Play.is-1 c.in-Ended-Play.is-0 ended in
    record { goes = record { deck = refl; capacity = refl; slots = refl; state = p.0 }; says = p.1 }

pub returns-in-Stopped-Play : goal.returns-in-Stopped-Play
returns-in-Stopped-Play g c =
    let p = still_call (sheet_of (deck_of c.args.self.now)) (g.S.Shelf.capacity c.args.self.now.shelf) _ c.args.call _ (state_of g.S.Shelf.values c.args.self.now) _ c.in-Stopped-Play.is-1 c.in-Stopped-Play.is-0 stopped in
    record { goes = record { deck = refl; capacity = refl; slots = refl; state = p.0 }; says = p.1 }
