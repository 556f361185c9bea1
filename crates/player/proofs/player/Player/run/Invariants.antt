use Rattle.deck.specs.Sheets.{sheet_of}
use Rattle.semantics.proofs.Runs.{Playing}
use Rattle.player.specs.Of.{state_of, deck_of, GoesTo}
use Rattle.player.proofs.player.Player.run.Given as goal

abbrev pub invariant-loop-made : goal.invariant-loop-made
invariant-loop-made g l =
    GoesTo g.S.Shelf l.initial.self l.self (state_of g.S.Shelf.values l.self)
    × Playing (sheet_of (deck_of l.initial.self)) (g.S.Shelf.capacity l.initial.self.shelf) l.grant l.made (state_of g.S.Shelf.values l.initial.self) (state_of g.S.Shelf.values l.self)
