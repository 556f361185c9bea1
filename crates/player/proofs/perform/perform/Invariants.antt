use Rattle.deck.specs.Sheets.{sheet_of}
use Rattle.player.specs.Of.{state_of, deck_of, enough, GoesTo}
use Rattle.player.proofs.Performing.{Performing}
use Rattle.player.proofs.perform.perform.Given as goal

abbrev pub invariant-loop-i : goal.invariant-loop-i
invariant-loop-i g l =
    GoesTo g.S.Shelf l.initial.player l.player (state_of g.S.Shelf.values l.player)
    × Performing (enough g.S.Shelf (deck_of l.initial.player) l.initial.player.shelf) (sheet_of (deck_of l.initial.player)) (g.S.Shelf.capacity l.initial.player.shelf)
    l.calls l.i (state_of g.S.Shelf.values l.initial.player) (state_of g.S.Shelf.values l.player) l.initial.answers l.answers
