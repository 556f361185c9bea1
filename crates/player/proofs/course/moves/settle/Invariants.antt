use Rattle.std.proofs.Common.{length}
use Rattle.deck.specs.Sheets.{sheet_of}
use Rattle.player.proofs.Stack.{Settling}
use Rattle.player.proofs.course.moves.settle.Given as goal

abbrev pub invariant-loop-front : goal.invariant-loop-front
invariant-loop-front l = Settling (sheet_of l.deck) l.initial.todo.items l.todo.items

abbrev pub decreases-loop-front : goal.decreases-loop-front
decreases-loop-front l = length l.todo.items
