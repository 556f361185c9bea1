use Rattle.std.proofs.Common.{◌≡◌, take}
use Rattle.nodes.specs.Nodes.{kinds}
use Rattle.deck.specs.Sheets.{sheet_of}
use Rattle.player.proofs.open.declared.Given as goal

abbrev pub invariant-loop-node : goal.invariant-loop-node
invariant-loop-node l = l.kinds.items ≡ take l.node-index (kinds (sheet_of l.deck))
