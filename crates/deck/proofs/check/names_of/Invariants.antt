use Rattle.std.proofs.Common.{◌≡◌, length}
use Rattle.deck.specs.Rules.{names}
use Rattle.deck.proofs.check.names_of.Given as goal

abbrev pub invariant-loop-k : goal.invariant-loop-k
invariant-loop-k l = (length l.names.items ≡ l.k) × (l.names.items ≡ names l.k l.declarations)
