use Rattle.std.proofs.Common.{◌≡◌, ◌≤◌, drop}
use Rattle.words.specs.Words.{value}
use Rattle.words.proofs.scan.value_of.Given as goal

abbrev pub invariant-loop-d : goal.invariant-loop-d
invariant-loop-d l = (l.v ≤ 4294967295) × (value l.v (drop l.d-index l.digits) ≡ value 0 l.digits)
