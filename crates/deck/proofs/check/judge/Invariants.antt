use Rattle.std.proofs.Common.{◌≡◌, ◌-◌, length}
use Rattle.deck.specs.Load.{first, judged}
use Rattle.deck.specs.Judgement.{sheet_in}
use Rattle.deck.proofs.check.judge.Given as goal

abbrev pub invariant-loop-i : goal.invariant-loop-i
invariant-loop-i l = record {
  sheet : sheet_in l.judgement ≡ record { letters = l.letters; nodes = l.nodes; variables = l.v };
  rows : length l.judgement.rows.items ≡ l.i-counter;
  passed : first (judged l.letters l.nodes l.v) (length l.nodes) 0 ≡ first (judged l.letters l.nodes l.v) (length l.nodes - l.i-counter) l.i-counter;
}
