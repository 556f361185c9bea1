use Rattle.std.proofs.Common.{◌≡◌, ◌/◌, length, drop, take}
use Rattle.std.specs.Simd.{first_chunks}
use Rattle.card.specs.Card.{nodes_by}
use Rattle.card.proofs.parts.Parts.fill.Given as goal

abbrev pub invariant-loop-i : goal.invariant-loop-i
invariant-loop-i l = record {
  kinds : l.i-iterator.iter.a.rest.now ≡ drop l.i-iterator.count l.self.kinds.now;
  fields : l.i-iterator.iter.b.rest.now ≡ drop l.i-iterator.count (first_chunks 6 (length l.self.fields.now / 6) l.self.fields.now);
  nodes : take l.i-iterator.count l.nodes ≡ take l.i-iterator.count (nodes_by l.self.kinds.now l.self.fields.now);
}
