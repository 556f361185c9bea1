use Rattle.std.proofs.Common.{length, ap, arith}
use Rattle.deck.specs.Sheets.{sheet_of}
use Rattle.card.proofs.Cards.{card_size}
use Rattle.card.proofs.pack.size_of.Goals as goal

pub returns : goal.returns
returns c = let e = card_size (sheet_of c.args.deck.now) in let l = ap length c.letters.ensures in omega arith
