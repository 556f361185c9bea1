-- The sheet that is judged.
use Rattle.std.specs.Prelude.{length}
use Rattle.nodes.specs.Nodes.{Sheet}
use Rattle.deck.specs.declared.judgement.Judgement.{Judgement}

abbrev pub sheet_in : Judgement → Sheet
sheet_in j = record { letters = j.letters.now; nodes = j.nodes.now; variables = length j.names.now }
