use Rattle.std.proofs.Common.{refl}
use Rattle.grammar.specs.Scan.{words_from, last_from}
use Rattle.nodes.specs.Trees.{decode}
use Rattle.semantics.specs.Semantics.{settle, beat, run, beats}
use Rattle.cases.proofs.cases_hold.Goals as goal

pub returns : goal.returns
unfolding words_from last_from decode settle beat run beats
returns c =
    record {
      empty_text = refl;
      no_statement = refl;
      no_statement_ends = refl;
      one_length = refl;
      one_nodes = refl;
      one_card_length = refl;
      one_card = refl;
      no_declaration = refl;
      no_value = refl;
      text_into_integer = refl;
      undeclared = refl;
      sum_stops = refl;
      endless = refl;
      nine_for_six = refl;
      two_more = refl;
    }
