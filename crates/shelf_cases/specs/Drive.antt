-- What a drive of a shelf answers, and the list that it leaves: open, put a number at i, put a text at j, ask for both.
use Rattle.std.specs.Prelude.{ℕ, List}
use Rattle.shelf.specs.Value.{Value}
use Rattle.shelf.specs.Kinds.{kind_at}
use Rattle.shelf.specs.Calls.{open_told, open_list, number_answer, number_put, text_answer, text_put, number_told, text_told}
use Rattle.shelf_cases.specs.declared.drive.Course.{Course}
use Rattle.shelf_cases.specs.declared.drive.Seen.{Seen}

pub record Calls : Type 0 where
  pub kinds : List ℕ
  pub i : ℕ
  pub x : ℕ
  pub j : ℕ
  pub bytes : List ℕ

abbrev pub calls_of : Course → Calls
calls_of c = record { kinds = c.kinds.now; i = c.i; x = c.x; j = c.j; bytes = c.bytes.now }

module _ (S R : ℕ) (c : Calls) (vs : List Value) where
  abbrev pub opened_list : List Value
  opened_list = open_list S c.kinds vs

  abbrev pub numbered_list : List Value
  numbered_list = number_put c.i c.x opened_list

  abbrev pub driven_list : List Value
  driven_list = text_put R c.j c.bytes numbered_list

  abbrev pub seen : List ℕ → Seen
  seen line = record {
    opened = open_told S c.kinds;
    number_put = number_answer c.i opened_list;
    text_put = text_answer R c.j c.bytes numbered_list;
    kind = kind_at c.i driven_list;
    number = number_told c.i driven_list;
    text = (text_told c.j driven_list line).answer;
  }
