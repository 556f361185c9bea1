-- Worked cases: small sheets, with what Read, Load, the card, the semantics and the shelf say of them.
use Rattle.std.specs.Prelude.{◌≡◌, ℕ, true, List, [], ◌∷◌, ◌++◌, length, take, replicate, Ok, Err, codes}
use Rattle.words.specs.declared.word.Refusal.TheVariants as T
use Rattle.nodes.specs.Nodes.{Sheet, node}
use Rattle.reader.specs.Read.{fault, read_says, read_nodes}
use Rattle.deck.specs.Load.{load_says}
use Rattle.deck.specs.declared.fault.Refusal.TheVariants as D
use Rattle.card.specs.Card.{card_of}
use Rattle.shelf.specs.Value.{Value, text}
use Rattle.shelf.specs.Calls.{text_answer, text_put}
use Rattle.shelf.specs.declared.refusal.Refusal.TheVariants.{NoCapacity}
use Rattle.semantics.specs.declared.call.Answer.{Answer}
use Rattle.semantics.specs.declared.call.Answer.TheVariants.{Played}
use Rattle.semantics.specs.declared.call.Call.TheVariants.{Play}
use Rattle.semantics.specs.declared.status.Cause.TheVariants.{SumTooLarge}
use Rattle.semantics.specs.declared.status.Status.{Status}
use Rattle.semantics.specs.declared.status.Status.TheVariants.{Ready, Ended, Stopped}
use Rattle.semantics.specs.Calls.{started, answer}

-- a text that declares the integer a, and goes on as w
abbrev pub with_a : List ℕ → List ℕ
with_a w = codes "begin declare a : integer; " ++ w

-- the sheet of a text, of so many nodes
abbrev pub sheet_of : List ℕ → ℕ → Sheet
sheet_of t n = record { letters = t; nodes = read_nodes t n; variables = 1 }

-- what a Play of g beats, right after the start, answers
abbrev pub first_play : Sheet → ℕ → Answer
first_play sh g = answer true sh 5120 (Play g) (started true sh [])

abbrev pub made : ℕ → Status → Answer
made b s = Played (record { beats = b; status = s })

-- two empty texts on a shelf with room for 10 bytes
abbrev pub two : List Value
two = text [] ∷ text [] ∷ []

abbrev pub six : List ℕ
six = replicate 6 97

abbrev pub nine : List ℕ
nine = replicate 9 97

pub record Cases : Type 0 where
  pub empty_text : read_says [] 512 ≡ fault T.EndsEarly 0
  pub no_statement : read_says (with_a (codes "end")) 512 ≡ Ok (record { nodes = 2; variables = 1 })
  pub no_statement_ends : first_play (sheet_of (with_a (codes "end")) 2) 7 ≡ made 0 Ended
  pub one_length : length (with_a (codes "a := 1 end")) ≡ 37
  pub one_nodes : read_nodes (with_a (codes "a := 1 end")) 6 ≡ node 1 14 1 1 ∷ node 2 27 1 0 ∷ node 3 1 0 0 ∷ node 7 1 2 0 ∷ node 11 0 0 0 ∷ node 10 3 4 0 ∷ []
  pub one_card_length : length (card_of (sheet_of (with_a (codes "a := 1 end")) 6)) ≡ 85
  pub one_card : take 8 (card_of (sheet_of (with_a (codes "a := 1 end")) 6)) ≡ 6 ∷ 0 ∷ 1 ∷ 0 ∷ 37 ∷ 0 ∷ 1 ∷ 2 ∷ []
  pub no_declaration : read_says (codes "begin declare ; end") 512 ≡ fault T.Unexpected 14
  pub no_value : read_says (with_a (codes "a :=")) 512 ≡ fault T.EndsEarly 31
  pub text_into_integer : load_says (with_a (codes "a := \"b\" end")) (read_nodes (with_a (codes "a := \"b\" end")) 6) 6 1 ≡ Err (record { refusal = D.Disagreeing; node = 3 })
  pub undeclared : load_says (with_a (codes "b := 1 end")) (read_nodes (with_a (codes "b := 1 end")) 6) 6 1 ≡ Err (record { refusal = D.Undeclared; node = 1 })
  pub sum_stops : first_play (sheet_of (with_a (codes "a := 4294967295 + 1 end")) 8) 7 ≡ made 0 (Stopped SumTooLarge 5)
  pub endless : first_play (sheet_of (with_a (codes "while 1 do od end")) 6) 7 ≡ made 7 Ready
  pub nine_for_six : text_put 10 0 nine (text_put 10 0 six two) ≡ text nine ∷ text [] ∷ []
  pub two_more : text_answer 10 1 (codes "xy") (text nine ∷ text [] ∷ []) ≡ Err NoCapacity
