-- The laws of the card.
use Rattle.std.specs.Prelude.{◌≡◌, ℕ, ◌<◌, ◌≤◌, List, length, take, Ok}
use Rattle.std.specs.List.{AllByRecursion}
use Rattle.deck.specs.declared.deck.Deck.{Deck}
use Rattle.deck.specs.Load.{load_says}
use Rattle.deck.specs.Sheets.{sheet_of, given}
use Rattle.card.specs.Calls.{unpacked, nodes_left, letters_left, judge_says}
use Rattle.card.specs.Card.{card_of, sheet_in}

-- the numbers are bytes
abbrev pub Bytes : List ℕ → Type 0
Bytes bs = AllByRecursion (λ b. b < 256) bs

-- what m nodes and l letters hold after Unpack of the card is accepted by Load, and is the deck's sheet
pub record Back (d : Deck) (m l : ℕ) : Type 0 where
  pub unpacks : unpacked (card_of (sheet_of d)) m l ≡ Ok (sheet_of d)
  pub loads : load_says (take (length (sheet_of d).letters) (letters_left l (Ok (sheet_of d)))) (nodes_left m (Ok (sheet_of d))) (length (sheet_of d).nodes) (sheet_of d).variables ≡ Ok tt
  pub same : given (take (length (sheet_of d).letters) (letters_left l (Ok (sheet_of d)))) (nodes_left m (Ok (sheet_of d))) (length (sheet_of d).nodes) (sheet_of d).variables ≡ sheet_of d

-- what was packed unpacks and loads to the same deck
abbrev pub Returns : Type 0
Returns = (d : Deck) (m l : ℕ) → length (sheet_of d).nodes ≤ m → length (sheet_of d).letters ≤ l → Back d m l

-- a card whose sheet is in a deck is what Pack writes of the deck
abbrev pub Repacks : Type 0
Repacks = (card : List ℕ) (d : Deck) → Bytes card → sheet_in card ≡ Ok (sheet_of d) → card_of (sheet_of d) ≡ card

-- Judge answers 0 exactly to the cards of decks
abbrev pub Judges : Type 0
Judges = (card : List ℕ) → Bytes card → (judge_says card ≡ 0 → (d : Deck) × (card ≡ card_of (sheet_of d))) × ((d : Deck) → card ≡ card_of (sheet_of d) → judge_says card ≡ 0)
