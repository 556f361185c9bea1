-- What Pack, Unpack and Judge answer, and what they leave in the buffers.
use Rattle.std.specs.Prelude.{ℕ, ◌-◌, cond, ◌&&◌, List, [], ◌++◌, length, drop, replicate, Ok, Err, Result, nat_le}
use Rattle.nodes.specs.declared.node.Node.{Node}
use Rattle.nodes.specs.Nodes.{Sheet, blank}
use Rattle.deck.specs.declared.fault.Fault.{Fault}
use Rattle.deck.specs.Load.{load_says}
use Rattle.card.specs.declared.refusal.CardRefusal.{CardRefusal}
use Rattle.card.specs.declared.refusal.CardRefusal.TheVariants as R
use Rattle.card.specs.declared.unpack.Sizes.{Sizes}
use Rattle.card.specs.declared.unpack.Opened.{Opened}
use Rattle.card.specs.declared.parts.Parts.{Parts}
use Rattle.card.specs.declared.flaw.Flaw.{Flaw}
use Rattle.card.specs.declared.flaw.Flaw.TheVariants as F
use Rattle.card.specs.Refusals.{flaw_number}
use Rattle.card.specs.Card.{card_of, nodes_by, sheet_in}

-- Pack's answer, where the buffer has m bytes
abbrev pub pack_says : Sheet → ℕ → Result ℕ CardRefusal
pack_says sh m = cond (nat_le (length (card_of sh)) m) (Ok (length (card_of sh))) (Err R.ShortBuffer)

-- the buffer after it: the card and then what stood there, or what stood there
abbrev pub packed : Sheet → List ℕ → List ℕ
packed sh out = cond (nat_le (length (card_of sh)) (length out)) (card_of sh ++ drop (length (card_of sh)) out) out

-- the sheet that a card says, where m nodes and l letters are given for it
abbrev pub roomy : ℕ → ℕ → Result Sheet CardRefusal → Result Sheet CardRefusal
roomy m l (Ok sh) = cond (nat_le (length sh.nodes) m && nat_le (length sh.letters) l) (Ok sh) (Err R.FewPlaces)
roomy m l (Err e) = Err e

abbrev pub unpacked : List ℕ → ℕ → ℕ → Result Sheet CardRefusal
unpacked card m l = roomy m l (sheet_in card)

-- Unpack's answer
abbrev pub sizes_of : Sheet → Sizes
sizes_of sh = record { n = length sh.nodes; v = sh.variables; t = length sh.letters }

abbrev pub sizes_told : Result Sheet CardRefusal → Result Sizes CardRefusal
sizes_told (Ok sh) = Ok (sizes_of sh)
sizes_told (Err e) = Err e

-- m places with xs and then z in them
abbrev pub padded : {A : Type 0} → List A → ℕ → A → List A
padded xs m z = xs ++ replicate (m - length xs) z

abbrev pub nodes_left : ℕ → Result Sheet CardRefusal → List Node
nodes_left m (Ok sh) = padded sh.nodes m blank
nodes_left m (Err e) = padded [] m blank

abbrev pub letters_left : ℕ → Result Sheet CardRefusal → List ℕ
letters_left l (Ok sh) = padded sh.letters l 0
letters_left l (Err e) = padded [] l 0

-- the sizes of a card that is opened
abbrev pub opened_told : Result Opened CardRefusal → Result Sizes CardRefusal
opened_told (Ok o) = Ok o.sizes
opened_told (Err e) = Err e

-- the parts of a card as a sheet
abbrev pub sheet_from_parts : Parts → Sheet
sheet_from_parts p = record { letters = p.letters.now; nodes = nodes_by p.kinds.now p.fields.now; variables = p.v }

abbrev pub parts_told : Result Parts CardRefusal → Result Sheet CardRefusal
parts_told (Ok p) = Ok (sheet_from_parts p)
parts_told (Err e) = Err e

-- what is said of a card: of itself, or by Load of its sheet
abbrev pub loaded : Result (Unit {0}) Fault → Result (Unit {0}) Flaw
loaded (Ok u) = Ok tt
loaded (Err f) = Err (F.Sheet f.refusal)

abbrev pub verdict_of : Result Sheet CardRefusal → Result (Unit {0}) Flaw
verdict_of (Ok sh) = loaded (load_says sh.letters sh.nodes (length sh.nodes) sh.variables)
verdict_of (Err e) = Err (F.Card e)

abbrev pub answer : Result (Unit {0}) Flaw → ℕ
answer (Ok u) = 0
answer (Err e) = flaw_number e

-- Judge's answer
abbrev pub judge_says : List ℕ → ℕ
judge_says card = answer (verdict_of (sheet_in card))
