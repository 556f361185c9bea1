-- The bytes of a card, and the sheet that bytes say.
use Rattle.std.specs.Prelude.{ℕ, ◌+◌, ◌*◌, ◌/◌, ◌%◌, cond, List, [], ◌∷◌, ◌++◌, map, length, take, drop, Ok, Err, Result, ◌==◌, nat_lt, slice_index}
use Rattle.std.specs.List.{flat_map}
use Rattle.nodes.specs.declared.node.Node.{Node}
use Rattle.nodes.specs.Nodes.{Sheet}
use Rattle.deck.specs.Load.{sizes_fit}
use Rattle.card.specs.declared.unpack.Sizes.{Sizes}
use Rattle.card.specs.declared.refusal.CardRefusal.{CardRefusal}
use Rattle.card.specs.declared.refusal.CardRefusal.TheVariants as R

-- three numbers of 16 bits, low byte first
abbrev pub triple : ℕ → ℕ → ℕ → List ℕ
triple a b c = a % 256 ∷ a / 256 ∷ b % 256 ∷ b / 256 ∷ c % 256 ∷ c / 256 ∷ []

abbrev pub fields_of : Node → List ℕ
fields_of x = triple x.a x.b x.c

-- a sheet's card: the sizes, the kinds, the fields, the letters
abbrev pub card_of : Sheet → List ℕ
card_of sh = triple (length sh.nodes) sh.variables (length sh.letters) ++ (map (λ x. x.kind) sh.nodes ++ (flat_map fields_of sh.nodes ++ sh.letters))

-- the number in the two bytes from place i on
abbrev pub word_at : List ℕ → ℕ → ℕ
word_at bs i = slice_index bs i + 256 * slice_index bs (i + 1)

abbrev pub node_by : ℕ → List ℕ → Node
node_by k fs = record { kind = k; a = word_at fs 0; b = word_at fs 2; c = word_at fs 4 }

-- node i, by the kinds and the bytes of the fields of all
abbrev pub node_from : List ℕ → List ℕ → ℕ → Node
node_from ks fs i = record { kind = slice_index ks i; a = word_at fs (6 * i); b = word_at fs (6 * i + 2); c = word_at fs (6 * i + 4) }

-- the nodes of these kinds, with the fields in these bytes
abbrev pub nodes_by : List ℕ → List ℕ → List Node
nodes_by [] fs = []
nodes_by (k ∷ ks) fs = node_by k fs ∷ nodes_by ks (drop 6 fs)

-- the sheet of n nodes that stands behind the sizes
abbrev pub sheet_by : List ℕ → ℕ → ℕ → Sheet
sheet_by body n v = record { letters = drop (6 * n) (drop n body); nodes = nodes_by (take n body) (take (6 * n) (drop n body)); variables = v }

abbrev pub sized : List ℕ → Sizes → Result Sizes CardRefusal
sized body s = cond (sizes_fit s.t s.n s.n s.v) (cond (length body == 7 * s.n + s.t) (Ok s) (Err R.Length)) (Err R.Sizes)

-- the sizes that a card says
abbrev pub sizes_in : List ℕ → Result Sizes CardRefusal
sizes_in card = cond (nat_lt (length card) 6) (Err R.NoSizes) (sized (drop 6 card) (record { n = word_at card 0; v = word_at card 2; t = word_at card 4 }))

abbrev pub sheet_from : List ℕ → Result Sizes CardRefusal → Result Sheet CardRefusal
sheet_from card (Ok s) = Ok (sheet_by (drop 6 card) s.n s.v)
sheet_from card (Err e) = Err e

-- the sheet that a card says
abbrev pub sheet_in : List ℕ → Result Sheet CardRefusal
sheet_in card = sheet_from card (sizes_in card)
