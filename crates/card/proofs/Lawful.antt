-- Cards and sheets, there and back.
use Rattle.std.proofs.Common.{◌≡◌, ℕ, zero, suc, ◌+◌, ◌-◌, ◌*◌, ◌/◌, ◌%◌, ◌<◌, ◌≤◌, true, ◌&&◌, eqb, ltb, leb, List, [], ◌∷◌, ◌++◌, map, length, take, drop, replicate, is_ok, Ok, Err, Result, sym, refl, ap, ◌∙◌, arith, length-append, length-drop, take-append-drop, length-take, take_all}
use lib.ListN.{length-map}
use Rattle.std.proofs.lemmas.List.{take_at, drop_at}
use Rattle.std.proofs.lemmas.Bool.{cond-true, cond-false, and_from, le-leb, le-ltb, eq-eqb}
use Rattle.std.specs.List.{flat_map}
use Rattle.nodes.specs.declared.node.Node.{Node}
use Rattle.nodes.specs.Nodes.{Sheet, node, blank}
use Rattle.deck.specs.declared.deck.Deck.{Deck}
use Rattle.deck.specs.declared.fault.Fault.{Fault}
use Rattle.deck.specs.declared.fault.Refusal.{Refusal}
use Rattle.deck.specs.declared.fault.Refusal.TheVariants as D
use Rattle.deck.specs.Load.{sizes_fit, load_says}
use Rattle.deck.specs.Refusals.{number_of as sheet_number}
use Rattle.deck.specs.Sheets.{sheet_of}
use Rattle.deck.proofs.Accepted.{accepted, same_load}
use Rattle.deck.proofs.OfDeck.{loads, deck_with}
use Rattle.card.specs.declared.refusal.CardRefusal.{CardRefusal}
use Rattle.card.specs.declared.refusal.CardRefusal.TheVariants as R
use Rattle.card.specs.declared.unpack.Sizes.{Sizes}
use Rattle.card.specs.Calls.{roomy, padded, loaded, verdict_of, answer, judge_says}
use Rattle.card.specs.Card.{triple, fields_of, card_of, word_at, node_by, nodes_by, sheet_by, sized, sizes_in, sheet_from, sheet_in}
use Rattle.card.specs.Laws.{Bytes, Returns, Repacks, Judges}
use Rattle.card.specs.Refusals.{number_of}
use Rattle.card.proofs.Cards.{fields_size, card_size}
use Rattle.card.proofs.Opening.{Right, right, node_count, letter_count}

-- a number of two bytes, there and back
pub word_back : (x : ℕ) → x % 256 + 256 * (x / 256) ≡ x
word_back x = omega arith

low_back : (a b : ℕ) → a < 256 → (a + 256 * b) % 256 ≡ a
low_back a b h = omega arith

high_back : (a b : ℕ) → a < 256 → (a + 256 * b) / 256 ≡ b
high_back a b h = omega arith

node_back : (x : Node) (rest : List ℕ) → node_by x.kind (fields_of x ++ rest) ≡ x
node_back x rest =
    ap (λ y. node x.kind y (x.b % 256 + 256 * (x.b / 256)) (x.c % 256 + 256 * (x.c / 256))) (word_back x.a)
    ∙ ap (λ y. node x.kind x.a y (x.c % 256 + 256 * (x.c / 256))) (word_back x.b)
    ∙ ap (λ y. node x.kind x.a x.b y) (word_back x.c)

nodes_back : (xs : List Node) → nodes_by (map (λ x. x.kind) xs) (flat_map fields_of xs) ≡ xs
nodes_back [] = refl
nodes_back (x ∷ xs) = ap (λ y. y ∷ nodes_by (map (λ z. z.kind) xs) (flat_map fields_of xs)) (node_back x (flat_map fields_of xs)) ∙ ap (λ ys. x ∷ ys) (nodes_back xs)

-- the sheet of a card that was packed
module _ (sh : Sheet) (fit : sizes_fit (length sh.letters) (length sh.nodes) (length sh.nodes) sh.variables ≡ true) where
  kinds_count : length (map (λ x. x.kind) sh.nodes) ≡ length sh.nodes
  kinds_count = length-map sh.nodes (λ x. x.kind)

  rest_is : drop (length sh.nodes) (drop 6 (card_of sh)) ≡ flat_map fields_of sh.nodes ++ sh.letters
  rest_is = drop_at (map (λ x. x.kind) sh.nodes) (flat_map fields_of sh.nodes ++ sh.letters) (length sh.nodes) kinds_count

  sheet_back : sheet_by (drop 6 (card_of sh)) (length sh.nodes) sh.variables ≡ sh
  sheet_back =
      let l : drop (6 * length sh.nodes) (drop (length sh.nodes) (drop 6 (card_of sh))) ≡ sh.letters =
      ap (drop (6 * length sh.nodes)) rest_is ∙ drop_at (flat_map fields_of sh.nodes) sh.letters (6 * length sh.nodes) (fields_size sh.nodes) in
      let k : take (length sh.nodes) (drop 6 (card_of sh)) ≡ map (λ x. x.kind) sh.nodes =
      take_at (map (λ x. x.kind) sh.nodes) (flat_map fields_of sh.nodes ++ sh.letters) (length sh.nodes) kinds_count in
      let f : take (6 * length sh.nodes) (drop (length sh.nodes) (drop 6 (card_of sh))) ≡ flat_map fields_of sh.nodes =
      ap (take (6 * length sh.nodes)) rest_is ∙ take_at (flat_map fields_of sh.nodes) sh.letters (6 * length sh.nodes) (fields_size sh.nodes) in
      ap (λ x. record { letters = x; nodes = nodes_by (take (length sh.nodes) (drop 6 (card_of sh))) (take (6 * length sh.nodes) (drop (length sh.nodes) (drop 6 (card_of sh)))); variables = sh.variables }) l
      ∙ ap (λ x. record { letters = sh.letters; nodes = nodes_by x (take (6 * length sh.nodes) (drop (length sh.nodes) (drop 6 (card_of sh)))); variables = sh.variables }) k
      ∙ ap (λ x. record { letters = sh.letters; nodes = nodes_by (map (λ y. y.kind) sh.nodes) x; variables = sh.variables }) f
      ∙ ap (λ x. record { letters = sh.letters; nodes = x; variables = sh.variables }) (nodes_back sh.nodes)

  sizes_back : sizes_in (card_of sh) ≡ Ok (record { n = length sh.nodes; v = sh.variables; t = length sh.letters })
  sizes_back =
      let c = card_size sh in
      cond-false (ltb (length (card_of sh)) 6) _ _ (le-ltb (length (card_of sh)) 6 (omega arith))
      ∙ ap (λ y. sized (drop 6 (card_of sh)) (record { n = y; v = word_at (card_of sh) 2; t = word_at (card_of sh) 4 })) (word_back (length sh.nodes))
      ∙ ap (λ y. sized (drop 6 (card_of sh)) (record { n = length sh.nodes; v = y; t = word_at (card_of sh) 4 })) (word_back sh.variables)
      ∙ ap (λ y. sized (drop 6 (card_of sh)) (record { n = length sh.nodes; v = sh.variables; t = y })) (word_back (length sh.letters))
      ∙ cond-true (sizes_fit (length sh.letters) (length sh.nodes) (length sh.nodes) sh.variables) _ _ fit
      ∙ cond-true (eqb (length (drop 6 (card_of sh))) (7 * length sh.nodes + length sh.letters)) _ _ (eq-eqb _ _ (let d = length-drop 6 (card_of sh) in omega arith))

  pub read_back : sheet_in (card_of sh) ≡ Ok sh
  read_back = ap (sheet_from (card_of sh)) sizes_back ∙ ap Ok sheet_back

-- six bytes are the three numbers that they say
six : (bs : List ℕ) → 6 ≤ length bs → Bytes bs → triple (word_at bs 0) (word_at bs 2) (word_at bs 4) ++ drop 6 bs ≡ bs
six [] h l = absurd (omega arith)
six (a ∷ []) h l = absurd (omega arith)
six (a ∷ b ∷ []) h l = absurd (omega arith)
six (a ∷ b ∷ c ∷ []) h l = absurd (omega arith)
six (a ∷ b ∷ c ∷ d ∷ []) h l = absurd (omega arith)
six (a ∷ b ∷ c ∷ d ∷ e ∷ []) h l = absurd (omega arith)
six (a ∷ b ∷ c ∷ d ∷ e ∷ f ∷ bs) h l =
    ap (λ x. x ∷ (a + 256 * b) / 256 ∷ (c + 256 * d) % 256 ∷ (c + 256 * d) / 256 ∷ (e + 256 * f) % 256 ∷ (e + 256 * f) / 256 ∷ bs) (low_back a b l.0)
    ∙ ap (λ x. a ∷ x ∷ (c + 256 * d) % 256 ∷ (c + 256 * d) / 256 ∷ (e + 256 * f) % 256 ∷ (e + 256 * f) / 256 ∷ bs) (high_back a b l.0)
    ∙ ap (λ x. a ∷ b ∷ x ∷ (c + 256 * d) / 256 ∷ (e + 256 * f) % 256 ∷ (e + 256 * f) / 256 ∷ bs) (low_back c d l.1.1.0)
    ∙ ap (λ x. a ∷ b ∷ c ∷ x ∷ (e + 256 * f) % 256 ∷ (e + 256 * f) / 256 ∷ bs) (high_back c d l.1.1.0)
    ∙ ap (λ x. a ∷ b ∷ c ∷ d ∷ x ∷ (e + 256 * f) / 256 ∷ bs) (low_back e f l.1.1.1.1.0)
    ∙ ap (λ x. a ∷ b ∷ c ∷ d ∷ e ∷ x ∷ bs) (high_back e f l.1.1.1.1.0)

bytes_drop : (n : ℕ) (bs : List ℕ) → Bytes bs → Bytes (drop n bs)
bytes_drop zero bs l = l
bytes_drop (suc n) [] l = tt
bytes_drop (suc n) (b ∷ bs) l = bytes_drop n bs l.1

bytes_take : (n : ℕ) (bs : List ℕ) → Bytes bs → Bytes (take n bs)
bytes_take zero bs l = tt
bytes_take (suc n) [] l = tt
bytes_take (suc n) (b ∷ bs) l = (l.0, bytes_take n bs l.1)

kinds_same : (ks fs : List ℕ) → map (λ x. x.kind) (nodes_by ks fs) ≡ ks
kinds_same [] fs = refl
kinds_same (k ∷ ks) fs = ap (λ x. k ∷ x) (kinds_same ks (drop 6 fs))

fields_same : (ks fs : List ℕ) → length fs ≡ 6 * length ks → Bytes fs → flat_map fields_of (nodes_by ks fs) ≡ fs
fields_same [] [] h l = refl
fields_same [] (f ∷ fs) h l = absurd (omega arith)
fields_same (k ∷ ks) fs h l =
    ap (λ x. fields_of (node_by k fs) ++ x) (fields_same ks (drop 6 fs) (let d = length-drop 6 fs in omega arith) (bytes_drop 6 fs l))
    ∙ six fs (omega arith) l

-- the card of the sheet that a card says
same_card : (card : List ℕ) (s : Sizes) → Bytes card → Right card s → card_of (sheet_by (drop 6 card) s.n s.v) ≡ card
same_card card s l r =
    let z = r.size in
    let lt : length (take s.n (drop 6 card)) ≡ s.n = simp length-take (omega arith) in
    let lb = length-drop s.n (drop 6 card) in
    let lf : length (take (6 * s.n) (drop s.n (drop 6 card))) ≡ 6 * length (take s.n (drop 6 card)) = simp length-take (omega arith) in
    let F : List ℕ = take (6 * s.n) (drop s.n (drop 6 card)) in
    let L : List ℕ = drop (6 * s.n) (drop s.n (drop 6 card)) in
    let K : List ℕ = take s.n (drop 6 card) in
    let bf : Bytes (take (6 * s.n) (drop s.n (drop 6 card))) = bytes_take (6 * s.n) (drop s.n (drop 6 card)) (bytes_drop s.n (drop 6 card) (bytes_drop 6 card l)) in
    let hd : triple (length (nodes_by K F)) s.v (length L) ≡ triple (word_at card 0) (word_at card 2) (word_at card 4) =
    ap (λ n. triple n s.v (length L)) (node_count card s r) ∙ ap (λ t. triple s.n s.v t) (letter_count card s r) ∙ ap (λ y. triple y.n y.v y.t) r.is in
    ap (λ h. h ++ (map (λ x. x.kind) (nodes_by K F) ++ (flat_map fields_of (nodes_by K F) ++ L))) hd
    ∙ ap (λ k. triple (word_at card 0) (word_at card 2) (word_at card 4) ++ (k ++ (flat_map fields_of (nodes_by K F) ++ L))) (kinds_same K F)
    ∙ ap (λ f. triple (word_at card 0) (word_at card 2) (word_at card 4) ++ (K ++ (f ++ L))) (fields_same K F lf bf)
    ∙ ap (λ b. triple (word_at card 0) (word_at card 2) (word_at card 4) ++ (K ++ b)) (take-append-drop (6 * s.n) (drop s.n (drop 6 card)))
    ∙ ap (λ b. triple (word_at card 0) (word_at card 2) (word_at card 4) ++ b) (take-append-drop s.n (drop 6 card))
    ∙ six card r.long l

-- a card that says a sheet
record Says (card : List ℕ) (sh : Sheet) : Type 0 where
  sizes : Sizes
  right_sizes : Right card sizes
  is : sheet_by (drop 6 card) sizes.n sizes.v ≡ sh

says : (card : List ℕ) (sh : Sheet) → sheet_in card ≡ Ok sh → Says card sh
says card sh e = by (sizes_in card) refl e
  where
    by : (x : Result Sizes CardRefusal) → x ≡ sizes_in card → sheet_from card x ≡ Ok sh → Says card sh
    by (Err d) q p = let z : ◌≡◌ {A = ℕ} 0 1 = cc in absurd (omega arith)
    by (Ok s) q p = record { sizes = s; right_sizes = right card s q; is = (let z : sheet_by (drop 6 card) s.n s.v ≡ sh = cc in z) }

card_back : (card : List ℕ) (sh : Sheet) → Bytes card → sheet_in card ≡ Ok sh → card_of sh ≡ card
card_back card sh l e = let p = says card sh e in ap card_of (sym p.is) ∙ same_card card p.sizes l p.right_sizes

pub repacks : Repacks
repacks card d l e = card_back card (sheet_of d) l e

-- the sheet of a deck
deck_fits : (d : Deck) → sizes_fit (length (sheet_of d).letters) (length (sheet_of d).nodes) (length (sheet_of d).nodes) (sheet_of d).variables ≡ true
deck_fits d = (accepted (sheet_of d).letters (sheet_of d).nodes (length (sheet_of d).nodes) (sheet_of d).variables (ap is_ok (loads d))).0

deck_back : (d : Deck) → sheet_in (card_of (sheet_of d)) ≡ Ok (sheet_of d)
deck_back d = read_back (sheet_of d) (deck_fits d)

pub returns : Returns
returns d m l hm hl =
    let ls : take (length (sheet_of d).letters) (padded (sheet_of d).letters l 0) ≡ (sheet_of d).letters =
    take_at (sheet_of d).letters (replicate (l - length (sheet_of d).letters) 0) (length (sheet_of d).letters) refl in
    let ns : take (length (sheet_of d).nodes) (padded (sheet_of d).nodes m blank) ≡ (sheet_of d).nodes =
    take_at (sheet_of d).nodes (replicate (m - length (sheet_of d).nodes) blank) (length (sheet_of d).nodes) refl in
    let long : length (sheet_of d).nodes ≤ length (padded (sheet_of d).nodes m blank) = (let a = length-append (sheet_of d).nodes (replicate (m - length (sheet_of d).nodes) blank) in omega arith) in
    record {
      unpacks = ap (roomy m l) (deck_back d) ∙ cond-true (leb (length (sheet_of d).nodes) m && leb (length (sheet_of d).letters) l) _ _ (and_from (leb (length (sheet_of d).nodes) m) (leb (length (sheet_of d).letters) l) (le-leb _ _ hm) (le-leb _ _ hl));
      loads =
          ap (λ x. load_says x (padded (sheet_of d).nodes m blank) (length (sheet_of d).nodes) (sheet_of d).variables) ls
          ∙ same_load (sheet_of d).letters (padded (sheet_of d).nodes m blank) (sheet_of d).nodes (length (sheet_of d).nodes) (sheet_of d).variables long (omega arith) (ns ∙ sym (take_all (length (sheet_of d).nodes) (sheet_of d).nodes (omega arith)))
          ∙ loads d;
      same = ap (λ x. record { letters = x; nodes = take (length (sheet_of d).nodes) (padded (sheet_of d).nodes m blank); variables = (sheet_of d).variables }) ls
          ∙ ap (λ x. record { letters = (sheet_of d).letters; nodes = x; variables = (sheet_of d).variables }) ns;
    }

-- no refusal has the number 0
card_number : (e : CardRefusal) → number_of e ≡ 0 → ⊥
card_number R.NoSizes q = omega arith
card_number R.Sizes q = omega arith
card_number R.Length q = omega arith
card_number R.FewPlaces q = omega arith
card_number R.ShortBuffer q = omega arith

load_number : (e : Refusal) → sheet_number e ≡ 0 → ⊥
load_number D.Sizes q = omega arith
load_number D.Misplaced q = omega arith
load_number D.Malformed q = omega arith
load_number D.Astray q = omega arith
load_number D.SecondArrow q = omega arith
load_number D.Redeclared q = omega arith
load_number D.Undeclared q = omega arith
load_number D.Misnumbered q = omega arith
load_number D.Disagreeing q = omega arith
load_number D.TooDeep q = omega arith
load_number D.NotOneTree q = omega arith

load_zero : (r : Result (Unit {0}) Fault) → answer (loaded r) ≡ 0 → r ≡ Ok tt
load_zero (Ok u) q = refl
load_zero (Err f) q = absurd (load_number f.refusal q)

sheet_zero : (x : Result Sheet CardRefusal) → answer (verdict_of x) ≡ 0 → (sh : Sheet) × ((x ≡ Ok sh) × (load_says sh.letters sh.nodes (length sh.nodes) sh.variables ≡ Ok tt))
sheet_zero (Ok sh) q = (sh, (refl, load_zero (load_says sh.letters sh.nodes (length sh.nodes) sh.variables) q))
sheet_zero (Err e) q = absurd (card_number e q)

pub judges : Judges
judges card l = (
  (λ q.
      let p = sheet_zero (sheet_in card) q in
      let k = deck_with p.0 p.1.1 in
      (k.0, sym (ap card_of k.1 ∙ card_back card p.0 l p.1.0))),
  (λ d e. ap judge_says e ∙ ap (λ x. answer (verdict_of x)) (deck_back d) ∙ ap (λ r. answer (loaded r)) (loads d)),
)
