-- A card whose sizes are right, and its arrays.
use Rattle.std.proofs.Common.{◌≡◌, ℕ, ◌+◌, ◌*◌, ◌≤◌, Bool, true, false, cond, ◌&&◌, eqb, ltb, leb, List, length, take, drop, Ok, Err, Result, sym, refl, ap, ◌∙◌, arith, length-drop, length-take}
use Rattle.std.proofs.lemmas.List.{take_rest}
use Rattle.std.proofs.lemmas.Bool.{cond-true, cond-false, eqb-true, ltb-false}
use Rattle.std.specs.List.{between}
use Rattle.deck.specs.Load.{sizes_fit}
use Rattle.deck.specs.Accepts.{Sizes as Fitting}
use Rattle.deck.proofs.Accepted.{sizes}
use Rattle.card.specs.declared.refusal.CardRefusal.{CardRefusal}
use Rattle.card.specs.declared.refusal.CardRefusal.TheVariants as R
use Rattle.card.specs.declared.unpack.Sizes.{Sizes}
use Rattle.card.specs.Calls.{unpacked, roomy}
use Rattle.card.specs.Card.{word_at, nodes_by, sheet_by, sized, sizes_in, sheet_from}
use Rattle.card.proofs.Cards.{nodes_size}

ok_true : {A : Type 0} (b : Bool) (x y : Result A CardRefusal) (e : CardRefusal) (a : A) → y ≡ Err e → Ok a ≡ cond b x y → (b ≡ true) × (Ok a ≡ x)
ok_true true x y e a q p = (refl, p)
ok_true false x y e a q p = let z : ◌≡◌ {A = ℕ} 0 1 = cc in absurd (omega arith)

ok_false : {A : Type 0} (b : Bool) (x y : Result A CardRefusal) (e : CardRefusal) (a : A) → x ≡ Err e → Ok a ≡ cond b x y → (b ≡ false) × (Ok a ≡ y)
ok_false false x y e a q p = (refl, p)
ok_false true x y e a q p = let z : ◌≡◌ {A = ℕ} 0 1 = cc in absurd (omega arith)

-- what the sizes of a card say
pub record Right (card : List ℕ) (s : Sizes) : Type 0 where
  pub long : 6 ≤ length card
  pub is : s ≡ record { n = word_at card 0; v = word_at card 2; t = word_at card 4 }
  pub fit : sizes_fit s.t s.n s.n s.v ≡ true
  pub fitting : Fitting s.t s.n s.n s.v
  pub size : length (drop 6 card) ≡ 7 * s.n + s.t

pub right : (card : List ℕ) (s : Sizes) → Ok s ≡ sizes_in card → Right card s
right card s e =
    let w : Sizes = record { n = word_at card 0; v = word_at card 2; t = word_at card 4 } in
    let p = ok_false (ltb (length card) 6) (Err R.NoSizes) (sized (drop 6 card) w) R.NoSizes s refl e in
    let q = ok_true (sizes_fit (word_at card 4) (word_at card 0) (word_at card 0) (word_at card 2)) _ (Err R.Sizes) R.Sizes s refl p.1 in
    let r = ok_true (eqb (length (drop 6 card)) (7 * word_at card 0 + word_at card 4)) (Ok w) (Err R.Length) R.Length s refl q.1 in
    let z : s ≡ w = (let u = r.1 in cc) in
    let f : sizes_fit s.t s.n s.n s.v ≡ true = ap (λ y. sizes_fit y.t y.n y.n y.v) z ∙ q.0 in
    record {
      long = ltb-false (length card) 6 p.0;
      is = z;
      fit = f;
      fitting = sizes s.t s.n s.n s.v f;
      size = eqb-true _ _ r.0 ∙ ap (λ y. 7 * y.n + y.t) (sym z);
    }

-- the sheet of a card whose sizes are right has these sizes
pub node_count : (card : List ℕ) (s : Sizes) → Right card s → length (sheet_by (drop 6 card) s.n s.v).nodes ≡ s.n
node_count card s r =
    let z = r.size in
    nodes_size (take s.n (drop 6 card)) (take (6 * s.n) (drop s.n (drop 6 card))) ∙ simp length-take (omega arith)

pub letter_count : (card : List ℕ) (s : Sizes) → Right card s → length (sheet_by (drop 6 card) s.n s.v).letters ≡ s.t
letter_count card s r =
    let z = r.size in
    let a = length-drop (6 * s.n) (drop s.n (drop 6 card)) in
    let b = length-drop s.n (drop 6 card) in
    omega arith

pub room_is : (card : List ℕ) (s : Sizes) (m l : ℕ) → Ok s ≡ sizes_in card → unpacked card m l ≡ cond (leb s.n m && leb s.t l) (Ok (sheet_by (drop 6 card) s.n s.v)) (Err R.FewPlaces)
room_is card s m l e =
    let r = right card s e in
    ap (λ x. roomy m l (sheet_from card x)) (sym e)
    ∙ ap (λ j. cond (leb j m && leb (length (sheet_by (drop 6 card) s.n s.v).letters) l) (Ok (sheet_by (drop 6 card) s.n s.v)) (Err R.FewPlaces)) (node_count card s r)
    ∙ ap (λ j. cond (leb s.n m && leb j l) (Ok (sheet_by (drop 6 card) s.n s.v)) (Err R.FewPlaces)) (letter_count card s r)

pub no_room : (card : List ℕ) (s : Sizes) (m l : ℕ) → Ok s ≡ sizes_in card → false ≡ (leb s.n m && leb s.t l) → Err R.FewPlaces ≡ unpacked card m l
no_room card s m l e q = sym (room_is card s m l e ∙ cond-false (leb s.n m && leb s.t l) _ _ (sym q))

pub cut_is : (card : List ℕ) (s : Sizes) (m l : ℕ) (body kinds rest fields letters : List ℕ) → Ok s ≡ sizes_in card → true ≡ (leb s.n m && leb s.t l)
    → body ≡ between 6 (length card) card → kinds ≡ take s.n body → rest ≡ drop s.n body → fields ≡ take (6 * s.n) rest → letters ≡ drop (6 * s.n) rest
    → Ok (record { letters = letters; nodes = nodes_by kinds fields; variables = s.v }) ≡ unpacked card m l
cut_is card s m l body kinds rest fields letters e q eb ek er ef el =
    let b : body ≡ drop 6 card = eb ∙ take_rest card 6 in
    let k : kinds ≡ take s.n (drop 6 card) = ek ∙ ap (take s.n) b in
    let r : rest ≡ drop s.n (drop 6 card) = er ∙ ap (drop s.n) b in
    let f : fields ≡ take (6 * s.n) (drop s.n (drop 6 card)) = ef ∙ ap (take (6 * s.n)) r in
    let t : letters ≡ drop (6 * s.n) (drop s.n (drop 6 card)) = el ∙ ap (drop (6 * s.n)) r in
    ap (λ x. Ok (record { letters = x; nodes = nodes_by kinds fields; variables = s.v })) t
    ∙ ap (λ x. Ok (record { letters = drop (6 * s.n) (drop s.n (drop 6 card)); nodes = nodes_by x fields; variables = s.v })) k
    ∙ ap (λ x. Ok (record { letters = drop (6 * s.n) (drop s.n (drop 6 card)); nodes = nodes_by (take s.n (drop 6 card)) x; variables = s.v })) f
    ∙ sym (room_is card s m l e ∙ cond-true (leb s.n m && leb s.t l) _ _ (sym q))
