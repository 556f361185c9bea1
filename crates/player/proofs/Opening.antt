-- The kinds that a deck declares.
use Rattle.std.proofs.Common.{◌≡◌, ℕ, suc, ◌+◌, ◌<◌, ◌≤◌, Bool, true, false, cond, ◌||◌, ltb, ◌⊎◌, List, [], ◌∷◌, ◌++◌, map, length, get_or, take, Ok, Err, Result, sym, refl, ap, ◌∙◌, ⊎_elim, arith}
use lib.ListN.{length-map}
use Rattle.std.proofs.lemmas.List.{get_or-map, take_more}
use Rattle.std.proofs.lemmas.Bool.{and_from, ne_eqb, lt-ltb, le-ltb, le-leb, lt-leb, cases_lt}
use Rattle.shelf.specs.Calls.{after as kept}
use Rattle.nodes.specs.declared.node.Node.{Node}
use Rattle.nodes.specs.Nodes.{kinds, blank}
use Rattle.deck.specs.Sheets.{sheet_of}
use Rattle.deck.specs.declared.deck.Deck.{Deck}
use Rattle.deck.proofs.OfDeck.{sound, fits}
use Rattle.shelf.specs.Value.{Value}
use Rattle.shelf.specs.Calls.{fresh, all_kinds, known, open_told, open_list}
use Rattle.shelf.specs.declared.refusal.Refusal.{Refusal}
use Rattle.shelf.specs.declared.refusal.Refusal.TheVariants.{WrongCount, UnknownKind}
use Rattle.player.specs.Opening.{open_answer, opened, enough_slots}

known_since : (k : ℕ) → (k ≡ 1) ⊎ (k ≡ 2) → known k ≡ true
known_since k = ⊎_elim (λ e. ap known e) (λ e. ap known e)

all_known : (ks : List ℕ) → ((i : ℕ) → i < length ks → (get_or ks i 0 ≡ 1) ⊎ (get_or ks i 0 ≡ 2)) → all_kinds ks ≡ true
all_known [] h = refl
all_known (k ∷ ks) h = and_from (known k) (all_kinds ks) (known_since k (h 0 (omega arith))) (all_known ks (λ i l. h (suc i) (omega arith)))

-- how many variables there are
pub few_variables : (d : Deck) → (1 ≤ (sheet_of d).variables) × ((sheet_of d).variables ≤ 64)
few_variables d = ((fits d).one, (fits d).v_few)

kind_here : (d : Deck) (i : ℕ) → i < length (kinds (sheet_of d)) → (get_or (take (sheet_of d).variables (sheet_of d).nodes) i blank).c ≡ get_or (kinds (sheet_of d)) i 0
kind_here d i h =
    let l = length-map (take (sheet_of d).variables (sheet_of d).nodes) (λ x. x.c) in
    sym (get_or-map (λ x. x.c) (take (sheet_of d).variables (sheet_of d).nodes) i blank 0 (omega arith))

-- the kinds in turn, as a loop over the nodes that declare finds them
module _ (d : Deck) (xs : List Node) (n i : ℕ) (ex : xs ≡ (sheet_of d).nodes) (en : n ≡ (sheet_of d).variables) (h : i < length (take n xs)) where
  pub within : i < length (kinds (sheet_of d))
  within =
      let l = length-map (take (sheet_of d).variables (sheet_of d).nodes) (λ x. x.c) in
      let e = ap (λ m. length (take m xs)) en ∙ ap (λ l. length (take (sheet_of d).variables l)) ex in
      omega arith

  pub kind_next : (get_or (take n xs) i blank).c ≡ get_or (kinds (sheet_of d)) i 0
  kind_next = ap (λ m. (get_or (take m xs) i blank).c) en ∙ ap (λ l. (get_or (take (sheet_of d).variables l) i blank).c) ex ∙ kind_here d i within

  pub kind_small : (get_or (take n xs) i blank).c ≤ 2
  kind_small =
      let e = kind_next in
      ⊎_elim (λ q. omega arith) (λ q. omega arith) ((sound d).known i within)

  pub kinds_more : (ks ms : List ℕ) (k : ℕ) → ks ≡ take i (kinds (sheet_of d)) → k ≡ (get_or (take n xs) i blank).c → ms ≡ ks ++ k ∷ [] → ms ≡ take (i + 1) (kinds (sheet_of d))
  kinds_more ks ms k p q e =
      e ∙ ap (λ l. l ++ k ∷ []) p ∙ ap (λ x. take i (kinds (sheet_of d)) ++ x ∷ []) (q ∙ kind_next) ∙ sym (take_more (kinds (sheet_of d)) i 0 within)

opens : (d : Deck) (S : ℕ) → open_told S (kinds (sheet_of d)) ≡ open_answer S (sheet_of d)
opens d S =
    let k = (sound d).declared in let s = (few_variables d).0 in
    ap (λ b. cond {A = Result (Unit {0}) Refusal} (b || ltb S (length (kinds (sheet_of d)))) (Err WrongCount) (cond (all_kinds (kinds (sheet_of d))) (Ok tt) (Err UnknownKind))) (ne_eqb (length (kinds (sheet_of d))) 0 (λ e. omega arith))
    ∙ ap (λ b. cond {A = Result (Unit {0}) Refusal} (ltb S (length (kinds (sheet_of d)))) (Err WrongCount) (cond b (Ok tt) (Err UnknownKind))) (all_known (kinds (sheet_of d)) (sound d).known)
    ∙ ⊎_elim
    (λ (h : S < length (kinds (sheet_of d))). ap (λ b. cond {A = Result (Unit {0}) Refusal} b (Err WrongCount) (Ok tt)) (lt-ltb S (length (kinds (sheet_of d))) h) ∙ sym (ap (λ b. cond {A = Result (Unit {0}) Refusal} b (Ok tt) (Err WrongCount)) (lt-leb (length (kinds (sheet_of d))) S h)))
    (λ (h : length (kinds (sheet_of d)) ≤ S). ap (λ b. cond {A = Result (Unit {0}) Refusal} b (Err WrongCount) (Ok tt)) (le-ltb S (length (kinds (sheet_of d))) h) ∙ sym (ap (λ b. cond {A = Result (Unit {0}) Refusal} b (Ok tt) (Err WrongCount)) (le-leb (length (kinds (sheet_of d))) S h)))
    (cases_lt S (length (kinds (sheet_of d))))

kept_as : (b : Bool) (new old : List Value) → kept (cond {A = Result (Unit {0}) Refusal} b (Ok tt) (Err WrongCount)) new old ≡ cond b new old
kept_as true new old = refl
kept_as false new old = refl

pub opens_told : (d : Deck) (S : ℕ) (ks : List ℕ) → ks ≡ kinds (sheet_of d) → open_told S ks ≡ open_answer S (sheet_of d)
opens_told d S ks e = ap (open_told S) e ∙ opens d S

pub opens_list : (d : Deck) (S : ℕ) (ks : List ℕ) (vs : List Value) → ks ≡ kinds (sheet_of d) → open_list S ks vs ≡ opened S (sheet_of d) vs
opens_list d S ks vs e = ap (λ l. open_list S l vs) e ∙ ap (λ r. kept r (map fresh (kinds (sheet_of d))) vs) (opens d S) ∙ kept_as (enough_slots S (sheet_of d)) (map fresh (kinds (sheet_of d))) vs
