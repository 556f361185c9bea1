-- The rows, node by node.
use Rattle.std.proofs.Common.{◌≡◌, ℕ, zero, suc, ◌+◌, ◌-◌, ◌<◌, ◌≤◌, Bool, true, false, ◌||◌, eqb, List, [], ◌∷◌, ◌++◌, length, take, drop, set, not, cond, ltb, Some, None, Ok, Err, length-take, length-drop, take_all, sym, refl, ap, ◌∙◌, subst, inl, inr, not-suc-le-zero, arith, length-set, get_or-set_other, get_or-set_same}
use lib.ListN.{get_or-append}
use lib.Seq.{get_or-append_seam}
use Rattle.std.proofs.lemmas.List.{get_or_past, get_or-append_right, get_or-drop, get_or-take, length_push, drop_all, append-nil}
use Rattle.std.proofs.lemmas.List.Quantifiers.{position-Some}
use Rattle.std.proofs.lemmas.List.Sums.{prefix_len_passes}
use Rattle.std.specs.List.{position, position_or_len, refill}
use Rattle.std.proofs.lemmas.Bool.{cond-true, lt-ltb, not-true, cases_eq, cases_lt, or_from, eq-eqb, ne_eqb}
use Rattle.std.specs.List.{AllByRecursion}
use Rattle.nodes.specs.declared.node.Node.{Node}
use Rattle.nodes.specs.declared.view.View.{View}
use Rattle.nodes.specs.declared.view.Arrows.{Arrows}
use Rattle.nodes.specs.Limits.{deepest_level, deepest_nest}
use Rattle.nodes.specs.Nodes.{node_at, view_of, view_at, arrows_of, targets, all_lead}
use Rattle.nodes.specs.Trees.{tree, level, nest, level_by, nest_by}
use Rattle.nodes.proofs.Grown.{level_found, nest_found, all_low}
use Rattle.deck.specs.declared.row.Row.{Row}
use Rattle.deck.specs.declared.fault.Refusal.TheVariants as R
use Rattle.deck.specs.Load.{first}
use Rattle.deck.proofs.Scan.{none_first, first_at, first_same}
use Rattle.deck.specs.Rules.{among, taken, ensured}
use Rattle.deck.specs.Tied.{Tied, blank_row, row_at, taken_row, marked}

or_turn : (a b c : Bool) → (b || (a || c)) ≡ ((a || b) || c)
or_turn true true c = refl
or_turn true false c = refl
or_turn false b c = refl

all_more : {P Q : ℕ → Type 0} (ks : List ℕ) → AllByRecursion P ks → ((j : ℕ) → P j → Q j) → AllByRecursion Q ks
all_more [] l f = tt
all_more (k ∷ ks) l f = (f k l.0, all_more ks l.1 f)

-- one more node taken: what its row says else stays
set_keeps : (f : Row → ℕ) → ((r : Row) → f (taken_row r) ≡ f r) → (rs : List Row) (a k : ℕ) → a < length rs → f (row_at (set rs a (taken_row (row_at rs a))) k) ≡ f (row_at rs k)
set_keeps f g rs a k h =
    elim (cases_eq k a) [
      | inl e ↦ ap (λ j. f (row_at (set rs a (taken_row (row_at rs a))) j)) e ∙ ap f (get_or-set_same rs a (taken_row (row_at rs a)) blank_row h) ∙ g (row_at rs a) ∙ ap (λ j. f (row_at rs j)) (sym e)
      | inr n ↦ ap f (get_or-set_other rs a k (taken_row (row_at rs a)) blank_row n)
    ]

set_takes : (rs : List Row) (a k : ℕ) → a < length rs → (row_at (set rs a (taken_row (row_at rs a))) k).taken ≡ (eqb k a || (row_at rs k).taken)
set_takes rs a k h =
    elim (cases_eq k a) [
      | inl e ↦ ap (λ j. (row_at (set rs a (taken_row (row_at rs a))) j).taken) e ∙ ap (λ (r : Row). r.taken) (get_or-set_same rs a (taken_row (row_at rs a)) blank_row h) ∙ sym (ap (λ b. b || (row_at rs k).taken) (eq-eqb k a e))
      | inr n ↦ ap (λ (r : Row). r.taken) (get_or-set_other rs a k (taken_row (row_at rs a)) blank_row n) ∙ sym (ap (λ b. b || (row_at rs k).taken) (ne_eqb k a n))
    ]

length_marked : (rs : List Row) (ks : List ℕ) → length (marked rs ks) ≡ length rs
length_marked rs [] = refl
length_marked rs (a ∷ ks) = length_marked (set rs a (taken_row (row_at rs a))) ks ∙ length-set rs a (taken_row (row_at rs a))

below_set : (rs : List Row) (a : ℕ) (ks : List ℕ) → AllByRecursion (λ j. j < length rs) ks → AllByRecursion (λ j. j < length (set rs a (taken_row (row_at rs a)))) ks
below_set rs a ks l = let n = length-set rs a (taken_row (row_at rs a)) in all_more ks l (λ j h. omega arith)

marked_keeps : (f : Row → ℕ) → ((r : Row) → f (taken_row r) ≡ f r) → (rs : List Row) (ks : List ℕ) (k : ℕ) → AllByRecursion (λ j. j < length rs) ks → f (row_at (marked rs ks) k) ≡ f (row_at rs k)
marked_keeps f g rs [] k l = refl
marked_keeps f g rs (a ∷ ks) k l = marked_keeps f g (set rs a (taken_row (row_at rs a))) ks k (below_set rs a ks l.1) ∙ set_keeps f g rs a k l.0

marked_takes : (rs : List Row) (ks : List ℕ) (k : ℕ) → AllByRecursion (λ j. j < length rs) ks → (row_at (marked rs ks) k).taken ≡ (among k ks || (row_at rs k).taken)
marked_takes rs [] k l = refl
marked_takes rs (a ∷ ks) k l =
    marked_takes (set rs a (taken_row (row_at rs a))) ks k (below_set rs a ks l.1)
    ∙ ap (λ b. among k ks || b) (set_takes rs a k l.0)
    ∙ or_turn (eqb k a) (among k ks) (row_at rs k).taken

not_among : (i k : ℕ) (ks : List ℕ) → AllByRecursion (λ j. j < i) ks → i ≤ k → among k ks ≡ false
not_among i k [] l h = refl
not_among i k (a ∷ ks) l h = or_from (eqb k a) (among k ks) (let p : a < i = l.0 in ne_eqb k a (omega arith)) (not_among i k ks l.1 h)

-- behind the rows and one more, which is not taken, none is
none_behind : (rs : List Row) (l d k : ℕ) → length rs ≤ k → (row_at (rs ++ record { level = l; nest = d; taken = false } ∷ []) k).taken ≡ false
none_behind rs l d k h = ap (λ (r : Row). r.taken) (get_or-append_right rs (record { level = l; nest = d; taken = false } ∷ []) (length rs) k blank_row refl h) ∙ last (k - length rs)
  where
    last : (j : ℕ) → (row_at (record { level = l; nest = d; taken = false } ∷ []) j).taken ≡ false
    last zero = refl
    last (suc j) = refl

pub tied_none : (ns : List Node) → Tied ns []
tied_none ns = record {
  level_is = λ k h. absurd (not-suc-le-zero h);
  nest_is = λ k h. absurd (not-suc-le-zero h);
  taken_is = λ k. refl;
}

-- the node in hand, with what the rows say of its view w
module _ (ns : List Node) (rs : List Row) (x : Node) (w : View) (tied : Tied ns rs) (here : x ≡ node_at ns (length rs)) (ew : w ≡ view_of x) (led : all_lead ns (length rs) (arrows_of (view_of x)) ≡ true) where
  seen : w ≡ view_at ns (length rs)
  seen = ew ∙ ap view_of here

  led_by : all_lead ns (length rs) (arrows_of w) ≡ true
  led_by = ap (λ y. all_lead ns (length rs) (arrows_of y)) ew ∙ led

  level_is : (l : ℕ) → l ≡ level_by (λ k. (row_at rs k).level) w → l ≡ level (tree ns (length rs))
  level_is l m = level_found ns (length rs) _ w l seen led_by tied.level_is m

  nest_is : (d : ℕ) → d ≡ nest_by (λ k. (row_at rs k).nest) w → d ≡ nest (tree ns (length rs))
  nest_is d m = nest_found ns (length rs) _ w d seen led_by tied.nest_is m

  pub level_fits : (l : ℕ) → level (tree ns (length rs)) ≤ deepest_level → l ≡ level_by (λ k. (row_at rs k).level) w → l ≤ deepest_level
  level_fits l y m = let e = level_is l m in omega arith

  pub nest_fits : (d : ℕ) → nest (tree ns (length rs)) ≤ deepest_nest → d ≡ nest_by (λ k. (row_at rs k).nest) w → d ≤ deepest_nest
  nest_fits d y m = let e = nest_is d m in omega arith

  pub targets_fit : (ar : Arrows) → ar ≡ arrows_of w → AllByRecursion (λ k. k < length rs) (targets ar)
  targets_fit ar s = subst (λ y. AllByRecursion (λ k. k < length rs) (targets y)) (sym s) (all_low ns (length rs) (arrows_of w) led_by)

  pub tied_more : (bs : List Row) (l d : ℕ) (ar : Arrows)
      → l ≡ level_by (λ k. (row_at rs k).level) w → d ≡ nest_by (λ k. (row_at rs k).nest) w
      → ar ≡ arrows_of w → bs ≡ marked rs (targets ar)
      → Tied ns (bs ++ record { level = l; nest = d; taken = false } ∷ [])
  tied_more bs l d ar el en ea eb = record {
    level_is = λ k h. each (λ r. r.level) (λ r. refl) (λ j. level (tree ns j)) tied.level_is (level_is l el) k h;
    nest_is = λ k h. each (λ r. r.nest) (λ r. refl) (λ j. nest (tree ns j)) tied.nest_is (nest_is d en) k h;
    taken_is = λ k. takes k ∙ ap (λ j. taken ns j k) (sym size);
  }
    where
      new : Row
      new = record { level = l; nest = d; taken = false }

      as_long : length bs ≡ length rs
      as_long = ap length eb ∙ length_marked rs (targets ar)

      size : length (bs ++ new ∷ []) ≡ suc (length rs)
      size = let n = length_push bs new in let m = as_long in omega arith

      low : AllByRecursion (λ k. k < length rs) (targets ar)
      low = targets_fit ar ea

      each : (f : Row → ℕ) → ((r : Row) → f (taken_row r) ≡ f r) → (g : ℕ → ℕ) → ((k : ℕ) → k < length rs → f (row_at rs k) ≡ g k) → f new ≡ g (length rs) → (k : ℕ) → k < length (bs ++ new ∷ []) → f (row_at (bs ++ new ∷ []) k) ≡ g k
      each f s g old here_is k h =
          let m = as_long in
          let n = size in
          elim (cases_lt k (length bs)) [
            | inl z ↦ ap f (get_or-append bs (new ∷ []) blank_row k z) ∙ ap (λ xs. f (row_at xs k)) eb ∙ marked_keeps f s rs (targets ar) k low ∙ old k (omega arith)
            | inr z ↦ (let q : k ≡ length bs = omega arith in
                ap (λ j. f (row_at (bs ++ new ∷ []) j)) q ∙ ap f (get_or-append_seam bs new [] blank_row) ∙ here_is ∙ ap g (sym (q ∙ m)))
          ]

      takes : (k : ℕ) → (row_at (bs ++ new ∷ []) k).taken ≡ taken ns (suc (length rs)) k
      takes k =
          let m = as_long in
          let t : among k (targets ar) ≡ among k (targets (arrows_of (view_at ns (length rs)))) = ap (λ y. among k (targets y)) (ea ∙ ap arrows_of seen) in
          elim (cases_lt k (length bs)) [
            | inl z ↦ ap (λ (r : Row). r.taken) (get_or-append bs (new ∷ []) blank_row k z) ∙ ap (λ xs. (row_at xs k).taken) eb ∙ marked_takes rs (targets ar) k low
                ∙ ap (λ b. b || (row_at rs k).taken) t ∙ ap (λ b. among k (targets (arrows_of (view_at ns (length rs)))) || b) (tied.taken_is k)
            | inr z ↦ none_behind bs l d k z
                ∙ sym (or_from _ _ (sym t ∙ not_among (length rs) k (targets ar) low (omega arith)) (sym (tied.taken_is k) ∙ ap (λ (r : Row). r.taken) (get_or_past rs k blank_row (omega arith))))
          ]

none_found : (q n : ℕ) → cond (ltb q n) (Some q) None ≡ None → n ≤ q
none_found q n e = elim (cases_lt q n) [ inl h ↦ absurd (not_some (sym (cond-true (ltb q n) (Some q) None (lt-ltb q n h)) ∙ e)) | inr h ↦ h ]
  where
    not_some : Some q ≡ None → ⊥
    not_some z = cc

not-false : (b : Bool) → not b ≡ false → b ≡ true
not-false true e = refl
not-false false e = sym e

not_not : (b : Bool) → not (not b) ≡ true → b ≡ true
not_not true e = refl
not_not false e = e

behind : (rs : List Row) (v : ℕ) → position (λ (r : Row). not r.taken) (take (length rs - v) (drop v rs)) ≡ position (λ (r : Row). not r.taken) (drop v rs)
behind rs v = let n = length-drop v rs in ap (position (λ (r : Row). not r.taken)) (take_all (length rs - v) (drop v rs) (omega arith))

-- a node that no arrow leads to, found among the rows from v on, or none
pub loose_none : (rs : List Row) (v : ℕ) → v ≤ length rs → None ≡ position (λ (r : Row). not r.taken) (take (length rs - v) (drop v rs)) → Ok tt ≡ first (λ k. ensured (row_at rs k).taken R.NotOneTree) (length rs - v) v
loose_none rs v h e =
    let m = none_found (position_or_len (λ (r : Row). not r.taken) (drop v rs)) (length (drop v rs)) (sym (e ∙ behind rs v)) in
    let n = length-drop v rs in
    sym (none_first _ (length rs - v) v (λ k l g.
    let p = not_not (row_at (drop v rs) (k - v)).taken (prefix_len_passes (λ (r : Row). not (not r.taken)) (drop v rs) (k - v) blank_row (omega arith)) in
    let z : v + (k - v) ≡ k = omega arith in
    ap (λ b. ensured b R.NotOneTree) (ap (λ j. (row_at rs j).taken) (sym z) ∙ ap (λ (r : Row). r.taken) (sym (get_or-drop v rs (k - v) blank_row)) ∙ p)))

pub loose_some : (rs : List Row) (v k : ℕ) → v ≤ length rs → Some k ≡ position (λ (r : Row). not r.taken) (take (length rs - v) (drop v rs)) → Err (record { refusal = R.NotOneTree; node = v + k }) ≡ first (λ j. ensured (row_at rs j).taken R.NotOneTree) (length rs - v) v
loose_some rs v k h e =
    let p = position-Some (λ (r : Row). not r.taken) (drop v rs) k blank_row (sym (e ∙ behind rs v)) in
    let n = length-drop v rs in
    let l = p.0 in
    sym (first_at _ (length rs - v) v (v + k) R.NotOneTree (omega arith) (omega arith)
    (λ j a b.
    let z : v + (j - v) ≡ j = omega arith in
    ap (λ c. ensured c R.NotOneTree) (ap (λ i. (row_at rs i).taken) (sym z) ∙ ap (λ (r : Row). r.taken) (sym (get_or-drop v rs (j - v) blank_row)) ∙ not-false _ (p.2 (j - v) (omega arith))))
    (ap (λ c. ensured c R.NotOneTree) (ap (λ (r : Row). r.taken) (sym (get_or-drop v rs k blank_row)) ∙ not-true _ p.1)))

-- and among all that have passed
pub loose_all : (ns : List Node) (rs xs : List Row) (v : ℕ) → Tied ns rs → length rs ≡ length ns → v < length ns → xs ≡ take (length ns - 1) rs
    → first (λ k. ensured (row_at xs k).taken R.NotOneTree) (length xs - v) v ≡ first (λ k. ensured (taken ns (length ns) k) R.NotOneTree) (length ns - 1 - v) v
loose_all ns rs xs v tied e h q =
    let n : length (take (length ns - 1) rs) ≡ length ns - 1 = simp length-take (omega arith) in
    ap (λ (ys : List Row). first (λ k. ensured (row_at ys k).taken R.NotOneTree) (length ys - v) v) q
    ∙ ap (λ m. first (λ k. ensured (row_at (take (length ns - 1) rs) k).taken R.NotOneTree) (m - v) v) n
    ∙ first_same _ (λ k. ensured (taken ns (length ns) k) R.NotOneTree) (length ns - 1 - v) v (λ k l g.
    ap (λ b. ensured b R.NotOneTree) (ap (λ (r : Row). r.taken) (get_or-take (length ns - 1) rs k blank_row (omega arith)) ∙ tied.taken_is k ∙ ap (λ m. taken ns m k) e))

-- a write of a list as long
pub refill_all : (n : ℕ) (xs ws : List Row) → length ws ≡ n → length xs ≡ n → refill n xs ws ≡ ws
refill_all n xs ws e f =
    ap (λ ys. take n (ws ++ ys)) (drop_all (length ws) xs (omega arith)) ∙ ap (take n) (append-nil ws) ∙ take_all n ws (omega arith)
