-- How many arrows lead to a node.
use Rattle.std.proofs.Common.{◌≡◌, ℕ, zero, suc, ◌+◌, ◌<◌, ◌≤◌, Bool, true, false, cond, ◌||◌, eqb, ltb, List, [], ◌∷◌, sym, refl, ap, ◌∙◌, subst, inl, inr, arith}
use Rattle.std.proofs.lemmas.Bool.{or_parts, or_from, cases_eq, cases_lt, eq-eqb, eqb-true, ltb-false, le-ltb, lt-ltb}
use Rattle.std.proofs.lemmas.Bool.Decides.{nat_tests}
use Rattle.nodes.specs.declared.node.Node.{Node}
use Rattle.nodes.specs.Nodes.{node_at}
use Rattle.deck.specs.Accepts.{times, arrows_to}
use Rattle.deck.specs.Rules.{among, again, taken, leading_to}

-- k is among the numbers when it stands there
one_of : (k : ℕ) (xs : List ℕ) → among k xs ≡ ltb 0 (times k xs)
one_of k [] = refl
one_of k (x ∷ xs) = by (eqb k x) (one_of k xs)
  where
    by : (b : Bool) → among k xs ≡ ltb 0 (times k xs) → (b || among k xs) ≡ ltb 0 (cond b (suc (times k xs)) (times k xs))
    by true e = sym (lt-ltb 0 (suc (times k xs)) (omega arith))
    by false e = e

or_sum : (m n : ℕ) → (ltb 0 m || ltb 0 n) ≡ ltb 0 (m + n)
or_sum m n = grind (arith, nat_tests)

pub taken_is : (ns : List Node) (i k : ℕ) → taken ns i k ≡ ltb 0 (arrows_to ns i k)
taken_is ns zero k = refl
taken_is ns (suc i) k =
    ap (λ b. b || taken ns i k) (one_of k (leading_to (node_at ns i)))
    ∙ ap (λ b. ltb 0 (times k (leading_to (node_at ns i))) || b) (taken_is ns i k)
    ∙ or_sum (times k (leading_to (node_at ns i))) (arrows_to ns i k)

times_more : (k x : ℕ) (xs : List ℕ) → times k xs ≤ times k (x ∷ xs)
times_more k x xs = by (eqb k x)
  where
    by : (b : Bool) → times k xs ≤ cond b (suc (times k xs)) (times k xs)
    by true = omega arith
    by false = omega arith

-- where no arrow leads again, none leads there twice, nor where one led before
once : (f : ℕ → Bool) (k : ℕ) (xs : List ℕ) → again f xs ≡ false → (times k xs ≤ 1) × (1 ≤ times k xs → f k ≡ false)
once f k [] e = (omega arith, λ h. absurd (omega arith))
once f k (x ∷ xs) e =
    let p = or_parts (f x) (among x xs || again f xs) e in
    let q = or_parts (among x xs) (again f xs) p.1 in
    by (once f k xs q.1) p.0 (sym (one_of x xs) ∙ q.0) (eqb k x) refl
  where
    by : (times k xs ≤ 1) × (1 ≤ times k xs → f k ≡ false) → f x ≡ false → ltb 0 (times x xs) ≡ false → (b : Bool) → eqb k x ≡ b
        → (cond b (suc (times k xs)) (times k xs) ≤ 1) × (1 ≤ cond b (suc (times k xs)) (times k xs) → f k ≡ false)
    by r g z true m =
        let w = eqb-true k x m in
        let n = ltb-false 0 (times x xs) z in
        let u : times k xs ≡ times x xs = ap (λ j. times j xs) w in
        (omega arith, λ h. ap f w ∙ g)
    by r g z false m = r

zero_is : (g : ℕ) → ltb 0 g ≡ false → g ≡ 0
zero_is g e = let n = ltb-false 0 g e in omega arith

pub one_arrow : (ns : List Node) (n : ℕ) → ((i : ℕ) → i < n → again (taken ns i) (leading_to (node_at ns i)) ≡ false) → (k : ℕ) → arrows_to ns n k ≤ 1
one_arrow ns zero e k = omega arith
one_arrow ns (suc i) e k =
    let lower = one_arrow ns i (λ j h. e j (omega arith)) k in
    let p = once (taken ns i) k (leading_to (node_at ns i)) (e i (omega arith)) in
    let few = p.0 in
    elim (cases_lt 0 (times k (leading_to (node_at ns i)))) [
      | inl h ↦ (let z = zero_is (arrows_to ns i k) (sym (taken_is ns i k) ∙ p.1 h) in omega arith)
      | inr h ↦ omega arith
    ]

-- the other way round
never : (f : ℕ → Bool) (g : ℕ → ℕ) → ((k : ℕ) → f k ≡ ltb 0 (g k)) → (xs : List ℕ) → ((k : ℕ) → times k xs + g k ≤ 1) → again f xs ≡ false
never f g e [] l = refl
never f g e (x ∷ xs) l =
    let here : suc (times x xs) + g x ≤ 1 = subst (λ b. cond b (suc (times x xs)) (times x xs) + g x ≤ 1) (eq-eqb x x refl) (l x) in
    let z : g x ≤ 0 = omega arith in
    let y : times x xs ≤ 0 = omega arith in
    or_from (f x) (among x xs || again f xs) (e x ∙ le-ltb 0 (g x) z)
    (or_from (among x xs) (again f xs) (one_of x xs ∙ le-ltb 0 (times x xs) y) (never f g e xs (λ k. let t = times_more k x xs in let m = l k in omega arith)))

arrows_grow : (ns : List Node) (i n k : ℕ) → i ≤ n → arrows_to ns i k ≤ arrows_to ns n k
arrows_grow ns i zero k h = let e : i ≡ 0 = omega arith in subst (λ j. arrows_to ns j k ≤ 0) (sym e) (omega arith)
arrows_grow ns i (suc n) k h =
    elim (cases_eq i (suc n)) [
      | inl e ↦ subst (λ j. arrows_to ns j k ≤ arrows_to ns (suc n) k) (sym e) (omega arith)
      | inr d ↦ (let l = arrows_grow ns i n k (omega arith) in omega arith)
    ]

pub never_again : (ns : List Node) (n : ℕ) → ((k : ℕ) → arrows_to ns n k ≤ 1) → (i : ℕ) → i < n → again (taken ns i) (leading_to (node_at ns i)) ≡ false
never_again ns n l i h = never (taken ns i) (arrows_to ns i) (taken_is ns i) (leading_to (node_at ns i)) (λ k. let a = arrows_grow ns (suc i) n k h in let m = l k in omega arith)
