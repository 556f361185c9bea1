-- A node that has nothing against it, and what the tables say of it.
use Rattle.std.proofs.Common.{◌≡◌, ℕ, ◌≤◌, Bool, true, false, not, ◌||◌, leb, List, [], ◌∷◌, length, take, Ok, Result, sym, refl, ap, ◌∙◌, arith, length-take}
use Rattle.std.proofs.lemmas.Bool.{and_parts, leb-true, not-true, cond-true}
use Rattle.spelling.specs.declared.Entry.{Entry}
use Rattle.nodes.specs.declared.node.Node.{Node}
use Rattle.nodes.specs.Limits.{deepest_level, deepest_nest}
use Rattle.nodes.specs.Nodes.{Sheet, node_at, view_of, view_at, arrows_of, all_lead}
use Rattle.nodes.specs.Trees.{tree, level, nest, level_by, nest_by}
use Rattle.nodes.proofs.Grown.{level_found, nest_found}
use Rattle.deck.specs.declared.fault.Refusal.{Refusal}
use Rattle.deck.specs.declared.fault.Refusal.TheVariants as R
use Rattle.deck.specs.declared.fault.Fault.{Fault}
use Rattle.nodes.specs.declared.binding.Binding.{Binding}
use Rattle.deck.specs.declared.row.Row.{Row}
use Rattle.deck.specs.declared.judgement.Judgement.{Judgement}
use Rattle.deck.specs.Judgement.{sheet_in}
use Rattle.deck.specs.Rules.{placed, formed, among, again, taken, leading_to, names, original, declared, numbered, agree, ensured}
use Rattle.deck.specs.Load.{after, naming, fitting, shape, said, judged, sizes_fit, sheet_says, load_says}
use Rattle.deck.specs.Tied.{Tied, row_at}
use Rattle.deck.proofs.Scan.{holds, both, after_same}
use Rattle.deck.proofs.Names.{names_size, names_front}

pub record Clean (ls : List ℕ) (ns : List Node) (v i : ℕ) : Type 0 where
  pub placed_right : placed v i (node_at ns i).kind ≡ true
  pub form : formed ls (node_at ns i) ≡ true
  pub led : all_lead ns i (arrows_of (view_at ns i)) ≡ true
  pub once : again (taken ns i) (leading_to (node_at ns i)) ≡ false
  pub new : original ls (take i (names v ns)) (node_at ns i) ≡ true
  pub known : declared ls (names v ns) (node_at ns i) ≡ true
  pub number_right : numbered ls (names v ns) (node_at ns i) ≡ true
  pub agreed : agree ns (view_at ns i) ≡ true
  pub level_few : level (tree ns i) ≤ deepest_level
  pub nest_few : nest (tree ns i) ≤ deepest_nest

record Shaped (ls : List ℕ) (ns : List Node) (v i : ℕ) (x : Node) (f : ℕ → Bool) : Type 0 where
  placed_right : placed v i x.kind ≡ true
  form : formed ls x ≡ true
  led : all_lead ns i (arrows_of (view_of x)) ≡ true
  once : again f (leading_to x) ≡ false

shaped : (ls : List ℕ) (ns : List Node) (v i : ℕ) (x : Node) (f : ℕ → Bool) → shape ls ns v i x f ≡ Ok tt → Shaped ls ns v i x f
shaped ls ns v i x f e =
    let p = both (ensured (placed v i x.kind) R.Misplaced) _ e in
    let q = both (ensured (formed ls x) R.Malformed) _ p.1 in
    let r = both (ensured (all_lead ns i (arrows_of (view_of x))) R.Astray) _ q.1 in
    record {
      placed_right = holds _ R.Misplaced p.0;
      form = holds _ R.Malformed q.0;
      led = holds _ R.Astray r.0;
      once = not-true (again f (leading_to x)) (holds (not (again f (leading_to x))) R.SecondArrow r.1);
    }

pub clean : (ls : List ℕ) (ns : List Node) (v i : ℕ) → judged ls ns v i ≡ Ok tt → Clean ls ns v i
clean ls ns v i e =
    let x = node_at ns i in
    let p = both (shape ls ns v i x (taken ns i)) _ e in
    let s = shaped ls ns v i x (taken ns i) p.0 in
    let q = both (naming ls (names v ns) i x) (fitting ns x (level (tree ns i)) (nest (tree ns i))) p.1 in
    let n1 = both (ensured (original ls (take i (names v ns)) x) R.Redeclared) _ q.0 in
    let n2 = both (ensured (declared ls (names v ns) x) R.Undeclared) _ n1.1 in
    let f = both (ensured (agree ns (view_of x)) R.Disagreeing) _ q.1 in
    let d = and_parts (leb (level (tree ns i)) deepest_level) (leb (nest (tree ns i)) deepest_nest) (holds _ R.TooDeep f.1) in
    record {
      placed_right = s.placed_right;
      form = s.form;
      led = s.led;
      once = s.once;
      new = holds _ R.Redeclared n1.0;
      known = holds _ R.Undeclared n2.0;
      number_right = holds _ R.Misnumbered n2.1;
      agreed = holds _ R.Disagreeing f.0;
      level_few = leb-true _ _ d.0;
      nest_few = leb-true _ _ d.1;
    }

again_same : (f g : ℕ → Bool) → ((k : ℕ) → f k ≡ g k) → (ks : List ℕ) → again f ks ≡ again g ks
again_same f g e [] = refl
again_same f g e (k ∷ ks) = ap (λ b. b || (among k ks || again f ks)) (e k) ∙ ap (λ b. g k || (among k ks || b)) (again_same f g e ks)

-- what is said by the rows is what is said by the trees
pub said_is : (ls : List ℕ) (es : List (Entry Binding)) (ns : List Node) (rs : List Row) (x : Node) (r : Result (Unit {0}) Refusal)
    → Tied ns rs → es ≡ names (length es) ns → x ≡ node_at ns (length rs)
    → r ≡ said ls es ns (length es) (length rs) x (λ k. (row_at rs k).taken) (level_by (λ k. (row_at rs k).level) (view_of x)) (nest_by (λ k. (row_at rs k).nest) (view_of x))
    → r ≡ judged ls ns (length es) (length rs)
said_is ls es ns rs x r tied ee ex er =
    er ∙ ap (λ ys. said ls ys ns v i x (λ k. (row_at rs k).taken) lv nv) ee
    ∙ ap (λ b. after (after (ensured (placed v i x.kind) R.Misplaced) (after (ensured (formed ls x) R.Malformed) (after (ensured (all_lead ns i (arrows_of (view_of x))) R.Astray) (ensured (not b) R.SecondArrow)))) (after (naming ls (names v ns) i x) (fitting ns x lv nv))) (again_same _ (taken ns i) tied.taken_is (leading_to x))
    ∙ after_same (shape ls ns v i x (taken ns i)) _ _ depths
    ∙ ap (λ y. said ls (names v ns) ns v i y (taken ns i) (level (tree ns i)) (nest (tree ns i))) ex
  where
    v : ℕ
    v = length es

    i : ℕ
    i = length rs

    lv : ℕ
    lv = level_by (λ k. (row_at rs k).level) (view_of x)

    nv : ℕ
    nv = nest_by (λ k. (row_at rs k).nest) (view_of x)

    depths : shape ls ns v i x (taken ns i) ≡ Ok tt → after (naming ls (names v ns) i x) (fitting ns x lv nv) ≡ after (naming ls (names v ns) i x) (fitting ns x (level (tree ns i)) (nest (tree ns i)))
    depths e =
        let led = (shaped ls ns v i x (taken ns i) e).led in
        ap (λ l. after (naming ls (names v ns) i x) (fitting ns x l nv)) (level_found ns i (λ k. (row_at rs k).level) (view_of x) lv (ap view_of ex) led tied.level_is refl)
        ∙ ap (λ d. after (naming ls (names v ns) i x) (fitting ns x (level (tree ns i)) d)) (nest_found ns i (λ k. (row_at rs k).nest) (view_of x) nv (ap view_of ex) led tied.nest_is refl)

-- the part of the nodes that is judged
pub judged_part : (ls : List ℕ) (ns xs : List Node) (n v : ℕ) (r : Result (Unit {0}) Fault) → true ≡ sizes_fit (length ls) (length ns) n v → xs ≡ take n ns → length xs ≡ n → r ≡ sheet_says ls xs (length xs) v → r ≡ load_says ls ns n v
judged_part ls ns xs n v r e q m s = s ∙ ap (λ k. sheet_says ls xs k v) m ∙ ap (λ ys. sheet_says ls ys n v) q ∙ sym (cond-true _ _ _ (sym e))

-- the names of the first v nodes are handed on
pub names_given : (xs : List (Entry Binding)) (ns : List Node) (v : ℕ) → v ≤ length ns → xs ≡ names (length (take v ns)) (take v ns) → (length xs ≡ v) × (xs ≡ names (length xs) ns)
names_given xs ns v h e =
    let m : length (take v ns) ≡ v = simp length-take (omega arith) in
    let f : xs ≡ names v ns = e ∙ ap (λ k. names k (take v ns)) m ∙ names_front v v ns (omega arith) in
    let l : length xs ≡ v = ap length f ∙ names_size v ns in
    (l, f ∙ ap (λ k. names k ns) (sym l))

-- what is said of the node in hand is said of a node of the sheet
pub judged_on : (j : Judgement) (ls : List ℕ) (ns : List Node) (v i : ℕ) (r : Result (Unit {0}) Refusal) → sheet_in j ≡ record { letters = ls; nodes = ns; variables = v } → length j.rows.items ≡ i
    → r ≡ judged j.letters.now j.nodes.now (length j.names.now) (length j.rows.items) → r ≡ judged ls ns v i
judged_on j ls ns v i r s e q = q ∙ ap (λ (sh : Sheet). judged sh.letters sh.nodes sh.variables (length j.rows.items)) s ∙ ap (λ k. judged ls ns v k) e
