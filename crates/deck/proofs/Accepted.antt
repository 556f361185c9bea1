-- What is known of an accepted sheet.
use Rattle.std.proofs.Common.{◌≡◌, ℕ, ◌-◌, ◌<◌, ◌≤◌, Bool, true, false, cond, ◌&&◌, ltb, leb, List, length, take, is_ok as isOk, Ok, Err, Result, sym, refl, ap, ◌∙◌, zero-le, arith, length-take}
use Rattle.std.proofs.lemmas.Bool.{false≢true, leb-true, ltb-true, le-leb, and_parts}
use Rattle.std.proofs.lemmas.List.{take-take}
use Rattle.nodes.specs.declared.node.Node.{Node}
use Rattle.nodes.specs.Limits.{most_nodes, most_letters, most_variables}
use Rattle.deck.specs.declared.fault.Fault.{Fault}
use Rattle.nodes.specs.declared.view.Sort.TheVariants as S
use Rattle.nodes.specs.Nodes.{node_at, of_sort}
use Rattle.deck.specs.declared.fault.Refusal.TheVariants as R
use Rattle.deck.specs.Accepts.{Sizes}
use Rattle.deck.specs.Rules.{taken, ensured}
use Rattle.deck.specs.Load.{first, judged, whole, sizes_fit, sheet_says, load_says}
use Rattle.nodes.specs.Trees.{decode}
use Rattle.deck.specs.Sheets.{blank_sheet}
use Rattle.deck.proofs.Scan.{holds, both, on_parts, first_none}
use Rattle.deck.proofs.Clean.{Clean, clean}

pub sizes : (t m n v : ℕ) → sizes_fit t m n v ≡ true → Sizes t m n v
sizes t m n v e =
    let p1 = and_parts (leb 2 n) _ e in
    let p2 = and_parts (leb n most_nodes) _ p1.1 in
    let p3 = and_parts (leb n m) _ p2.1 in
    let p4 = and_parts (leb 1 v) _ p3.1 in
    let p5 = and_parts (leb v most_variables) _ p4.1 in
    let p6 = and_parts (ltb v n) (leb t most_letters) p5.1 in
    record {
      two = leb-true 2 n p1.0;
      n_few = leb-true n most_nodes p2.0;
      n_given = leb-true n m p3.0;
      one = leb-true 1 v p4.0;
      v_few = leb-true v most_variables p5.0;
      v_below = ltb-true v n p6.0;
      t_few = leb-true t most_letters p6.1;
    }

ok_parts : (b : Bool) (x : Result (Unit {0}) Fault) (e : Fault) → isOk (cond b x (Err e)) ≡ true → (b ≡ true) × (isOk x ≡ true)
ok_parts true x e q = (refl, q)
ok_parts false x e q = absurd (false≢true q)

pub is_ok : (r : Result (Unit {0}) Fault) → isOk r ≡ true → r ≡ Ok tt
is_ok (Ok u) e = refl
is_ok (Err x) e = absurd (false≢true e)

pub accepted : (ls : List ℕ) (ns : List Node) (n v : ℕ) → isOk (load_says ls ns n v) ≡ true → (sizes_fit (length ls) (length ns) n v ≡ true) × (isOk (sheet_says ls (take n ns) n v) ≡ true)
accepted ls ns n v q = ok_parts (sizes_fit (length ls) (length ns) n v) (sheet_says ls (take n ns) n v) _ q

-- Load looks at the first n nodes only
pub same_load : (ls : List ℕ) (ns ms : List Node) (n v : ℕ) → n ≤ length ns → n ≤ length ms → take n ns ≡ take n ms → load_says ls ns n v ≡ load_says ls ms n v
same_load ls ns ms n v h k e =
    let none : Result (Unit {0}) Fault = Err (record { refusal = R.Sizes; node = 0 }) in
    ap (λ b. cond (leb 2 n && (leb n most_nodes && (b && (leb 1 v && (leb v most_variables && (ltb v n && leb (length ls) most_letters)))))) (sheet_says ls (take n ns) n v) none) (le-leb n (length ns) h ∙ sym (le-leb n (length ms) k))
    ∙ ap (λ xs. cond (sizes_fit (length ls) (length ms) n v) (sheet_says ls xs n v) none) e

-- a sheet that was accepted is accepted where it is copied to
pub copied : (ls ks : List ℕ) (ns ms : List Node) (v : ℕ) → Ok tt ≡ load_says ls ns (length ns) v → ks ≡ ls → ms ≡ ns → isOk (load_says ks ms (length ms) v) ≡ true
copied ls ks ns ms v q e f = ap (λ xs. isOk (load_says xs ms (length ms) v)) e ∙ ap (λ xs. isOk (load_says ls xs (length xs) v)) f ∙ sym (ap isOk q)

-- and by itself, without the nodes behind it
pub front : (ls : List ℕ) (ns : List Node) (n v : ℕ) → Ok tt ≡ load_says ls ns n v → Ok tt ≡ load_says ls (take n ns) (length (take n ns)) v
front ls ns n v q =
    let h = (sizes (length ls) (length ns) n v (accepted ls ns n v (sym (ap isOk q))).0).n_given in
    let e : length (take n ns) ≡ n = simp length-take (omega arith) in
    q ∙ same_load ls ns (take n ns) n v h (omega arith) (sym (take-take n n ns (omega arith))) ∙ ap (λ m. load_says ls (take n ns) m v) (sym e)

pub blank_loads : (ls : List ℕ) (ns : List Node) → ls ≡ blank_sheet.letters → ns ≡ blank_sheet.nodes → isOk (load_says ls ns (length ns) 1) ≡ true
unfolding decode
blank_loads ls ns e f = copied blank_sheet.letters ls blank_sheet.nodes ns 1 refl e f

module _ (ls : List ℕ) (ns : List Node) (n v : ℕ) (ok : isOk (load_says ls ns n v) ≡ true) where
  pub fits : Sizes (length ls) (length ns) n v
  fits = sizes (length ls) (length ns) n v (accepted ls ns n v ok).0

  parts : (first (judged ls (take n ns) v) n 0 ≡ Ok tt) × (whole (take n ns) (taken (take n ns) n) n v ≡ Ok tt)
  parts = both _ _ (is_ok (sheet_says ls (take n ns) n v) (accepted ls ns n v ok).1)

  -- no node has anything against it
  pub faultless : (i : ℕ) → i < n → Clean ls (take n ns) v i
  faultless i h = clean ls (take n ns) v i (first_none (judged ls (take n ns) v) n 0 parts.0 i zero-le (omega arith))

  pub last_is_series : of_sort S.Series (node_at (take n ns) (n - 1)).kind ≡ true
  last_is_series = holds _ R.NotOneTree (on_parts _ (n - 1) _ parts.1).0

  -- every other node from v up has an arrow to it
  pub reached : (k : ℕ) → v ≤ k → k < n - 1 → taken (take n ns) n k ≡ true
  reached k l h = holds _ R.NotOneTree (first_none (λ j. ensured (taken (take n ns) n j) R.NotOneTree) ((n - 1) - v) v (on_parts _ (n - 1) _ parts.1).1 k l (omega arith))
