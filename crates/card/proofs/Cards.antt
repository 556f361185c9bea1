-- The bytes of nodes, and the nodes of bytes.
use Rattle.std.proofs.Common.{◌≡◌, ℕ, zero, suc, ◌+◌, ◌*◌, ◌<◌, ◌≤◌, List, [], ◌∷◌, ◌++◌, map, length, get_or, take, drop, set, sym, refl, ap, ◌∙◌, not-suc-le-zero, arith, length-append, get_or-drop, take_all}
use borrow.Rule.Slice.PartMut.{put_mid}
use lib.ListN.{length-map}
use Rattle.std.proofs.lemmas.List.{drop-drop, length-drop, get_or-map, get_or-take, flat_map_more, take_more, take_more_set}
use Rattle.std.proofs.lemmas.Slice.{take-put_mid}
use Rattle.std.specs.List.{flat_map}
use Rattle.std.specs.Simd.{first_chunks}
use Rattle.nodes.specs.declared.node.Node.{Node}
use Rattle.nodes.specs.Nodes.{Sheet, blank, node_at}
use Rattle.card.specs.Card.{fields_of, card_of, word_at, node_by, node_from, nodes_by}

pub nodes_size : (ks fs : List ℕ) → length (nodes_by ks fs) ≡ length ks
nodes_size [] fs = refl
nodes_size (k ∷ ks) fs = ap suc (nodes_size ks (drop 6 fs))

pub fields_size : (xs : List Node) → length (flat_map fields_of xs) ≡ 6 * length xs
fields_size [] = refl
fields_size (x ∷ xs) = let e = length-append (fields_of x) (flat_map fields_of xs) in let i = fields_size xs in omega arith

pub card_size : (sh : Sheet) → length (card_of sh) ≡ 6 + (7 * length sh.nodes + length sh.letters)
card_size sh =
    let a = length-append (map (λ x. x.kind) sh.nodes) (flat_map fields_of sh.nodes ++ sh.letters) in
    let b = length-append (flat_map fields_of sh.nodes) sh.letters in
    let c = length-map sh.nodes (λ x. x.kind) in
    let d = fields_size sh.nodes in
    omega arith

word_drop : (fs : List ℕ) (j k : ℕ) → k ≡ 6 + j → word_at (drop 6 fs) j ≡ word_at fs k
word_drop fs j k e =
    let p : 6 + (j + 1) ≡ k + 1 = omega arith in
    let x : get_or (drop 6 fs) j 0 ≡ get_or fs k 0 = get_or-drop 6 fs j 0 ∙ ap (λ m. get_or fs m 0) (sym e) in
    let y : get_or (drop 6 fs) (j + 1) 0 ≡ get_or fs (k + 1) 0 = get_or-drop 6 fs (j + 1) 0 ∙ ap (λ m. get_or fs m 0) p in
    cc

node_drop : (k : ℕ) (ks fs : List ℕ) (i : ℕ) → node_from ks (drop 6 fs) i ≡ node_from (k ∷ ks) fs (suc i)
node_drop k ks fs i =
    let x = word_drop fs (6 * i) (6 * suc i) (omega arith) in
    let y = word_drop fs (6 * i + 2) (6 * suc i + 2) (omega arith) in
    let z = word_drop fs (6 * i + 4) (6 * suc i + 4) (omega arith) in
    cc

pub nodes_at : (ks fs : List ℕ) (i : ℕ) (d : Node) → i < length ks → get_or (nodes_by ks fs) i d ≡ node_from ks fs i
nodes_at [] fs i d h = absurd (not-suc-le-zero h)
nodes_at (k ∷ ks) fs zero d h = refl
nodes_at (k ∷ ks) fs (suc i) d h = nodes_at ks (drop 6 fs) i d (omega arith) ∙ node_drop k ks fs i

-- one more element copied
copied_more : {A : Type 0} (to from : List A) (i : ℕ) (x : A) → i < length to → i < length from → x ≡ get_or from i x → take i to ≡ take i from → take (i + 1) (set to i x) ≡ take (i + 1) from
copied_more to from i x h k q e =
    take_more_set to i x h ∙ ap (λ xs. xs ++ x ∷ []) e ∙ ap (λ y. take i from ++ y ∷ []) q ∙ sym (take_more from i x k)

-- a list that is copied up to its end
pub all_copied : {A : Type 0} (to from : List A) (n : ℕ) → length to ≤ n → length from ≤ n → take n to ≡ take n from → to ≡ from
all_copied to from n h k e = sym (take_all n to h) ∙ e ∙ take_all n from k

pub kinds_more : (out : List ℕ) (nodes : List Node) (i : ℕ) → i < length out → i < length nodes → take i out ≡ take i (map (λ x. x.kind) nodes) → take (i + 1) (set out i (node_at nodes i).kind) ≡ take (i + 1) (map (λ x. x.kind) nodes)
kinds_more out nodes i h k e =
    copied_more out (map (λ x. x.kind) nodes) i (node_at nodes i).kind h (let l = length-map nodes (λ x. x.kind) in omega arith)
    (sym (get_or-map (λ x. x.kind) nodes i blank (node_at nodes i).kind k)) e

pub fields_more : (out : List ℕ) (nodes : List Node) (i k : ℕ) (ys : List ℕ) → 6 * i ≤ length out → i < length nodes → ys ≡ fields_of (node_at nodes i)
    → take (6 * i) out ≡ flat_map fields_of (take i nodes) → take (6 * (i + 1)) (put_mid (6 * i) k out ys) ≡ flat_map fields_of (take (i + 1) nodes)
fields_more out nodes i m ys h k q e =
    let l : length ys ≡ 6 = ap length q in
    take-put_mid (6 * i) m out ys (6 * (i + 1)) (omega arith) h
    ∙ ap (λ bs. bs ++ ys) e ∙ ap (λ zs. flat_map fields_of (take i nodes) ++ zs) q
    ∙ flat_map_more fields_of [] (take i nodes) (node_at nodes i)
    ∙ ap (flat_map fields_of) (sym (take_more nodes i blank k))

pub nodes_more : (out : List Node) (ks fs : List ℕ) (i : ℕ) (x : Node) → i < length out → i < length ks → x ≡ node_from ks fs i → take i out ≡ take i (nodes_by ks fs) → take (i + 1) (set out i x) ≡ take (i + 1) (nodes_by ks fs)
nodes_more out ks fs i x h k q e =
    copied_more out (nodes_by ks fs) i x h (let l = nodes_size ks fs in omega arith) (q ∙ sym (nodes_at ks fs i x k)) e

-- the six bytes of node i
chunk_at : (k : ℕ) (fs : List ℕ) (i : ℕ) (d : List ℕ) → i < k → get_or (first_chunks 6 k fs) i d ≡ take 6 (drop (6 * i) fs)
chunk_at zero fs i d h = absurd (not-suc-le-zero h)
chunk_at (suc k) fs zero d h = refl
chunk_at (suc k) fs (suc i) d h =
    let e : 6 + 6 * i ≡ 6 * suc i = omega arith in
    chunk_at k (drop 6 fs) i d (omega arith) ∙ ap (take 6) (drop-drop (6 * i) 6 fs ∙ ap (λ m. drop m fs) e)

node_of_six : (ks fs : List ℕ) (i : ℕ) → node_by (get_or ks i 0) (take 6 (drop (6 * i) fs)) ≡ node_from ks fs i
node_of_six ks fs i =
    let x = word 0 (6 * i) (omega arith) (omega arith) in
    let y = word 2 (6 * i + 2) (omega arith) (omega arith) in
    let z = word 4 (6 * i + 4) (omega arith) (omega arith) in
    cc
  where
    byte : (j k : ℕ) → j < 6 → k ≡ 6 * i + j → get_or (take 6 (drop (6 * i) fs)) j 0 ≡ get_or fs k 0
    byte j k h q = get_or-take 6 (drop (6 * i) fs) j 0 h ∙ get_or-drop (6 * i) fs j 0 ∙ ap (λ n. get_or fs n 0) (sym q)

    word : (j k : ℕ) → j + 1 < 6 → k ≡ 6 * i + j → word_at (take 6 (drop (6 * i) fs)) j ≡ word_at fs k
    word j k h q = let a = byte j k (omega arith) q in let b = byte (j + 1) (k + 1) (omega arith) (omega arith) in cc

-- the node whose fields are six bytes among those of all
pub node_part : (ks fs : List ℕ) (chunks : List (List ℕ)) (k i : ℕ) (d : List ℕ) (x : Node) → i < k → chunks ≡ first_chunks 6 k fs → x ≡ node_by (get_or ks i 0) (get_or chunks i d) → x ≡ node_from ks fs i
node_part ks fs chunks k i d x h q e =
    e ∙ ap (node_by (get_or ks i 0)) (ap (λ cs. get_or cs i d) q ∙ chunk_at k fs i d h) ∙ node_of_six ks fs i

-- the next element of what is left of a list
pub turn : {A : Type 0} (xs r t : List A) (i : ℕ) (x d : A) → r ≡ drop i xs → r ≡ x ∷ t → (i < length xs) × (x ≡ get_or xs i d) × (t ≡ drop (i + 1) xs)
turn xs r t i x d e q =
    let l = length-drop i xs in
    let n : length (drop i xs) ≡ suc (length t) = ap length (sym e ∙ q) in
    let z : i + 0 ≡ i = omega arith in
    (omega arith, ap (λ ys. get_or ys 0 d) (sym q ∙ e) ∙ get_or-drop i xs 0 d ∙ ap (λ m. get_or xs m d) z, ap (drop 1) (sym q ∙ e) ∙ drop-drop 1 i xs)
