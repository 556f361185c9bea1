-- What a table of entries and the bytes of their texts stand for, read and changed.
use Rattle.std.proofs.Common.{◌≡◌, ℕ, zero, suc, ◌+◌, ◌-◌, ◌<◌, ◌≤◌, min, true, false, cond, eqb, List, [], ◌∷◌, ◌++◌, map, length, get_or, take, drop, set, replicate, sum_by, sym, refl, ap, ◌∙◌, zero-add, arith, length-append, length-drop, length-take, ltb-false}
use Rattle.std.proofs.lemmas.List.{take_all, take-take, drop-take, drop-drop, drop-set-lt, take_more_set, map_more, take-append-drop, drop-replicate, length-take-le, take_at, length-map, length-replicate}
use Rattle.std.proofs.lemmas.List.Sums.{sum_by-cons}
use Rattle.std.proofs.lemmas.Bool.{le-ltb}
use Rattle.shelf.specs.declared.entry.Entry.{Entry}
use Rattle.shelf.specs.declared.entry.Entry.TheVariants.{Number, Text}
use Rattle.shelf.specs.Limits.{most_slots, longest}
use Rattle.shelf.specs.Value.{Value, number, text, bytes_of, total, over}
use Rattle.shelf.specs.Calls.{fresh}
use Rattle.shelf.specs.Entries.{extent, value_at, laid, too_large, Within, entry_for, table_for, entries_for}
use Rattle.shelf.proofs.Values.{Bounded}
use Rattle.shelf.proofs.Lists.{take_min}

-- the table for a list of kinds, built entry by entry

pub table_more : (es : List Entry) (ks : List ℕ) (i : ℕ) (e : Entry) → length es ≡ most_slots → i < most_slots → i < length ks → e ≡ entry_for (get_or ks i 0) → take i es ≡ map entry_for (take i ks) → drop i es ≡ replicate (most_slots - i) (Number 0) → (take (i + 1) (set es i e) ≡ map entry_for (take (i + 1) ks)) × (drop (i + 1) (set es i e) ≡ replicate (most_slots - (i + 1)) (Number 0))
table_more es ks i e n l h q a b =
    let t = take_more_set es i e (omega arith) in
    let m = map_more entry_for ks i 0 h in
    let d = drop-set-lt (i + 1) es i e (omega arith) in
    let d1 = drop-drop 1 i es in
    let d2 = ap (drop 1) b in
    let d3 = drop-replicate 1 (most_slots - i) (Number 0) in
    let z : most_slots - i - 1 ≡ most_slots - (i + 1) = omega arith in
    (cc, cc)

pub table_done : (es : List Entry) (ks : List ℕ) (i : ℕ) → i ≡ min (length ks) most_slots → take i es ≡ map entry_for (take i ks) → drop i es ≡ replicate (most_slots - i) (Number 0) → es ≡ table_for ks
table_done es ks i q a b =
    let s = take-append-drop i es in
    let t : take i ks ≡ take most_slots ks = ap (λ j. take j ks) q ∙ take_min ks most_slots in
    let z : most_slots - i ≡ most_slots - length ks = omega arith in
    cc

pub take_table : (ks : List ℕ) → length ks ≤ most_slots → take (length ks) (table_for ks) ≡ map entry_for ks
take_table ks h =
    let a = take_all most_slots ks h in
    ap (λ js. take (length ks) (map entry_for js ++ replicate (most_slots - length ks) (Number 0))) a ∙ take_at (map entry_for ks) (replicate (most_slots - length ks) (Number 0)) (length ks) (length-map ks entry_for)

pub length_table : (ks : List ℕ) → length ks ≤ most_slots → length (table_for ks) ≡ most_slots
length_table ks h =
    simp (length-append, length-map, length-take, length-replicate) (omega arith)

-- the entries alone, for as many kinds as there can be slots
pub entries_all : (ks : List ℕ) → length ks ≤ most_slots → entries_for ks ≡ map entry_for ks
entries_all ks h = ap (map entry_for) (take_all most_slots ks h)

-- an entry's value

pub value_same : (e : Entry) (m k : List ℕ) (n : ℕ) → extent e ≤ n → take n m ≡ take n k → value_at e m ≡ value_at e k
value_same (Number x) m k n h q = refl
value_same (Text l) m k n h q = ap text (sym (take-take l n m h) ∙ ap (take l) q ∙ take-take l n k h)

value_over : (e : Entry) (m : List ℕ) → too_large e ≡ false → over (value_at e m) ≡ false
value_over (Number n) m h = h
value_over (Text l) m h = le-ltb longest (length (take l m)) (simp length-take (omega (arith, ltb-false longest l h)))

pub extent_within : (e : Entry) → too_large e ≡ false → extent e ≤ longest
extent_within (Number n) h = omega arith
extent_within (Text l) h = omega (arith, ltb-false longest l h)

pub value_extent : (e : Entry) (m : List ℕ) → extent e ≤ length m → length (bytes_of (value_at e m)) ≡ extent e
value_extent (Number n) m h = refl
value_extent (Text l) m h = length-take-le l m h

value_fresh : (k : ℕ) (m : List ℕ) → value_at (entry_for k) m ≡ fresh k
value_fresh k m = elim (eqb k 1) as (λ b. value_at (cond b (Number 0) (Text 0)) m ≡ cond b (number 0) (text [])) [ true ↦ refl | false ↦ refl ]

-- entries within their limits

pub within_set : (es : List Entry) (i : ℕ) (e : Entry) → Within es → too_large e ≡ false → Within (set es i e)
within_set [] i e w h k = refl
within_set (x ∷ es) zero e w h zero = h
within_set (x ∷ es) zero e w h (suc k) = w (suc k)
within_set (x ∷ es) (suc i) e w h zero = w zero
within_set (x ∷ es) (suc i) e w h (suc k) = within_set es i e (λ j. w (suc j)) h k

pub within_take : (n : ℕ) (es : List Entry) → Within es → Within (take n es)
within_take zero es w k = refl
within_take (suc n) [] w k = refl
within_take (suc n) (x ∷ es) w zero = w zero
within_take (suc n) (x ∷ es) w (suc k) = within_take n es (λ j. w (suc j)) k

fresh_within : (k : ℕ) → too_large (entry_for k) ≡ false
fresh_within k = elim (eqb k 1) as (λ b. too_large (cond b (Number 0) (Text 0)) ≡ false) [ true ↦ refl | false ↦ refl ]

pub within_none : (n : ℕ) → Within (replicate n (Number 0))
within_none zero k = refl
within_none (suc n) zero = refl
within_none (suc n) (suc k) = within_none n k

pub within_table : (ks : List ℕ) → Within (table_for ks)
within_table ks = begun (take most_slots ks)
  where
    begun : (js : List ℕ) → Within (map entry_for js ++ replicate (most_slots - length ks) (Number 0))
    begun [] k = within_none (most_slots - length ks) k
    begun (j ∷ js) zero = fresh_within j
    begun (j ∷ js) (suc k) = begun js k

pub within_entries : (ks : List ℕ) → Within (entries_for ks)
within_entries ks = begun (take most_slots ks)
  where
    begun : (js : List ℕ) → Within (map entry_for js)
    begun [] k = refl
    begun (j ∷ js) zero = fresh_within j
    begun (j ∷ js) (suc k) = begun js k

-- the list, whatever the width

module _ (width : Entry → ℕ) where
  pub length_laid : (es : List Entry) (m : List ℕ) → length (laid width es m) ≡ length es
  length_laid [] m = refl
  length_laid (e ∷ es) m = ap suc (length_laid es (drop (width e) m))

  pub bounded_laid : (es : List Entry) (m : List ℕ) → Within es → Bounded (laid width es m)
  bounded_laid [] m w i = refl
  bounded_laid (e ∷ es) m w zero = value_over e m (w zero)
  bounded_laid (e ∷ es) m w (suc i) = bounded_laid es (drop (width e) m) (λ k. w (suc k)) i

  pub get_d_laid : (es : List Entry) (m : List ℕ) (i : ℕ) (v : Value) → i < length es → get_or (laid width es m) i v ≡ value_at (get_or es i (Number 0)) (drop (sum_by width (take i es)) m)
  get_d_laid [] m i v h = absurd (omega arith)
  get_d_laid (e ∷ es) m zero v h = refl
  get_d_laid (e ∷ es) m (suc i) v h =
      let r = get_d_laid es (drop (width e) m) i v (omega arith) in
      let a = drop-drop (sum_by width (take i es)) (width e) m in
      let b = sum_by-cons width e (take i es) in
      cc

  pub laid_fresh : (ks : List ℕ) (m : List ℕ) → laid width (map entry_for ks) m ≡ map fresh ks
  laid_fresh [] m = refl
  laid_fresh (k ∷ ks) m =
      let v = value_fresh k m in
      let r = laid_fresh ks (drop (width (entry_for k)) m) in
      cc

  -- each entry's text has room in its width
  abbrev pub Roomy : List Entry → Type 0
  Roomy es = (j : ℕ) → extent (get_or es j (Number 0)) ≤ width (get_or es j (Number 0))

  -- only the bytes in use count
  pub laid_same : (es : List Entry) (m k : List ℕ) → Roomy es → take (sum_by width es) m ≡ take (sum_by width es) k → laid width es m ≡ laid width es k
  laid_same [] m k f q = refl
  laid_same (e ∷ es) m k f q =
      let x = width e in
      let S = sum_by width es in
      let s : sum_by width (e ∷ es) ≡ x + S = sum_by-cons width e es in
      let p : take (x + S) m ≡ take (x + S) k = rw s at q in
      let a : take x m ≡ take x k = sym (take-take x (x + S) m (omega arith)) ∙ ap (take x) p ∙ take-take x (x + S) k (omega arith) in
      let b : take S (drop x m) ≡ take S (drop x k) = sym (drop-take x S m) ∙ ap (drop x) p ∙ drop-take x S k in
      let v = value_same e m k x (f zero) a in
      let r = laid_same es (drop x m) (drop x k) (λ j. f (suc j)) b in
      cc

  -- entry i changed, what lies before it kept, and what lies behind it brought behind the new entry
  pub laid_set : (es : List Entry) (i : ℕ) (e : Entry) (m k : List ℕ) (v : Value) → i < length es → Roomy es → take (sum_by width (take i es)) k ≡ take (sum_by width (take i es)) m → value_at e (drop (sum_by width (take i es)) k) ≡ v → take (sum_by width (drop (suc i) es)) (drop (sum_by width (take i es) + width e) k) ≡ take (sum_by width (drop (suc i) es)) (drop (sum_by width (take (suc i) es)) m) → laid width (set es i e) k ≡ set (laid width es m) i v
  laid_set [] i e m k v h f a b c = absurd (omega arith)
  laid_set (y ∷ es) zero e m k v h f a b c =
      let q : take (sum_by width es) (drop (width e) k) ≡ take (sum_by width es) (drop (width y) m) = rw (zero-add (width e), zero-add (width y)) at c in
      let r = laid_same es (drop (width e) k) (drop (width y) m) (λ j. f (suc j)) q in
      cc
  laid_set (y ∷ es) (suc i) e m k v h f a b c =
      let x = width y in
      let P = sum_by width (take i es) in
      let p : sum_by width (y ∷ take i es) ≡ x + P = sum_by-cons width y (take i es) in
      let p' : sum_by width (y ∷ take (suc i) es) ≡ x + sum_by width (take (suc i) es) = sum_by-cons width y (take (suc i) es) in
      let a' : take (x + P) k ≡ take (x + P) m = rw p at a in
      let before : take x k ≡ take x m = sym (take-take x (x + P) k (omega arith)) ∙ ap (take x) a' ∙ take-take x (x + P) m (omega arith) in
      let here : take P (drop x k) ≡ take P (drop x m) = sym (drop-take x P k) ∙ ap (drop x) a' ∙ drop-take x P m in
      let b' : value_at e (drop P (drop x k)) ≡ v = ap (value_at e) (drop-drop P x k ∙ ap (λ j. drop j k) (sym p)) ∙ b in
      let T = sum_by width (drop (suc i) es) in
      let s : sum_by width (y ∷ take i es) + width e ≡ x + (P + width e) = omega arith in
      let c' : take T (drop (P + width e) (drop x k)) ≡ take T (drop (sum_by width (take (suc i) es)) (drop x m)) = ap (take T) (drop-drop (P + width e) x k ∙ ap (λ j. drop j k) (sym s)) ∙ c ∙ ap (take T) (ap (λ j. drop j m) p' ∙ sym (drop-drop (sum_by width (take (suc i) es)) x m)) in
      let u = value_same y k m x (f zero) before in
      let r = laid_set es i e (drop x m) (drop x k) v (omega arith) (λ j. f (suc j)) here b' c' in
      cc

-- texts back to back fill exactly the bytes in use
pub total_laid : (es : List Entry) (m : List ℕ) → sum_by extent es ≤ length m → total (laid extent es m) ≡ sum_by extent es
total_laid [] m h = refl
total_laid (e ∷ es) m h =
    let s = sum_by-cons extent e es in
    let v = value_extent e m (omega arith) in
    let r = total_laid es (drop (extent e) m) (simp length-drop (omega arith)) in
    omega arith

-- the entries of a shelf that has just been opened take no bytes
pub sum_fresh : (ks : List ℕ) → sum_by extent (map entry_for ks) ≡ 0
sum_fresh [] = refl
sum_fresh (k ∷ ks) =
    let s = sum_by-cons extent (entry_for k) (map entry_for ks) in
    let r = sum_fresh ks in
    let f : extent (entry_for k) ≡ 0 = elim (eqb k 1) as (λ b. extent (cond b (Number 0) (Text 0)) ≡ 0) [ true ↦ refl | false ↦ refl ] in
    omega arith
