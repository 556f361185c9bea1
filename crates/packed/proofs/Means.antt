-- What a value of `Packed` stands for, read and changed.
use Rattle.std.proofs.Common.{◌≡◌, ℕ, suc, ◌+◌, ◌-◌, ◌<◌, ◌≤◌, List, [], map, length, get_or, take, drop, set, vec_items, sum_by, sym, refl, ap, ◌∙◌, ⊎_elim, add-one, arith, length-drop}
use lib.Seq.{take-set-lt}
use Rattle.std.proofs.lemmas.List.{get_or-take, length-take-le, length-map, take_all, take-set-le}
use Rattle.std.proofs.lemmas.List.Sums.{sum_by_more, sum_by-take-drop, sum_by-take-le, sum_by-set, get_or-le-sum_by}
use Rattle.std.proofs.lemmas.Bool.{cases_lt}
use Rattle.arrayvec.specs.ArrayVec.{array_vec_len}
use Rattle.shelf.specs.declared.entry.Entry.{Entry}
use Rattle.shelf.specs.declared.entry.Entry.TheVariants.{Number, Text}
use Rattle.shelf.specs.Limits.{most_slots, longest}
use Rattle.shelf.specs.Value.{Value, number, text, total, bytes_of}
use Rattle.shelf.specs.Calls.{fresh}
use Rattle.shelf.specs.Entries.{extent, value_at, laid, too_large, entries_for}
use Rattle.shelf.proofs.Values.{total_set}
use Rattle.shelf.proofs.Entries.{get_d_laid, laid_set, laid_fresh, value_extent, value_same, extent_within, entries_all, sum_fresh}
use Rattle.packed.specs.declared.packed.Packed.{Packed}
use Rattle.packed.specs.Slots.{entry_of, entries_of, starts_of}
use Rattle.packed.specs.Starts.{Placed}
use Rattle.packed.specs.Model.{list_of}
use Rattle.packed.specs.Kept.{length_list, total_list}

pub text_short : (s : Packed) (i n : ℕ) → get_or (entries_of s.slots.items) i (Number 0) ≡ Text n → n ≤ longest
text_short s i n e = extent_within (Text n) (ap too_large (sym e) ∙ s.within i)

-- the entries
abbrev pub in_use : Packed → List Entry
in_use s = entries_of s.slots.items

module _ (s : Packed) (i : ℕ) (l : i < array_vec_len s.slots) where
  -- where entry i begins
  abbrev pub start : ℕ
  start = sum_by extent (take i (in_use s))

  abbrev pub entry : Entry
  entry = get_or (in_use s) i (Number 0)

  sized : length (in_use s) ≡ array_vec_len s.slots
  sized = length-map s.slots.items entry_of

  end_in_use : sum_by extent (take (suc i) (in_use s)) ≡ start + extent entry
  end_in_use =
      let z = sized in
      ap (λ j. sum_by extent (take j (in_use s))) (sym (add-one i)) ∙ sum_by_more extent (in_use s) i (Number 0) (omega arith)

  -- the bytes in use are those before entry i, its own, and those behind it
  pub parts : start + extent entry + sum_by extent (drop (suc i) (in_use s)) ≡ s.used
  parts = omega (arith, sum_by-take-drop extent (in_use s) (suc i), end_in_use)

  pub list_at : (e : Entry) → entry ≡ e → get_or (list_of s) i (number 0) ≡ value_at e (drop start (vec_items s.pool))
  unfolding list_of
  list_at e q =
      let z = sized in
      let a = get_d_laid extent (in_use s) (vec_items s.pool) i (number 0) (omega arith) in
      cc

  pub total_put : (b : List ℕ) → total (set (list_of s) i (text b)) + extent entry ≡ s.used + length b
  total_put b =
      let n = length_list s in
      let t = total_set (list_of s) i (text b) (number 0) (omega arith) in
      let u = total_list s in
      let p = parts in
      let v = ap (λ z. length (bytes_of z)) (list_at entry refl) ∙ value_extent entry (drop start (vec_items s.pool)) (simp length-drop (omega arith)) in
      omega arith

  pub used_put : (e : Entry) → sum_by extent (set (in_use s) i e) + extent entry ≡ s.used + extent e
  used_put e =
      let z = sized in
      let r = sum_by-set extent (in_use s) i e (Number 0) (omega arith) in
      omega arith

  -- where entries begin once entry i is changed: up to i as before, and behind it moved by the difference
  start_before : (e : Entry) (k : ℕ) → k ≤ i → sum_by extent (take k (set (in_use s) i e)) ≡ sum_by extent (take k (in_use s))
  start_before e k h = ap (sum_by extent) (take-set-le k (in_use s) i e h)

  start_behind : (e : Entry) (k : ℕ) → i < k → k < array_vec_len s.slots → sum_by extent (take k (set (in_use s) i e)) + extent entry ≡ sum_by extent (take k (in_use s)) + extent e
  start_behind e k h b =
      let n = sized in
      let z : length (take k (in_use s)) ≡ k = length-take-le k (in_use s) (omega arith) in
      let t = ap (sum_by extent) (take-set-lt k (in_use s) i e h) in
      let r = sum_by-set extent (take k (in_use s)) i e (Number 0) (omega arith) in
      let g = ap extent (get_or-take k (in_use s) i (Number 0) h) in
      omega arith

  -- what stands behind entry i begins no earlier than its text is long, and within the bytes in use
  pub behind : (k : ℕ) → i < k → k < array_vec_len s.slots → (extent entry ≤ get_or (starts_of s.slots.items) k 0) × (get_or (starts_of s.slots.items) k 0 ≤ s.used)
  behind k h b =
      let n = sized in
      let z : length (take k (in_use s)) ≡ k = length-take-le k (in_use s) (omega arith) in
      let p = s.placed k b in
      let g = ap extent (get_or-take k (in_use s) i (Number 0) h) in
      let m = get_or-le-sum_by extent (take k (in_use s)) i (Number 0) (omega arith) in
      let u = sum_by-take-le extent (in_use s) k in
      (omega arith, omega arith)

  pub placed_put : (e : Entry) (starts : List ℕ) → ((k : ℕ) → k < i + 1 → get_or starts k 0 ≡ get_or (starts_of s.slots.items) k 0) → ((k : ℕ) → i + 1 ≤ k → k < array_vec_len s.slots → get_or starts k 0 ≡ get_or (starts_of s.slots.items) k 0 - extent entry + extent e) → Placed (array_vec_len s.slots) (set (in_use s) i e) starts
  placed_put e starts before moved k b =
      ⊎_elim
      (λ (h : i < k). let p = s.placed k b in let m = moved k (omega arith) b in let q = (behind k h b).0 in let r = start_behind e k h b in omega arith)
      (λ (h : k ≤ i). before k (omega arith) ∙ s.placed k b ∙ sym (start_before e k h))
      (cases_lt i k)

  -- entry i changed, what lies before it kept, and what lies behind it brought behind the new one
  pub put_entry : (t : Packed) (e : Entry) (v : Value) (to T : ℕ) → in_use t ≡ set (in_use s) i e → to ≡ start + extent entry → T ≡ s.used - to → take start (vec_items t.pool) ≡ take start (vec_items s.pool) → value_at e (drop start (vec_items t.pool)) ≡ v → take T (drop (start + extent e) (vec_items t.pool)) ≡ take T (drop to (vec_items s.pool)) → list_of t ≡ set (list_of s) i v
  unfolding list_of
  put_entry t e v to T q x y before here behind =
      let es = in_use s in
      let m = vec_items s.pool in
      let k = vec_items t.pool in
      let z = sized in
      let p' = end_in_use in
      let u : sum_by extent (drop (suc i) es) ≡ T = omega (arith, parts) in
      let f : sum_by extent (take (suc i) es) ≡ to = p' ∙ sym x in
      let c : take (sum_by extent (drop (suc i) es)) (drop (start + extent e) k) ≡ take (sum_by extent (drop (suc i) es)) (drop (sum_by extent (take (suc i) es)) m) = ap (λ j. take j (drop (start + extent e) k)) u ∙ behind ∙ ap (λ j. take T (drop j m)) (sym f) ∙ ap (λ j. take j (drop (sum_by extent (take (suc i) es)) m)) (sym u) in
      let r = laid_set extent es i e m k v (omega arith) (λ j. omega arith) before here c in
      cc

  -- the bytes b in the place of those of entry i
  pub put_bytes : (t : Packed) (e : Entry) (b k : List ℕ) (from to : ℕ) → in_use t ≡ set (in_use s) i e → vec_items t.pool ≡ k → from ≡ start → to ≡ start + extent entry → extent e ≡ length b → take from k ≡ take from (vec_items s.pool) → take (length b) (drop from k) ≡ b → take (s.used - to) (drop (from + length b) k) ≡ take (s.used - to) (drop to (vec_items s.pool)) → list_of t ≡ set (list_of s) i (value_at e b)
  put_bytes t e b k from to q p at x size before here behind =
      let m = vec_items s.pool in
      let T = s.used - to in
      let before' : take start (vec_items t.pool) ≡ take start m = ap (take start) p ∙ ap (λ j. take j k) (sym at) ∙ before ∙ ap (λ j. take j m) at in
      let whole = take_all (extent e) b (omega arith) in
      let same = value_same e (drop from k) b (extent e) (omega arith) (ap (λ j. take j (drop from k)) size ∙ here ∙ sym whole) in
      let here' : value_at e (drop start (vec_items t.pool)) ≡ value_at e b = ap (λ z. value_at e (drop start z)) p ∙ ap (λ j. value_at e (drop j k)) (sym at) ∙ same in
      let behind' : take T (drop (start + extent e) (vec_items t.pool)) ≡ take T (drop to m) = ap (λ z. take T (drop (start + extent e) z)) p ∙ ap (λ j. take T (drop j k)) (omega arith) ∙ behind in
      put_entry t e (value_at e b) to T q x refl before' here' behind'

  -- a number in the place of a number
  pub put_number : (t : Packed) (x : ℕ) → in_use t ≡ set (in_use s) i (Number x) → vec_items t.pool ≡ vec_items s.pool → extent entry ≡ 0 → list_of t ≡ set (list_of s) i (number x)
  put_number t x q p z =
      let T = s.used - (start + extent entry) in
      put_entry t (Number x) (number x) (start + extent entry) T q refl refl (ap (take start) p) refl (ap (λ m. take T (drop (start + 0) m)) p ∙ ap (λ j. take T (drop j (vec_items s.pool))) (omega arith))

-- the same entries and starts by other names
pub placed_as : (n m : ℕ) (es fs : List Entry) (starts others : List ℕ) → m ≡ n → fs ≡ es → others ≡ starts → Placed n es starts → Placed m fs others
placed_as n m es fs starts others a b c p k h =
    ap (λ zs. get_or zs k 0) c ∙ p k (omega arith) ∙ sym (ap (λ zs. sum_by extent (take k zs)) b)

pub new_list : (s : Packed) → s.slots.items ≡ [] → list_of s ≡ []
unfolding list_of
new_list s e = ap (λ slots. laid extent (entries_of slots) (vec_items s.pool)) e

pub opened_list : (t : Packed) (ks : List ℕ) → length ks ≤ most_slots → in_use t ≡ entries_for ks → list_of t ≡ map fresh ks
unfolding list_of
opened_list t ks h e =
    let a = entries_all ks h in
    let b = laid_fresh extent ks (vec_items t.pool) in
    cc

pub opened_used : (es : List Entry) (ks : List ℕ) → length ks ≤ most_slots → es ≡ entries_for ks → 0 ≡ sum_by extent es
opened_used es ks h e =
    let a = entries_all ks h in
    let b = sum_fresh ks in
    cc

pub opened_placed : (es : List Entry) (starts : List ℕ) (ks : List ℕ) (n : ℕ) → length ks ≤ most_slots → es ≡ entries_for ks → ((k : ℕ) → get_or starts k 0 ≡ 0) → Placed n es starts
opened_placed es starts ks n h e z k b =
    let u = opened_used es ks h e in
    let m = sum_by-take-le extent es k in
    omega (arith, z k)
