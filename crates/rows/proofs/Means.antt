-- What a value of `Rows` stands for, read and changed.
use Rattle.std.proofs.Common.{◌≡◌, ℕ, suc, ◌+◌, ◌-◌, ◌*◌, ◌<◌, ◌≤◌, List, [], ◌∷◌, map, length, get_or, take, drop, set, vec_items, vec_len, sum_by, sym, refl, ap, ◌∙◌, mul-suc, arith, length-set}
use native.Mathlib.Nat.{mul-div-le}
use borrow.Rule.Slice.PartMut.{put_mid}
use Rattle.std.proofs.lemmas.List.{length-take-le}
use Rattle.std.proofs.lemmas.List.Sums.{sum_by-cons}
use Rattle.std.proofs.lemmas.Slice.{take-put_mid_below, drop-put_mid, between-put_mid}
use Rattle.std.proofs.lemmas.Bool.{le-ltb}
use Rattle.arrayvec.specs.ArrayVec.{array_vec_len}
use Rattle.shelf.specs.declared.entry.Entry.{Entry}
use Rattle.shelf.specs.declared.entry.Entry.TheVariants.{Number, Text}
use Rattle.shelf.specs.Limits.{longest, most_slots}
use Rattle.shelf.specs.Value.{Value, number, text, total}
use Rattle.shelf.specs.Calls.{fresh}
use Rattle.shelf.specs.Entries.{value_at, laid, too_large, entries_for}
use Rattle.shelf.proofs.Values.{bounded_set, total_bounded}
use Rattle.shelf.proofs.Entries.{get_d_laid, laid_set, laid_fresh, extent_within, Roomy, entries_all}
use Rattle.rows.specs.declared.rows.Rows.{Rows}
use Rattle.rows.specs.Model.{row, list_of}
use Rattle.rows.specs.Kept.{length_list, bounded_list}

-- row i begins behind i rows
rows_before : (es : List Entry) → sum_by row es ≡ longest * length es
rows_before [] = refl
rows_before (e ∷ es) =
    let s = sum_by-cons row e es in
    let r = rows_before es in
    omega (arith, mul-suc longest (length es))

row_at : (es : List Entry) (i : ℕ) → i ≤ length es → sum_by row (take i es) ≡ longest * i
row_at es i h = rows_before (take i es) ∙ ap (λ n. longest * n) (length-take-le i es h)

-- the memory has a row for each slot
pub rows_fit : (s : Rows) → longest * s.slots ≤ vec_len s.memory
rows_fit s = omega (arith, mul-div-le (vec_len s.memory) longest)

pub text_short : (s : Rows) (i n : ℕ) → get_or s.entries.items i (Number 0) ≡ Text n → n ≤ longest
text_short s i n e = extent_within (Text n) (ap too_large (sym e) ∙ s.within i)

module _ (s : Rows) (i : ℕ) (l : i < array_vec_len s.entries) where
  pub row_fits : longest * i + longest ≤ vec_len s.memory
  row_fits = omega (arith, rows_fit s)

  pub list_at : (e : Entry) → get_or s.entries.items i (Number 0) ≡ e → get_or (list_of s) i (number 0) ≡ value_at e (drop (longest * i) (vec_items s.memory))
  unfolding list_of
  list_at e q =
      let a = get_d_laid row s.entries.items (vec_items s.memory) i (number 0) l in
      let b = row_at s.entries.items i (omega arith) in
      cc

  -- entry i changed, in a memory that is the same before and behind its row
  pub put_entry : (t : Rows) (e : Entry) (v : Value) → t.entries.items ≡ set s.entries.items i e → take (longest * i) (vec_items t.memory) ≡ take (longest * i) (vec_items s.memory) → value_at e (drop (longest * i) (vec_items t.memory)) ≡ v → drop (longest * i + longest) (vec_items t.memory) ≡ drop (longest * i + longest) (vec_items s.memory) → list_of t ≡ set (list_of s) i v
  unfolding list_of
  put_entry t e v q before here behind =
      let es = s.entries.items in
      let m = vec_items s.memory in
      let k = vec_items t.memory in
      let p = row_at es i (omega arith) in
      let p' : sum_by row (take (suc i) es) ≡ longest * i + longest = row_at es (suc i) (omega arith) ∙ mul-suc longest i in
      let roomy : Roomy row es = λ j. extent_within (get_or es j (Number 0)) (s.within j) in
      let T = sum_by row (drop (suc i) es) in
      let a : take (sum_by row (take i es)) k ≡ take (sum_by row (take i es)) m = ap (λ j. take j k) p ∙ before ∙ ap (λ j. take j m) (sym p) in
      let b : value_at e (drop (sum_by row (take i es)) k) ≡ v = ap (λ j. value_at e (drop j k)) p ∙ here in
      let c : take T (drop (sum_by row (take i es) + longest) k) ≡ take T (drop (sum_by row (take (suc i) es)) m) = ap (λ j. take T (drop (j + longest) k)) p ∙ ap (take T) behind ∙ ap (λ j. take T (drop j m)) (sym p') in
      let r = laid_set row es i e m k v l roomy a b c in
      cc

  -- the text b written over the beginning of row i
  pub put_text : (t : Rows) (b ys : List ℕ) (j : ℕ) → length b ≤ longest → t.entries.items ≡ set s.entries.items i (Text (length b)) → vec_items t.memory ≡ put_mid (longest * i) (j - longest * i) (vec_items s.memory) ys → j ≡ longest * i + length b → ys ≡ b → list_of t ≡ set (list_of s) i (text b)
  put_text t b ys j h q w x y =
      let m = vec_items s.memory in
      let P = longest * i in
      let f = row_fits in
      let d : j - P ≡ length b = omega arith in
      let yl : length ys ≡ j - P = ap length y ∙ sym d in
      let here : take (length b) (drop P (put_mid P (j - P) m ys)) ≡ b = ap (λ n. take n (drop P (put_mid P (j - P) m ys))) (sym d) ∙ between-put_mid P (j - P) m ys j (omega arith) yl ∙ y in
      put_entry t (Text (length b)) (text b) q (ap (take P) w ∙ take-put_mid_below P (j - P) m ys P (omega arith) (omega arith)) (ap text (ap (λ z. take (length b) (drop P z)) w ∙ here)) (ap (drop (P + longest)) w ∙ drop-put_mid P (j - P) m ys (P + longest) (omega arith) (omega arith) yl)

  -- whatever text comes in, a row is long enough for it
  pub texts_fit : (b : List ℕ) → length b ≤ longest → total (set (list_of s) i (text b)) ≤ longest * s.slots
  texts_fit b h =
      let w = bounded_set (list_of s) i (text b) (bounded_list s) (le-ltb longest (length b) h) in
      omega (arith, total_bounded (set (list_of s) i (text b)) w, length-set (list_of s) i (text b), length_list s)

pub new_list : (s : Rows) → s.entries.items ≡ [] → list_of s ≡ []
unfolding list_of
new_list s e = ap (λ es. laid row es (vec_items s.memory)) e

pub opened_list : (t : Rows) (ks : List ℕ) → length ks ≤ most_slots → t.entries.items ≡ entries_for ks → list_of t ≡ map fresh ks
unfolding list_of
opened_list t ks h e =
    let a = entries_all ks h in
    let b = laid_fresh row ks (vec_items t.memory) in
    cc
