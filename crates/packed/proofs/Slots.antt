-- The entries and the starts of slots, where some are written.
use Rattle.std.proofs.Common.{◌≡◌, ℕ, zero, suc, ◌+◌, ◌-◌, ◌<◌, ◌≤◌, List, [], ◌∷◌, ◌++◌, map, length, get_or, take, drop, set, sym, refl, ap, ◌∙◌, arith, length-set}
use borrow.Rule.Slice.PartMut.{put_mid}
use Rattle.std.proofs.Math.Seq.{map-set_same}
use Rattle.std.proofs.lemmas.List.{map-append, map-set, take-map, drop-map, take-append-drop, get_or-take, get_or-drop}
use Rattle.std.proofs.lemmas.Slice.{take-put_mid_below, between-put_mid}
use Rattle.arrayvec.specs.ArrayVec.{ArrayVec, array_vec_len, with_items}
use Rattle.shelf.proofs.Lists.{items-set}
use Rattle.shelf.specs.declared.entry.Entry.TheVariants.{Number}
use Rattle.packed.specs.declared.slot.Slot.{Slot}
use Rattle.packed.specs.Slots.{entry_of, start_of, entries_of, starts_of}

-- a part of a list written
pub map-put_mid : {X Y : Type 0} (f : X → Y) (a k : ℕ) (xs ys : List X) → map f (put_mid a k xs ys) ≡ put_mid a k (map f xs) (map f ys)
map-put_mid f a k xs ys = simp (map-append, take-map, drop-map)

pub put_mid_same : {X : Type 0} (a k : ℕ) (xs : List X) → put_mid a k xs (take k (drop a xs)) ≡ xs
put_mid_same a k xs = ap (λ ys. take a xs ++ ys) (take-append-drop k (drop a xs)) ∙ take-append-drop a xs

-- the part written is, for f, what it was
pub map-put_mid_same : {X Y : Type 0} (f : X → Y) (a k : ℕ) (xs ys : List X) → map f ys ≡ map f (take k (drop a xs)) → map f (put_mid a k xs ys) ≡ map f xs
map-put_mid_same f a k xs ys e = map-put_mid f a k xs ys ∙ ap (put_mid a k (map f xs)) e ∙ sym (map-put_mid f a k xs (take k (drop a xs))) ∙ ap (map f) (put_mid_same a k xs)

module _ (xs ys : List ℕ) (a e j : ℕ) where
  pub put_before : j < a → a ≤ length xs → get_or (put_mid a (e - a) xs ys) j 0 ≡ get_or xs j 0
  put_before h l = sym (get_or-take a (put_mid a (e - a) xs ys) j 0 h) ∙ ap (λ zs. get_or zs j 0) (take-put_mid_below a (e - a) xs ys a (omega arith) l) ∙ get_or-take a xs j 0 h

  pub put_within : a ≤ j → j < e → a ≤ length xs → length ys ≡ e - a → get_or (put_mid a (e - a) xs ys) j 0 ≡ get_or ys (j - a) 0
  put_within h b l n =
      let w = put_mid a (e - a) xs ys in
      let m = j - a in
      let g = get_or-take (e - a) (drop a w) m 0 (omega arith) in
      let d = get_or-drop a w m 0 in
      ap (λ i. get_or w i 0) (omega arith) ∙ sym d ∙ sym g ∙ ap (λ zs. get_or zs m 0) (between-put_mid a (e - a) xs ys e l n)

abbrev pub blank : Slot
blank = record { entry = Number 0; start = 0 }

-- the start in a slot
pub start_in : (xs : List Slot) (i : ℕ) → get_or (starts_of xs) i 0 ≡ (get_or xs i blank).start
start_in [] i = refl
start_in (x ∷ xs) zero = refl
start_in (x ∷ xs) (suc i) = start_in xs i

pub part_start : (xs : List Slot) (a k i : ℕ) → i < k → get_or (starts_of (take k (drop a xs))) i 0 ≡ get_or (starts_of xs) (a + i) 0
part_start xs a k i h =
    ap (λ zs. get_or zs i 0) (sym (take-map start_of k (drop a xs)) ∙ ap (take k) (sym (drop-map start_of a xs)))
    ∙ get_or-take k (drop a (starts_of xs)) i 0 h
    ∙ get_or-drop a (starts_of xs) i 0

-- slot i written
module _ (v : ArrayVec Slot) (xs : List Slot) (i : ℕ) (y : Slot) (e : xs ≡ v.items) where
  pub length_written : array_vec_len (with_items v (set xs i y)) ≡ array_vec_len v
  length_written = ap length (items-set v xs i y e) ∙ length-set v.items i y

  pub entries_written : entries_of (with_items v (set xs i y)).items ≡ set (entries_of v.items) i y.entry
  entries_written = ap entries_of (items-set v xs i y e) ∙ map-set entry_of v.items i y

  pub starts_written : y.start ≡ (get_or xs i blank).start → starts_of (with_items v (set xs i y)).items ≡ starts_of v.items
  starts_written s = ap starts_of (items-set v xs i y e) ∙ map-set_same start_of v.items i y blank (s ∙ ap (λ zs. start_of (get_or zs i blank)) e)
