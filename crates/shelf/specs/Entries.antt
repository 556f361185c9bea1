-- The list that a table of entries and the bytes of their texts stand for, whatever bytes lie between the texts.
use Rattle.std.specs.Prelude.{◌≡◌, ℕ, ◌-◌, Bool, false, cond, List, [], ◌∷◌, ◌++◌, map, length, take, drop, replicate, Ok, Err, Result, ◌==◌, nat_lt, slice_index_or}
use Rattle.shelf.specs.declared.entry.Entry.{Entry}
use Rattle.shelf.specs.declared.entry.Entry.TheVariants.{Number, Text}
use Rattle.shelf.specs.declared.entry.Held.{Held}
use Rattle.shelf.specs.declared.entry.Held.TheVariants as H
use Rattle.shelf.specs.declared.refusal.Refusal.{Refusal}
use Rattle.shelf.specs.Limits.{most_slots, longest, largest}
use Rattle.shelf.specs.Value.{Value, number, text}

-- the bytes of an entry's text
abbrev pub extent : Entry → ℕ
extent (Number n) = 0
extent (Text l) = l

-- what an entry stands for, whose text begins these bytes
abbrev pub value_at : Entry → List ℕ → Value
value_at (Number n) m = number n
value_at (Text l) m = text (take l m)

-- the list, where an entry takes `width` bytes and begins behind those before it
abbrev pub laid : (Entry → ℕ) → List Entry → List ℕ → List Value
laid width [] m = []
laid width (e ∷ es) m = value_at e m ∷ laid width es (drop (width e) m)

-- what is held as a number or as bytes
abbrev pub meant : Held → Value
meant (H.Number n) = number n
meant (H.Text b) = text b.now

-- the same, of a text no more than n bytes
abbrev pub cut_to : ℕ → Held → Value
cut_to n (H.Number x) = number x
cut_to n (H.Text b) = text (take n b.now)

-- the answer, with the value in the place of what holds it
abbrev pub held_as : Result Held Refusal → Result Value Refusal
held_as (Ok h) = Ok (meant h)
held_as (Err e) = Err e

-- whether an entry passes the limit of a number or of a text
abbrev pub too_large : Entry → Bool
too_large (Number n) = nat_lt largest n
too_large (Text l) = nat_lt longest l

abbrev pub Within : List Entry → Type 0
Within es = (k : ℕ) → too_large (slice_index_or es k (Number 0)) ≡ false

-- the entry of a variable of this kind on a shelf that has just been opened
abbrev pub entry_for : ℕ → Entry
entry_for k = cond (k == 1) (Number 0) (Text 0)

-- a table that begins with the entries for these kinds
abbrev pub table_for : List ℕ → List Entry
table_for ks = map entry_for (take most_slots ks) ++ replicate (most_slots - length ks) (Number 0)

-- the entries for these kinds alone, as many as there can be slots
abbrev pub entries_for : List ℕ → List Entry
entries_for ks = map entry_for (take most_slots ks)
