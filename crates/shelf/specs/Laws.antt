-- What holds of every shelf at every time.
use Rattle.std.specs.Prelude.{◌≡◌, ℕ, ◌≤◌, false, List, length, slice_index_or}
use Rattle.shelf.specs.Limits.{most_slots}
use Rattle.shelf.specs.Value.{Value, number, total, over}

pub record Laws {S : Type 0} (values : S → List Value) (slots capacity : S → ℕ) : Type 0 where
  pub few : (s : S) → length (values s) ≤ slots s
  pub small : (s : S) → slots s ≤ most_slots
  pub fits : (s : S) → total (values s) ≤ capacity s
  pub within : (s : S) (i : ℕ) → over (slice_index_or (values s) i (number 0)) ≡ false
