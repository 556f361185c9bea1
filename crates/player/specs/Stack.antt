-- What a course keeps of the series still to do.
use Rattle.std.specs.Prelude.{◌≡◌, ℕ, ◌-◌, ◌<◌, ◌≤◌, Bool, true, ◌&&◌, List, reverse, length, ◌==◌, nat_le, slice_index}
use Rattle.nodes.specs.Nodes.{Sheet, node_at}
use Rattle.nodes.specs.Limits.{deepest_nest}
use Rattle.nodes.specs.Trees.{tree, nest}
use Rattle.semantics.specs.declared.status.Status.{Status}
use Rattle.semantics.specs.declared.status.Status.TheVariants.{Ready, Ended, Stopped}
use Rattle.semantics.specs.Semantics.{settle, status_of}

-- the most series still to do: one for each nest, and the sheet's own
abbrev pub most_series : ℕ
most_series = 17

-- the nest of node i is at most m
abbrev pub reaches : Sheet → ℕ → ℕ → Bool
reaches sh i m = nat_le (nest (tree sh.nodes i)) m

-- the series still to do, the first one last: the k-th of nest at most 16 - k
abbrev pub Stacked : Sheet → List ℕ → Type 0
Stacked sh ts = (k : ℕ) → k < length ts → (nat_le k deepest_nest && reaches sh (slice_index ts k) (deepest_nest - k)) ≡ true

-- where it is ready, a series with a statement stands in front
abbrev pub front_right : Sheet → List ℕ → Status → Bool
front_right sh ts Ready = nat_le 1 (length ts) && (node_at sh.nodes (slice_index ts (length ts - 1))).kind == 10
front_right sh ts Ended = true
front_right sh ts (Stopped c a) = true

-- us is ts without the empty series in front, and s how a course with those stands
pub record Settles (sh : Sheet) (ts us : List ℕ) (s : Status) : Type 0 where
  pub few : length us ≤ length ts
  pub stacked : Stacked sh ts → Stacked sh us
  pub front : front_right sh us s ≡ true
  pub todo : reverse us ≡ settle sh (reverse ts)
  pub status : s ≡ status_of (settle sh (reverse ts))
