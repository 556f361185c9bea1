-- The evaluation of series and statements as a relation on values: a rule to a constructor, and no limits.
use Rattle.std.specs.Prelude.{◌≡◌, ℕ, ◌+◌, ◌-◌, false, List, map, length, slice_set}
use Rattle.nodes.specs.Nodes.{Sheet, view_at, kinds}
use Rattle.shelf.specs.Value.{Value, num_of}
use Rattle.shelf.specs.Calls.{fresh}
use Rattle.semantics.specs.Syntax.{Expr, Statement, assign, if_else, while_do, skip, statement}
use Rattle.semantics.specs.Expressions.{ideal}
use Rattle.semantics.specs.Semantics.{full}
use Rattle.nodes.specs.declared.view.View.TheVariants as V

mutual
  -- series i takes the values vs to ws
  pub data Evaluates (sh : Sheet) : ℕ → List Value → List Value → Type 0 where
    -- an empty series leaves the values
    empty : {i : ℕ} {vs : List Value} → full (view_at sh.nodes i) ≡ false → Evaluates sh i vs vs
    -- a series evaluates its statement and then the rest
    then : {i a b : ℕ} {vs ws xs : List Value} → view_at sh.nodes i ≡ V.Series a b → Performs sh (statement sh a) vs ws → Evaluates sh b ws xs → Evaluates sh i vs xs

  -- a statement takes the values vs to ws
  pub data Performs (sh : Sheet) : Statement → List Value → List Value → Type 0 where
    -- an assignment sets the variable to the value of its expression
    sets : {n : ℕ} {e : Expr} {vs : List Value} → Performs sh (assign n e) vs (slice_set vs n (ideal vs e))
    -- an if whose test is unequal to 0 evaluates its first series, otherwise its second
    first : {e : Expr} {p q : ℕ} {vs ws : List Value} → ¬ (num_of (ideal vs e) ≡ 0) → Evaluates sh p vs ws → Performs sh (if_else e p q) vs ws
    second : {e : Expr} {p q : ℕ} {vs ws : List Value} → num_of (ideal vs e) ≡ 0 → Evaluates sh q vs ws → Performs sh (if_else e p q) vs ws
    -- a while whose test is 0 leaves the values, otherwise evaluates its body and then itself again
    leaves : {e : Expr} {p : ℕ} {vs : List Value} → num_of (ideal vs e) ≡ 0 → Performs sh (while_do e p) vs vs
    again : {e : Expr} {p : ℕ} {vs ws xs : List Value} → ¬ (num_of (ideal vs e) ≡ 0) → Evaluates sh p vs ws → Performs sh (while_do e p) ws xs → Performs sh (while_do e p) vs xs
    -- a node that is no statement leaves the values
    idles : {vs : List Value} → Performs sh skip vs vs

unfoldable mutual
  -- the beats of an evaluation: one to each statement, and to each test of a while
  pub beats_in : {sh : Sheet} {i : ℕ} {vs ws : List Value} → Evaluates sh i vs ws → ℕ
  beats_in (empty e) = 0
  beats_in (then v p d) = beats_of p + beats_in d

  pub beats_of : {sh : Sheet} {st : Statement} {vs ws : List Value} → Performs sh st vs ws → ℕ
  beats_of sets = 1
  beats_of (first h d) = 1 + beats_in d
  beats_of (second h d) = 1 + beats_in d
  beats_of (leaves h) = 1
  beats_of (again h d r) = 1 + (beats_in d + beats_of r)
  beats_of idles = 1

-- the whole sheet: its last series, from numbers 0 and empty texts
abbrev pub whole : Sheet → ℕ
whole sh = length sh.nodes - 1

abbrev pub starting : Sheet → List Value
starting sh = map fresh (kinds sh)
