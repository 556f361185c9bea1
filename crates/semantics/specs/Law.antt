-- The law over any succession of calls.
use Rattle.std.specs.Prelude.{◌≡◌, ℕ, ◌<◌, ◌≤◌, min, Bool, true, false, cond, ◌⊎◌, ◌↔◌, List, [], ◌∷◌, length, take, slice_index, slice_index_or, slice_set}
use Rattle.nodes.specs.Nodes.{Sheet, view_at, kinds}
use Rattle.nodes.specs.declared.view.View.{View}
use Rattle.deck.specs.Sound.{Sound}
use Rattle.shelf.specs.Value.{Value, number, kind_of, total, over}
use Rattle.semantics.specs.declared.status.Status.{Status}
use Rattle.semantics.specs.declared.status.Status.TheVariants.{Ready, Ended, Stopped}
use Rattle.semantics.specs.declared.call.Call.{Call}
use Rattle.semantics.specs.Syntax.{Statement, assign, if_else, while_do, skip, own, statement}
use Rattle.semantics.specs.Expressions.{ideal, Passes}
use Rattle.semantics.specs.Semantics.{State, full, beat, made, run, beats, begun}
use Rattle.semantics.specs.Calls.{all_after, all_answers, granted, reported}
use Rattle.semantics.specs.Evaluates.{Evaluates, whole, starting}
use Rattle.nodes.specs.declared.view.View.TheVariants as V

-- each variable has a value of its declared kind, and no number, text or total of texts passes its limit
pub record Held (sh : Sheet) (R : ℕ) (vs : List Value) : Type 0 where
  pub each : length vs ≡ length (kinds sh)
  pub kind : (i : ℕ) → i < length (kinds sh) → kind_of (slice_index_or vs i (number 0)) ≡ slice_index (kinds sh) i
  pub limit : (i : ℕ) → i < length (kinds sh) → over (slice_index_or vs i (number 0)) ≡ false
  pub capacity : total vs ≤ R

-- the statement that comes next
abbrev pub first_of : Sheet → View → Statement
first_of sh (V.Series a b) = statement sh a
first_of sh (V.Variable p s c) = skip
first_of sh (V.Number n) = skip
first_of sh (V.Text a b) = skip
first_of sh (V.Plus a b) = skip
first_of sh (V.Conc a b) = skip
first_of sh (V.Assign a b) = skip
first_of sh (V.If a b c) = skip
first_of sh (V.While a b) = skip
first_of sh (V.Declaration p s k) = skip
first_of sh V.Empty = skip
first_of sh V.Unknown = skip

abbrev pub coming : Sheet → List ℕ → Statement
coming sh [] = skip
coming sh (f ∷ ts) = first_of sh (view_at sh.nodes f)

-- all texts together, as the statement would leave them
abbrev pub texts_after : List Value → Statement → ℕ
texts_after vs (assign n e) = total (slice_set vs n (ideal vs e))
texts_after vs (if_else e p q) = total vs
texts_after vs (while_do e p) = total vs
texts_after vs skip = total vs

-- a sum or text in the statement's own expression, or the total of texts, would pass its limit
abbrev pub WouldPass : ℕ → List Value → Statement → Type 0
WouldPass R vs st = Passes vs (own st) ⊎ (R < texts_after vs st)

abbrev pub IsStopped : Status → Type 0
IsStopped Ready = ⊥
IsStopped Ended = ⊥
IsStopped (Stopped c a) = Unit {0}

-- whether a statement is left in the series still to do
abbrev pub left : Sheet → List ℕ → Bool
left sh [] = false
left sh (i ∷ is) = cond (full (view_at sh.nodes i)) true (left sh is)

-- the sheet has h beats: the semantics makes them, and never more
pub record Has (sh : Sheet) (R h : ℕ) : Type 0 where
  pub makes : beats sh R h (begun sh) ≡ h
  pub never : (n : ℕ) → beats sh R n (begun sh) ≤ h

abbrev pub Endless : Sheet → ℕ → Type 0
Endless sh R = (n : ℕ) → beats sh R n (begun sh) ≡ n

-- a moment of the succession: j granted beats after the first k calls
abbrev pub moment : Sheet → ℕ → List Call → ℕ → ℕ → State
moment sh R calls k j = run sh R j (all_after true sh R (take k calls) (begun sh))

-- beats reported since the latest Start or Rewind
abbrev pub reports : Sheet → ℕ → List Call → ℕ
reports sh R calls = reported 0 (all_answers true sh R calls (begun sh))

-- what holds of any succession of calls, where the shelf has the slots
pub record Lawful (sh : Sheet) (R : ℕ) (calls : List Call) : Type 0 where
  -- after start, after every call and after every beat, kinds and limits are kept
  pub kept : (k j : ℕ) → Held sh R (moment sh R calls k j).values
  -- a granted beat stops it exactly when something would pass its limit
  pub stops : (k j : ℕ) → (moment sh R calls k j).status ≡ Ready → IsStopped (beat sh R (moment sh R calls k j)).status ↔ WouldPass R (moment sh R calls k j).values (coming sh (moment sh R calls k j).todo)
  -- it is ended exactly when no statement is left
  pub ended : (k j : ℕ) → (moment sh R calls k j).status ≡ Ended ↔ left sh (moment sh R calls k j).todo ≡ false
  -- every other granted beat is made
  pub goes_on : (k j : ℕ) → (moment sh R calls k j).status ≡ Ready → ¬ (WouldPass R (moment sh R calls k j).values (coming sh (moment sh R calls k j).todo)) → made sh R (moment sh R calls k j) ≡ 1
  -- beats reported are the smaller of those granted and those that the sheet has
  pub counted : (h : ℕ) → Has sh R h → reports sh R calls ≡ min (granted 0 calls) h
  pub counted_endless : Endless sh R → reports sh R calls ≡ granted 0 calls
  -- the values are those after so many beats, whatever portions the grant came in
  pub portions : all_after true sh R calls (begun sh) ≡ run sh R (granted 0 calls) (begun sh)
  pub values : (all_after true sh R calls (begun sh)).values ≡ (run sh R (reports sh R calls) (begun sh)).values
  -- where it has ended, the sheet evaluates to the values
  pub evaluated : (all_after true sh R calls (begun sh)).status ≡ Ended → Evaluates sh (whole sh) (starting sh) (all_after true sh R calls (begun sh)).values

abbrev pub Law : Type 0
Law = (sh : Sheet) (R : ℕ) → Sound sh → (calls : List Call) → Lawful sh R calls
