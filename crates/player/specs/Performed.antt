-- What a whole succession of calls came to, from start to eject.
use Rattle.std.specs.Prelude.{◌≡◌, ℕ, min, true, List, [], ◌∷◌, ◌++◌, map, length, take, Err, slice_index_or}
use Rattle.nodes.specs.Nodes.{Sheet}
use Rattle.shelf.specs.Value.{Value}
use Rattle.semantics.specs.declared.status.Cause.TheVariants.{TooFewSlots}
use Rattle.semantics.specs.declared.status.Status.TheVariants.{Ready, Ended, Stopped}
use Rattle.semantics.specs.declared.call.Call.{Call}
use Rattle.semantics.specs.declared.call.Call.TheVariants.{Play, Rewind, Look}
use Rattle.semantics.specs.declared.call.Answer.{Answer}
use Rattle.semantics.specs.declared.call.Answer.TheVariants.{Played, Rewound, Looked}
use Rattle.semantics.specs.Semantics.{run, begun}
use Rattle.semantics.specs.Calls.{all_after, all_answers, granted, reported}
use Rattle.semantics.specs.Evaluates.{Evaluates, beats_in, whole, starting}
use Rattle.semantics.specs.Law.{Held, Has, Endless, Lawful}
use Rattle.semantics.specs.Report.{ComesTo}
use Rattle.semantics.specs.declared.call.LookRefusal.TheVariants as L

-- the answers given and the values left, where the shelf has the slots
pub record Performed (sh : Sheet) (R : ℕ) (calls : List Call) (given : List Answer) (vs : List Value) : Type 0 where
  -- each answer is the semantics', fed the same calls
  pub answers : take (length calls) given ≡ all_answers true sh R calls (begun sh)
  pub values : vs ≡ (all_after true sh R calls (begun sh)).values
  -- kept, stops, ended, goes_on, counted, portions: at every moment of the succession
  pub lawful : Lawful sh R calls
  -- beats reported since the latest Start or Rewind are the smaller of those granted and those that the sheet has
  pub counted : (h : ℕ) → Has sh R h → reported 0 (take (length calls) given) ≡ min (granted 0 calls) h
  pub counted_endless : Endless sh R → reported 0 (take (length calls) given) ≡ granted 0 calls
  -- the shelf holds the values after so many beats, whatever portions the grant came in
  pub portions : vs ≡ (run sh R (reported 0 (take (length calls) given)) (begun sh)).values
  -- each variable has a value of its kind, and nothing passes its limit
  pub kept : Held sh R vs
  -- where the last answer says that the sheet has ended, it evaluates to the values left
  pub evaluates : (before : List Call) (g n : ℕ) → calls ≡ before ++ (Play g ∷ []) → slice_index_or given (length before) (Rewound Ready) ≡ Played (record { beats = n; status = Ended }) → Evaluates sh (whole sh) (starting sh) vs
  -- and where the sheet evaluates to some values, the semantics ends with them, unless a limit stops it
  pub reached : (ws : List Value) (d : Evaluates sh (whole sh) (starting sh) ws) → ComesTo sh R (beats_in d) ws

-- what each call answers where the shelf has too few slots
abbrev pub unplayed : Call → Answer
unplayed (Play g) = Played (record { beats = 0; status = Stopped TooFewSlots 0 })
unplayed Rewind = Rewound (Stopped TooFewSlots 0)
unplayed (Look i line) = Looked (Err L.TooFewSlots) line

pub record Unplayed (calls : List Call) (given : List Answer) (before after : List Value) : Type 0 where
  pub answers : take (length calls) given ≡ map unplayed calls
  pub values : after ≡ before
