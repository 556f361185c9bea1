-- What a succession of calls does to the semantics, and what each call answers.
use Rattle.std.specs.Prelude.{ℕ, ◌+◌, Bool, cond, List, [], ◌∷◌, length, Ok, Err, Result, nat_lt, slice_index_or}
use Rattle.nodes.specs.Nodes.{Sheet}
use Rattle.shelf.specs.Value.{Value, number, text}
use Rattle.shelf.specs.Calls.{line_of}
use Rattle.shelf.specs.declared.refusal.Refusal.{Refusal}
use Rattle.shelf.specs.declared.refusal.Refusal.TheVariants.{NoEntry}
use Rattle.semantics.specs.declared.status.Cause.TheVariants.{SumTooLarge, TextTooLong, NoRoom, TooFewSlots}
use Rattle.semantics.specs.declared.status.Status.{Status}
use Rattle.semantics.specs.declared.status.Status.TheVariants.{Ready, Ended, Stopped}
use Rattle.semantics.specs.declared.call.Call.{Call}
use Rattle.semantics.specs.declared.call.Call.TheVariants.{Play, Rewind, Look}
use Rattle.semantics.specs.declared.call.Outcome.{Outcome}
use Rattle.semantics.specs.declared.call.Outcome.TheVariants.{Number, Text}
use Rattle.semantics.specs.declared.call.LookRefusal.{LookRefusal}
use Rattle.semantics.specs.declared.call.Answer.{Answer}
use Rattle.semantics.specs.declared.call.Answer.TheVariants.{Played, Rewound, Looked}
use Rattle.semantics.specs.Semantics.{State, halted, run, beats, begun}
use Rattle.semantics.specs.declared.call.LookRefusal.TheVariants as L

-- what is seen of a variable, and the line afterwards: a text stands in it, with zeros behind
pub record Seen : Type 0 where
  pub answer : Result Outcome Refusal
  pub line : List ℕ

abbrev pub seen_as : Value → List ℕ → Seen
seen_as (number n) line = record { answer = Ok (Number n); line = line }
seen_as (text t) line = record { answer = Ok (Text (length t)); line = line_of t }

abbrev pub seen : List Value → ℕ → List ℕ → Seen
seen vs i line = cond (nat_lt i (length vs)) (seen_as (slice_index_or vs i (number 0)) line) (record { answer = Err NoEntry; line = line })

-- a refusal of the shelf, as a Look has it
abbrev pub blamed : Result Outcome Refusal → Result Outcome LookRefusal
blamed (Ok x) = Ok x
blamed (Err e) = Err (L.Shelf e)

abbrev pub looked : List Value → ℕ → List ℕ → Answer
looked vs i line = Looked (blamed (seen vs i line).answer) (seen vs i line).line

-- as Start and Rewind leave it, where the shelf has slots enough for the variables or has not
abbrev pub started : Bool → Sheet → List Value → State
started enough sh vs = cond enough (begun sh) (halted vs [] TooFewSlots 0)

abbrev pub look_at : Status → List Value → ℕ → List ℕ → Answer
look_at Ready vs i line = looked vs i line
look_at Ended vs i line = looked vs i line
look_at (Stopped SumTooLarge a) vs i line = looked vs i line
look_at (Stopped TextTooLong a) vs i line = looked vs i line
look_at (Stopped (NoRoom e) a) vs i line = looked vs i line
look_at (Stopped TooFewSlots a) vs i line = Looked (Err L.TooFewSlots) line

abbrev pub after : Bool → Sheet → ℕ → Call → State → State
after enough sh R (Play g) s = run sh R g s
after enough sh R Rewind s = started enough sh s.values
after enough sh R (Look i line) s = s

abbrev pub answer : Bool → Sheet → ℕ → Call → State → Answer
answer enough sh R (Play g) s = Played (record { beats = beats sh R g s; status = (run sh R g s).status })
answer enough sh R Rewind s = Rewound (started enough sh s.values).status
answer enough sh R (Look i line) s = look_at s.status s.values i line

unfoldable pub all_after : Bool → Sheet → ℕ → List Call → State → State
all_after enough sh R [] s = s
all_after enough sh R (c ∷ cs) s = all_after enough sh R cs (after enough sh R c s)

unfoldable pub all_answers : Bool → Sheet → ℕ → List Call → State → List Answer
all_answers enough sh R [] s = []
all_answers enough sh R (c ∷ cs) s = answer enough sh R c s ∷ all_answers enough sh R cs (after enough sh R c s)

-- beats granted since the latest Start or Rewind, where g had been before
abbrev pub granting : ℕ → Call → ℕ
granting g (Play n) = g + n
granting g Rewind = 0
granting g (Look i line) = g

unfoldable pub granted : ℕ → List Call → ℕ
granted g [] = g
granted g (c ∷ cs) = granted (granting g c) cs

-- beats reported since the latest Start or Rewind, where b had been before
abbrev pub reporting : ℕ → Answer → ℕ
reporting b (Played p) = b + p.beats
reporting b (Rewound t) = 0
reporting b (Looked r line) = b

unfoldable pub reported : ℕ → List Answer → ℕ
reported b [] = b
reported b (a ∷ rest) = reported (reporting b a) rest
