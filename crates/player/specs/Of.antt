-- The state that a player stands for.
use Rattle.std.specs.Prelude.{◌≡◌, ℕ, ◌-◌, ◌≤◌, Bool, true, List, ◌∷◌, reverse, length, take, slice_index}
use Rattle.nodes.specs.Nodes.{view_at, kinds, integer}
use Rattle.nodes.specs.Limits.{deepest_nest}
use Rattle.deck.specs.Sound.{kind_in}
use Rattle.deck.specs.Sheets.{sheet_of}
use Rattle.deck.specs.declared.deck.Deck.{Deck}
use Rattle.shelf.specs.Value.{Value}
use Rattle.shelf.specs.declared.Shelf.{Ghosts}
use Rattle.semantics.specs.declared.status.Status.{Status}
use Rattle.semantics.specs.declared.status.Status.TheVariants.{Ready}
use Rattle.semantics.specs.Semantics.{State, settle, status_of, beat, run, beats}
use Rattle.semantics.specs.Calls.{started, after, answer}
use Rattle.semantics.specs.declared.call.Call.{Call}
use Rattle.semantics.specs.declared.call.Answer.{Answer}
use Rattle.player.specs.declared.course.Course.{Course}
use Rattle.player.specs.declared.course.Coming.{Coming}
use Rattle.player.specs.declared.player.Player.{Player}
use Rattle.player.specs.Stack.{reaches}
use Rattle.player.specs.Opening.{enough_slots}
use Rattle.nodes.specs.declared.view.View.{View}
use Rattle.nodes.specs.declared.view.View.TheVariants as V

-- how many series a course has still to do
abbrev pub depth_of : Course → ℕ
depth_of c = length c.todo.items

abbrev pub todo_of : Course → List ℕ
todo_of c = reverse c.todo.items

abbrev pub front_of : Course → ℕ
front_of c = slice_index c.todo.items (depth_of c - 1)

abbrev pub behind : Course → List ℕ
behind c = reverse (take (depth_of c - 1) c.todo.items)

-- a course in the deck d, with the series ts still to do, in status s
pub record Stands (d : Deck) (c : Course) (ts : List ℕ) (s : Status) : Type 0 where
  pub deck : c.deck ≡ d
  pub todo : todo_of c ≡ ts
  pub status : c.status ≡ s

-- the course in the deck d goes on with the series ts
abbrev pub Moved : Deck → Course → List ℕ → Type 0
Moved d c ts = Stands d c (settle (sheet_of d) ts) (status_of (settle (sheet_of d) ts))

-- a ready course has room for the series x in place of its front one
pub record Fits (c : Course) (x : ℕ) : Type 0 where
  pub ready : c.status ≡ Ready
  pub fits : reaches (sheet_of c.deck) x (deepest_nest - (depth_of c - 1)) ≡ true

-- and for the series y before it
pub record Enters (c : Course) (x y : ℕ) : Type 0 where
  pub under : Fits c x
  pub deep : depth_of c ≤ deepest_nest
  pub inner : reaches (sheet_of c.deck) y (deepest_nest - depth_of c) ≡ true

abbrev pub state_with : List Value → Course → State
state_with vs c = record { values = vs; todo = todo_of c; status = c.status }

-- what stands in front of a ready course, and may be done with it
pub record Comes (c : Course) (r : Coming) : Type 0 where
  pub todo : todo_of c ≡ r.front ∷ behind c
  pub series_is : view_at (sheet_of c.deck).nodes r.front ≡ V.Series r.at r.rest
  pub statement_is : view_at (sheet_of c.deck).nodes r.at ≡ r.statement
  pub again : reaches (sheet_of c.deck) r.front (deepest_nest - (depth_of c - 1)) ≡ true
  pub rest : reaches (sheet_of c.deck) r.rest (deepest_nest - (depth_of c - 1)) ≡ true
  pub branches : (t p q : ℕ) → r.statement ≡ V.If t p q → (kind_in (kinds (sheet_of c.deck)) (view_at (sheet_of c.deck).nodes t) ≡ integer) × (depth_of c ≤ deepest_nest) × (reaches (sheet_of c.deck) p (deepest_nest - depth_of c) ≡ true) × (reaches (sheet_of c.deck) q (deepest_nest - depth_of c) ≡ true)
  pub body : (t p : ℕ) → r.statement ≡ V.While t p → (kind_in (kinds (sheet_of c.deck)) (view_at (sheet_of c.deck).nodes t) ≡ integer) × (depth_of c ≤ deepest_nest) × (reaches (sheet_of c.deck) p (deepest_nest - depth_of c) ≡ true)

-- a ready course has r in front, and its statement says w
pub record Faces (c : Course) (r : Coming) (w : View) : Type 0 where
  pub ready : c.status ≡ Ready
  pub comes : Comes c r
  pub is : r.statement ≡ w

abbrev pub state_of : {S : Type 0} → (S → List Value) → Player S → State
state_of f p = state_with (f p.shelf) p.course

abbrev pub deck_of : {S : Type 0} → Player S → Deck
deck_of p = p.course.deck

-- what a player on a shelf comes to, by what the shelf is
module _ {S : Type 0} (g : Ghosts S) where
  -- whether the shelf has slots enough for the deck's variables
  abbrev pub enough : Deck → S → Bool
  enough d f = enough_slots (g.slots f) (sheet_of d)

  -- as Start and Rewind leave it
  abbrev pub started_on : Deck → S → State
  started_on d f = started (enough d f) (sheet_of d) (g.values f)

  -- a player of the deck, on a shelf with the capacity and the slots that f has, in state s
  pub record Plays (d : Deck) (f : S) (p : Player S) (s : State) : Type 0 where
    pub deck : deck_of p ≡ d
    pub capacity : g.capacity p.shelf ≡ g.capacity f
    pub slots : g.slots p.shelf ≡ g.slots f
    pub state : state_of g.values p ≡ s

  -- q is p, gone on to state s
  abbrev pub GoesTo : Player S → Player S → State → Type 0
  GoesTo p q s = Plays (deck_of p) p.shelf q s

  -- p after one granted beat, after n of them, and how many of those are made
  abbrev pub beat_of : Player S → State
  beat_of p = beat (sheet_of (deck_of p)) (g.capacity p.shelf) (state_of g.values p)

  abbrev pub run_of : ℕ → Player S → State
  run_of n p = run (sheet_of (deck_of p)) (g.capacity p.shelf) n (state_of g.values p)

  abbrev pub beats_of : ℕ → Player S → ℕ
  beats_of n p = beats (sheet_of (deck_of p)) (g.capacity p.shelf) n (state_of g.values p)

  -- p after a call, and its answer
  abbrev pub after_call : Call → Player S → State
  after_call c p = after (enough (deck_of p) p.shelf) (sheet_of (deck_of p)) (g.capacity p.shelf) c (state_of g.values p)

  abbrev pub answer_to : Call → Player S → Answer
  answer_to c p = answer (enough (deck_of p) p.shelf) (sheet_of (deck_of p)) (g.capacity p.shelf) c (state_of g.values p)
