-- How a sheet is read, one word at a time: the state is what stands open around the point reached.
use Rattle.std.specs.Prelude.{ℕ, ◌-◌, Bool, true, false, List, [], ◌∷◌, ◌==◌}
use Rattle.words.specs.declared.word.Refusal.{Refusal}
use Rattle.words.specs.declared.word.Refusal.TheVariants as R
use Rattle.grammar.specs.Grammar.{Fixed, Begin, End, Declare, Integer, String, If, Then, Else, Fi, While, Do, Od, Open, Close, Plus, Minus, Semicolon, Comma, Join, Colon, Becomes, Part, Token, fixed, name, number, text, Sort, integer, string, Tree, variable, constant, letters, plus, join, assign, choose, loop, none, more, first, also, sheet}

abbrev pub code : Fixed → ℕ
code Begin = 0
code End = 1
code Declare = 2
code Integer = 3
code String = 4
code If = 5
code Then = 6
code Else = 7
code Fi = 8
code While = 9
code Do = 10
code Od = 11
code Open = 12
code Close = 13
code Plus = 14
code Minus = 15
code Semicolon = 16
code Comma = 17
code Join = 18
code Colon = 19
code Becomes = 20

abbrev pub same : Fixed → Fixed → Bool
same a b = code a == code b

-- where a series stands: what is open around it
pub data Around : Type 0 where
  whole : Tree → Around
  after : Tree → Around → Around
  taken : Tree → Around → Around
  left : Tree → Tree → Around → Around
  body : Tree → Around → Around

-- what stands before a term in its expression
pub data Before : Type 0 where
  start : Before
  sum : Tree → Before
  chain : Tree → Before

-- where an expression stands
pub data For : Type 0 where
  value : Part → Around → For
  test : Around → For
  guard : Around → For
  group : Before → For → For

-- what was declared before a name
pub data Given : Type 0 where
  nothing_yet : Given
  given : Tree → Given

abbrev pub declare : Given → Part → Sort → Tree
declare nothing_yet n s = first n s
declare (given d) n s = also d n s

-- what has been read, and what may come next
pub data State : Type 0 where
  empty : State
  begun : State
  naming : Given → State
  typing : Given → Part → State
  sorting : Given → Part → State
  declared : Tree → State
  series : Around → State
  closing : Around → Tree → State
  becoming : Part → Around → State
  done : Around → Tree → State
  term : Before → For → State
  tail : For → Tree → State
  leaving : For → Tree → State
  over : Tree → State

pub data Move : Type 0 where
  go : State → Move
  no : Move

abbrev pub when : Bool → State → Move
when true s = go s
when false s = no

abbrev pub or : Bool → State → Move → Move
or true s m = go s
or false s m = m

abbrev pub with : Before → Tree → Tree
with start e = e
with (sum a) e = plus a e
with (chain a) e = join a e

-- the series a, read to its end, and then the word w
abbrev pub close : Around → Tree → Fixed → Move
close (whole d) a w = when (same w End) (over (sheet d a))
close (after s o) a w = close o (more s a) w
close (taken e o) a w = when (same w Else) (series (left e a o))
close (left e b o) a w = when (same w Fi) (done o (choose e b a))
close (body e o) a w = when (same w Od) (done o (loop e a))

-- the statement s, read to its end, and then the word w
abbrev pub finish : Around → Tree → Fixed → Move
finish o s w = or (same w Semicolon) (series (after s o)) (close o (more s none) w)

-- the expression e, read to its end, and then the word w
abbrev pub leave : For → Tree → Fixed → Move
leave (value n o) e w = finish o (assign n e) w
leave (test o) e w = when (same w Then) (series (taken e o))
leave (guard o) e w = when (same w Do) (series (body e o))
leave (group b f) e w = when (same w Close) (tail f (with b e))

abbrev pub sorted : Fixed → (Sort → Tree) → Move
sorted w t = or (same w Integer) (declared (t integer)) (when (same w String) (declared (t string)))

abbrev pub on_fixed : State → Fixed → Move
on_fixed empty w = when (same w Begin) begun
on_fixed begun w = when (same w Declare) (naming nothing_yet)
on_fixed (naming g) w = no
on_fixed (typing g n) w = when (same w Colon) (sorting g n)
on_fixed (sorting g n) w = sorted w (λ s. declare g n s)
on_fixed (declared d) w = or (same w Comma) (naming (given d)) (when (same w Semicolon) (series (whole d)))
on_fixed (series o) w = or (same w If) (term start (test o)) (or (same w While) (term start (guard o)) (close o none w))
on_fixed (closing o a) w = close o a w
on_fixed (becoming n o) w = when (same w Becomes) (term start (value n o))
on_fixed (done o s) w = finish o s w
on_fixed (term b f) w = when (same w Open) (term start (group b f))
on_fixed (tail f e) w = or (same w Plus) (term (sum e) f) (or (same w Join) (term (chain e) f) (leave f e w))
on_fixed (leaving f e) w = leave f e w
on_fixed (over t) w = no

abbrev pub on_name : State → Part → Move
on_name empty n = no
on_name begun n = no
on_name (naming g) n = go (typing g n)
on_name (typing g m) n = no
on_name (sorting g m) n = no
on_name (declared d) n = no
on_name (series o) n = go (becoming n o)
on_name (closing o a) n = no
on_name (becoming m o) n = no
on_name (done o s) n = no
on_name (term b f) n = go (tail f (with b (variable n)))
on_name (tail f e) n = no
on_name (leaving f e) n = no
on_name (over t) n = no

abbrev pub on_leaf : State → Tree → Move
on_leaf empty e = no
on_leaf begun e = no
on_leaf (naming g) e = no
on_leaf (typing g m) e = no
on_leaf (sorting g m) e = no
on_leaf (declared d) e = no
on_leaf (series o) e = no
on_leaf (closing o a) e = no
on_leaf (becoming m o) e = no
on_leaf (done o s) e = no
on_leaf (term b f) e = go (tail f (with b e))
on_leaf (tail f a) e = no
on_leaf (leaving f a) e = no
on_leaf (over t) e = no

-- the grammar: which words may come, and what has been read then
abbrev pub feed : State → Token → Move
feed s (fixed w p) = on_fixed s w
feed s (name n) = on_name s n
feed s (number v p) = on_leaf s (constant v)
feed s (text n) = on_leaf s (letters n)

-- where a word stands; the quote of a text constant stands before its bytes
abbrev pub place : Token → ℕ
place (fixed w p) = p
place (name n) = n.place
place (number v p) = p
place (text n) = n.place - 1

-- how the words end: the text does, at p, or a fault of the words comes, n at p
pub data Last : Type 0 where
  stop : ℕ → Last
  bad : Refusal → ℕ → Last

pub data Answer : Type 0 where
  read : Tree → Answer
  fault : Refusal → ℕ → Answer

pub data Whole : Type 0 where
  is : Tree → Whole
  not : Whole

abbrev pub whole_of : State → Whole
whole_of empty = not
whole_of begun = not
whole_of (naming g) = not
whole_of (typing g m) = not
whole_of (sorting g m) = not
whole_of (declared d) = not
whole_of (series o) = not
whole_of (closing o a) = not
whole_of (becoming m o) = not
whole_of (done o s) = not
whole_of (term b f) = not
whole_of (tail f a) = not
whole_of (leaving f a) = not
whole_of (over t) = is t

abbrev pub refused : Whole → ℕ → Answer
refused (is t) p = fault R.AfterEnd p
refused not p = fault R.Unexpected p

abbrev pub ended : Whole → Last → Answer
ended w (bad n p) = fault n p
ended (is t) (stop p) = read t
ended not (stop p) = fault R.EndsEarly p

abbrev pub run : State → List Token → Last → Answer
run s [] z = ended (whole_of s) z
run s (k ∷ ts) z = elim (feed s k) [ go next ↦ run next ts z | no ↦ refused (whole_of s) (place k) ]

abbrev pub reading : List Token → Last → Answer
reading ts z = run empty ts z
