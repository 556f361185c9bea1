-- What the words of a text are, apart from how they are found, and what holds of the scanner.
use Rattle.std.specs.Prelude.{◌≡◌, ℕ, ◌-◌, ◌<◌, ◌≤◌, true, List, [], ◌∷◌, ◌++◌, length, drop, None, Ok, Err, codes}
use Rattle.words.specs.Bytes.{digit, layout, allowed, every, cut}
use Rattle.words.specs.Words.{Lex, name, number, text, fixed, end, Spelt, moves, keyword, is_name, value, after}
use Rattle.words.specs.declared.word.Fixed.{Fixed}
use Rattle.words.specs.declared.word.Fixed.TheVariants as F
use Rattle.words.specs.declared.word.Fault.{Fault}

abbrev pub spelling_of : Fixed → List ℕ
spelling_of F.Begin = codes "begin"
spelling_of F.End = codes "end"
spelling_of F.Declare = codes "declare"
spelling_of F.Integer = codes "integer"
spelling_of F.String = codes "string"
spelling_of F.If = codes "if"
spelling_of F.Then = codes "then"
spelling_of F.Else = codes "else"
spelling_of F.Fi = codes "fi"
spelling_of F.While = codes "while"
spelling_of F.Do = codes "do"
spelling_of F.Od = codes "od"
spelling_of F.Open = codes "("
spelling_of F.Close = codes ")"
spelling_of F.Plus = codes "+"
spelling_of F.Minus = codes "-"
spelling_of F.Semicolon = codes ";"
spelling_of F.Comma = codes ","
spelling_of F.Join = codes "||"
spelling_of F.Colon = codes ":"
spelling_of F.Becomes = codes ":="

-- the bytes that spell a word; how large a number and how long a text may be is not asked here
pub data Spells : List ℕ → Lex → Type 0 where
  a_name : (w : List ℕ) → is_name w ≡ true → Spells w (name w)
  a_number : (d : ℕ) (ds : List ℕ) → every digit (d ∷ ds) ≡ true → Spells (d ∷ ds) (number (d ∷ ds) (value 0 (d ∷ ds)))
  a_text : (w : List ℕ) → every allowed w ≡ true → Spells (34 ∷ (w ++ (34 ∷ []))) (text w)
  a_fixed : (k : Fixed) → Spells (spelling_of k) (fixed k)

-- s is the word of t from p on: behind nothing but layout, and no word that begins at its place is longer
pub record Taken (t : List ℕ) (p : ℕ) (s : Spelt) : Type 0 where
  pub from : p ≤ s.place
  pub on : s.place < s.next
  pub within : s.next ≤ length t
  pub skips : every layout (cut t p s.place) ≡ true
  pub spells : Spells (cut t s.place s.next) s.lex
  pub longest : (u v : List ℕ) (x : Lex) → drop s.place t ≡ u ++ v → Spells u x → length u ≤ s.next - s.place

-- the longest word is taken
abbrev pub Longest : Type 0
Longest = (t : List ℕ) (p : ℕ) (s : Spelt) → p ≤ length t → after t p ≡ Ok s → moves s.lex ≡ 1 → Taken t p s

-- a name is never a keyword
abbrev pub NoKeyword : Type 0
NoKeyword = (t w : List ℕ) (p q r : ℕ) → after t p ≡ Ok (record { lex = name w; place = q; next = r }) → keyword w ≡ None

-- how a reading ends: with the text, or at a fault
pub data Last : Type 0 where
  stop : Last
  bad : Fault → Last

-- the words of t read one after another, from p on
pub data Reading (t : List ℕ) : ℕ → List Lex → Last → Type 0 where
  finished : {p q r : ℕ} → after t p ≡ Ok (record { lex = end; place = q; next = r }) → Reading t p [] stop
  refused : {p : ℕ} {f : Fault} → after t p ≡ Err f → Reading t p [] (bad f)
  then : {p : ℕ} {s : Spelt} {ws : List Lex} {z : Last} → after t p ≡ Ok s → moves s.lex ≡ 1 → Reading t s.next ws z → Reading t p (s.lex ∷ ws) z

-- bytes that are nothing but these words, with layout between them
pub data MadeOf : List ℕ → List Lex → Type 0 where
  gap : (g : List ℕ) → every layout g ≡ true → MadeOf g []
  word : (g w : List ℕ) (x : Lex) {rest : List ℕ} {ws : List Lex} → every layout g ≡ true → Spells w x → MadeOf rest ws → MadeOf (g ++ (w ++ rest)) (x ∷ ws)

-- the words that are read, with the layout between them, make up the text again
abbrev pub MakesUp : Type 0
MakesUp = (t : List ℕ) (ws : List Lex) → Reading t 0 ws stop → MadeOf t ws

-- every text is read to an end, in no more words than it has bytes
abbrev pub Ends : Type 0
Ends = (t : List ℕ) → (ws : List Lex) × (z : Last) × (length ws ≤ length t) × Reading t 0 ws z
