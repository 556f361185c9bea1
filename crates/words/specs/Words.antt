-- The word at a place of a text, or its fault.
use Rattle.std.specs.Prelude.{◌≡◌, ℕ, ◌+◌, ◌-◌, ◌*◌, ◌≤◌, min, Bool, false, cond, not, ◌&&◌, List, [], ◌∷◌, length, is_some, IfOk, Some, None, Ok, Err, codes, Option, Result, ◌==◌, nat_lt, slice_index}
use Rattle.std.specs.Str.{bytes_eq}
use Rattle.words.specs.Bytes.{letter, digit, alnum, layout, allowed, every, runs_to, cut}
use Rattle.words.specs.declared.word.Fixed.{Fixed}
use Rattle.words.specs.declared.word.Fixed.TheVariants as F
use Rattle.words.specs.declared.word.Fault.{Fault}
use Rattle.words.specs.declared.word.Refusal.{Refusal}
use Rattle.words.specs.declared.word.Refusal.TheVariants as R
use Rattle.words.specs.declared.word.Token.{Token}
use Rattle.words.specs.declared.word.Word.{Word}
use Rattle.words.specs.declared.word.Word.TheVariants as W

-- a word: a name, a number with its digits, the bytes of a text constant, a fixed word, or the end
pub data Lex : Type 0 where
  name : List ℕ → Lex
  number : List ℕ → ℕ → Lex
  text : List ℕ → Lex
  fixed : Fixed → Lex
  end : Lex

pub record Spelt : Type 0 where
  pub lex : Lex
  pub place : ℕ
  pub next : ℕ

abbrev pub meant : Word → Lex
meant (W.Name s) = name s.now
meant (W.Number s v) = number s.now v
meant (W.Text s) = text s.now
meant (W.Fixed w) = fixed w
meant W.End = end

abbrev pub told : Result Token Fault → Result Spelt Fault
told (Ok t) = Ok (record { lex = meant t.word; place = t.place; next = t.next })
told (Err f) = Err f

-- what a scan hands out, by its answer and by what the token then is
abbrev pub handed : Result (Unit {0}) Fault → Token → Result Token Fault
handed (Ok u) t = Ok t
handed (Err f) t = Err f

-- where it is refused, the token stays
abbrev pub Stays : Result (Unit {0}) Fault → Token → Token → Type 0
Stays (Ok u) old new = Unit {0}
Stays (Err f) old new = new ≡ old

abbrev pub Scanned : Type 0
Scanned = Result Spelt Fault

abbrev pub hit : Lex → ℕ → ℕ → Scanned
hit w p q = Ok (record { lex = w; place = p; next = q })

abbrev pub fault : Refusal → ℕ → Scanned
fault n p = Err (record { refusal = n; place = p })

-- every word but the end takes a byte at least
abbrev pub moves : Lex → ℕ
moves (name w) = 1
moves (number w v) = 1
moves (text w) = 1
moves (fixed w) = 1
moves end = 0

-- a word handed out from p on stands in the text, and takes the bytes that it should
abbrev pub Stands : List ℕ → ℕ → Token → Type 0
Stands t p w = (p ≤ w.place) × (w.place + moves (meant w.word) ≤ w.next) × (w.next ≤ length t)

-- a scan from p on tells this: the word that is handed out stands in the text, and where it is refused, the token stays
pub record Scans (t : List ℕ) (p : ℕ) (says : Scanned) (r : Result (Unit {0}) Fault) (old new : Token) : Type 0 where
  pub is : told (handed r new) ≡ says
  pub on : IfOk (handed r new) (Stands t p)
  pub stays : Stays r old new

abbrev pub keyword : List ℕ → Option Fixed
keyword w =
    cond (bytes_eq (codes "begin") w) (Some F.Begin)
    (cond (bytes_eq (codes "end") w) (Some F.End)
    (cond (bytes_eq (codes "declare") w) (Some F.Declare)
    (cond (bytes_eq (codes "integer") w) (Some F.Integer)
    (cond (bytes_eq (codes "string") w) (Some F.String)
    (cond (bytes_eq (codes "if") w) (Some F.If)
    (cond (bytes_eq (codes "then") w) (Some F.Then)
    (cond (bytes_eq (codes "else") w) (Some F.Else)
    (cond (bytes_eq (codes "fi") w) (Some F.Fi)
    (cond (bytes_eq (codes "while") w) (Some F.While)
    (cond (bytes_eq (codes "do") w) (Some F.Do)
    (cond (bytes_eq (codes "od") w) (Some F.Od) None)))))))))))

abbrev pub begins : List ℕ → Bool
begins [] = false
begins (b ∷ bs) = letter b

-- a letter, then letters and digits, and no keyword
abbrev pub is_name : List ℕ → Bool
is_name w = begins w && (every alnum w && not (is_some (keyword w)))

abbrev pub named : List ℕ → Option Fixed → Lex
named w (Some k) = fixed k
named w None = name w

abbrev pub name_at : List ℕ → ℕ → Scanned
name_at t p = let q = runs_to alnum t p in hit (named (cut t p q) (keyword (cut t p q))) p q

-- the number that digits spell after one of value n
abbrev pub value : ℕ → List ℕ → ℕ
value n [] = n
value n (d ∷ ds) = value (n * 10 + (d - 48)) ds

abbrev pub largest : ℕ
largest = 4294967295

abbrev pub longest : ℕ
longest = 80

abbrev pub limited : ℕ → Option ℕ
limited n = cond (nat_lt largest n) None (Some n)

abbrev pub numbered : List ℕ → ℕ → ℕ → Option ℕ → Scanned
numbered w p q (Some v) = hit (number w v) p q
numbered w p q None = fault R.LargeNumber p

abbrev pub number_at : List ℕ → ℕ → Scanned
number_at t p = let q = runs_to digit t p in numbered (cut t p q) p q (limited (value 0 (cut t p q)))

-- a text constant whose opening quote stands at p; the bytes allowed in it end at q
abbrev pub text_to : List ℕ → ℕ → ℕ → Scanned
text_to t p q =
    cond (nat_lt q (length t))
    (cond (slice_index t q == 34)
    (cond (nat_lt longest (q - (p + 1))) (fault R.LongText p) (hit (text (cut t (p + 1) q)) p (q + 1)))
    (fault R.NotAllowed q))
    (fault R.Unclosed p)

abbrev pub text_at : List ℕ → ℕ → Scanned
text_at t p = text_to t p (runs_to allowed t (p + 1))

-- by the byte after p
abbrev pub followed : List ℕ → ℕ → ℕ → Scanned → Scanned → Scanned
followed t p b x y = cond (slice_index t (p + 1) == b) x y

abbrev pub mark : Fixed → ℕ → ℕ → Scanned
mark w p q = hit (fixed w) p q

-- the word that begins with the byte b at p
abbrev pub begun : ℕ → List ℕ → ℕ → Scanned
begun b t p =
    cond (letter b) (name_at t p)
    (cond (digit b) (number_at t p)
    (cond (b == 34) (text_at t p)
    (cond (b == 40) (mark F.Open p (p + 1))
    (cond (b == 41) (mark F.Close p (p + 1))
    (cond (b == 43) (mark F.Plus p (p + 1))
    (cond (b == 45) (mark F.Minus p (p + 1))
    (cond (b == 59) (mark F.Semicolon p (p + 1))
    (cond (b == 44) (mark F.Comma p (p + 1))
    (cond (b == 124) (followed t p 124 (mark F.Join p (p + 2)) (fault R.NoWord p))
    (cond (b == 58) (followed t p 61 (mark F.Becomes p (p + 2)) (mark F.Colon p (p + 1)))
    (fault R.NoWord p)))))))))))

abbrev pub word_at : List ℕ → ℕ → Scanned
word_at t p = cond (nat_lt p (length t)) (begun (slice_index t p) t p) (hit end p p)

-- the first word from p on
abbrev pub after : List ℕ → ℕ → Scanned
after t p = word_at t (runs_to layout t (min p (length t)))
