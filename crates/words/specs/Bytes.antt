-- Classes of bytes, and runs of them.
use Rattle.std.specs.Prelude.{ℕ, ◌+◌, ◌-◌, Bool, true, ◌&&◌, ◌||◌, List, [], ◌∷◌, take, drop, ◌==◌, nat_le}
use Rattle.std.specs.List.{prefix_len}
use Rattle.words.specs.declared.byte.Class.{Class}
use Rattle.words.specs.declared.byte.Class.TheVariants as C

abbrev pub letter : ℕ → Bool
letter b = (nat_le 97 b && nat_le b 122) || (nat_le 65 b && nat_le b 90)

abbrev pub digit : ℕ → Bool
digit b = nat_le 48 b && nat_le b 57

abbrev pub alnum : ℕ → Bool
alnum b = letter b || digit b

-- space, newline, tab
abbrev pub layout : ℕ → Bool
layout b = b == 32 || (b == 10 || b == 9)

-- what a text constant may have in it: letters, digits, layout and ( ) + - ; , | : =
abbrev pub allowed : ℕ → Bool
allowed b = alnum b || (layout b || (b == 40 || (b == 41 || (b == 43 || (b == 45 || (b == 59 || (b == 44 || (b == 124 || (b == 58 || b == 61)))))))))

abbrev pub member : Class → ℕ → Bool
member C.Layout = layout
member C.Letter = letter
member C.Digit = digit
member C.Alnum = alnum
member C.Allowed = allowed

abbrev pub every : (ℕ → Bool) → List ℕ → Bool
every f [] = true
every f (b ∷ bs) = f b && every f bs

-- where the run of bytes that pass, from p on, ends
abbrev pub runs_to : (ℕ → Bool) → List ℕ → ℕ → ℕ
runs_to ok t p = p + prefix_len ok (drop p t)

abbrev pub run_end : Class → List ℕ → ℕ → ℕ
run_end c t p = runs_to (member c) t p

-- the part of t from p to q
abbrev pub cut : List ℕ → ℕ → ℕ → List ℕ
cut t p q = take (q - p) (drop p t)
