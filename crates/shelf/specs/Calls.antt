-- What each call of a shelf answers, and the list that it leaves: S is the shelf's slots, R its capacity, vs its list.
use Rattle.std.specs.Prelude.{ℕ, ◌-◌, Bool, cond, ◌||◌, List, [], ◌++◌, map, length, replicate, Ok, Err, Result, ◌==◌, nat_lt, slice_index_or, slice_set}
use Rattle.std.specs.List.{list_all}
use Rattle.shelf.specs.declared.refusal.Refusal.{Refusal}
use Rattle.shelf.specs.declared.refusal.Refusal.TheVariants.{WrongCount, UnknownKind, NoEntry, OtherKind, TextTooLong, NoCapacity}
use Rattle.shelf.specs.Limits.{longest}
use Rattle.shelf.specs.Value.{Value, number, text, total, kind_of}

-- the list after a call: the new one where it was accepted, the old one where it was refused
abbrev pub after : {X : Type 0} → Result X Refusal → List Value → List Value → List Value
after (Ok x) new old = new
after (Err e) new old = old

-- what a variable of this kind holds at first
abbrev pub fresh : ℕ → Value
fresh k = cond (k == 1) (number 0) (text [])

-- a kind is 1, number, or 2, text
abbrev pub known : ℕ → Bool
known k = k == 1 || k == 2

abbrev pub all_kinds : List ℕ → Bool
all_kinds ks = list_all known ks

abbrev pub open_told : ℕ → List ℕ → Result (Unit {0}) Refusal
open_told S ks =
    cond (length ks == 0 || nat_lt S (length ks)) (Err WrongCount) (cond (all_kinds ks) (Ok tt) (Err UnknownKind))

abbrev pub open_list : ℕ → List ℕ → List Value → List Value
open_list S ks vs = after (open_told S ks) (map fresh ks) vs

abbrev pub number_answer : ℕ → List Value → Result (Unit {0}) Refusal
number_answer i vs = cond (nat_lt i (length vs)) (Ok tt) (Err NoEntry)

abbrev pub number_put : ℕ → ℕ → List Value → List Value
number_put i x vs = after (number_answer i vs) (slice_set vs i (number x)) vs

abbrev pub text_answer : ℕ → ℕ → List ℕ → List Value → Result (Unit {0}) Refusal
text_answer R i t vs =
    cond (nat_lt i (length vs))
    (cond (nat_lt longest (length t)) (Err TextTooLong) (cond (nat_lt R (total (slice_set vs i (text t)))) (Err NoCapacity) (Ok tt)))
    (Err NoEntry)

abbrev pub text_put : ℕ → ℕ → List ℕ → List Value → List Value
text_put R i t vs = after (text_answer R i t vs) (slice_set vs i (text t)) vs

-- the value at i
abbrev pub held_told : ℕ → List Value → Result Value Refusal
held_told i vs = cond (nat_lt i (length vs)) (Ok (slice_index_or vs i (number 0))) (Err NoEntry)

abbrev pub kind_told : ℕ → List Value → Result ℕ Refusal
kind_told i vs = cond (nat_lt i (length vs)) (Ok (kind_of (slice_index_or vs i (number 0)))) (Err NoEntry)

abbrev pub the_number : Value → Result ℕ Refusal
the_number (number n) = Ok n
the_number (text t) = Err OtherKind

abbrev pub number_told : ℕ → List Value → Result ℕ Refusal
number_told i vs = cond (nat_lt i (length vs)) (the_number (slice_index_or vs i (number 0))) (Err NoEntry)

-- a line that begins with the text, and is zeros behind it
abbrev pub line_of : List ℕ → List ℕ
line_of t = t ++ replicate (longest - length t) 0

-- what is answered, and the line afterwards
pub record Line : Type 0 where
  pub answer : Result ℕ Refusal
  pub line : List ℕ

abbrev pub the_text : Value → List ℕ → Line
the_text (number n) line = record { answer = Err OtherKind; line = line }
the_text (text t) line = record { answer = Ok (length t); line = line_of t }

abbrev pub text_told : ℕ → List Value → List ℕ → Line
text_told i vs line = cond (nat_lt i (length vs)) (the_text (slice_index_or vs i (number 0)) line) (record { answer = Err NoEntry; line = line })
