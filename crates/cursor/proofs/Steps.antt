-- Reading goes on from word to word.
use Rattle.std.proofs.Common.{◌≡◌, ℕ, ◌<◌, ◌≤◌, min, Bool, true, false, List, length, Ok, Err, sym, refl, ap, ◌∙◌, ⊎_elim, arith}
use Rattle.std.proofs.lemmas.Bool.{cases_lt, eqb-true, ne_eqb, false≢true}
use Rattle.words.specs.declared.word.Refusal.TheVariants as R
use Rattle.words.specs.Bytes.{layout, runs_to}
use Rattle.words.specs.Words.{Lex, Spelt, Scanned, moves, word_at, after, hit}
use Rattle.words.specs.Words as L
use Rattle.words.proofs.Runs.{run_le}
use Rattle.words.proofs.Spelled.{word_none}
use Rattle.words.proofs.Reading.{taken}
use Rattle.grammar.specs.Grammar.{Fixed, Begin, End, Declare, Integer, String, If, Then, Else, Fi, While, Do, Od, Open, Close, Plus, Semicolon, Comma, Join, Colon, Becomes, Part, Token, fixed, name, number, text, integer, string, Tree, constant, letters, assign, choose, loop, none, more, sheet}
use Rattle.grammar.specs.Machine.{code, same, Around, whole, taken as then-taken, left, body, Before, start, sum, chain, For, value, test, guard, group, Given, nothing_yet, given, declare, State, empty, begun, naming, typing, sorting, declared, series, closing, becoming, done, term, tail, leaving, over, Move, go, no, when, or, with, close, finish, leave, on_fixed, on_name, on_leaf, feed, place, stop, Answer, read, fault, Whole, is, not, whole_of, refused, ended}
use Rattle.grammar.specs.Machine as M
use Rattle.grammar.specs.Scan.{Found, word, nothing_left, wrong}
use Rattle.grammar.proofs.Scan.{at_word, at_refused, at_stop, at_wrong}
use Rattle.cursor.specs.Text.{seen_as, seen, found, from, at}
use Rattle.cursor.specs.InHand.{is_word, unexpected, behind, expected, Only}

pub apart : {X : Type 0} → ◌≡◌ {A = ℕ} 0 1 → X
apart e = absurd (omega arith)

not_both : (v a b : Fixed) → same v a ≡ true → (code a ≡ code b → ⊥) → same v b ≡ false
not_both v a b e d = ne_eqb (code v) (code b) (λ i. d (sym (eqb-true (code v) (code a) e) ∙ i))

-- a word moves the place on
ahead : (t : List ℕ) (p : ℕ) (x : Token) (q : ℕ) → found t p ≡ word x q → (p < q) × (q ≤ length t)
ahead t p x q e =
    ⊎_elim (λ l. apart (behind_end l)) (λ l. on l (after t p) refl e) (cases_lt (length t) p)
  where
    behind_end : length t < p → ◌≡◌ {A = ℕ} 0 1
    behind_end l =
        let m : min p (length t) ≡ length t = omega arith in
        let b = run_le layout t (length t) (omega arith) in
        let n : found t p ≡ nothing_left (runs_to layout t (length t)) = ap (λ n. seen (word_at t (runs_to layout t n))) m ∙ ap seen (word_none t (runs_to layout t (length t)) (omega arith)) in
        cc

    is_next : (k : Lex) (pl nx : ℕ) → seen_as k pl nx ≡ word x q → (moves k ≡ 1) × (nx ≡ q)
    is_next (L.name w) pl nx e = (refl, cc)
    is_next (L.number w v) pl nx e = (refl, cc)
    is_next (L.text w) pl nx e = (refl, cc)
    is_next (L.fixed w) pl nx e = (refl, cc)
    is_next L.end pl nx e = apart (cc)

    on : p ≤ length t → (r : Scanned) → after t p ≡ r → seen r ≡ word x q → (p < q) × (q ≤ length t)
    on l (Err f) i e = apart (cc)
    on l (Ok s) i e =
        let n = is_next s.lex s.place s.next e in
        let k = taken t p s l i n.0 in
        (omega (arith, k.from, k.on, n.1), omega (arith, k.within, n.1))

module _ (t : List ℕ) where
  pub from_at : (s : State) (p : ℕ) → from t s p ≡ at t s (found t p)
  from_at s p = go_on (found t p) refl
    where
      fed : (x : Token) (q : ℕ) → found t p ≡ word x q → (m : Move) → feed s x ≡ m → from t s p ≡ elim m [ go y ↦ from t y q | no ↦ refused (whole_of s) (place x) ]
      fed x q e (go y) f = at_word (found t) (length t) (ahead t) s y p x q e f
      fed x q e no f = at_refused (found t) (length t) (ahead t) s p x q e f

      go_on : (f : Found) → found t p ≡ f → from t s p ≡ at t s f
      go_on (word x q) e = fed x q e (feed s x) refl
      go_on (nothing_left z) e = at_stop (found t) (length t) (ahead t) s p z e
      go_on (wrong m z) e = at_wrong (found t) (length t) (ahead t) s p m z e

  moved : (s : State) (x : Token) (q : ℕ) (y : State) → feed s x ≡ go y → at t s (word x q) ≡ at t y (found t q)
  moved s x q y e = ap (λ (m : Move). elim m [ go y ↦ from t y q | no ↦ refused (whole_of s) (place x) ]) e ∙ from_at y q

  stuck : (s : State) (x : Token) (q : ℕ) → feed s x ≡ no → whole_of s ≡ not → at t s (word x q) ≡ fault R.Unexpected (place x)
  stuck s x q e w = ap (λ (m : Move). elim m [ go y ↦ from t y q | no ↦ refused (whole_of s) (place x) ]) e ∙ ap (λ (v : Whole). refused v (place x)) w

  -- the fixed word w leads from s to y
  on_word : (w : Fixed) (s y : State) → ((v : Fixed) → same v w ≡ true → on_fixed s v ≡ go y) → (f : Found) → is_word w f ≡ true → at t s f ≡ at t y (behind t f)
  on_word w s y h (word (fixed v p) q) e = moved s (fixed v p) q y (h v e)
  on_word w s y h (word (name n) q) e = absurd (false≢true e)
  on_word w s y h (word (number v p) q) e = absurd (false≢true e)
  on_word w s y h (word (text n) q) e = absurd (false≢true e)
  on_word w s y h (nothing_left z) e = absurd (false≢true e)
  on_word w s y h (wrong m z) e = absurd (false≢true e)

  -- where two states take the word in hand alike
  alike : (s y : State) → whole_of s ≡ whole_of y → (f : Found) → ((x : Token) (q : ℕ) → f ≡ word x q → feed s x ≡ feed y x) → at t s f ≡ at t y f
  alike s y w (word x q) h =
      ap (λ (m : Move). elim m [ go y ↦ from t y q | no ↦ refused (whole_of s) (place x) ]) (h x q refl) ∙ ap (λ (v : Whole). elim (feed y x) [ go y ↦ from t y q | no ↦ refused v (place x) ]) w
  alike s y w (nothing_left z) h = ap (λ (v : Whole). ended v (stop z)) w
  alike s y w (wrong m z) h = refl

  -- a state that the words in hand do not lead on
  refuses : (s : State) → whole_of s ≡ not → (f : Found) → ((x : Token) (q : ℕ) → f ≡ word x q → feed s x ≡ no) → (y : State) → at t s f ≡ at t y (unexpected f)
  refuses s w (word x q) h y = stuck s x q (h x q refl) w
  refuses s w (nothing_left z) h y = ap (λ (v : Whole). ended v (stop z)) w
  refuses s w (wrong m z) h y = refl

pub then_word : (o : Around) (e : Tree) → Only Then (leaving (test o) e) (series (then-taken e o))
then_word o e = record { word_is = λ v. refl; named = λ n. refl; leaf = λ t. refl; more_to_come = refl }

pub else_word : (o : Around) (e a : Tree) → Only Else (closing (then-taken e o) a) (series (left e a o))
else_word o e a = record { word_is = λ v. refl; named = λ n. refl; leaf = λ t. refl; more_to_come = refl }

pub fi_word : (o : Around) (e a b : Tree) → Only Fi (closing (left e a o) b) (done o (choose e a b))
fi_word o e a b = record { word_is = λ v. refl; named = λ n. refl; leaf = λ t. refl; more_to_come = refl }

pub do_word : (o : Around) (e : Tree) → Only Do (leaving (guard o) e) (series (body e o))
do_word o e = record { word_is = λ v. refl; named = λ n. refl; leaf = λ t. refl; more_to_come = refl }

pub od_word : (o : Around) (e a : Tree) → Only Od (closing (body e o) a) (done o (loop e a))
od_word o e a = record { word_is = λ v. refl; named = λ n. refl; leaf = λ t. refl; more_to_come = refl }

pub becomes_word : (n : Part) (o : Around) → Only Becomes (becoming n o) (term start (value n o))
becomes_word n o = record { word_is = λ v. refl; named = λ n. refl; leaf = λ t. refl; more_to_come = refl }

pub close_word : (b : Before) (f : For) (e : Tree) → Only Close (leaving (group b f) e) (tail f (with b e))
close_word b f e = record { word_is = λ v. refl; named = λ n. refl; leaf = λ t. refl; more_to_come = refl }

pub begin_word : Only Begin empty begun
begin_word = record { word_is = λ v. refl; named = λ n. refl; leaf = λ t. refl; more_to_come = refl }

pub declare_word : Only Declare begun (naming nothing_yet)
declare_word = record { word_is = λ v. refl; named = λ n. refl; leaf = λ t. refl; more_to_come = refl }

pub colon_word : (g : Given) (n : Part) → Only Colon (typing g n) (sorting g n)
colon_word g n = record { word_is = λ v. refl; named = λ n. refl; leaf = λ t. refl; more_to_come = refl }

pub end_word : (d a : Tree) → Only End (closing (whole d) a) (over (sheet d a))
end_word d a = record { word_is = λ v. refl; named = λ n. refl; leaf = λ t. refl; more_to_come = refl }

module _ (t : List ℕ) where
  -- past the only word that is allowed, or refused at another
  pub pass : {w : Fixed} {s x : State} → Only w s x → (f : Found) → at t s f ≡ at t x (expected t w f)
  pass {w} {s} {x} h f = by (is_word w f) refl
    where
      none_else : (y : Token) (q : ℕ) → f ≡ word y q → is_word w f ≡ false → feed s y ≡ no
      none_else (fixed v p) q e i = h.word_is v ∙ ap (λ b. when b x) (let j : same v w ≡ false = sym (ap (is_word w) e) ∙ i in j)
      none_else (name n) q e i = h.named n
      none_else (number v p) q e i = h.leaf (constant v)
      none_else (text n) q e i = h.leaf (letters n)

      by : (b : Bool) → is_word w f ≡ b → at t s f ≡ at t x (elim b [ true ↦ behind t f | false ↦ unexpected f ])
      by true e = on_word t w s x (λ v i. h.word_is v ∙ ap (λ b. when b x) i) f e
      by false e = refuses t s h.more_to_come f (λ y q i. none_else y q i e) x

  pub if_at : (o : Around) (f : Found) → is_word If f ≡ true → at t (series o) f ≡ at t (term start (test o)) (behind t f)
  if_at o f e = on_word t If (series o) (term start (test o)) (λ v i. ap (λ b. or b (term start (test o)) (or (same v While) (term start (guard o)) (close o none v))) i) f e

  pub while_at : (o : Around) (f : Found) → is_word While f ≡ true → at t (series o) f ≡ at t (term start (guard o)) (behind t f)
  while_at o f e =
      on_word t While (series o) (term start (guard o))
      (λ v i. ap (λ b. or b (term start (test o)) (or (same v While) (term start (guard o)) (close o none v))) (not_both v While If i (λ z. omega arith)) ∙ ap (λ b. or b (term start (guard o)) (close o none v)) i)
      f e

  pub name_at : (o : Around) (n : Part) (q : ℕ) → at t (series o) (word (name n) q) ≡ at t (becoming n o) (found t q)
  name_at o n q = moved t (series o) (name n) q (becoming n o) refl

  -- no statement begins here
  pub no_statement : (o : Around) (f : Found) → is_word If f ≡ false → is_word While f ≡ false → ((n : Part) (q : ℕ) → f ≡ word (name n) q → ⊥) → at t (series o) f ≡ at t (closing o none) f
  no_statement o f i w n = alike t (series o) (closing o none) refl f same_feed
    where
      same_feed : (x : Token) (q : ℕ) → f ≡ word x q → feed (series o) x ≡ feed (closing o none) x
      same_feed (fixed v p) q e =
          let a : same v If ≡ false = sym (ap (is_word If) e) ∙ i in
          let b : same v While ≡ false = sym (ap (is_word While) e) ∙ w in
          ap (λ b. or b (term start (test o)) (or (same v While) (term start (guard o)) (close o none v))) a ∙ ap (λ b. or b (term start (guard o)) (close o none v)) b
      same_feed (name m) q e = absurd (n m q e)
      same_feed (number v p) q e = refl
      same_feed (text m) q e = refl

  pub semicolon_at : (o : Around) (s : Tree) (f : Found) → is_word Semicolon f ≡ true → at t (done o s) f ≡ at t (series (M.after s o)) (behind t f)
  semicolon_at o s f e = on_word t Semicolon (done o s) (series (M.after s o)) (λ v i. ap (λ b. or b (series (M.after s o)) (close o (more s none) v)) i) f e

  pub no_semicolon_at : (o : Around) (s : Tree) (f : Found) → is_word Semicolon f ≡ false → at t (done o s) f ≡ at t (closing o (more s none)) f
  no_semicolon_at o s f i = alike t (done o s) (closing o (more s none)) refl f same_feed
    where
      same_feed : (x : Token) (q : ℕ) → f ≡ word x q → feed (done o s) x ≡ feed (closing o (more s none)) x
      same_feed (fixed v p) q e = ap (λ b. or b (series (M.after s o)) (close o (more s none) v)) (let a : same v Semicolon ≡ false = sym (ap (is_word Semicolon) e) ∙ i in a)
      same_feed (name m) q e = refl
      same_feed (number v p) q e = refl
      same_feed (text m) q e = refl

  pub plus_at : (g : For) (e : Tree) (f : Found) → is_word Plus f ≡ true → at t (tail g e) f ≡ at t (term (sum e) g) (behind t f)
  plus_at g e f i = on_word t Plus (tail g e) (term (sum e) g) (λ v j. ap (λ b. or b (term (sum e) g) (or (same v Join) (term (chain e) g) (leave g e v))) j) f i

  pub join_at : (g : For) (e : Tree) (f : Found) → is_word Join f ≡ true → at t (tail g e) f ≡ at t (term (chain e) g) (behind t f)
  join_at g e f i =
      on_word t Join (tail g e) (term (chain e) g)
      (λ v j. ap (λ b. or b (term (sum e) g) (or (same v Join) (term (chain e) g) (leave g e v))) (not_both v Join Plus j (λ z. omega arith)) ∙ ap (λ b. or b (term (chain e) g) (leave g e v)) j)
      f i

  pub no_joint_at : (g : For) (e : Tree) (f : Found) → is_word Plus f ≡ false → is_word Join f ≡ false → at t (tail g e) f ≡ at t (leaving g e) f
  no_joint_at g e f i j = alike t (tail g e) (leaving g e) refl f same_feed
    where
      same_feed : (x : Token) (q : ℕ) → f ≡ word x q → feed (tail g e) x ≡ feed (leaving g e) x
      same_feed (fixed v p) q k =
          let a : same v Plus ≡ false = sym (ap (is_word Plus) k) ∙ i in
          let b : same v Join ≡ false = sym (ap (is_word Join) k) ∙ j in
          ap (λ b. or b (term (sum e) g) (or (same v Join) (term (chain e) g) (leave g e v))) a ∙ ap (λ b. or b (term (chain e) g) (leave g e v)) b
      same_feed (name m) q k = refl
      same_feed (number v p) q k = refl
      same_feed (text m) q k = refl

  pub open_at : (b : Before) (g : For) (f : Found) → is_word Open f ≡ true → at t (term b g) f ≡ at t (term start (group b g)) (behind t f)
  open_at b g f i = on_word t Open (term b g) (term start (group b g)) (λ v j. ap (λ c. when c (term start (group b g))) j) f i

  pub no_open_at : (b : Before) (g : For) (v : Fixed) (p q : ℕ) → same v Open ≡ false → at t (term b g) (word (fixed v p) q) ≡ fault R.Unexpected p
  no_open_at b g v p q i = stuck t (term b g) (fixed v p) q (ap (λ c. when c (term start (group b g))) i) refl

  pub leaf_at : (b : Before) (g : For) (x : Token) (e : Tree) (q : ℕ) → ((c : Before) (h : For) → feed (term c h) x ≡ go (tail h (with c e))) → at t (term b g) (word x q) ≡ at t (tail g (with b e)) (found t q)
  leaf_at b g x e q h = moved t (term b g) x q (tail g (with b e)) (h b g)

  pub assigned_too : (n : Part) (o : Around) (e : Tree) (f : Found) → at t (leaving (value n o) e) f ≡ at t (done o (assign n e)) f
  assigned_too n o e f = alike t (leaving (value n o) e) (done o (assign n e)) refl f same_feed
    where
      same_feed : (x : Token) (q : ℕ) → f ≡ word x q → feed (leaving (value n o) e) x ≡ feed (done o (assign n e)) x
      same_feed (fixed w p) q i = refl
      same_feed (name m) q i = refl
      same_feed (number v p) q i = refl
      same_feed (text m) q i = refl

  pub closing_after : (o : Around) (s a : Tree) (f : Found) → at t (closing (M.after s o) a) f ≡ at t (closing o (more s a)) f
  closing_after o s a f = alike t (closing (M.after s o) a) (closing o (more s a)) refl f same_feed
    where
      same_feed : (x : Token) (q : ℕ) → f ≡ word x q → feed (closing (M.after s o) a) x ≡ feed (closing o (more s a)) x
      same_feed (fixed w p) q i = refl
      same_feed (name m) q i = refl
      same_feed (number v p) q i = refl
      same_feed (text m) q i = refl

  -- declarations
  pub name_word : (g : Given) (n : Part) (q : ℕ) → at t (naming g) (word (name n) q) ≡ at t (typing g n) (found t q)
  name_word g n q = moved t (naming g) (name n) q (typing g n) refl

  pub no_name_word : (g : Given) (f : Found) → ((n : Part) (q : ℕ) → f ≡ word (name n) q → ⊥) → (y : State) → at t (naming g) f ≡ at t y (unexpected f)
  no_name_word g f n y = refuses t (naming g) refl f none_else y
    where
      none_else : (x : Token) (q : ℕ) → f ≡ word x q → feed (naming g) x ≡ no
      none_else (fixed v p) q e = refl
      none_else (name m) q e = absurd (n m q e)
      none_else (number v p) q e = refl
      none_else (text m) q e = refl

  pub integer_at : (g : Given) (n : Part) (f : Found) → is_word Integer f ≡ true → at t (sorting g n) f ≡ at t (declared (declare g n integer)) (behind t f)
  integer_at g n f i = on_word t Integer (sorting g n) (declared (declare g n integer)) (λ v j. ap (λ b. or b (declared (declare g n integer)) (when (same v String) (declared (declare g n string)))) j) f i

  -- the second of two words that s allows, where the first is not in hand
  second : (c w : Fixed) (s x y : State) → ((v : Fixed) → on_fixed s v ≡ or (same v c) x (when (same v w) y)) → ((m : Part) → on_name s m ≡ no) → ((e : Tree) → on_leaf s e ≡ no) → whole_of s ≡ not →
      (f : Found) → is_word c f ≡ false → at t s f ≡ at t y (expected t w f)
  second c w s x y h m l n (word (fixed v p) q) i = by (same v w) refl
    where
      first : on_fixed s v ≡ when (same v w) y
      first = h v ∙ ap (λ b. or b x (when (same v w) y)) i

      by : (b : Bool) → same v w ≡ b → at t s (word (fixed v p) q) ≡ at t y (elim b [ true ↦ found t q | false ↦ wrong R.Unexpected p ])
      by true e = moved t s (fixed v p) q y (first ∙ ap (λ b. when b y) e)
      by false e = stuck t s (fixed v p) q (first ∙ ap (λ b. when b y) e) n
  second c w s x y h m l n (word (name k) q) i = stuck t s (name k) q (m k) n
  second c w s x y h m l n (word (number v p) q) i = stuck t s (number v p) q (l (constant v)) n
  second c w s x y h m l n (word (text k) q) i = stuck t s (text k) q (l (letters k)) n
  second c w s x y h m l n (nothing_left z) i = ap (λ (v : Whole). ended v (stop z)) n
  second c w s x y h m l n (wrong k z) i = refl

  pub string_at : (g : Given) (n : Part) (f : Found) → is_word Integer f ≡ false → at t (sorting g n) f ≡ at t (declared (declare g n string)) (expected t String f)
  string_at g n f i = second Integer String (sorting g n) (declared (declare g n integer)) (declared (declare g n string)) (λ v. refl) (λ m. refl) (λ e. refl) refl f i

  pub comma_at : (d : Tree) (f : Found) → is_word Comma f ≡ true → at t (declared d) f ≡ at t (naming (given d)) (behind t f)
  comma_at d f i = on_word t Comma (declared d) (naming (given d)) (λ v j. ap (λ b. or b (naming (given d)) (when (same v Semicolon) (series (whole d)))) j) f i

  pub no_comma_at : (d : Tree) (f : Found) → is_word Comma f ≡ false → at t (declared d) f ≡ at t (series (whole d)) (expected t Semicolon f)
  no_comma_at d f i = second Comma Semicolon (declared d) (naming (given d)) (series (whole d)) (λ v. refl) (λ m. refl) (λ e. refl) refl f i

  -- the end of a sheet
  pub past_end : (s : Tree) (x : Token) (q : ℕ) → at t (over s) (word x q) ≡ fault R.AfterEnd (place x)
  past_end s (fixed v p) q = refl
  past_end s (name n) q = refl
  past_end s (number v p) q = refl
  past_end s (text n) q = refl
