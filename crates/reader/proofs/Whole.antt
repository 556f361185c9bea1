-- A whole sheet.
use Rattle.std.proofs.Common.{◌≡◌, ℕ, zero, suc, ◌+◌, ◌-◌, ◌<◌, ◌≤◌, ltb, List, [], ◌∷◌, ◌++◌, length, set, replicate, Ok, Err, Result, sym, refl, ap, ◌∙◌, subst, append_assoc, arith, length-append}
use lib.Seq.{set_at}
use Rattle.std.proofs.lemmas.List.{take_all}
use Rattle.std.proofs.lemmas.Bool.{cond-true, cond-false, le-ltb, le-leb, lt-leb}
use Rattle.words.specs.declared.word.Fault.{Fault}
use Rattle.words.specs.declared.word.Refusal.TheVariants as R
use Rattle.words.specs.declared.word.Word.{Word}
use Rattle.words.specs.declared.word.Word.TheVariants as W
use Rattle.words.specs.Words.{meant}
use Rattle.nodes.specs.declared.node.Node.{Node}
use Rattle.nodes.specs.Limits.{most_letters, most_nodes}
use Rattle.nodes.specs.Nodes.{blank}
use Rattle.grammar.specs.Grammar.{Tree, fixed, name, number, text, sheet}
use Rattle.spelling.specs.declared.Entry.{Entry}
use Rattle.grammar.specs.Machine.{empty, over, fault}
use Rattle.grammar.specs.Scan.{wrong}
use Rattle.nodes.specs.declared.binding.Binding.{Binding}
use Rattle.cursor.specs.declared.cursor.Cursor.{Cursor}
use Rattle.parser.specs.Parts.{Listed}
use Rattle.reader.specs.declared.read.Sizes.{Sizes}
use Rattle.cursor.specs.Text.{seen_as, found, parsed, at}
use Rattle.cursor.specs.Reading.{in_hand, says, Opens}
use Rattle.cursor.specs.Layout.{size, entries, number_in, lay, write}
use Rattle.reader.specs.Read.{judged, sheet_in, places, counted, laid, filled}
use Rattle.reader.specs.Sheet.{OpenedAs, Said, SheetAs}
use Rattle.cursor.proofs.Steps.{from_at, past_end}
use Rattle.cursor.proofs.Laying.{length_lay, write_on}

pub short : (t : List ℕ) → length t ≤ most_letters → sheet_in t ≡ judged (parsed t)
short t h = cond-false (ltb most_letters (length t)) _ _ (le-ltb most_letters (length t) h)

pub sheet_refused : (t : List ℕ) (xs ys : List Node) (r : Result Sizes Fault) (e : Fault) → r ≡ Err e → length t ≤ most_letters → parsed t ≡ fault e.refusal e.place → SheetAs t xs ys r
sheet_refused t xs ys r e i h p = subst (λ (x : Result Sizes Fault). SheetAs t xs ys x) (sym i) (short t h ∙ ap judged p)

pub opening_refused : (t : List ℕ) (xs ys : List Node) (ds : List (Entry Binding)) (r : Result Cursor Fault) (e : Fault) → r ≡ Err e → parsed t ≡ fault e.refusal e.place → OpenedAs t xs ys ds r
opening_refused t xs ys ds r e i p = subst (λ (x : Result Cursor Fault). OpenedAs t xs ys ds x) (sym i) p

-- the first word of the text that a cursor begins with
pub opened : {t : List ℕ} {a : Cursor} → Opens t a → parsed t ≡ says empty a
opened {t} {a} o = from_at t empty 0 ∙ (ap (at t empty) (sym o.word) ∙ ap (λ u. at u empty (in_hand a)) (sym o.text))

pub not_opened : (t : List ℕ) (e : Fault) → wrong e.refusal e.place ≡ found t 0 → parsed t ≡ fault e.refusal e.place
not_opened t e h = from_at t empty 0 ∙ ap (at t empty) (sym h)

pub past_word : (t : List ℕ) (s : Tree) (w : Word) (p q : ℕ) → (w ≡ W.End → ⊥) → at t (over s) (seen_as (meant w) p q) ≡ fault R.AfterEnd p
past_word t s (W.Name x) p q n = past_end t s (name (record { place = p; size = q - p })) q
past_word t s (W.Number x v) p q n = past_end t s (number v p) q
past_word t s (W.Text x) p q n = let e : (p + 1) - 1 ≡ p = omega arith in past_end t s (text (record { place = p + 1; size = q - p - 2 })) q ∙ ap (fault R.AfterEnd) e
past_word t s (W.Fixed x) p q n = past_end t s (fixed x p) q
past_word t s W.End p q n = absurd (n refl)

-- what is written over a row of one value
pub write_row : {X : Type 0} (z : X) (bs ps : List X) (n : ℕ) → length bs ≤ n → write (ps ++ replicate n z) (length ps) bs ≡ ps ++ (bs ++ replicate (n - length bs) z)
write_row z [] ps n h = ap (λ k. ps ++ replicate k z) (omega arith)
write_row z (b ∷ bs) ps zero h = absurd (omega arith)
write_row z (b ∷ bs) ps (suc n) h =
    let e1 : set (ps ++ replicate (suc n) z) (length ps) b ≡ (ps ++ (b ∷ [])) ++ replicate n z = set_at ps z (replicate n z) b (length ps) refl ∙ sym (append_assoc ps (b ∷ []) (replicate n z)) in
    let e2 : length ps + 1 ≡ length (ps ++ (b ∷ [])) = sym (length-append ps (b ∷ [])) in
    let ih = write_row z bs (ps ++ (b ∷ [])) n (omega arith) in
    let k : n - length bs ≡ suc n - length (b ∷ bs) = omega arith in
    ap (λ l. write l (length ps + 1) bs) e1 ∙ (ap (λ j. write ((ps ++ (b ∷ [])) ++ replicate n z) j bs) e2 ∙ (ih ∙ (append_assoc ps (b ∷ []) _ ∙ ap (λ j. ps ++ (b ∷ (bs ++ replicate j z))) k)))

-- the nodes of a whole sheet, its names looked up among those noted
pub laid_whole : (t : List ℕ) (d a : Tree) (n : ℕ) (xs ys zs : List Node) (ds ns : List (Entry Binding)) → Listed d n xs ys ds → zs ≡ write ys n (lay (number_in t ns) n a) → ns ≡ ds → size (sheet d a) ≤ most_nodes →
    zs ≡ write xs 0 (laid t (sheet d a))
laid_whole t d a n xs ys zs ds ns l h all fits =
    let c = l.count in
    let names : ns ≡ entries d = all ∙ (l.names ∙ take_all most_nodes (entries d) (omega (arith, l.sized))) in
    let f = number_in t (entries d) in
    h ∙ (ap (λ (x : List (Entry Binding)). write ys n (lay (number_in t x) n a)) names
    ∙ (ap (λ (y : List Node). write y n (lay f n a)) (l.nodes f)
    ∙ (write_on xs 0 (lay f 0 d) (lay f n a) n (omega (arith, length_lay f 0 d))
    ∙ ap (λ k. write xs 0 (lay f 0 d ++ lay f k a)) (let e : n ≡ 0 + size d = omega arith in e))))

-- what Read answers and leaves
pub read_fits : (t : List ℕ) (g : ℕ) (xs ys : List Node) (z : Sizes) → Said t xs ys z → xs ≡ replicate g blank → z.nodes ≤ places g →
    (◌≡◌ {A = Result Sizes Fault} (Ok z) (counted g (sheet_in t))) × (ys ≡ filled t g (sheet_in t))
read_fits t g xs ys z s x h =
    let fits = le-leb (size s.tree) (places g) (omega (arith, s.nodes)) in
    let l = length_lay (number_in t (entries s.tree)) 0 s.tree in (
      ap (λ (k : ℕ). Ok (record { nodes = k; variables = z.variables })) s.nodes ∙ (ap (λ (k : ℕ). Ok (record { nodes = size s.tree; variables = k })) s.variables ∙ sym (ap (counted g) s.says ∙ cond-true _ _ _ fits)),
      s.laid_out (omega (arith, s.nodes)) ∙ (ap (λ (l : List Node). write l 0 (laid t s.tree)) x ∙ (write_row blank (laid t s.tree) [] g (omega (arith, s.nodes, l)) ∙ (ap (λ k. laid t s.tree ++ replicate (g - k) blank) l ∙ sym (ap (filled t g) s.says ∙ cond-true _ _ _ fits)))),
    )

pub read_many : (t : List ℕ) (g : ℕ) (xs ys : List Node) (z : Sizes) → Said t xs ys z → places g < z.nodes → (counted g (sheet_in t) ≡ Err (record { refusal = R.ManyNodes; place = 0 })) × (filled t g (sheet_in t) ≡ replicate g blank)
read_many t g xs ys z s h =
    let no = lt-leb (size s.tree) (places g) (omega (arith, s.nodes)) in
    (ap (counted g) s.says ∙ cond-false _ _ _ no, ap (filled t g) s.says ∙ cond-false _ _ _ no)

pub read_err : (t : List ℕ) (g : ℕ) (e : Fault) → sheet_in t ≡ Err e → (counted g (sheet_in t) ≡ Err e) × (filled t g (sheet_in t) ≡ replicate g blank)
read_err t g e i = (ap (counted g) i, ap (filled t g) i)
