-- What the search for a name finds among the declared ones.
use Rattle.std.proofs.Common.{◌≡◌, ℕ, zero, suc, ◌+◌, ◌<◌, ◌≤◌, Bool, true, false, cond, leb, List, [], ◌∷◌, ◌++◌, length, take, drop, Some, None, Option, sym, refl, ap, ◌∙◌, subst, inl, inr, not-suc-le-zero, arith}
use lib.Seq.{take-length, take-append-le}
use Rattle.std.proofs.lemmas.Slice.Eq.{bytes_eq-Decides}
use Rattle.std.proofs.lemmas.Bool.{and_parts, and_from, cond-true, cases_eq}
use Rattle.std.specs.Str.{bytes_eq}
use Rattle.spelling.specs.declared.Entry.{Entry}
use Rattle.spelling.specs.Table.{spells, found, or_else}
use Rattle.nodes.specs.declared.node.Node.{Node}
use Rattle.nodes.specs.Nodes.{node_at}
use Rattle.nodes.specs.declared.binding.Binding.{Binding}
use Rattle.deck.specs.Rules.{inside, spelled, entry, names}
use Rattle.deck.proofs.Names.{names_size}

cond_or : {T : Type 0} (b : Bool) (x : T) (z : Option T) (y : Option T) → cond b (Some x) (or_else z y) ≡ or_else (cond b (Some x) z) y
cond_or true x z y = refl
cond_or false x z y = refl

found_append : {T : Type 0} (ls w : List ℕ) (xs ys : List (Entry T)) → found ls w (xs ++ ys) ≡ or_else (found ls w xs) (found ls w ys)
found_append ls w [] ys = refl
found_append ls w (x ∷ xs) ys =
    ap (λ o. cond (spells ls w x.place x.size) (Some x.value) o) (found_append ls w xs ys)
    ∙ cond_or (spells ls w x.place x.size) x.value (found ls w xs) (found ls w ys)

none_some : {T : Type 0} (P : Type 0) (x : T) → ◌≡◌ {A = Option T} None (Some x) → P
none_some P x q = let z : ◌≡◌ {A = ℕ} 0 1 = cc in absurd (omega arith)

-- the first k names
pub take_names : (m k : ℕ) (ns : List Node) → m ≤ k → take m (names k ns) ≡ names m ns
take_names zero k ns h = refl
take_names (suc m) zero ns h = absurd (not-suc-le-zero h)
take_names (suc m) (suc k) ns h =
    elim (cases_eq m k) [
      | inl e ↦ (let s = names_size (suc k) ns in ap (λ j. take (suc j) (names (suc k) ns)) e ∙ ap (λ j. take j (names (suc k) ns)) (sym s) ∙ take-length (names (suc k) ns) ∙ ap (λ j. names (suc j) ns) (sym e))
      | inr n ↦ (let s = names_size k ns in let l : suc m ≤ length (names k ns) = omega arith in take-append-le (suc m) (names k ns) (entry (node_at ns k) k ∷ []) l ∙ take_names (suc m) k ns (omega arith))
    ]

-- node k is spelled w
abbrev pub spelt : List ℕ → List ℕ → List Node → ℕ → Bool
spelt ls w ns k = spells ls w (node_at ns k).a (node_at ns k).b

abbrev pub binding : List Node → ℕ → Binding
binding ns k = record { kind = (node_at ns k).c; number = k }

found_more : (ls w : List ℕ) (ns : List Node) (k : ℕ) → found ls w (names (suc k) ns) ≡ or_else (found ls w (names k ns)) (cond (spelt ls w ns k) (Some (binding ns k)) None)
found_more ls w ns k = found_append ls w (names k ns) (entry (node_at ns k) k ∷ [])

-- what is found is the binding of a node with that spelling
pub found_some : (ls w : List ℕ) (ns : List Node) (k : ℕ) (d : Binding) → found ls w (names k ns) ≡ Some d → (d.number < k) × (spelt ls w ns d.number ≡ true)
found_some ls w ns zero d q = none_some _ d q
found_some ls w ns (suc k) d q = by (found_some ls w ns k d) (found ls w (names k ns)) refl (spelt ls w ns k) refl (sym (found_more ls w ns k) ∙ q)
  where
    by : (found ls w (names k ns) ≡ Some d → (d.number < k) × (spelt ls w ns d.number ≡ true)) → (o : Option Binding) → found ls w (names k ns) ≡ o → (b : Bool) → spelt ls w ns k ≡ b → or_else o (cond b (Some (binding ns k)) None) ≡ Some d → (d.number < suc k) × (spelt ls w ns d.number ≡ true)
    by lower (Some x) e b f r = let p = lower (e ∙ r) in ((let l = p.0 in omega arith), p.1)
    by lower None e true f r =
        let z : d.number ≡ k = cc in
        ((let y = z in omega arith), subst (λ j. spelt ls w ns j ≡ true) (sym z) f)
    by lower None e false f r = none_some _ d r

-- where no node has the spelling, nothing is found
pub found_none : (ls w : List ℕ) (ns : List Node) (k : ℕ) → ((j : ℕ) → j < k → spelt ls w ns j ≡ false) → found ls w (names k ns) ≡ None
found_none ls w ns zero f = refl
found_none ls w ns (suc k) f =
    found_more ls w ns k ∙ ap (λ o. or_else o (cond (spelt ls w ns k) (Some (binding ns k)) None)) (found_none ls w ns k (λ j h. f j (omega arith)))
    ∙ ap (λ b. cond b (Some (binding ns k)) None) (f k (omega arith))

pub none_found : (ls w : List ℕ) (ns : List Node) (k : ℕ) → found ls w (names k ns) ≡ None → (j : ℕ) → j < k → spelt ls w ns j ≡ false
none_found ls w ns zero q j h = absurd (not-suc-le-zero h)
none_found ls w ns (suc k) q j h = by (none_found ls w ns k) (found ls w (names k ns)) refl (spelt ls w ns k) refl (sym (found_more ls w ns k) ∙ q)
  where
    by : (found ls w (names k ns) ≡ None → (m : ℕ) → m < k → spelt ls w ns m ≡ false) → (o : Option Binding) → found ls w (names k ns) ≡ o → (b : Bool) → spelt ls w ns k ≡ b → or_else o (cond b (Some (binding ns k)) None) ≡ None → spelt ls w ns j ≡ false
    by lower (Some x) e b f r = none_some _ x (sym r)
    by lower None e true f r = none_some _ (binding ns k) (sym r)
    by lower None e false f r = elim (cases_eq j k) [ inl z ↦ subst (λ m. spelt ls w ns m ≡ false) (sym z) f | inr n ↦ lower e j (omega arith) ]

-- the first node that has the spelling is found
pub found_first : (ls w : List ℕ) (ns : List Node) (k j : ℕ) → j < k → spelt ls w ns j ≡ true → ((m : ℕ) → m < j → spelt ls w ns m ≡ false) → found ls w (names k ns) ≡ Some (binding ns j)
found_first ls w ns zero j h e f = absurd (not-suc-le-zero h)
found_first ls w ns (suc k) j h e f =
    found_more ls w ns k ∙ elim (cases_eq j k) [
      | inl z ↦ (ap (λ o. or_else o (cond (spelt ls w ns k) (Some (binding ns k)) None)) (found_none ls w ns k (λ m l. f m (omega arith)))
          ∙ ap (λ b. cond b (Some (binding ns k)) None) (subst (λ m. spelt ls w ns m ≡ true) z e) ∙ ap (λ m. Some (binding ns m)) (sym z))
      | inr n ↦ ap (λ o. or_else o (cond (spelt ls w ns k) (Some (binding ns k)) None)) (found_first ls w ns k j (omega arith) e f)
    ]

-- a part within the letters is spelled w when it spells w
pub spells_is : (ls w : List ℕ) (p s : ℕ) → spells ls w p s ≡ true → spelled ls p s ≡ w
spells_is ls w p s e =
    let q = and_parts (leb (p + s) (length ls)) (bytes_eq (take s (drop p ls)) w) e in
    cond-true (inside ls p s) (take s (drop p ls)) [] q.0 ∙ (bytes_eq-Decides (take s (drop p ls)) w).0 q.1

pub is_spells : (ls w : List ℕ) (p s : ℕ) → inside ls p s ≡ true → spelled ls p s ≡ w → spells ls w p s ≡ true
is_spells ls w p s i e =
    and_from (leb (p + s) (length ls)) (bytes_eq (take s (drop p ls)) w) i
    ((bytes_eq-Decides (take s (drop p ls)) w).1 (sym (cond-true (inside ls p s) (take s (drop p ls)) [] i) ∙ e))
