-- The search, as the first entry that spells a word.
use Rattle.std.proofs.Common.{◌≡◌, Bool, true, false, cond, ℕ, List, [], ◌∷◌, Some, None, Option, Bor, sym, refl, ap, ◌∙◌}
use Rattle.std.specs.List.{find}
use Rattle.std.specs.Option.{option_map, MatchOption, IsSomeAnd}
use Rattle.spelling.specs.declared.Entry.{Entry}
use Rattle.spelling.specs.Table.{spells, found}

found_is : {T : Type 0} (ls w : List ℕ) (es : List (Entry T)) → found ls w es ≡ option_map (λ (e : Entry T). e.value) (find (λ (e : Entry T). spells ls w e.place e.size) es)
found_is ls w [] = refl
found_is {T} ls w (e ∷ es) = by (spells ls w e.place e.size) (found_is ls w es)
  where
    by : (b : Bool) → found ls w es ≡ option_map (λ (x : Entry T). x.value) (find (λ (x : Entry T). spells ls w x.place x.size) es) →
        cond b (Some e.value) (found ls w es) ≡ option_map (λ (x : Entry T). x.value) (cond b (Some e) (find (λ (x : Entry T). spells ls w x.place x.size) es))
    by true h = refl
    by false h = h

picked : {T : Type 0} {P : Bor (Entry T) → T → Type 0} (r : Option (Bor (Entry T))) (m : Option T) → MatchOption r (m ≡ None) (λ e. IsSomeAnd m (P e)) → ((e : Bor (Entry T)) (v : T) → P e v → v ≡ e.now.value) →
    m ≡ option_map (λ (e : Entry T). e.value) (option_map (λ (e : Bor (Entry T)). e.now) r)
picked None m h k = h
picked (Some e) (Some v) h k = ap Some (k e v h)
picked (Some e) None h k = absurd h

-- what `find` and `map` answer
pub found_from : {T : Type 0} {P : Bor (Entry T) → T → Type 0} (ls w : List ℕ) (es : List (Entry T)) (r : Option (Bor (Entry T))) (m : Option T) →
    option_map (λ (e : Bor (Entry T)). e.now) r ≡ find (λ (e : Entry T). spells ls w e.place e.size) es →
    MatchOption r (m ≡ None) (λ e. IsSomeAnd m (P e)) → ((e : Bor (Entry T)) (v : T) → P e v → v ≡ e.now.value) → m ≡ found ls w es
found_from {T} ls w es r m h k v = picked r m k v ∙ (ap (option_map (λ (e : Entry T). e.value)) h ∙ sym (found_is ls w es))
