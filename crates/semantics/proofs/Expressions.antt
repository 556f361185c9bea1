-- What an expression is worth, where its kinds agree.
use Rattle.std.proofs.Common.{◌≡◌, ℕ, zero, suc, ◌+◌, ◌<◌, ◌≤◌, Bool, true, false, cond, ltb, ◌⊎◌, List, ◌++◌, length, get_or, take, drop, Ok, Err, Result, sym, refl, ap, ◌∙◌, subst, inl, inr, ⊎_elim, not-suc-le-zero, arith, length-take}
use Rattle.std.proofs.lemmas.Bool.{le-ltb, lt-ltb, cond-true, false≢true}
use Rattle.nodes.specs.Nodes.{Sheet, view_at, kinds}
use Rattle.nodes.specs.declared.view.View.{View}
use Rattle.nodes.proofs.Grown.{tree_is}
use Rattle.deck.specs.Sound.{Sound, Right, Leads, kind_in}
use Rattle.shelf.specs.Value.{Value, number, text, kind_of, num_of, bytes_of, over}
use Rattle.semantics.specs.declared.status.Cause.{Cause}
use Rattle.semantics.specs.Syntax.{Expr, var, num, str, plus, conc, expr_of, expression, Statement, assign, if_else, while_do, skip, own, stated, statement}
use Rattle.semantics.specs.Expressions.{ideal, Part, Passes, reason, within, added, joined, value}
use Rattle.semantics.specs.Law.{Held}
use Rattle.nodes.specs.declared.view.View.TheVariants as V
use Rattle.nodes.specs.Trees as T

-- an expression of kind k over variables of kinds ks
abbrev pub Fine : List ℕ → ℕ → Expr → Type 0
Fine ks k (var i) = (i < length ks) × (get_or ks i 0 ≡ k)
Fine ks k (num n) = (n ≤ 4294967295) × (1 ≡ k)
Fine ks k (str t) = (length t ≤ 80) × (2 ≡ k)
Fine ks k (plus x y) = (1 ≡ k) × Fine ks 1 x × Fine ks 1 y
Fine ks k (conc x y) = (2 ≡ k) × Fine ks 2 x × Fine ks 2 y

pub record Exact (vs : List Value) (e : Expr) (k : ℕ) (w : Value) : Type 0 where
  pub is : w ≡ ideal vs e
  pub kind : kind_of w ≡ k
  pub limit : over w ≡ false
  pub parts : (p : Expr) → Part p e → over (ideal vs p) ≡ false

abbrev pub Valued : List Value → Expr → ℕ → Result Value Cause → Type 0
Valued vs e k (Ok w) = Exact vs e k w
Valued vs e k (Err c) = Passes vs e

pub none_passes : (vs : List Value) (e : Expr) → ((p : Expr) → Part p e → over (ideal vs p) ≡ false) → Passes vs e → ⊥
none_passes vs e h p = false≢true (sym (h p.0 p.1) ∙ p.2)

-- a whole, of two parts that pass no limit
module _ (vs : List Value) (e x y : Expr) (k : ℕ) (v : Value) (is : v ≡ ideal vs e) (kind : kind_of v ≡ k)
    (split : (p : Expr) → Part p e → (p ≡ e) ⊎ (Part p x ⊎ Part p y)) (whole : Part e e)
    (px : (p : Expr) → Part p x → over (ideal vs p) ≡ false) (py : (p : Expr) → Part p y → over (ideal vs p) ≡ false) where
  whole_by : (b : Bool) → over v ≡ b → Valued vs e k (cond b (Err (reason v)) (Ok v))
  whole_by true h = (e, whole, ap over (sym is) ∙ h)
  whole_by false h =
      record {
        is = is;
        kind = kind;
        limit = h;
        parts = λ p q. ⊎_elim (λ r. ap (λ z. over (ideal vs z)) r ∙ ap over (sym is) ∙ h) (⊎_elim (px p) (py p)) (split p q);
      }

  pub whole_valued : Valued vs e k (within v)
  whole_valued = whole_by (over v) refl

plus_valued : (vs : List Value) (x y : Expr) (k : ℕ) → 1 ≡ k → (r s : Result Value Cause) → Valued vs x 1 r → Valued vs y 1 s → Valued vs (plus x y) k (added r s)
plus_valued vs x y k e (Ok u) (Ok v) p q =
    whole_valued vs (plus x y) x y k (number (num_of u + num_of v))
    (ap (λ a. number (num_of a + num_of v)) p.is ∙ ap (λ b. number (num_of (ideal vs x) + num_of b)) q.is) e (λ z h. h) (inl refl) p.parts q.parts
plus_valued vs x y k e (Ok u) (Err c) p q = (q.0, inr (inr q.1), q.2)
plus_valued vs x y k e (Err c) s p q = (p.0, inr (inl p.1), p.2)

conc_valued : (vs : List Value) (x y : Expr) (k : ℕ) → 2 ≡ k → (r s : Result Value Cause) → Valued vs x 2 r → Valued vs y 2 s → Valued vs (conc x y) k (joined r s)
conc_valued vs x y k e (Ok u) (Ok v) p q =
    whole_valued vs (conc x y) x y k (text (bytes_of u ++ bytes_of v))
    (ap (λ a. text (bytes_of a ++ bytes_of v)) p.is ∙ ap (λ b. text (bytes_of (ideal vs x) ++ bytes_of b)) q.is) e (λ z h. h) (inl refl) p.parts q.parts
conc_valued vs x y k e (Ok u) (Err c) p q = (q.0, inr (inr q.1), q.2)
conc_valued vs x y k e (Err c) s p q = (p.0, inr (inl p.1), p.2)

leaf : (vs : List Value) (e : Expr) (k : ℕ) (w : Value) → w ≡ ideal vs e → kind_of w ≡ k → over w ≡ false → ((p : Expr) → Part p e → p ≡ e) → Exact vs e k w
leaf vs e k w is kind limit one = record { is = is; kind = kind; limit = limit; parts = λ p h. ap (λ z. over (ideal vs z)) (one p h) ∙ ap over (sym is) ∙ limit }

-- where each variable holds a value of its kind, within its limit
module _ (ks : List ℕ) (vs : List Value) (kind : (i : ℕ) → i < length ks → kind_of (get_or vs i (number 0)) ≡ get_or ks i 0) (limit : (i : ℕ) → i < length ks → over (get_or vs i (number 0)) ≡ false) where
  pub valued : (e : Expr) (k : ℕ) → Fine ks k e → Valued vs e k (value vs e)
  valued (var i) k f = leaf vs (var i) k (get_or vs i (number 0)) refl (kind i f.0 ∙ f.1) (limit i f.0) (λ p h. h)
  valued (num n) k f = leaf vs (num n) k (number n) refl f.1 (le-ltb 4294967295 n f.0) (λ p h. h)
  valued (str t) k f = leaf vs (str t) k (text t) refl f.1 (le-ltb 80 (length t) f.0) (λ p h. h)
  valued (plus x y) k f = plus_valued vs x y k f.0 (value vs x) (value vs y) (valued x 1 f.1) (valued y 1 f.2)
  valued (conc x y) k f = conc_valued vs x y k f.0 (value vs x) (value vs y) (valued x 2 f.1) (valued y 2 f.2)

-- the expression of a node, from those of the nodes that its arrows lead to
abbrev pub build : List ℕ → (ℕ → Expr) → View → Expr
build ls f (V.Variable p s n) = var n
build ls f (V.Number v) = num v
build ls f (V.Text p s) = str (take s (drop p ls))
build ls f (V.Plus a b) = plus (f a) (f b)
build ls f (V.Conc a b) = conc (f a) (f b)
build ls f (V.Declaration p s k) = num 0
build ls f (V.Assign a b) = num 0
build ls f (V.If a b c) = num 0
build ls f (V.While a b) = num 0
build ls f (V.Series a b) = num 0
build ls f V.Empty = num 0
build ls f V.Unknown = num 0

module _ (sh : Sheet) (i : ℕ) where
  lower_is : (a : ℕ) → a < i → expr_of sh.letters (cond (ltb a i) (T.tree sh.nodes a) T.none) ≡ expression sh a
  lower_is a h = ap (expr_of sh.letters) (cond-true (ltb a i) (T.tree sh.nodes a) T.none (lt-ltb a i h))

  built : (x : View) → Right sh i x → expr_of sh.letters (T.build (λ a. cond (ltb a i) (T.tree sh.nodes a) T.none) x) ≡ build sh.letters (expression sh) x
  built (V.Plus a b) r = let p = lower_is a r.0.lower in let q = lower_is b r.1.lower in cc
  built (V.Conc a b) r = let p = lower_is a r.0.lower in let q = lower_is b r.1.lower in cc
  built (V.Variable p s n) r = refl
  built (V.Number v) r = refl
  built (V.Text p s) r = refl
  built (V.Declaration p s k) r = refl
  built (V.Assign a b) r = refl
  built (V.If a b c) r = refl
  built (V.While a b) r = refl
  built (V.Series a b) r = refl
  built V.Empty r = refl
  built V.Unknown r = refl

pub expression_is : (sh : Sheet) → Sound sh → (i : ℕ) → expression sh i ≡ build sh.letters (expression sh) (view_at sh.nodes i)
expression_is sh ok i = ap (expr_of sh.letters) (tree_is sh.nodes i) ∙ built sh i (view_at sh.nodes i) (ok.right i)

-- the expressions of a sound sheet are fine
module _ (sh : Sheet) (ok : Sound sh) where
  build_fine :
      (i : ℕ) (f : ℕ → Expr) (x : View) → Right sh i x →
      ((a : ℕ) → a < i → (kind_in (kinds sh) (view_at sh.nodes a) ≡ 0 → ⊥) → Fine (kinds sh) (kind_in (kinds sh) (view_at sh.nodes a)) (f a)) →
      (kind_in (kinds sh) x ≡ 0 → ⊥) → Fine (kinds sh) (kind_in (kinds sh) x) (build sh.letters f x)
  build_fine i f (V.Variable p s c) r g h = (r, refl)
  build_fine i f (V.Number n) r g h = (r, refl)
  build_fine i f (V.Text a b) r g h = (let q = length-take b (drop a sh.letters) in let l = r.0 in omega arith, refl)
  build_fine i f (V.Plus a b) r g h = (
    refl,
    subst (λ k. Fine (kinds sh) k (f a)) r.0.agrees (g a r.0.lower (λ z. absurd (let y = r.0.agrees in omega arith))),
    subst (λ k. Fine (kinds sh) k (f b)) r.1.agrees (g b r.1.lower (λ z. absurd (let y = r.1.agrees in omega arith))),
  )
  build_fine i f (V.Conc a b) r g h = (
    refl,
    subst (λ k. Fine (kinds sh) k (f a)) r.0.agrees (g a r.0.lower (λ z. absurd (let y = r.0.agrees in omega arith))),
    subst (λ k. Fine (kinds sh) k (f b)) r.1.agrees (g b r.1.lower (λ z. absurd (let y = r.1.agrees in omega arith))),
  )
  build_fine i f (V.Declaration p s k) r g h = absurd (h refl)
  build_fine i f (V.Assign a b) r g h = absurd (h refl)
  build_fine i f (V.If a b c) r g h = absurd (h refl)
  build_fine i f (V.While a b) r g h = absurd (h refl)
  build_fine i f (V.Series a b) r g h = absurd (h refl)
  build_fine i f V.Empty r g h = absurd (h refl)
  build_fine i f V.Unknown r g h = absurd (h refl)

  fine_below : (m i : ℕ) → i < m → (kind_in (kinds sh) (view_at sh.nodes i) ≡ 0 → ⊥) → Fine (kinds sh) (kind_in (kinds sh) (view_at sh.nodes i)) (expression sh i)
  fine_below zero i h z = absurd (not-suc-le-zero h)
  fine_below (suc m) i h z = subst (Fine (kinds sh) (kind_in (kinds sh) (view_at sh.nodes i))) (sym (expression_is sh ok i)) (build_fine i (expression sh) (view_at sh.nodes i) (ok.right i) (λ a l. fine_below m a (omega arith)) z)

  pub expression_fine : (i a k : ℕ) → Leads sh i a k → (k ≡ 0 → ⊥) → Fine (kinds sh) k (expression sh a)
  expression_fine i a k l z = subst (λ j. Fine (kinds sh) j (expression sh a)) l.agrees (fine_below (suc a) a (omega arith) (λ e. z (sym l.agrees ∙ e)))

  -- the kind of a statement's own expression
  abbrev pub wants : Statement → ℕ
  wants (assign n e) = get_or (kinds sh) n 0
  wants (if_else e p q) = 1
  wants (while_do e p) = 1
  wants skip = 1

  abbrev pub Proper : Statement → Type 0
  Proper (assign n e) = (n < length (kinds sh)) × Fine (kinds sh) (get_or (kinds sh) n 0) e
  Proper (if_else e p q) = Fine (kinds sh) 1 e
  Proper (while_do e p) = Fine (kinds sh) 1 e
  Proper skip = Unit {0}

  known_not : (n : ℕ) → n < length (kinds sh) → get_or (kinds sh) n 0 ≡ 0 → ⊥
  known_not n h z = ⊎_elim (λ e. omega arith) (λ e. omega arith) (ok.known n h)

  stated_proper : (i : ℕ) (x : View) → Right sh i x → Proper (stated sh x)
  stated_proper i (V.Assign a b) r = (r.target, expression_fine i b _ r.value (known_not _ r.target))
  stated_proper i (V.If a b c) r = expression_fine i a 1 r.0 (λ z. omega arith)
  stated_proper i (V.While a b) r = expression_fine i a 1 r.0 (λ z. omega arith)
  stated_proper i (V.Variable p s c) r = tt
  stated_proper i (V.Number n) r = tt
  stated_proper i (V.Text a b) r = tt
  stated_proper i (V.Plus a b) r = tt
  stated_proper i (V.Conc a b) r = tt
  stated_proper i (V.Series a b) r = tt
  stated_proper i (V.Declaration p s k) r = tt
  stated_proper i V.Empty r = tt
  stated_proper i V.Unknown r = tt

  pub proper : (i : ℕ) → Proper (statement sh i)
  proper i = stated_proper i (view_at sh.nodes i) (ok.right i)

  own_fine : (st : Statement) → Proper st → Fine (kinds sh) (wants st) (own st)
  own_fine (assign n e) p = p.1
  own_fine (if_else e p q) f = f
  own_fine (while_do e p) f = f
  own_fine skip f = (omega arith, refl)

  pub own_valued : (R : ℕ) (vs : List Value) → Held sh R vs → (st : Statement) → Proper st → Valued vs (own st) (wants st) (value vs (own st))
  own_valued R vs h st p = valued (kinds sh) vs h.kind h.limit (own st) (wants st) (own_fine st p)
