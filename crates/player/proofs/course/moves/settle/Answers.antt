use Rattle.std.proofs.Common.{◌≡◌, ℕ, ◌-◌, ◌<◌, List, length, get_or, sym, ap, ◌∙◌, subst, arith}
use Rattle.deck.specs.Sheets.{sheet_of}
use Rattle.player.proofs.Stack.{full_kind, full_other, Settling, settling_stay, settling_drop, settling_none}
use Rattle.player.proofs.course.moves.settle.Goals as goal

pub returns-then-is_full : goal.returns-then-is_full
returns-then-is_full c =
    let b = subst (λ (l : List ℕ). (0 < length l) × ((d : ℕ) → c.in-Some.field-0.now ≡ get_or l (length l - 1) d)) c.deref.ensures.0 c.in-Some.ensures.item.3 in
    settling_stay (sheet_of c.args.deck.now) c.args.todo.now.items c.loop-front.todo.items c.loop-front.invariant c.in-Some.field-0.now b.0 (b.1 0) (full_kind _ (sym c.is_full.ensures ∙ c.if-is_full.true))

pub loop-front-preserved : goal.loop-front-preserved
loop-front-preserved c =
    let b = subst (λ (l : List ℕ). (0 < length l) × ((d : ℕ) → c.in-Some.field-0.now ≡ get_or l (length l - 1) d)) c.deref.ensures.0 c.in-Some.ensures.item.3 in
    subst (Settling (sheet_of c.args.deck.now) c.args.todo.now.items) (sym c.pop.ensures.rest)
    (settling_drop (sheet_of c.args.deck.now) c.args.todo.now.items c.loop-front.todo.items c.loop-front.invariant c.in-Some.field-0.now b.0 (b.1 0) (full_other _ (sym c.is_full.ensures ∙ c.if-is_full.false)))

pub returns : goal.returns
returns c =
    settling_none (sheet_of c.args.deck.now) c.args.todo.now.items c.loop-front.todo.items c.loop-front.invariant
    (let l = ap length c.deref.ensures.0 in let n = c.in_default.ensures.item.3 in omega arith)
