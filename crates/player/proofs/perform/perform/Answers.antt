use Rattle.std.proofs.Common.{◌≡◌, ◌≤◌, ◌⊎◌, length, sym, refl, ap, ◌∙◌, subst, inl, inr, arith}
use Rattle.std.proofs.lemmas.List.{set-get_or}
use Rattle.deck.specs.Sheets.{sheet_of}
use Rattle.player.specs.Of.{state_of, deck_of, enough}
use Rattle.player.proofs.Performing.{Performing, performing_none, performing_more, performing_all, performed, unperformed, after_begun, answer_begun, called_on, made_begun, got, got_none}
use Rattle.player.proofs.perform.perform.Goals as goal
use Rattle.player.proofs.perform.perform.Goals.{else-loop-i-test, then-loop-i-test+in_default}

pub loop-i-init : goal.loop-i-init
loop-i-init g c = (record { deck = refl; capacity = refl; slots = refl; state = refl }, performing_none _ _ _ c.args.calls.now (state_of g.S.Shelf.values c.start-player.result) c.args.answers.now)

pub loop-i-preserved : goal.loop-i-preserved
loop-i-preserved g c =
    let h = got c.args.calls.now c.loop-i.i c.in-Some.call c.in-Some.ensures in (
      called_on g.S.Shelf c.start-player.result c.loop-i.player c.call.new.self c.in-Some.call c.loop-i.invariant.0 c.call.ensures.goes,
      performing_more (enough g.S.Shelf (deck_of c.start-player.result) c.start-player.result.shelf) (sheet_of (deck_of c.start-player.result)) (g.S.Shelf.capacity c.start-player.result.shelf)
          c.args.calls.now c.loop-i.i (state_of g.S.Shelf.values c.start-player.result) (state_of g.S.Shelf.values c.loop-i.player) (state_of g.S.Shelf.values c.call.new.self) c.args.answers.now c.loop-i.answers c.in-Some.call c.call.result
          c.loop-i.invariant.1 h.0 h.1 (let l = c.loop-i.auto.answers in omega arith)
          (after_begun g.S.Shelf c.start-player.result c.loop-i.player c.call.new.self c.in-Some.call c.loop-i.invariant.0 c.call.ensures.goes)
          (answer_begun g.S.Shelf c.start-player.result c.loop-i.player c.call.new.self c.in-Some.call c.loop-i.invariant.0 c.call.ensures.goes _ c.call.ensures.says),
    )

out : (g : Rattle.player.proofs.perform.perform.Given.Over) (c : goal.After-eject g) → (length c.args.calls.now ≤ c.loop-i.i) ⊎ (length c.loop-i-test.answers ≤ c.loop-i.i)
out g c = elim c.loop-i-test.branch [ else-loop-i-test w ↦ inr (let l = c.loop-i.auto.answers in let m = c.loop-i-test.auto.answers in omega arith) | then-loop-i-test+in_default w ↦ inl (got_none c.args.calls.now c.loop-i.i w.in_default.ensures) ]

left : (g : Rattle.player.proofs.perform.perform.Given.Over) (c : goal.After-eject g) → c.loop-i-test.answers ≡ c.loop-i.answers
left g c = elim c.loop-i-test.branch [ else-loop-i-test w ↦ w.answers-is | then-loop-i-test+in_default w ↦ w.answers-is ∙ set-get_or _ _ _ ]

pub returns : goal.returns
returns g c =
    let m =
    made_begun (deck_of c.start-player.result) c.args.deck (g.S.Shelf.capacity c.start-player.result.shelf) (g.S.Shelf.capacity c.args.shelf) (g.S.Shelf.slots c.start-player.result.shelf) (g.S.Shelf.slots c.args.shelf)
    c.start-player.ensures.deck c.start-player.ensures.capacity c.start-player.ensures.slots
    c.args.calls.now (state_of g.S.Shelf.values c.start-player.result) (state_of g.S.Shelf.values c.loop-i.player) c.args.answers.now c.loop-i-test.answers (g.S.Shelf.values c.args.shelf) c.start-player.ensures.state
    (performing_all (enough g.S.Shelf (deck_of c.start-player.result) c.start-player.result.shelf) (sheet_of (deck_of c.start-player.result)) (g.S.Shelf.capacity c.start-player.result.shelf) c.args.calls.now c.loop-i.i _ _ c.args.answers.now c.loop-i-test.answers (subst (Performing (enough g.S.Shelf (deck_of c.start-player.result) c.start-player.result.shelf) (sheet_of (deck_of c.start-player.result)) (g.S.Shelf.capacity c.start-player.result.shelf) c.args.calls.now c.loop-i.i (state_of g.S.Shelf.values c.start-player.result) (state_of g.S.Shelf.values c.loop-i.player) c.args.answers.now) (sym (left g c)) c.loop-i.invariant.1) (out g c)) in
    let d : c.eject.result.0 ≡ deck_of c.loop-i.player = ap (λ p. p.0) c.eject.ensures in
    let s : c.eject.result.1 ≡ c.loop-i.player.shelf = ap (λ p. p.1) c.eject.ensures in
    let v = ap g.S.Shelf.values s ∙ ap (λ x. x.values) m.state in
    record {
      deck = d ∙ c.loop-i.invariant.0.deck ∙ c.start-player.ensures.deck;
      capacity = ap g.S.Shelf.capacity s ∙ c.loop-i.invariant.0.capacity ∙ c.start-player.ensures.capacity;
      slots = ap g.S.Shelf.slots s ∙ c.loop-i.invariant.0.slots ∙ c.start-player.ensures.slots;
      values = v;
      says = m.says;
      beyond = m.beyond;
      law = performed c.args.deck (g.S.Shelf.capacity c.args.shelf) (g.S.Shelf.slots c.args.shelf) (g.S.Shelf.values c.args.shelf) _ c.args.calls.now c.args.answers.now c.loop-i-test.answers v m.says (c.loop-i-test.auto.answers ∙ c.loop-i.auto.answers);
      too_few = unperformed c.args.deck (g.S.Shelf.capacity c.args.shelf) (g.S.Shelf.slots c.args.shelf) (g.S.Shelf.values c.args.shelf) _ c.args.calls.now c.args.answers.now c.loop-i-test.answers v m.says (c.loop-i-test.auto.answers ∙ c.loop-i.auto.answers);
    }
