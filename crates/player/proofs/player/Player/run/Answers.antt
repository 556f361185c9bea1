use Rattle.std.proofs.Common.{◌≡◌, true, false, refl, ◌∙◌, arith}
use Rattle.deck.specs.Sheets.{sheet_of}
use Rattle.semantics.proofs.Runs.{playing_more, playing_still, playing_stopped, playing_all, still_since, none_since, some_since}
use Rattle.player.specs.Of.{state_of, deck_of}
use Rattle.player.proofs.Moves.{beat_begun, goes_on}
use Rattle.player.proofs.player.Player.run.Goals as goal

pub returns-then-not-is_made : goal.returns-then-not-is_made
returns-then-not-is_made g c =
    let s = none_since c.beat.new.self.course.status (λ e. (let z : false ≡ true = c.if-not-is_made.ensures.1 e in cc)) in
    let p = playing_stopped (sheet_of (deck_of c.args.self.now)) (g.S.Shelf.capacity c.args.self.now.shelf) c.args.grant c.loop-made.made (state_of g.S.Shelf.values c.args.self.now) (state_of g.S.Shelf.values c.loop-made.self) (state_of g.S.Shelf.values c.beat.new.self) c.loop-made.invariant.1 s.0 s.1 c.loop-made-test.true (beat_begun g.S.Shelf c.args.self.now c.loop-made.self c.beat.new.self c.loop-made.invariant.0 c.beat.ensures) c.in-Ready.is s.2 in
    record { goes = goes_on g.S.Shelf c.args.self.now c.loop-made.self c.beat.new.self c.loop-made.invariant.0 c.beat.ensures _ p.0; count = p.1; bound = c.loop-made.invariant.1.few }

pub loop-made-preserved : goal.loop-made-preserved
loop-made-preserved g c = (
  goes_on g.S.Shelf c.args.self.now c.loop-made.self c.beat.new.self c.loop-made.invariant.0 c.beat.ensures _ refl,
  playing_more (sheet_of (deck_of c.args.self.now)) (g.S.Shelf.capacity c.args.self.now.shelf) c.args.grant c.loop-made.made (state_of g.S.Shelf.values c.args.self.now) (state_of g.S.Shelf.values c.loop-made.self) (state_of g.S.Shelf.values c.beat.new.self) c.loop-made.invariant.1 c.loop-made-test.true (beat_begun g.S.Shelf c.args.self.now c.loop-made.self c.beat.new.self c.loop-made.invariant.0 c.beat.ensures) c.in-Ready.is (some_since c.beat.new.self.course.status (c.if-not-is_made.ensures.0 refl)),
)

pub returns-in_default : goal.returns-in_default
returns-in_default g c =
    let p = playing_still (sheet_of (deck_of c.args.self.now)) (g.S.Shelf.capacity c.args.self.now.shelf) c.args.grant c.loop-made.made (state_of g.S.Shelf.values c.args.self.now) (state_of g.S.Shelf.values c.loop-made.self) (state_of g.S.Shelf.values c.loop-made.self) c.loop-made.invariant.1 (still_since c.loop-made.self.course.status c.in_default.not-Ready) in
    let a = c.loop-made.invariant.0 in
    record { goes = record { deck = a.deck; capacity = a.capacity; slots = a.slots; state = p.0 }; count = p.1; bound = c.loop-made.invariant.1.few }

pub returns : goal.returns
returns g c =
    let p = playing_all (sheet_of (deck_of c.args.self.now)) (g.S.Shelf.capacity c.args.self.now.shelf) c.args.grant c.loop-made.made (state_of g.S.Shelf.values c.args.self.now) (state_of g.S.Shelf.values c.loop-made.self) (state_of g.S.Shelf.values c.loop-made.self) c.loop-made.invariant.1 c.loop-made-test.false in
    let a = c.loop-made.invariant.0 in
    record { goes = record { deck = a.deck; capacity = a.capacity; slots = a.slots; state = p.0 }; count = (let e : c.args.grant ≡ c.loop-made.made = omega arith in e ∙ p.1); bound = omega arith }
