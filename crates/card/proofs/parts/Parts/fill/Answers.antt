use Rattle.std.proofs.Common.{◌≡◌, ◌+◌, ◌<◌, ◌≤◌, ◌/◌, length, [], get_or, drop, set, take, sym, refl, ap, inl, inr, ◌∙◌, rules, arith}
use Rattle.std.proofs.lemmas.List.{length-drop}
use Rattle.std.specs.Simd.{first_chunks}
use Rattle.card.specs.Card.{node_by, nodes_by}
use Rattle.card.proofs.Cards.{nodes_size, nodes_more, node_part, all_copied, turn}
use Rattle.card.proofs.parts.Parts.fill.Goals as goal

pub loop-i-init : goal.loop-i-init
loop-i-init c =
    let ks = c.args.self.now.kinds.now in
    let fs = c.args.self.now.fields.now in
    let n : c.into_iter-i-iterator.result.count ≡ 0 = search rules in
    let a : c.into_iter-i-iterator.result.iter.a.rest.now ≡ ks = search rules in
    let b : c.into_iter-i-iterator.result.iter.b.rest.now ≡ c.as_chunks.result.0.now = search rules in
    record {
      kinds = a ∙ ap (λ m. drop m ks) (sym n);
      fields = b ∙ c.as_chunks.ensures.front ∙ ap (λ m. drop m (first_chunks 6 (length fs / 6) fs)) (sym n);
      nodes = ap (λ m. take m c.args.nodes.now) n ∙ ap (λ m. take m (nodes_by ks fs)) (sym n);
    }

pub loop-i-preserved : goal.loop-i-preserved
loop-i-preserved c =
    let ks = c.args.self.now.kinds.now in
    let fs = c.args.self.now.fields.now in
    let cs = first_chunks 6 (length fs / 6) fs in
    let i = c.loop-i.i-iterator.count in
    let st = c.in-Some.ensures.steps in
    let v = c.loop-i.invariant in
    let k = turn ks c.loop-i.i-iterator.iter.a.rest.now c.next.new.self.iter.a.rest.now i c.in-Some.kind.now 0 v.kinds st.0.0 in
    let f = turn cs c.loop-i.i-iterator.iter.b.rest.now c.next.new.self.iter.b.rest.now i c.in-Some.bytes.now [] v.fields st.0.1 in
    let h : i < length fs / 6 = omega arith in
    let x = node_part ks fs cs (length fs / 6) i [] c.node_by.result h refl (c.node_by.ensures ∙ ap (λ y. node_by y c.in-Some.bytes.now) k.1 ∙ ap (node_by (get_or ks i 0)) f.1) in
    let m = nodes_more c.loop-i.nodes ks fs i c.node_by.result (omega arith) (omega arith) x v.nodes in
    record {
      kinds = k.2 ∙ ap (λ j. drop j ks) (sym st.2);
      fields = f.2 ∙ ap (λ j. drop j cs) (sym st.2);
      nodes = ap (λ j. take j (set c.loop-i.nodes c.in-Some.i c.node_by.result)) st.2 ∙ ap (λ j. take (i + 1) (set c.loop-i.nodes j c.node_by.result)) st.1 ∙ m ∙ ap (λ j. take j (nodes_by ks fs)) (sym st.2);
    }

pub returns : goal.returns
returns c =
    let ks = c.args.self.now.kinds.now in
    let fs = c.args.self.now.fields.now in
    let i = c.loop-i.i-iterator.count in
    let v = c.loop-i.invariant in
    let l = nodes_size ks fs in
    let st = c.in-None.ensures.steps in
    let cs = first_chunks 6 (length fs / 6) fs in
    let a = ap length v.kinds ∙ length-drop i ks in
    let b = ap length v.fields ∙ length-drop i cs in
    let n = ap length c.as_chunks.ensures.front in
    let e : length ks ≤ i = elim st.0 [ inl x ↦ (let z = x.1.0 in omega arith) | inr x ↦ (let z = x.1.0 in omega (arith, c.as_chunks.ensures.front_len)) ] in
    all_copied c.loop-i.nodes (nodes_by ks fs) i (omega arith) (omega arith) v.nodes
