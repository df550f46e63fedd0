-- The goals of `nodes::Nodes::slide` that no tactic closes.
use Rattle.std.proofs.Common.{◌∙◌, ◌<◌, ap, sym, subst, length, List, arith}
use Rattle.std.proofs.lemmas.List.{length-take}
use Rattle.nr_trienodes.specs.Shape.{Shape}
use Rattle.nr_trienodes.specs.Views.{shapes}
use Rattle.nr_trienodes.specs.Naming.{IsClosed, AreNamed}
use Rattle.nr_trienodes.proofs.Views.{shapes-length}
use Rattle.nr_trienodes.proofs.Renaming.{sound_named}
use Rattle.nr_trienodes.proofs.Sliding.{slides_start, slides_end, own_next}
use Rattle.nr_trienodes.proofs.nodes.Nodes.slide.Goals as goal

pub returns-clause-named : goal.returns-clause-named
returns-clause-named c =
    subst (λ (v : List Shape). AreNamed c.loop-id.names v (shapes c.drop_behind.new.nodes.items)) c.self.view_is
    (slides_end c.self.inside.nodes.items c.loop-id.self-inside.nodes.items c.drop_behind.new.nodes.items
    c.args.names.now c.loop-id.names c.loop-id.id c.loop-id.next c.self.invariant.sound
    (c.requires.long ∙ ap length (sym c.self.view_is))
    (subst (λ (v : List Shape). IsClosed v c.args.names.now 0) (sym c.self.view_is) c.requires.closed)
    c.loop-id.invariant.slides (omega (
      arith,
      c.loop-id-test.false,
      c.loop-id.invariant.within,
      c.len-id-end.ensures,
      shapes-length c.self.inside.nodes.items,
    )) c.drop_behind.ensures)

pub invariant_of-self : goal.invariant_of-self
invariant_of-self c = record {
  sound =
      sound_named c.loop-id.names (shapes c.self.inside.nodes.items) (shapes c.drop_behind.new.nodes.items)
      c.self.invariant.sound (slides_end c.self.inside.nodes.items c.loop-id.self-inside.nodes.items
      c.drop_behind.new.nodes.items c.args.names.now c.loop-id.names c.loop-id.id c.loop-id.next
      c.self.invariant.sound (c.requires.long ∙ ap length (sym c.self.view_is))
      (subst (λ (v : List Shape). IsClosed v c.args.names.now 0) (sym c.self.view_is) c.requires.closed)
      c.loop-id.invariant.slides (omega (
        arith,
        c.loop-id-test.false,
        c.loop-id.invariant.within,
        c.len-id-end.ensures,
        shapes-length c.self.inside.nodes.items,
      )) c.drop_behind.ensures);
  few = omega (arith, ap length c.drop_behind.ensures, length-take c.loop-id.next c.loop-id.self-inside.nodes.items, c.loop-id.invariant.slides.same, shapes-length c.loop-id.self-inside.nodes.items, shapes-length c.self.inside.nodes.items, c.self.invariant.few);
}

pub loop-id-init : goal.loop-id-init
loop-id-init c = record {
  slides = slides_start (shapes c.self.inside.nodes.items) c.args.names.now c.args.oldest c.self.invariant.sound (c.requires.long ∙ ap length (sym c.self.view_is)) (omega (arith, c.requires.there, ap length c.self.view_is)) c.requires.oldest;
  own = c.requires.oldest;
  past = omega arith;
  within = omega (arith, c.requires.there, ap length c.self.view_is);
}

pub loop-id-preserved : goal.loop-id-preserved
loop-id-preserved c =
    let lt : c.loop-id.id < length (shapes c.self.inside.nodes.items) = omega (arith, c.loop-id-test.true, c.len-id-end.ensures, shapes-length c.self.inside.nodes.items) in
    record {
      slides = c.slide_one-next.ensures.slides (shapes c.self.inside.nodes.items) c.args.names.now c.self.invariant.sound (c.requires.long ∙ ap length (sym c.self.view_is)) lt c.loop-id.invariant.slides;
      own = λ id low. c.slide_one-next.ensures.older id (omega (arith, c.loop-id.invariant.past)) ∙ c.loop-id.invariant.own id low;
      past = omega (arith, c.loop-id.invariant.past);
      within = omega (arith, lt);
    }

pub slide_one-next-requires-clause-names : goal.slide_one-next-requires-clause-names
slide_one-next-requires-clause-names c = λ d name lt e. (c.loop-id.invariant.slides.named d name lt e).0

pub slide_one-next-requires-clause-own : goal.slide_one-next-requires-clause-own
slide_one-next-requires-clause-own c = λ own. own_next (shapes c.self.inside.nodes.items) c.args.names.now (shapes c.loop-id.self-inside.nodes.items) c.loop-id.names c.loop-id.id c.loop-id.next (omega (arith, c.requires.long, ap length c.self.view_is, c.loop-id.invariant.within)) c.loop-id.invariant.slides own
