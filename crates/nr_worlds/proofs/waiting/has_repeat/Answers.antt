-- The goals of `waiting::has_repeat` that no tactic closes.
use Rattle.std.proofs.Common.{◌-◌, ◌||◌, List, map, sym, ap, ◌∙◌, arith}
use Rattle.std.specs.List.{list_any}
use Rattle.std.specs.Str.{bytes_eq}
use Rattle.nr_ids.specs.declared.key.Hash32.{Hash32}
use Rattle.nr_entries.proofs.Counts.{front_of}
use Rattle.nr_worlds.proofs.Repeated.{not_repeated, repeated}
use Rattle.nr_worlds.proofs.waiting.has_repeat.Goals as goal

pub returns-then-not-fresh : goal.returns-then-not-fresh
returns-then-not-fresh c =
    let ids = c.args.ids.now in
    let n = c.loop-left.left in
    let front = front_of ids (n - 1) n _ (omega (arith, c.loop-left.invariant.within, c.loop-left-test.true)) (omega (arith, c.loop-left-test.true)) c.id_at-id.ensures in
    repeated ids (n - 1) n _ _ _ front c.if-not-fresh.true c.in_ok-fresh.ensures.fresh (c.loop-left.invariant.seen _)

pub loop-left-preserved : goal.loop-left-preserved
loop-left-preserved c =
    let ids = c.args.ids.now in
    let n = c.loop-left.left in
    let front = front_of ids (n - 1) n _ (omega (arith, c.loop-left.invariant.within, c.loop-left-test.true)) (omega (arith, c.loop-left-test.true)) c.id_at-id.ensures in
    record {
      within = omega (arith, c.loop-left.invariant.within);
      seen = λ q.
          c.in_ok-fresh.ensures.more q
          ∙ (λ i. bytes_eq q c.id_at-id.result.now.0 || c.loop-left.invariant.seen q i)
          ∙ sym (ap (λ (l : List Hash32). list_any (bytes_eq q) (map (λ (j : Hash32). j.0) l)) front);
      none = not_repeated ids (n - 1) n _ _ _ front c.if-not-fresh.false c.in_ok-fresh.ensures.fresh (c.loop-left.invariant.seen _) c.loop-left.invariant.none;
    }
