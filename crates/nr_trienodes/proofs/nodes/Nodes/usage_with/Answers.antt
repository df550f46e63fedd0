-- The goals of `nodes::Nodes::usage_with` that no tactic closes.
use Rattle.std.proofs.Common.{ap, arith}
use Rattle.std.specs.Prelude.{Option, ℕ}
use Rattle.std.specs.Option.{option_map}
use Rattle.nr_triedef.specs.Root.{usage_below}
use Rattle.nr_trienodes.specs.Tries.{summary_at}
use Rattle.nr_trienodes.proofs.Relinks.{relink_less, relink_usage}
use Rattle.nr_trienodes.proofs.nodes.Nodes.usage_with.Goals as goal

pub returns : goal.returns
returns c =
    relink_usage c.args.self.now c.args.id c.args.nibble c.args.below c.in_ok-usage.usage c.count-count.ensures.sound
    c.requires.there c.requires.some
    (omega (
      arith,
      c.in_ok-usage.ensures,
      c.usage_at-held.ensures,
      c.usage_at-more.ensures,
      c.usage_in-other.ensures,
      ap (λ (o : Option ℕ). usage_below (option_map (summary_at c.args.self.now) o)) c.child-old.ensures.value,
      relink_less c.args.self.now c.args.id c.args.nibble c.count-count.ensures.sound c.requires.there c.requires.some,
    ))
