-- The goals of `names::Names::anew` that no tactic closes.
use Rattle.nr_trienodes.proofs.Own.{oldest_anew}
use Rattle.nr_trienodes.proofs.names.Names.anew.Goals as goal

pub returns : goal.returns
returns c =
    oldest_anew c.args.oldest c.args.count _ c.clear.new.self.items
    c.resize.new.self.items c.requires
    c.clear.ensures.items c.clear.ensures.len c.in_ok-resize.ensures.items
