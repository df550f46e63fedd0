-- The goals of `commands::with_bytes::replay_bytes` that no tactic closes.
use Rattle.std.proofs.Common.{ap, sym}
use Rattle.std.specs.Option.{option_copied}
use Rattle.nr_shell.proofs.Leading.{judge_follows}
use Rattle.nr_top.specs.Plans.{replay_bytes}
use Rattle.nr_top.proofs.BothLegs.{follows_same}
use Rattle.nr_words.specs.Words.{names_in}
use Rattle.nr_top.proofs.commands.with_bytes.replay_bytes.Goals as goal

pub returns-in-None : goal.returns-in-None
returns-in-None g c =
    let names = names_in c.args.names.now in
    follows_same (ap (λ s. replay_bytes names (option_copied s) c.args.config c.args.genesis c.args.blocks) (sym c.in-None.is)) (judge_follows (c.ran.ensures names))

pub returns-in-Some : goal.returns-in-Some
returns-in-Some g c =
    let names = names_in c.args.names.now in
    follows_same (ap (λ s. replay_bytes names (option_copied s) c.args.config c.args.genesis c.args.blocks) (sym c.in-Some.is)) (c.driven.ensures names)
