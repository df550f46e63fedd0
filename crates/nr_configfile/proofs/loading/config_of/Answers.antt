-- The goals of `loading::config_of` that no tactic closes.
use Rattle.std.proofs.Common.{◌≡◌, true, false, sym, ap}
use Rattle.nr_config.specs.Config.{Config}
use Rattle.nr_shell.specs.Plans.{Answer}
use Rattle.nr_shell.proofs.Leading.{judge_follows, read_follows, stop_follows}
use Rattle.nr_words.specs.Command.{is_free}
use Rattle.nr_configfile.specs.Plans.{by_config_bytes}
use Rattle.nr_configfile.proofs.loading.config_of.Goals as goal

pub returns-then-is_free : goal.returns-then-is_free
returns-then-is_free g c =
    let free : is_free c.args.word.now ≡ true = cc in
    rw free (judge_follows (ap (λ (x : Config). Answer x) (sym c.free.ensures)))

pub returns-in-Ok : goal.returns-in-Ok
returns-in-Ok g c =
    let refuses = g.E.ConfigRefusal.refuses in
    let named : is_free c.args.word.now ≡ false = cc in
    rw named (rw (sym c.of_config.ensures.value) (read_follows (by_config_bytes g.E.ConfigRefusal.refusal) (c.in-Ok.ensures refuses c.of_config.ensures.refuses) c.deref.ensures.value c.config_in.ensures))

pub returns-in-Err : goal.returns-in-Err
returns-in-Err g c =
    let refuses = g.E.ConfigRefusal.refuses in
    let named : is_free c.args.word.now ≡ false = cc in
    rw named (rw (sym c.of_config.ensures.value) (stop_follows (by_config_bytes g.E.ConfigRefusal.refusal) (c.in-Err.ensures refuses c.of_config.ensures.refuses)))
