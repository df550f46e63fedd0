-- The goals of `changing::changed` that no tactic closes.
use Rattle.std.proofs.Common.{◌∙◌}
use Rattle.nr_keys.proofs.ChangedKeys.{front_within, changed_read}
use Rattle.nr_keys.specs.Lent.{shown}
use Rattle.nr_keys.proofs.changing.changed.Goals as goal

pub with_front-requires : goal.with_front-requires
with_front-requires c = front_within (shown c.args.access.now) c.args.key.now c.bytes-bytes.result.now c.requires c.bytes-bytes.ensures.spelled

pub returns : goal.returns
returns c =
    changed_read (shown c.args.access.now) c.args.key.now c.bytes-bytes.result.now c.of.result c.args.nonce c.args.allowance c.requires c.bytes-bytes.ensures.spelled c.bytes-bytes.ensures.fits
    (c.of.ensures ∙ c.in_ok-spelled.ensures.bytes) c.in_ok-spelled.ensures.nonce_in_range c.in_ok-spelled.ensures.in_range
