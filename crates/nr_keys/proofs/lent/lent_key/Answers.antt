-- The goals of `lent::lent_key` that no tactic closes.
use Rattle.std.proofs.Common.{sym, ap, subst, arith, ◌∙◌}
use Rattle.std.specs.Prelude.{IsSome}
use Rattle.nr_keys.specs.Lent.{calls_read, shown_calls}
use Rattle.nr_keys.proofs.LentKeys.{calls_stand, calls_within, calls_told, calls_key, full_key}
use Rattle.nr_keys.proofs.lent.lent_key.Goals as goal

pub returns-then-ordinal-ne0 : goal.returns-then-ordinal-ne0
returns-then-ordinal-ne0 c =
    full_key c.bytes-bytes.result.now c.args.spelled.now c.in-Ok.nonce c.in-Ok-u8.ordinal _ _ _ c.bytes-bytes.ensures.spelled c.bytes-bytes.ensures.fits c.new-reader.ensures c.in-Ok.ensures c.in-Ok-u8.ensures (λ e. omega (arith, e, c.if-ordinal-ne0.true))

pub behind-requires : goal.behind-requires
behind-requires c =
    let are = calls_stand c.bytes-bytes.result.now c.args.spelled.now c.in-Ok.nonce c.in-Ok-u8.ordinal _ _ _ c.bytes-bytes.ensures.spelled c.bytes-bytes.ensures.fits c.new-reader.ensures c.in-Ok.ensures c.in-Ok-u8.ensures (omega (arith, c.if-ordinal-ne0.false)) in
    calls_within c.bytes-bytes.result.now c.args.spelled.now c.in-Ok.nonce c.bytes-bytes.ensures.spelled are

pub calls_of-requires : goal.calls_of-requires
calls_of-requires c =
    let are = calls_stand c.bytes-bytes.result.now c.args.spelled.now c.in-Ok.nonce c.in-Ok-u8.ordinal _ _ _ c.bytes-bytes.ensures.spelled c.bytes-bytes.ensures.fits c.new-reader.ensures c.in-Ok.ensures c.in-Ok-u8.ensures (omega (arith, c.if-ordinal-ne0.false)) in
    subst (λ b. IsSome (calls_read b)) (sym c.behind.ensures) (calls_told c.bytes-bytes.result.now c.args.spelled.now c.in-Ok.nonce c.bytes-bytes.ensures.spelled are)

pub returns : goal.returns
returns c =
    let are = calls_stand c.bytes-bytes.result.now c.args.spelled.now c.in-Ok.nonce c.in-Ok-u8.ordinal _ _ _ c.bytes-bytes.ensures.spelled c.bytes-bytes.ensures.fits c.new-reader.ensures c.in-Ok.ensures c.in-Ok-u8.ensures (omega (arith, c.if-ordinal-ne0.false)) in
    calls_key c.bytes-bytes.result.now c.args.spelled.now c.in-Ok.nonce (shown_calls c.in_ok-calls.calls) c.bytes-bytes.ensures.spelled are (ap calls_read (sym c.behind.ensures) ∙ c.in_ok-calls.ensures)
