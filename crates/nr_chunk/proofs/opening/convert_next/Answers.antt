-- The goals of `opening::convert_next` that no tactic closes.
use Rattle.std.proofs.Common.{◌≡◌, ap, ◌∙◌}
use Rattle.nr_chunk.specs.Chunk.{with_line}
use Rattle.nr_chunk.specs.Refused.{refused}
use Rattle.nr_chunk.specs.Works.{working_of}
use Rattle.nr_ids.specs.declared.key.Hash32.{Hash32}
use Rattle.nr_chunk.proofs.Converted.{hash_is, paid_burnt, at_work, converted_is, refused_is}
use Rattle.nr_txconvert.specs.Conversion.{transaction_hash}
use Rattle.nr_chunk.proofs.opening.convert_next.Goals as goal

pub note_converted-requires-clause-burnt : goal.note_converted-requires-clause-burnt
note_converted-requires-clause-burnt g c =
    paid_burnt c.args.chain.now.config c.pays.ensures (working_of c.args.work.now) c.args.tx.now c.args.local.now.items c.convert_hashed.new.state.world c.in-Ok.made c.requires.can c.in-Ok.ensures.0

pub returns-in_ok-note_converted-in-Ok-clause-converted : goal.returns-in_ok-note_converted-in-Ok-clause-converted
returns-in_ok-note_converted-in-Ok-clause-converted g c =
    c.in_ok-note_converted-in-Ok.ensures.noted
    ∙ converted_is c.args.chain.now.config c.args.work.now c.args.local.now.items c.args.tx.now c.convert_hashed.new.state c.in-Ok.made c.in-Ok.ensures.0 c.in-Ok.ensures.1

pub returns-in_ok-refuse-in-Err-clause-converted : goal.returns-in_ok-refuse-in-Err-clause-converted
returns-in_ok-refuse-in-Err-clause-converted g c =
    let named : c.in_ok-hash.hash ≡ transaction_hash c.args.tx.now = hash_is c.in_ok-hash.hash c.args.tx.now c.in_ok-hash.ensures in
    let both = c.in-Err.ensures c.in_ok-refuse-in-Err.ensures.fault in
    ap (at_work c.args.local.now.items) (c.in_ok-refuse-in-Err.ensures.refused ∙ ap (λ (h : Hash32). with_line (working_of (record c.args.work.now { state = c.convert_hashed.new.state })) (refused h c.in-Err.fault)) named)
    ∙ refused_is c.args.chain.now.config c.args.work.now c.args.local.now.items c.args.tx.now c.convert_hashed.new.state c.in-Err.fault both.0 both.1
