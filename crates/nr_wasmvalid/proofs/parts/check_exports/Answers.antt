-- The goals of `parts::check_exports` that no tactic closes.
use Rattle.std.proofs.Common.{List, take, sym, ap, ◌∙◌, arith}
use Rattle.std.specs.Prelude.{◌||◌}
use Rattle.std.specs.List.{list_any}
use Rattle.std.specs.Str.{bytes_eq}
use Rattle.nr_wasmtypes.specs.declared.module.Export.{Export}
use Rattle.nr_wasmvalid.specs.Parts.{has_name, export_asks}
use Rattle.nr_wasmvalid.proofs.OnParts.{entry_met}
use Rattle.nr_wasmvalid.proofs.OnExports.{one_seen, seen_more, any_more}
use Rattle.nr_wasmvalid.proofs.parts.check_exports.Goals as goal

pub check_export-requires : goal.check_export-requires
check_export-requires c =
    one_seen c.index-exports-index.result.name c.in_ok-name.name (take c.loop-index.index c.args.module.now.exports) c.in_ok-fresh.fresh _ c.in_ok-fresh.ensures.added
    (c.loop-index.invariant.seen c.in_ok-name.name ∙ ap (λ (es : List Export). list_any (has_name c.in_ok-name.name) (take c.loop-index.index es)) c.inner-exports.ensures) c.in_ok-name.ensures

pub loop-index-preserved : goal.loop-index-preserved
loop-index-preserved c =
    let xs = c.inner-exports.result.now in
    let n = c.loop-index.index in
    let x = c.index-exports-index.result in
    record {
      left = entry_met (export_asks c.args.module.now c.args.funcs.now) xs n x _ (omega arith) c.index-exports-index.is c.in_ok-check_export.ensures c.loop-index.invariant.left;
      seen = λ q. c.in_ok-fresh.ensures.updates.0 q ∙ seen_more c.in_ok-name.name q _
          ∙ (λ i. bytes_eq q (c.in_ok-name.ensures i) || c.loop-index.invariant.seen q i)
          ∙ sym (any_more q xs n x (omega arith) c.index-exports-index.is);
    }
