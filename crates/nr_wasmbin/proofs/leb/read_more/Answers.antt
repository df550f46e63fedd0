-- The goals of `leb::read_more` that no tactic closes.
use Rattle.std.proofs.Common.{◌+◌, ◌<◌, ◌^◌, drop, sym, arith}
use Rattle.std.proofs.lemmas.Nat.{mul-add-lt}
use Rattle.std.proofs.lemmas.Result.{err_from_is_err_and}
use Rattle.nr_wasmbin.specs.declared.leb.LebFault.TheVariants.{Leb}
use Rattle.nr_wasmbin.proofs.OnLeb.{most, begins, comes_found, comes_refused, goes_further, runs_out, number_long, spans_first, spans_more, room, digit_fits}
use Rattle.nr_wasmbin.proofs.leb.read_more.Goals as goal

pub returns-then-bits-le7-clause-gives : goal.returns-then-bits-le7-clause-gives
returns-then-bits-le7-clause-gives c = sym (number_long c.args.is_signed c.args.bits c.args.first c.args.others.now c.requires.more c.if-bits-le7.true)

pub loop-index-init : goal.loop-index-init
loop-index-init c = record {
  reads = begins c.args.is_signed c.args.bits c.args.first c.args.others.now c.requires.more c.if-bits-le7.false;
  spans = spans_first c.args.bits c.if-bits-le7.false;
  fits = omega (arith, c.requires.more, c.requires.small);
  some = omega (arith, c.if-bits-le7.false);
  few = omega (arith, c.requires.in_range);
}

pub returns-in_err-high-clause-gives : goal.returns-in_err-high-clause-gives
returns-in_err-high-clause-gives c =
    let p = err_from_is_err_and c.from_residual.result c.from_residual.ensures.1 in
    rw (p.1, p.2) (comes_refused c.args.is_signed c.loop-index.left c.loop-index.width c.loop-index.low c.loop-index.index c.from-byte.result c.args.others.now c.in_err-high.field-0.0 _ (omega arith) c.from-byte.ensures
    (c.in_err-high.ensures.gives (drop (c.loop-index.index + 1) c.args.others.now)) c.loop-index.invariant.reads)

pub overflow_mul-result : goal.overflow_mul-result
overflow_mul-result c =
    omega (arith, mul-add-lt c.in_ok-high.high c.loop-index.width c.loop-index.low (2 ^ c.loop-index.left) c.in_ok-high.ensures.fits c.loop-index.invariant.fits, c.loop-index.invariant.spans, most c.args.bits c.requires.in_range)

pub overflow_add-result : goal.overflow_add-result
overflow_add-result c =
    omega (arith, mul-add-lt c.in_ok-high.high c.loop-index.width c.loop-index.low (2 ^ c.loop-index.left) c.in_ok-high.ensures.fits c.loop-index.invariant.fits, c.loop-index.invariant.spans, most c.args.bits c.requires.in_range)

pub returns-then-byte-lt128-clause-gives : goal.returns-then-byte-lt128-clause-gives
returns-then-byte-lt128-clause-gives c =
    comes_found c.args.is_signed c.loop-index.left c.loop-index.width c.loop-index.low c.loop-index.index c.from-byte.result c.args.others.now c.in_ok-high.high c.in_ok-high.count _ (omega arith) c.from-byte.ensures
    (c.in_ok-high.ensures.gives (drop (c.loop-index.index + 1) c.args.others.now)) c.loop-index.invariant.reads

pub returns-then-byte-lt128-clause-fits : goal.returns-then-byte-lt128-clause-fits
returns-then-byte-lt128-clause-fits c =
    omega (arith, mul-add-lt c.in_ok-high.high c.loop-index.width c.loop-index.low (2 ^ c.loop-index.left) c.in_ok-high.ensures.fits c.loop-index.invariant.fits, c.loop-index.invariant.spans)

pub returns-then-byte-lt128-clause-within : goal.returns-then-byte-lt128-clause-within
returns-then-byte-lt128-clause-within c = (omega (arith, c.in_ok-high.ensures.one), omega (arith, c.in_ok-high.ensures.one))

pub returns-then-left-le7-clause-gives : goal.returns-then-left-le7-clause-gives
returns-then-left-le7-clause-gives c =
    comes_refused c.args.is_signed c.loop-index.left c.loop-index.width c.loop-index.low c.loop-index.index c.from-byte.result c.args.others.now Leb _ (omega arith) c.from-byte.ensures
    (sym (number_long c.args.is_signed c.loop-index.left c.from-byte.result (drop (c.loop-index.index + 1) c.args.others.now) c.if-byte-lt128.false c.if-left-le7.true)) c.loop-index.invariant.reads

pub overflow_mul-low : goal.overflow_mul-low
overflow_mul-low c =
    let byte : c.from-byte.result < 256 = omega (arith, c.from-byte.ensures, c.type_inv.others c.loop-index.index) in
    omega (arith, digit_fits c.from-byte.result c.loop-index.width c.loop-index.low byte c.loop-index.invariant.fits, room c.loop-index.width c.loop-index.left c.args.bits c.if-left-le7.false c.requires.in_range c.loop-index.invariant.spans)

pub overflow_add-low : goal.overflow_add-low
overflow_add-low c =
    let byte : c.from-byte.result < 256 = omega (arith, c.from-byte.ensures, c.type_inv.others c.loop-index.index) in
    omega (arith, digit_fits c.from-byte.result c.loop-index.width c.loop-index.low byte c.loop-index.invariant.fits, room c.loop-index.width c.loop-index.left c.args.bits c.if-left-le7.false c.requires.in_range c.loop-index.invariant.spans)

pub overflow_mul-width : goal.overflow_mul-width
overflow_mul-width c =
    omega (arith, c.loop-index.invariant.fits, room c.loop-index.width c.loop-index.left c.args.bits c.if-left-le7.false c.requires.in_range c.loop-index.invariant.spans)

pub loop-index-preserved : goal.loop-index-preserved
loop-index-preserved c =
    let byte : c.from-byte.result < 256 = omega (arith, c.from-byte.ensures, c.type_inv.others c.loop-index.index) in record {
      reads = goes_further c.args.is_signed c.loop-index.left c.loop-index.width c.loop-index.low c.loop-index.index c.from-byte.result c.args.others.now _ (omega arith) c.from-byte.ensures c.if-byte-lt128.false c.if-left-le7.false c.loop-index.invariant.reads;
      spans = spans_more c.loop-index.width c.loop-index.left c.args.bits c.if-left-le7.false c.loop-index.invariant.spans;
      fits = digit_fits c.from-byte.result c.loop-index.width c.loop-index.low byte c.loop-index.invariant.fits;
      some = omega (arith, c.if-left-le7.false);
      few = omega (arith, c.loop-index.invariant.few);
    }

pub returns-clause-gives : goal.returns-clause-gives
returns-clause-gives c = runs_out c.args.is_signed c.loop-index.left c.loop-index.width c.loop-index.low c.loop-index.index c.args.others.now _ (omega arith) c.loop-index.invariant.reads
