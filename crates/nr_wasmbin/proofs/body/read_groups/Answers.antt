-- The goals of `body::read_groups` that no tactic closes.
use Rattle.std.proofs.Common.{◌≡◌, ◌+◌, ◌-◌, ◌++◌, length, replicate, arith, ap, ◌∙◌, List}
use Rattle.std.proofs.lemmas.List.{length-append, length-replicate}
use Rattle.std.proofs.lemmas.Result.{err_from_is_err_and}
use Rattle.nr_wasmtypes.specs.declared.instr.ValType.{ValType}
use Rattle.nr_wasmbin.specs.Parts.{groups_at}
use Rattle.nr_bytes.proofs.Items.{with_front}
use Rattle.nr_wasmbin.proofs.OnModules.{groups_go_on, groups_stop, groups_end}
use Rattle.nr_wasmbin.proofs.body.read_groups.Goals as goal

pub returns-in_err-count-clause-gives : goal.returns-in_err-count-clause-gives
returns-in_err-count-clause-gives c =
    let p = err_from_is_err_and c.from_residual.result c.from_residual.ensures.1 in
    let n : c.len.result ≡ length c.loop.locals = omega (arith, c.len.ensures) in
    rw (p.1, p.2) (λ other. groups_stop c.loop.locals c.args.count c.loop.counter c.len.result c.loop.cursor _ _ c.loop-test.true (c.in_err-count.ensures.gives other)
    (ap (λ m. with_front c.loop.locals (groups_at (c.args.count - c.loop.counter) m c.loop.cursor)) n ∙ c.loop.invariant.reads))

pub loop-preserved : goal.loop-preserved
loop-preserved c =
    let n : c.len.result ≡ length c.loop.locals = omega (arith, c.len.ensures) in
    let more = replicate c.in_ok-count.count c.in_ok-count.kind in
    let e : c.add.new.self ≡ c.loop.locals ++ more = c.in_ok-add.ensures in
    let len : length c.add.new.self ≡ c.len.result + c.in_ok-count.count =
    omega (arith, ap length e, length-append c.loop.locals more, length-replicate c.in_ok-count.count c.in_ok-count.kind, n) in record {
      reads = ap (λ (fs : List ValType). with_front fs (groups_at (c.args.count - (c.loop.counter + 1)) (length c.add.new.self) c.read_group.new.cursor)) e
          ∙ ap (λ m. with_front (c.loop.locals ++ more) (groups_at (c.args.count - (c.loop.counter + 1)) m c.read_group.new.cursor)) len
          ∙ groups_go_on c.loop.locals c.args.count c.loop.counter c.len.result c.loop.cursor c.in_ok-count.count c.in_ok-count.kind c.read_group.new.cursor _ c.loop-test.true c.in_ok-count.ensures.gives
          (ap (λ m. with_front c.loop.locals (groups_at (c.args.count - c.loop.counter) m c.loop.cursor)) n ∙ c.loop.invariant.reads);
      within = omega (arith, len, c.in_ok-count.ensures.within);
      shorter = omega (arith, c.in_ok-count.ensures.shorter, c.loop.invariant.shorter);
    }

pub returns-clause-gives : goal.returns-clause-gives
returns-clause-gives c = groups_end c.loop.locals c.args.count c.loop.counter (length c.loop.locals) c.loop.cursor _ c.loop-test.false c.loop.invariant.reads
