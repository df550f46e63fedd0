-- Answers for `locals::Locals::add`.
use Rattle.std.proofs.Common.{◌-◌, ◌++◌, ℕ, List, replicate, subst, sym, ap, ◌∙◌, arith}
use Rattle.nr_wasmtypes.specs.declared.instr.ValType.{ValType}
use Rattle.nr_wasmtypes.specs.declared.locals.Run.{Run}
use Rattle.nr_wasmtypes.specs.Runs.{spread, Reaches}
use Rattle.nr_wasmtypes.proofs.OnRuns.{reaches_more, spread_more}
use Rattle.nr_wasmtypes.proofs.locals.Locals.add.Goals as goal

pub invariant_of-self-2 : goal.invariant_of-self-2
invariant_of-self-2 c =
    subst (λ (rs : List Run). Reaches 0 rs c.in-Some.end) (sym c.in_ok-push.ensures.items)
    (reaches_more 0 c.self.inside.count c.self.inside.runs.items _ c.self.invariant (omega (arith, c.in-Some.ensures)))

pub returns : goal.returns
returns c =
    ap (spread 0) c.in_ok-push.ensures.items
    ∙ spread_more 0 c.self.inside.count c.self.inside.runs.items _ c.self.invariant
    ∙ ap (λ (ts : List ValType). ts ++ replicate (c.in-Some.end - c.self.inside.count) c.args.kind) c.self.view_is
    ∙ ap (λ (n : ℕ). c.args.self.now ++ replicate n c.args.kind) (omega (arith, c.in-Some.ensures))
