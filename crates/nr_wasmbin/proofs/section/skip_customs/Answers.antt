-- The goals of `section::skip_customs` that no tactic closes.
use Rattle.std.proofs.Common.{sym, ◌∙◌}
use Rattle.std.proofs.lemmas.Result.{err_from_is_err_and}
use Rattle.nr_wasmbin.proofs.OnModules.{customs_go_on, customs_stop, customs_end}
use Rattle.nr_wasmbin.proofs.section.skip_customs.Goals as goal

pub returns-in_err-skip_custom : goal.returns-in_err-skip_custom
returns-in_err-skip_custom c =
    let p = err_from_is_err_and c.from_residual.result c.from_residual.ensures.1 in
    let so = c.loop-cursor.invariant in
    rw (p.1, p.2) (λ other. customs_stop so.0 c.loop-cursor.cursor _ _ (sym c.begins.ensures ∙ c.loop-cursor-test.true) so.1 (c.in_err-skip_custom.ensures.gives other) so.2)

pub loop-cursor-preserved : goal.loop-cursor-preserved
loop-cursor-preserved c =
    let so = c.loop-cursor.invariant in
    customs_go_on so.0 c.loop-cursor.cursor c.skip_custom.new.cursor _ (sym c.begins.ensures ∙ c.loop-cursor-test.true) so.1 c.in_ok-skip_custom.ensures.gives c.in_ok-skip_custom.ensures.shorter so.2

pub returns : goal.returns
returns c = let so = c.loop-cursor.invariant in customs_end so.0 c.loop-cursor.cursor _ (sym c.begins.ensures ∙ c.loop-cursor-test.false) so.2
