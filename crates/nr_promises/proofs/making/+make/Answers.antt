-- The places that are left stand among the receipts after an output; where memory runs out it is taken back.
use Rattle.std.proofs.Common.{◌≡◌, ◌<◌, List, length, ap, sym, ◌∙◌, subst, arith, rules}
use Rattle.nr_promises.specs.Book.{changed}
use Rattle.nr_promises.specs.Making.{without_output}
use Rattle.nr_promises.proofs.Changed.{length_changed}
use Rattle.nr_promises.proofs.Outputs.{rest_stand, output_back, err_then, on_err}
use Rattle.nr_records.specs.declared.receipt.Receipt.{Receipt}
use Rattle.nr_promises.proofs.making.+make.Goals as goal

pub make-result-requires : goal.make-result-requires
make-result-requires t c =
    let same : length c.connect.new.made ≡ length c.args.made.now = omega (arith, ap length c.in_ok-next.ensures.made, length_changed {X = Receipt}) in (
      first_of (omega (arith, c.in-Some.ensures.cases.1), search rules),
      (rest_stand (length c.args.made.now) (length c.connect.new.made) same c.args.waited.now c.in-Some.rest.now c.in-Some.at.now c.in-Some.ensures.cases.0 c.requires).1,
    )

pub drop_output-requires : goal.drop_output-requires
drop_output-requires t c =
    let same : length c.connect.new.made ≡ length c.args.made.now = omega (arith, ap length c.in_ok-next.ensures.made, length_changed {X = Receipt}) in
    let kept : c.make-result.new.made ≡ c.connect.new.made = err_then c.make-result.result (c.make-result.new.made ≡ c.connect.new.made) (sym c.is_err.ensures.value ∙ c.if-is_err.true) c.make-result.ensures.refused in
    subst (λ (m : List Receipt). c.in-Some.at.now < length m) (sym kept)
    (rest_stand (length c.args.made.now) (length c.connect.new.made) same c.args.waited.now c.in-Some.rest.now c.in-Some.at.now c.in-Some.ensures.cases.0 c.requires).0

pub returns-then-is_err-clause-refused : goal.returns-then-is_err-clause-refused
returns-then-is_err-clause-refused t c =
    let kept : c.make-result.new.made ≡ c.connect.new.made = err_then c.make-result.result (c.make-result.new.made ≡ c.connect.new.made) (sym c.is_err.ensures.value ∙ c.if-is_err.true) c.make-result.ensures.refused in
    on_err c.make-result.result (c.drop_output.new.made ≡ c.args.made.now)
    (c.drop_output.ensures ∙ ap (λ (m : List Receipt). changed without_output m c.in-Some.at.now) (kept ∙ c.in_ok-next.ensures.made) ∙ output_back _ c.args.made.now c.in-Some.at.now)
