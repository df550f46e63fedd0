-- The goals of `settlement::settle_clash` that no tactic closes.
use Rattle.std.proofs.Common.{◌≡◌, [], refl, subst, rules}
use Rattle.std.proofs.lemmas.Result.{IfOk-weaker}
use Rattle.nr_receipt.specs.Execution.{OfActions}
use Rattle.nr_receipt.specs.Frames.{first_frame}
use Rattle.nr_receipt.proofs.Whole.{payable, settles}
use Rattle.nr_receipt.proofs.settlement.settle_clash.Goals as goal

pub settle-requires-clause-price : goal.settle-requires-clause-price
settle-requires-clause-price g c = (payable c.args.config.now c.args.receipt c.of-inputs.result c.args.place.now c.in_ok-frame.frame c.requires.bounded c.requires.tokens c.args.receipt.body refl c.in_ok-frame.ensures).price

pub settle-requires-clause-prepaid : goal.settle-requires-clause-prepaid
settle-requires-clause-prepaid g c = (payable c.args.config.now c.args.receipt c.of-inputs.result c.args.place.now c.in_ok-frame.frame c.requires.bounded c.requires.tokens c.args.receipt.body refl c.in_ok-frame.ensures).gas

pub settle-requires-clause-deposits : goal.settle-requires-clause-deposits
settle-requires-clause-deposits g c = (payable c.args.config.now c.args.receipt c.of-inputs.result c.args.place.now c.in_ok-frame.frame c.requires.bounded c.requires.tokens c.args.receipt.body refl c.in_ok-frame.ensures).deposited

pub returns-clause-settled : goal.returns-clause-settled
returns-clause-settled g c =
    let r = c.args.receipt in
    let none : c.of-inputs.result ≡ [] = search rules in
    let frame = subst (λ inputs. OfActions r.body (λ act. c.in_ok-frame.frame ≡ first_frame r act inputs c.args.place.now)) none c.in_ok-frame.ensures in
    IfOk-weaker c.settle.result _ _ (λ done e. settles c.args.config.now r c.args.place.now c.in_ok-frame.frame done r.body frame e) c.settle.ensures
