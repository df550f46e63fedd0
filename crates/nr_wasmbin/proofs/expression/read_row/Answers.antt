-- The goals of `expression::read_row` that no tactic closes.
use Rattle.std.proofs.Common.{List, [], ◌∷◌, ◌++◌, sym, ap, ◌∙◌, append_assoc, arith}
use Rattle.std.proofs.lemmas.List.{append-nil}
use Rattle.std.proofs.lemmas.Result.{err_from_is_err_and}
use Rattle.nr_wasmtypes.specs.declared.instr.Instr.{Instr}
use Rattle.nr_wasmtypes.specs.declared.instr.Instr.TheVariants as instr
use Rattle.nr_wasmbin.specs.Expressions.{code_at}
use Rattle.nr_wasmbin.proofs.OnCode.{front_nothing, turn, short, row_goes_on, row_refused}
use Rattle.nr_wasmbin.proofs.expression.read_row.Goals as goal

pub opcodes-init : goal.opcodes-init
opcodes-init c = record {
  leads = ([], sym (append-nil c.args.items.now.items), λ turns depth may_else h. (turns, h, front_nothing (code_at turns depth may_else c.args.cursor.now)));
  shorter = omega arith;
}

pub returns-in_err-byte-clause-gives : goal.returns-in_err-byte-clause-gives
returns-in_err-byte-clause-gives c =
    let p = err_from_is_err_and c.from_residual.result c.from_residual.ensures.1 in
    rw (p.1, p.2) (λ turns depth may_else h other. let so = c.opcodes.invariant.leads.2 turns depth may_else h in
    short c.opcodes.invariant.leads.0 so.0 depth may_else c.opcodes.cursor _ _ (c.in_err-byte.ensures.gives other) so.2)

pub returns-then-is_structured-clause-gives : goal.returns-then-is_structured-clause-gives
returns-then-is_structured-clause-gives c = λ turns depth may_else h.
    let so = c.opcodes.invariant.leads.2 turns depth may_else h in
    let x = turn c.opcodes.invariant.leads.0 so.0 depth may_else c.opcodes.cursor c.byte.new.self c.in_ok-byte.field-0 _ c.at-at.result c.of-op.result c.in_ok-byte.ensures.gives c.at-at.ensures c.of-op.ensures so.1 so.2 in
    (c.opcodes.invariant.leads.0, c.opcodes.invariant.leads.1, x.0, x.1, x.2)

pub returns-in_err-plain-clause-gives : goal.returns-in_err-plain-clause-gives
returns-in_err-plain-clause-gives c =
    let p = err_from_is_err_and c.from_residual-in_err-plain.result c.from_residual-in_err-plain.ensures.1 in
    rw (p.1, p.2) (λ turns depth may_else h other. let so = c.opcodes.invariant.leads.2 turns depth may_else h in
    let x = turn c.opcodes.invariant.leads.0 so.0 depth may_else c.opcodes.cursor c.byte.new.self c.in_ok-byte.field-0 _ c.at-at.result c.of-op.result c.in_ok-byte.ensures.gives c.at-at.ensures c.of-op.ensures so.1 so.2 in
    x.2 ∙ row_refused c.opcodes.invariant.leads.0 x.0 depth c.at-at.result may_else c.of-op.result c.byte.new.self _ (sym c.is_structured.ensures ∙ c.if-is_structured.false) (c.in_err-plain.ensures.gives other))

pub opcodes-preserved : goal.opcodes-preserved
opcodes-preserved c = record {
  leads =
      let is = c.opcodes.invariant.leads.0 in
      let i = instr.Plain c.in_ok-plain.plain in (
        is ++ i ∷ [],
        c.in_ok-push.ensures.items ∙ ap (λ (js : List Instr). js ++ i ∷ []) c.opcodes.invariant.leads.1 ∙ append_assoc c.args.items.now.items is (i ∷ []),
        λ turns depth may_else h.
            let so = c.opcodes.invariant.leads.2 turns depth may_else h in
            let x = turn is so.0 depth may_else c.opcodes.cursor c.byte.new.self c.in_ok-byte.field-0 _ c.at-at.result c.of-op.result c.in_ok-byte.ensures.gives c.at-at.ensures c.of-op.ensures so.1 so.2 in (
              x.0,
              omega (arith, c.in_ok-plain.ensures.shorter, x.1),
              sym (x.2 ∙ row_goes_on is x.0 depth c.at-at.result may_else c.of-op.result c.byte.new.self c.plain_of.new.cursor c.in_ok-plain.plain (sym c.is_structured.ensures ∙ c.if-is_structured.false) c.in_ok-plain.ensures.gives),
            ),
      );
  shorter = omega (arith, c.in_ok-plain.ensures.shorter, c.in_ok-byte.ensures.shorter, c.opcodes.invariant.shorter);
}
