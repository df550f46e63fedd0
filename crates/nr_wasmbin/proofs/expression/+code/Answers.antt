-- The goals of `expression::code` that no tactic closes.
use Rattle.std.proofs.Common.{List, [], ◌∷◌, ◌++◌, length, refl, sym, ap, ◌∙◌, arith}
use Rattle.std.proofs.lemmas.List.{append-nil}
use Rattle.std.proofs.lemmas.Result.{err_from_is_err_and}
use Rattle.nr_wasmtypes.specs.declared.instr.Instr.{Instr}
use Rattle.nr_wasmtypes.specs.declared.instr.Instr.TheVariants as instr
use Rattle.nr_wasmtypes.specs.declared.instr.Plain.{Plain}
use Rattle.nr_wasmtypes.specs.Code.{Then, Block, Loop, Choice, code_of}
use Rattle.nr_wasmtypes.proofs.Levels.{put_plain}
use Rattle.nr_bytes.specs.Reading.{◌>>=◌}
use Rattle.nr_wasmbin.specs.Fields.{Read}
use Rattle.nr_wasmbin.specs.Expressions.{Sequence, front, onto, instr_at, code_at}
use Rattle.nr_wasmtypes.specs.declared.opcode.Op.{Op}
use Rattle.nr_wasmbin.proofs.OnCode.{front_nothing, front_push, row_joins, row_stops, behind, longer, cut_off, left_over, sequence, ends_here, else_here, else_refused, block_opens, block_body, loop_opens, loop_body, if_opens, if_body, plain_instr, puts}
use Rattle.nr_wasmbin.proofs.expression.+code.Goals as goal

pub read_rows-rows-init : goal.read_rows-rows-init
read_rows-rows-init t c = record {
  reads = λ turns h. ([], sym (append-nil c.args.stack.now.items), turns, h, front_nothing (code_at turns c.args.depth c.args.may_else c.args.cursor.now));
  shorter = omega arith;
}

pub read_rows-returns-in_err-at-clause-gives : goal.read_rows-returns-in_err-at-clause-gives
read_rows-returns-in_err-at-clause-gives t c =
    let p = err_from_is_err_and c.from_residual.result c.from_residual.ensures.1 in
    rw (p.1, p.2) (λ turns h other. let so = c.rows.invariant.reads turns h in
    row_stops so.0 _ _ _ (c.in_err-at.ensures.gives so.2 c.args.depth c.args.may_else so.3 other) so.4)

pub read_rows-returns-in-End-clause-gives : goal.read_rows-returns-in-End-clause-gives
read_rows-returns-in-End-clause-gives t c = λ turns h.
    let so = c.rows.invariant.reads turns h in
    let x = c.in_ok-at.ensures.gives so.2 c.args.depth c.args.may_else so.3 in
    let all = so.0 ++ x.0 in (
      all,
      behind c.args.stack.now.items so.0 x.0 _ _ so.1 x.1,
      row_joins so.0 x.0 all _ _ _ refl x.4 so.4
          ∙ ap (λ (o : Op). front (onto all) (instr_at (code_at x.2) c.args.depth c.args.may_else c.in_ok-at.at o c.read_row.new.cursor)) c.in-End.is
          ∙ ends_here all (code_at x.2) c.args.depth c.args.may_else c.in_ok-at.at c.read_row.new.cursor,
    )

pub read_rows-returns-then-may_else-clause-gives : goal.read_rows-returns-then-may_else-clause-gives
read_rows-returns-then-may_else-clause-gives t c = λ turns h.
    let so = c.rows.invariant.reads turns h in
    let x = c.in_ok-at.ensures.gives so.2 c.args.depth c.args.may_else so.3 in
    let all = so.0 ++ x.0 in (
      all,
      behind c.args.stack.now.items so.0 x.0 _ _ so.1 x.1,
      row_joins so.0 x.0 all _ _ _ refl x.4 so.4
          ∙ ap (λ (o : Op). front (onto all) (instr_at (code_at x.2) c.args.depth c.args.may_else c.in_ok-at.at o c.read_row.new.cursor)) c.in-Else.is
          ∙ else_here all (code_at x.2) c.args.depth c.args.may_else c.in_ok-at.at c.read_row.new.cursor c.if-may_else.true,
    )

pub read_rows-returns-in-Else-clause-gives : goal.read_rows-returns-in-Else-clause-gives
read_rows-returns-in-Else-clause-gives t c = λ turns h _.
    let so = c.rows.invariant.reads turns h in
    let x = c.in_ok-at.ensures.gives so.2 c.args.depth c.args.may_else so.3 in
    let all = so.0 ++ x.0 in
    row_joins so.0 x.0 all _ _ _ refl x.4 so.4
    ∙ ap (λ (o : Op). front (onto all) (instr_at (code_at x.2) c.args.depth c.args.may_else c.in_ok-at.at o c.read_row.new.cursor)) c.in-Else.is
    ∙ else_refused all (code_at x.2) c.args.depth c.args.may_else c.in_ok-at.at c.read_row.new.cursor c.if-may_else.false

pub read_rows-returns-in_err-instr-in_default : goal.read_rows-returns-in_err-instr-in_default
read_rows-returns-in_err-instr-in_default t c =
    let p = err_from_is_err_and c.from_residual-in_err-instr-in_default.result c.from_residual-in_err-instr-in_default.ensures.1 in
    rw (p.1, p.2) (record {
      gives = λ turns h other.
          let so = c.rows.invariant.reads turns h in
          let x = c.in_ok-at.ensures.gives so.2 c.args.depth c.args.may_else so.3 in
          let all = so.0 ++ x.0 in
          row_joins so.0 x.0 all _ _ _ refl x.4 so.4
          ∙ ap (front (onto all)) (c.in_err-instr-in_default.ensures.gives x.2 c.args.may_else x.3 other);
      shorter = tt;
    })

pub read_rows-rows-preserved : goal.read_rows-rows-preserved
read_rows-rows-preserved t c = record {
  reads = λ turns h.
      let so = c.rows.invariant.reads turns h in
      let x = c.in_ok-at.ensures.gives so.2 c.args.depth c.args.may_else so.3 in
      let all = so.0 ++ x.0 in
      let i = c.in_ok-instr-in_default.instr in
      let left = code_at x.2 c.args.depth c.args.may_else c.read_instr.new.cursor in (
        all ++ i ∷ [],
        behind c.args.stack.now.items all (i ∷ []) _ _ (c.in_ok-instr-in_default.ensures.held ∙ behind c.args.stack.now.items so.0 x.0 _ _ so.1 x.1) c.in_ok-push-in_default.ensures.items,
        x.2,
        omega (arith, c.in_ok-instr-in_default.ensures.shorter, x.3),
        sym (front_push all i left)
            ∙ ap (front (onto all)) (sym (c.in_ok-instr-in_default.ensures.gives x.2 c.args.may_else x.3))
            ∙ sym (row_joins so.0 x.0 all _ _ _ refl x.4 so.4),
      );
  shorter = omega (arith, c.in_ok-instr-in_default.ensures.shorter, c.in_ok-at.ensures.shorter, c.rows.invariant.shorter);
}

pub read_code-returns-in_err-is_else-clause-gives : goal.read_code-returns-in_err-is_else-clause-gives
read_code-returns-in_err-is_else-clause-gives t c =
    let p = err_from_is_err_and c.from_residual.result c.from_residual.ensures.1 in
    rw (p.1, p.2) (λ turns h other. c.in_err-is_else.ensures.gives turns h other)

pub read_code-split_off-requires : goal.read_code-split_off-requires
read_code-split_off-requires t c =
    let x = c.in_ok-is_else.ensures.gives (length c.args.cursor.now.left) (omega arith) in
    let more = longer c.args.stack.now.items x.0 c.read_rows.new.stack.items x.1 in
    omega (arith, c.len-start.ensures, c.args.stack.now.ok.0, c.read_rows.new.stack.ok.0, more)

pub read_code-returns-clause-gives : goal.read_code-returns-clause-gives
read_code-returns-clause-gives t c = λ turns h.
    let x = c.in_ok-is_else.ensures.gives turns h in
    x.2 ∙ ap (λ (is : List Instr). sequence is c.in_ok-is_else.is_else c.read_rows.new.cursor)
    (sym (cut_off c.args.stack.now.items x.0 c.read_rows.new.stack.items c.in_ok-items.items.items c.len-start.result (c.len-start.ensures ∙ c.args.stack.now.ok.0) x.1 c.in_ok-items.ensures.tail))

pub read_code-returns-clause-held : goal.read_code-returns-clause-held
read_code-returns-clause-held t c =
    let x = c.in_ok-is_else.ensures.gives (length c.args.cursor.now.left) (omega arith) in
    c.in_ok-items.ensures.items ∙ left_over c.args.stack.now.items x.0 c.read_rows.new.stack.items c.len-start.result (c.len-start.ensures ∙ c.args.stack.now.ok.0) x.1

pub read_instr-returns-in_err-ty-in-Block-clause-gives : goal.read_instr-returns-in_err-ty-in-Block-clause-gives
read_instr-returns-in_err-ty-in-Block-clause-gives t c =
    let p = err_from_is_err_and c.from_residual.result c.from_residual.ensures.1 in
    rw (p.1, p.2) (λ turns may_else h other. ap (λ (o : Op). instr_at (code_at turns) c.args.depth may_else c.args.at o c.args.cursor.now) c.in-Block.is
    ∙ block_opens (code_at turns) c.args.depth c.args.at may_else c.args.cursor.now _ (c.in_err-ty-in-Block.ensures.gives other))

pub read_instr-returns-in_err-body-in-Block-clause-gives : goal.read_instr-returns-in_err-body-in-Block-clause-gives
read_instr-returns-in_err-body-in-Block-clause-gives t c =
    let p = err_from_is_err_and c.from_residual-in_err-body-in-Block.result c.from_residual-in_err-body-in-Block.ensures.1 in
    rw (p.1, p.2) (λ turns may_else h other. ap (λ (o : Op). instr_at (code_at turns) c.args.depth may_else c.args.at o c.args.cursor.now) c.in-Block.is
    ∙ block_body (code_at turns) c.args.depth c.args.at may_else c.args.cursor.now _ _ _ c.in_ok-ty-in-Block.ensures.gives (c.in_err-body-in-Block.ensures.gives turns (omega (arith, c.in_ok-ty-in-Block.ensures.shorter, h)) other))

pub read_instr-returns-in_ok-block-in-Block-clause-gives : goal.read_instr-returns-in_ok-block-in-Block-clause-gives
read_instr-returns-in_ok-block-in-Block-clause-gives t c = λ turns may_else h.
    ap (λ (o : Op). instr_at (code_at turns) c.args.depth may_else c.args.at o c.args.cursor.now) c.in-Block.is
    ∙ block_body (code_at turns) c.args.depth c.args.at may_else c.args.cursor.now _ _ _ c.in_ok-ty-in-Block.ensures.gives (c.in_ok-body-in-Block.ensures.gives turns (omega (arith, c.in_ok-ty-in-Block.ensures.shorter, h)))
    ∙ puts (Block c.in_ok-ty-in-Block.ty (code_of c.in_ok-body-in-Block.body.items)) c.in_ok-block-in-Block.field-0 (code_at turns c.args.depth may_else c.read_code.new.cursor) (λ rest. sym (c.in_ok-block-in-Block.ensures rest))

pub read_instr-returns-in_err-ty-in-Loop-clause-gives : goal.read_instr-returns-in_err-ty-in-Loop-clause-gives
read_instr-returns-in_err-ty-in-Loop-clause-gives t c =
    let p = err_from_is_err_and c.from_residual-in_err-ty-in-Loop.result c.from_residual-in_err-ty-in-Loop.ensures.1 in
    rw (p.1, p.2) (λ turns may_else h other. ap (λ (o : Op). instr_at (code_at turns) c.args.depth may_else c.args.at o c.args.cursor.now) c.in-Loop.is
    ∙ loop_opens (code_at turns) c.args.depth c.args.at may_else c.args.cursor.now _ (c.in_err-ty-in-Loop.ensures.gives other))

pub read_instr-returns-in_err-body-in-Loop-clause-gives : goal.read_instr-returns-in_err-body-in-Loop-clause-gives
read_instr-returns-in_err-body-in-Loop-clause-gives t c =
    let p = err_from_is_err_and c.from_residual-in_err-body-in-Loop.result c.from_residual-in_err-body-in-Loop.ensures.1 in
    rw (p.1, p.2) (λ turns may_else h other. ap (λ (o : Op). instr_at (code_at turns) c.args.depth may_else c.args.at o c.args.cursor.now) c.in-Loop.is
    ∙ loop_body (code_at turns) c.args.depth c.args.at may_else c.args.cursor.now _ _ _ c.in_ok-ty-in-Loop.ensures.gives (c.in_err-body-in-Loop.ensures.gives turns (omega (arith, c.in_ok-ty-in-Loop.ensures.shorter, h)) other))

pub read_instr-returns-in_ok-repeat-in-Loop-clause-gives : goal.read_instr-returns-in_ok-repeat-in-Loop-clause-gives
read_instr-returns-in_ok-repeat-in-Loop-clause-gives t c = λ turns may_else h.
    ap (λ (o : Op). instr_at (code_at turns) c.args.depth may_else c.args.at o c.args.cursor.now) c.in-Loop.is
    ∙ loop_body (code_at turns) c.args.depth c.args.at may_else c.args.cursor.now _ _ _ c.in_ok-ty-in-Loop.ensures.gives (c.in_ok-body-in-Loop.ensures.gives turns (omega (arith, c.in_ok-ty-in-Loop.ensures.shorter, h)))
    ∙ puts (Loop c.in_ok-ty-in-Loop.ty (code_of c.in_ok-body-in-Loop.body.items)) c.in_ok-repeat-in-Loop.field-0 (code_at turns c.args.depth may_else c.read_code-in-Loop.new.cursor) (λ rest. sym (c.in_ok-repeat-in-Loop.ensures rest))

pub read_instr-returns-in_err-ty-in-If-clause-gives : goal.read_instr-returns-in_err-ty-in-If-clause-gives
read_instr-returns-in_err-ty-in-If-clause-gives t c =
    let p = err_from_is_err_and c.from_residual-in_err-ty-in-If.result c.from_residual-in_err-ty-in-If.ensures.1 in
    rw (p.1, p.2) (λ turns may_else h other. ap (λ (o : Op). instr_at (code_at turns) c.args.depth may_else c.args.at o c.args.cursor.now) c.in-If.is
    ∙ if_opens (code_at turns) c.args.depth c.args.at may_else c.args.cursor.now _ (c.in_err-ty-in-If.ensures.gives other))

pub read_instr-returns-in_err-one-in-If-clause-gives : goal.read_instr-returns-in_err-one-in-If-clause-gives
read_instr-returns-in_err-one-in-If-clause-gives t c =
    let p = err_from_is_err_and c.from_residual-in_err-one-in-If.result c.from_residual-in_err-one-in-If.ensures.1 in
    rw (p.1, p.2) (λ turns may_else h other. ap (λ (o : Op). instr_at (code_at turns) c.args.depth may_else c.args.at o c.args.cursor.now) c.in-If.is
    ∙ if_body (code_at turns) c.args.depth c.args.at may_else c.args.cursor.now _ _ _ c.in_ok-ty-in-If.ensures.gives (c.in_err-one-in-If.ensures.gives turns (omega (arith, c.in_ok-ty-in-If.ensures.shorter, h)) other))

pub read_instr-returns-in_err-other-in-If-clause-gives : goal.read_instr-returns-in_err-other-in-If-clause-gives
read_instr-returns-in_err-other-in-If-clause-gives t c =
    let p = err_from_is_err_and c.from_residual-in_err-other-in-If.result c.from_residual-in_err-other-in-If.ensures.1 in
    rw (p.1, p.2) (λ turns may_else h other. ap (λ (o : Op). instr_at (code_at turns) c.args.depth may_else c.args.at o c.args.cursor.now) c.in-If.is
    ∙ if_body (code_at turns) c.args.depth c.args.at may_else c.args.cursor.now _ _ _ c.in_ok-ty-in-If.ensures.gives (c.in_ok-one-in-If.ensures.gives turns (omega (arith, c.in_ok-ty-in-If.ensures.shorter, h)))
    ∙ ap (λ (r : Sequence). r >>= λ other. front (Choice c.in_ok-ty-in-If.ty (code_of c.in_ok-one-in-If.one.items) other.0.0) (code_at turns c.args.depth may_else other.1)) (c.in_err-other-in-If.ensures.gives turns (omega (arith, c.in_ok-ty-in-If.ensures.shorter, c.in_ok-one-in-If.ensures.shorter, h)) other))

pub read_instr-returns-in_ok-choice-in-If-clause-gives : goal.read_instr-returns-in_ok-choice-in-If-clause-gives
read_instr-returns-in_ok-choice-in-If-clause-gives t c = λ turns may_else h.
    ap (λ (o : Op). instr_at (code_at turns) c.args.depth may_else c.args.at o c.args.cursor.now) c.in-If.is
    ∙ if_body (code_at turns) c.args.depth c.args.at may_else c.args.cursor.now _ _ _ c.in_ok-ty-in-If.ensures.gives (c.in_ok-one-in-If.ensures.gives turns (omega (arith, c.in_ok-ty-in-If.ensures.shorter, h)))
    ∙ ap (λ (r : Sequence). r >>= λ other. front (Choice c.in_ok-ty-in-If.ty (code_of c.in_ok-one-in-If.one.items) other.0.0) (code_at turns c.args.depth may_else other.1)) (c.in_ok-other-in-If.ensures.gives turns (omega (arith, c.in_ok-ty-in-If.ensures.shorter, c.in_ok-one-in-If.ensures.shorter, h))).1
    ∙ puts (Choice c.in_ok-ty-in-If.ty (code_of c.in_ok-one-in-If.one.items) (code_of c.in_ok-other-in-If.other.items)) c.in_ok-choice-in-If.field-0 (code_at turns c.args.depth may_else c.read_other.new.cursor) (λ rest. sym (c.in_ok-choice-in-If.ensures rest))

pub read_instr-returns-in_ok-choice-in-If-clause-held : goal.read_instr-returns-in_ok-choice-in-If-clause-held
read_instr-returns-in_ok-choice-in-If-clause-held t c = c.in_ok-other-in-If.ensures.held ∙ c.in_ok-one-in-If.ensures.held

pub read_instr-returns-in_err-read_plain-in_default : goal.read_instr-returns-in_err-read_plain-in_default
read_instr-returns-in_err-read_plain-in_default t c =
    let p = err_from_is_err_and c.from_residual-in_err-read_plain-in_default.result c.from_residual-in_err-read_plain-in_default.ensures.1 in
    rw (p.1, p.2) (record {
      gives = λ turns may_else h other.
          plain_instr (code_at turns) c.args.depth c.args.at may_else c.args.op c.args.cursor.now c.in_default.not-Block c.in_default.not-Loop c.in_default.not-If c.requires.no_end c.requires.no_else
          ∙ ap (λ (r : Read Plain). r >>= λ p. front (Then p.0) (code_at turns c.args.depth may_else p.1)) (c.in_err-read_plain-in_default.ensures.gives other);
      shorter = tt;
      held = tt;
    })

pub read_instr-returns-in_ok-read_plain-in_default : goal.read_instr-returns-in_ok-read_plain-in_default
read_instr-returns-in_ok-read_plain-in_default t c = record {
  gives = λ turns may_else h.
      let p = c.in_ok-read_plain-in_default.field-0 in
      plain_instr (code_at turns) c.args.depth c.args.at may_else c.args.op c.args.cursor.now c.in_default.not-Block c.in_default.not-Loop c.in_default.not-If c.requires.no_end c.requires.no_else
      ∙ ap (λ (r : Read Plain). r >>= λ p. front (Then p.0) (code_at turns c.args.depth may_else p.1)) c.in_ok-read_plain-in_default.ensures.gives
      ∙ puts (Then p) (instr.Plain p) (code_at turns c.args.depth may_else c.read_plain.new.cursor) (λ rest. sym (put_plain (instr.Plain p) p rest refl));
  shorter = c.in_ok-read_plain-in_default.ensures.shorter;
  held = refl;
}
