-- The goals of `printed::print_value` that no tactic closes.
use Rattle.std.proofs.Common.{◌≡◌, ◌++◌, ℕ, List, [], length, OnOk, string_bytes, sym, subst}
use Rattle.std.proofs.lemmas.Bool.{eqb-true}
use Rattle.std.proofs.lemmas.List.{nil_from_length}
use Rattle.nr_records.specs.declared.chunk_result.RunStatus.TheVariants.{Value}
use Rattle.nr_report.specs.Lines.{run_line}
use Rattle.nr_report.proofs.printed.print_value.Goals as goal

pub returns-then-is_empty : goal.returns-then-is_empty
returns-then-is_empty c =
    let none : c.args.bytes.now ≡ [] = nil_from_length c.args.bytes.now (eqb-true (length c.args.bytes.now) 0 (sym c.if-is_empty.ensures)) in
    subst (λ (bytes : List ℕ). OnOk c.print_no_value.result (string_bytes c.print_no_value.new.text ≡ string_bytes c.args.text.now ++ run_line c.args.outcome.now (Value bytes)))
    (sym none) c.print_no_value.ensures
