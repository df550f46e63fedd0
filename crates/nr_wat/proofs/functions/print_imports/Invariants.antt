-- What holds at the loops of `functions::print_imports`.
use Rattle.std.proofs.Common.{◌≡◌, ◌≤◌, ◌++◌, string_bytes, take}
use Rattle.nr_wat.specs.Fields.{functions_in, import_field}
use Rattle.nr_wat.specs.Pieces.{numbered}
use Rattle.nr_wat.proofs.functions.print_imports.Given as goal

abbrev pub invariant-loop-import : goal.invariant-loop-import
invariant-loop-import l = record {
  printed : string_bytes l.text ≡ string_bytes l.initial.text ++ numbered (import_field l.imports) (take l.import-index l.imports);
  counted : l.before ≡ functions_in (take l.import-index l.imports);
  fewer : l.before ≤ l.import-index;
}
