-- The goals of `fields::TextSpelled::write` that no tactic closes.
use Rattle.std.proofs.Common.{rules, ℕ, List, Result, Ok, Err, subst, OnOk}
use Rattle.std.specs.Str.{IsUtf8}
use Rattle.std.proofs.lemmas.Str.{is_utf8-from_IsUtf8}
use Rattle.nr_bytes.specs.Spelling.{IsCounted, IsString}
use Rattle.nr_records.proofs.fields.TextSpelled.write.Goals as goal

in_range : {X E : Type 0} (r : Result X E) (text : List ℕ) → IsUtf8 text → OnOk r (IsCounted text) → OnOk r (IsString text)
in_range (Ok x) text utf8 few = (few, is_utf8-from_IsUtf8 text utf8)
in_range (Err e) text utf8 few = tt

pub returns-clause-in_range : goal.returns-clause-in_range
returns-clause-in_range c =
    let utf8 : IsUtf8 c.args.self.now = subst IsUtf8 c.inner.ensures c.inner.utf8 in
    let few : OnOk c.put_counted.result (IsCounted c.args.self.now) = search rules in
    in_range c.put_counted.result c.args.self.now utf8 few
