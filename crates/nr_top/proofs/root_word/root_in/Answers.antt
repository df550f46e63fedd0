-- The goals of `root_word::root_in` that no tactic closes.
use Rattle.std.proofs.Common.{◌≡◌, ℕ, List, [], Result, true, false, sym, ap, ◌∙◌, unwrap_or}
use Rattle.std.specs.Result.{result_ok}
use Rattle.hex.specs.declared.error.FromHexError.{FromHexError}
use Rattle.nr_ids.specs.declared.key.Hash32.{Hash32}
use Rattle.nr_top.proofs.Digests.{digest_reads}
use Rattle.nr_top.proofs.root_word.root_in.Goals as goal

abbrev made : Result (List ℕ) FromHexError → Hash32
made r = record { 0 = unwrap_or (result_ok r) [] }

pub returns : goal.returns
returns c =
    let read = digest_reads c.args.digits.now c.from_hex.result c.requires c.from_hex.ensures in
    ap made (sym c.in-Ok.is ∙ read.1)

pub unreachable-requires : goal.unreachable-requires
unreachable-requires c =
    let read = digest_reads c.args.digits.now c.from_hex.result c.requires c.from_hex.ensures in
    let wrong : false ≡ true = rw c.in-Err.is at read.0 in
    cc
