-- The goals of `columns::Columns::spelled_key` that no tactic closes.
use Rattle.std.proofs.Common.{ap, sym, ◌∙◌}
use Rattle.std.specs.Option.{option_and_then, option_copied}
use Rattle.std.specs.FinMap as map
use Rattle.nr_columns.specs.SpelledKeys.{key_read}
use Rattle.nr_columns.proofs.Steps.{keys_column, found, told}
use Rattle.nr_columns.proofs.columns.Columns.spelled_key.Goals as goal

pub of-requires : goal.of-requires
of-requires g c =
    told keys_column _ _ (c.args.id.now, c.args.key.now) c.in-Some.bytes.now c.self.invariant.here (c.as_slice.ensures ∙ c.in_ok-slot.ensures.text) c.in_ok-slot.ensures.there (sym c.get.ensures ∙ ap option_copied c.in-Some.is)

pub returns-in-Some : goal.returns-in-Some
returns-in-Some g c =
    sym c.of.ensures
    ∙ ap (option_and_then key_read) (sym (sym c.get.ensures ∙ ap option_copied c.in-Some.is))
    ∙ found keys_column _ _ (c.args.id.now, c.args.key.now) (c.as_slice.ensures ∙ c.in_ok-slot.ensures.text) c.in_ok-slot.ensures.there
    ∙ ap (λ v. map.get v.columns.keys (c.args.id.now, c.args.key.now)) c.self.view_is

pub returns-in-None : goal.returns-in-None
returns-in-None g c =
    ap (option_and_then key_read) (sym (sym c.get.ensures ∙ ap option_copied c.in-None.is))
    ∙ found keys_column _ _ (c.args.id.now, c.args.key.now) (c.as_slice.ensures ∙ c.in_ok-slot.ensures.text) c.in_ok-slot.ensures.there
    ∙ ap (λ v. map.get v.columns.keys (c.args.id.now, c.args.key.now)) c.self.view_is
