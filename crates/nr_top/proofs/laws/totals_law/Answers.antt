-- The goals of `laws::totals_law` that no tactic closes.
use Rattle.std.proofs.Common.{◌≡◌, ◌∙◌}
use Rattle.nr_blocks.specs.Genesis.{AreSoundEntries, supply}
use Rattle.nr_chainfiles.specs.declared.loading.ChainFiles.{ChainFiles}
use Rattle.nr_chunk.specs.StartSums.{genesis_tokens}
use Rattle.nr_course.specs.Totals.{AddUp as AddUpFrom}
use Rattle.nr_course.specs.Totals.{receipts_at_first}
use Rattle.nr_places.proofs.Founded.{none_first}
use Rattle.nr_report.specs.declared.totals.Totals.{Totals}
use Rattle.nr_top.specs.Run.{loaded}
use Rattle.nr_top.specs.Totals.{AddUp}
use Rattle.nr_top.proofs.laws.totals_law.Goals as goal

-- a genesis has no receipts at first, and its supply in tokens
adds_up : (files : ChainFiles) (t : Totals) → AreSoundEntries files.config files.genesis.entries
    → t.supply ≡ supply files.genesis.entries → AddUpFrom (receipts_at_first (loaded files).first) t
    → AddUp (supply files.genesis.entries) t
adds_up files t sound told up = record {
  supply = told;
  tokens = up.tokens ∙ told;
  places = none_first files.genesis t.places up.places;
}

pub returns-clause-run : goal.returns-clause-run
returns-clause-run c = λ files sound legs can.
    adds_up files _ sound (genesis_tokens files.config files.genesis sound) (c.course_laws.ensures.adds (loaded files) legs can).end

pub returns-clause-first : goal.returns-clause-first
returns-clause-first c = λ files sound legs can es inside.
    adds_up files _ sound (genesis_tokens files.config files.genesis sound)
    ((c.course_laws.ensures.adds (loaded files) legs can).first es inside)

pub returns-clause-behind : goal.returns-clause-behind
returns-clause-behind c = λ files sound legs can t is es inside.
    adds_up files _ sound (genesis_tokens files.config files.genesis sound)
    ((c.course_laws.ensures.adds (loaded files) legs can).behind t is es inside)

pub returns-clause-driven : goal.returns-clause-driven
returns-clause-driven c = λ files sound legs can lines.
    adds_up files _ sound
    (c.schedule_laws.ensures.supply (loaded files) lines ∙ genesis_tokens files.config files.genesis sound)
    (c.schedule_laws.ensures.adds (loaded files) legs can lines)
