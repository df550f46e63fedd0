-- The goals of `reading::read_genesis` that no tactic closes.
use Rattle.std.proofs.Common.{ap, subst, ◌∙◌, arith}
use Rattle.nr_bytes.specs.Answers.{Gives}
use Rattle.nr_blocks.specs.Judging.{genesis_read}
use Rattle.nr_blocks.specs.declared.fault.GenesisFault.TheVariants as genesis
use Rattle.nr_blocks.proofs.Spellings.{is_genesis, genesis_read_back}
use Rattle.nr_blocks.proofs.Sound.{sound_if}
use Rattle.nr_blocks.proofs.reading.read_genesis.Goals as goal

pub returns-clause-found : goal.returns-clause-found
returns-clause-found c = is_genesis c.args.config.now c.args.bytes.now c.genesis_of.result (λ i. omega (arith, c.type_inv.bytes i)) c.genesis_of.ensures

pub returns-clause-only : goal.returns-clause-only
returns-clause-only c = λ g fits e. subst (Gives genesis.Memory c.genesis_of.result) (ap (genesis_read c.args.config.now) e ∙ genesis_read_back c.args.config.now g fits) c.genesis_of.ensures

pub returns-clause-sound : goal.returns-clause-sound
returns-clause-sound c = sound_if c.args.config.now c.genesis_of.result _ (is_genesis c.args.config.now c.args.bytes.now c.genesis_of.result (λ i. omega (arith, c.type_inv.bytes i)) c.genesis_of.ensures)
