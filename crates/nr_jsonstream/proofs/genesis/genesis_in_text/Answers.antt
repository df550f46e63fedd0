-- The goals of `genesis::genesis_in_text` that no tactic closes.
use Rattle.std.proofs.Common.{◌≡◌, [], ap, ◌∙◌, rules}
use Rattle.json.specs.Lex.{tokens}
use Rattle.nr_jsonstream.proofs.Reading.{text_read}
use Rattle.nr_jsonstream.proofs.genesis.genesis_in_text.Goals as goal

pub returns : goal.returns
returns c =
    let utf8 = c.in-Ok.ensures.cases in
    let is : c.in_ok-reader.reader ≡ tokens c.args.text.now = c.in_ok-reader.ensures.ok ∙ ap tokens utf8.0 in
    let over : c.read_genesis.new.reader ≡ [] = search rules in
    let read = c.in_ok-genesis.ensures in
    (utf8.1, read.1, text_read c.args.text.now c.in_ok-reader.reader c.read_genesis.new.reader read.0 read.1 is over read.2 read.3, read.4)
