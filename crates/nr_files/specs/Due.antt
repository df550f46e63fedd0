-- What a file asks for: the bytes or the JSON value that are written for it, or the line that says why not. Borsh 1.0
-- and RFC 8259; the lines are this project's own.
use Rattle.std.specs.Prelude.{◌≡◌, ℕ, ◌-◌, ◌≤◌, ◌==◌, List, [], ◌∷◌, ◌++◌, length, take, get_or, Bool, true, false}
use Rattle.std.specs.Prelude.{cond, Option, Some, None, Result, Ok, Err, IsUtf8}
use Rattle.std.specs.Str.{is_utf8}
use Rattle.json.specs.Layout.{pretty}
use Rattle.json.specs.Lex.{tokens}
use Rattle.json.specs.Print.{print}
use Rattle.json.specs.Token.{Token}
use Rattle.serde_json.specs.Data.{Data, depth}
use Rattle.serde_json.specs.Read.{read, max_depth}
use Rattle.serde_json.specs.Written.{IsInOrder}
use Rattle.nr_bytes.specs.Reading.{◌>>=◌}
use Rattle.nr_config.specs.Config.{Config}
use Rattle.nr_blocks.specs.Files.{genesis_bytes}
use Rattle.nr_blocks.specs.Judging.{with_fault, genesis_read}
use Rattle.nr_blocks.specs.Spellings.{file_of}
use Rattle.nr_json.specs.ChainFiles.{stated_json, stated_of}
use Rattle.nr_json.specs.Genesis.{genesis_json, genesis_of}
use Rattle.nr_json.specs.Plain.{bytes_json}
use Rattle.nr_json.specs.declared.genesis.StatedGenesis.{StatedGenesis}
use Rattle.nr_explain.specs.Report.{report_json}
use Rattle.nr_gathered.specs.Files.{gathered_in}
use Rattle.nr_outproof.specs.Texts.{proof_read}
use Rattle.nr_parts.specs.Files.{part_in}
use Rattle.nr_files.specs.declared.command.Work.{Work}
use Rattle.nr_files.specs.declared.command.Work.TheVariants.{MakeBlocks, MakeGenesis, MakeHex, ShowBlocks, ShowGenesis}
use Rattle.nr_files.specs.declared.command.Work.TheVariants.{ShowReport, ShowPart, ShowProof, ShowGathered}
use Rattle.nr_files.specs.Filling.{filled, stated}
use Rattle.nr_files.specs.Damage.{blocks_line}
use Rattle.nr_files.specs.Lines.{fault_line, gathered_line, genesis_line, no_json, part_line, proof_line, report_line}
use Rattle.nr_files.specs.Versions.{blocks_read, stated_bytes}
use Rattle.nr_shown.specs.Gathered.{gathered_json}
use Rattle.nr_shown.specs.Part.{part_json}
use Rattle.nr_shown.specs.Proof.{proof_json}

-- what is written: bytes, or the text of a value, over lines or with no space
pub data Output : Type 0 where
  Bytes : List ℕ → Output
  Json : Data → Output
  Compact : Data → Output

-- a text of the value in a layout, with its members in order; it is read as the value, where this nests no deeper than
-- the reader goes
pub record IsTextOf (lay : List Token → List ℕ) (d : Data) (text : List ℕ) : Type 0 where
  pub utf8 : IsUtf8 text
  pub layout : text ≡ lay (tokens text)
  pub order : IsInOrder text d
  pub back : depth d ≤ max_depth → read text ≡ Some d

-- such a text and a line feed
abbrev pub IsLineOf : (List Token → List ℕ) → Data → List ℕ → Type 0
IsLineOf lay d out = (text : List ℕ) × IsTextOf lay d text × (out ≡ text ++ 10 ∷ [])

abbrev pub IsWritten : Output → List ℕ → Type 0
IsWritten (Bytes bytes) out = out ≡ bytes
IsWritten (Json d) out = IsLineOf pretty d out
IsWritten (Compact d) out = IsLineOf print d out

-- the same with no space, where this is asked for
abbrev pub laid : Bool → Output → Output
laid compact (Bytes bytes) = Bytes bytes
laid compact (Json d) = cond compact (Compact d) (Json d)
laid compact (Compact d) = Compact d

-- what is written, or the line that says why not
abbrev pub Due : Type 0
Due = Result Output (List ℕ)

-- ---- the value of a text
abbrev pub value_of : List ℕ → Option Data → Result Data (List ℕ)
value_of text None = Err (no_json text)
value_of text (Some d) = Ok d

-- JSON takes no notice of a line feed at the end
abbrev pub without_feed : List ℕ → List ℕ
without_feed text = cond (get_or text (length text - 1) 0 == 10) (take (length text - 1) text) text

abbrev pub value_in : List ℕ → Result Data (List ℕ)
value_in text = cond (is_utf8 (without_feed text)) (value_of text (read (without_feed text))) (Err (no_json text))

-- ---- blocks
unfoldable pub made_blocks : List ℕ → Due
made_blocks text = do
  d ← value_in text
  file ← with_fault fault_line (stated_of d)
  Ok (Bytes (stated_bytes file))

unfoldable pub shown_blocks : List ℕ → Due
shown_blocks bytes = do
  file ← with_fault (blocks_line bytes) (blocks_read bytes)
  Ok (Json (stated_json file))

-- ---- the first state
-- bytes that were made, where they are a genesis
abbrev pub judged : Config → List ℕ → Due
judged c bytes = do
  sound ← with_fault (genesis_line true bytes) (genesis_read c bytes)
  Ok (Bytes bytes)

-- what a JSON text states
abbrev pub stated_in : List ℕ → Result StatedGenesis (List ℕ)
stated_in text = do
  d ← value_in text
  with_fault fault_line (genesis_of d)

unfoldable pub made_genesis : Config → List ℕ → Due
made_genesis c text = do
  g ← stated_in text
  judged c (genesis_bytes (filled c g))

unfoldable pub shown_genesis : Config → List ℕ → Due
shown_genesis c bytes = do
  g ← with_fault (genesis_line false bytes) (genesis_read c bytes)
  Ok (Json (genesis_json (stated (file_of g))))

-- ---- bytes, as a JSON text of hexadecimal digits
abbrev pub made_hex : List ℕ → Due
made_hex bytes = Ok (Json (bytes_json bytes))

-- ---- a report
unfoldable pub shown_report : List ℕ → Due
shown_report bytes = do
  text ← with_fault (report_line bytes) (report_json bytes)
  Ok (Bytes text)

-- ---- a part of a state, a proof, and a gathered chunk
unfoldable pub shown_part : List ℕ → Due
shown_part bytes = do
  p ← with_fault (part_line bytes) (part_in bytes)
  Ok (Json (part_json p))

unfoldable pub shown_proof : List ℕ → Due
shown_proof bytes = do
  p ← with_fault (proof_line bytes) (proof_read bytes)
  Ok (Json (proof_json p))

unfoldable pub shown_gathered : List ℕ → Due
shown_gathered bytes = do
  g ← with_fault (gathered_line bytes) (gathered_in bytes)
  Ok (Json (gathered_json g))

-- ---- all commands
abbrev pub of_bytes : Work → Config → List ℕ → Due
of_bytes MakeBlocks c bytes = made_blocks bytes
of_bytes MakeGenesis c bytes = made_genesis c bytes
of_bytes MakeHex c bytes = made_hex bytes
of_bytes ShowBlocks c bytes = shown_blocks bytes
of_bytes ShowGenesis c bytes = shown_genesis c bytes
of_bytes ShowReport c bytes = shown_report bytes
of_bytes ShowPart c bytes = shown_part bytes
of_bytes ShowProof c bytes = shown_proof bytes
of_bytes ShowGathered c bytes = shown_gathered bytes

abbrev pub laid_due : Bool → Due → Due
laid_due compact (Ok output) = Ok (laid compact output)
laid_due compact (Err line) = Err line
