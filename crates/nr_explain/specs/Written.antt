-- One English sentence for a line of a report or of what another command of a chain writes that tells what was done.
-- This project's own.
use Rattle.std.specs.Prelude.{List, [], ◌∷◌, codes}
use Rattle.nr_explain.specs.Forms.{Form, word, figure, number, amount, hash, bytes}

-- lines of a report, and of a chain that numbers generate
unfoldable pub reported : List Form
reported =
    (word (codes "chunk") (codes "The chunk of height ") ∷ number (codes " and shard ")
    ∷ number (codes " is sealed. The root of its state is ") ∷ hash (codes ". For it ") ∷ number (codes " gas and ")
    ∷ amount (codes " tokens were burnt.") ∷ [])
    ∷ (word (codes "tx") (codes "Transaction ") ∷ hash (codes " became receipt ") ∷ word (codes "ok") []
    ∷ hash (codes ".") ∷ [])
    ∷ (word (codes "run") (codes "Receipt ") ∷ hash (codes " ran to its end. ")
    ∷ word (codes "value") (codes "It gave ") ∷ word (codes "-") (codes "no bytes. ") ∷ number (codes " gas and ")
    ∷ amount (codes " tokens were burnt.") ∷ [])
    ∷ (word (codes "run") (codes "Receipt ") ∷ hash (codes " ran to its end. ")
    ∷ word (codes "value") (codes "It gave the bytes ") ∷ bytes (codes ". ") ∷ number (codes " gas and ")
    ∷ amount (codes " tokens were burnt.") ∷ [])
    ∷ (word (codes "run") (codes "Receipt ") ∷ hash (codes " ran to its end. ")
    ∷ word (codes "promise") (codes "Its value will be that of receipt ") ∷ hash (codes ". ")
    ∷ number (codes " gas and ") ∷ amount (codes " tokens were burnt.") ∷ [])
    ∷ (word (codes "run") (codes "Receipt ")
    ∷ hash (codes " didn't run, since two of its inputs are equal, or a receipt that is postponed at its receiver has one of them or its id. ")
    ∷ word (codes "clash") [] ∷ figure (codes "0") (codes "No gas and ") ∷ amount (codes " tokens were burnt.") ∷ [])
    ∷ (word (codes "log") (codes "The receipt logged ") ∷ word (codes "-") (codes "no bytes.") ∷ [])
    ∷ (word (codes "log") (codes "The receipt logged the bytes ") ∷ bytes (codes ".") ∷ [])
    ∷ (word (codes "post") (codes "Receipt ") ∷ hash (codes " is postponed, since it waits for data.") ∷ [])
    ∷ (word (codes "data") (codes "Receipt ") ∷ hash (codes " brought data, which are stored or used.") ∷ [])
    ∷ (word (codes "lost") (codes "Receipt ")
    ∷ hash (codes " brought data that clash with those that stand, and they are lost.") ∷ [])
    ∷ (word (codes "late") (codes "Receipt ") ∷ hash (codes " is delayed: it stands behind all that are.") ∷ [])
    ∷ (word (codes "out") (codes "A receipt goes out to shard ") ∷ number (codes ": ")
    ∷ hash (codes ", and the SHA-256 of its bytes is ") ∷ hash (codes ".") ∷ [])
    ∷ (word (codes "total") [] ∷ word (codes "supply") (codes "The genesis has ") ∷ amount (codes " tokens.") ∷ [])
    ∷ (word (codes "total") [] ∷ word (codes "accounts") (codes "The accounts have ") ∷ amount (codes " tokens.") ∷ [])
    ∷ (word (codes "total") [] ∷ word (codes "receipts") (codes "The receipts that are under way have ")
    ∷ amount (codes " tokens.") ∷ [])
    ∷ (word (codes "total") [] ∷ word (codes "burnt") [] ∷ amount (codes " tokens were burnt.") ∷ [])
    ∷ (word (codes "total") [] ∷ word (codes "places") (codes "Of the receipts ") ∷ number (codes " were routed and ")
    ∷ number (codes " executed, ") ∷ number (codes " wait for data, ") ∷ number (codes " are delayed, and ")
    ∷ number (codes " are in flight.") ∷ [])
    ∷ (word (codes "gen") (codes "The chain is generated from the number ") ∷ number (codes " for ")
    ∷ number (codes " shards and ") ∷ number (codes " blocks.") ∷ [])
    ∷ (word (codes "chunks") (codes "So many chunks were sealed: ") ∷ number (codes ".") ∷ [])
    ∷ (word (codes "digest") (codes "The SHA-256 of the report is ") ∷ hash (codes ".") ∷ [])
    ∷ []

-- lines about roots, proofs and parts of a state
unfoldable pub answers : List Form
answers =
    (word (codes "roots") (codes "Of the chunk of height ") ∷ number (codes " and shard ")
    ∷ number (codes " the root of its outcomes is ") ∷ hash (codes ", and that of the receipts that left it ")
    ∷ hash (codes ".") ∷ [])
    ∷ (word (codes "proof") [] ∷ word (codes "outcome") (codes "The proof is of an outcome of the chunk of height ")
    ∷ number (codes " and shard ") ∷ number (codes ", the one at place ") ∷ number (codes " (from 0) of ")
    ∷ number (codes ".") ∷ [])
    ∷ (word (codes "proof") [] ∷ word (codes "receipt")
    (codes "The proof is of a receipt that left the chunk of height ") ∷ number (codes " and shard ")
    ∷ number (codes ", the one at place ") ∷ number (codes " (from 0) of ") ∷ number (codes ".") ∷ [])
    ∷ (word (codes "item") (codes "The item has ") ∷ word (codes "-") (codes "no bytes.") ∷ [])
    ∷ (word (codes "item") (codes "The bytes of the item are ") ∷ bytes (codes ".") ∷ [])
    ∷ (word (codes "path") (codes "The next hash beside the way from the item upward is ") ∷ hash (codes ".") ∷ [])
    ∷ (word (codes "valid") (codes "The proof leads to the root.") ∷ [])
    ∷ (word (codes "invalid") (codes "The proof doesn't lead to the root.") ∷ [])
    ∷ (word (codes "part") (codes "Part ") ∷ number (codes " (from 0) of ")
    ∷ number (codes " belongs to the root. It has ") ∷ word (codes "entries") []
    ∷ number (codes " of the entries.") ∷ [])
    ∷ (word (codes "root") (codes "The parts are together the state of the root ") ∷ hash (codes ". It has so many ")
    ∷ word (codes "entries") (codes "entries: ") ∷ number (codes ".") ∷ [])
    ∷ []
