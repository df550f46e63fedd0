-- The lines that programs write, and the JSON object that stands for each (RFC 8259). This project's own.
use Rattle.std.specs.Prelude.{◌≡◌, ℕ, Bool, true, false, List, [], ◌∷◌, ◌++◌, cond, Option, Some, None, codes}
use Rattle.nr_explain.specs.Words.{pieces, is_dash}
use Rattle.nr_explain.specs.Shown.{beside_bytes}
use Rattle.nr_explain.specs.Forms.{Kind, Word, Figure, Number, Amount, Hash, Bytes, Entry, Name, Field, Form, form_of}
use Rattle.nr_explain.specs.Forms.{word, figure, number, amount, hash, bytes}

-- ---- the forms, with a member's name for each word
abbrev pub line : List ℕ → Field
line this = word this (codes "line")

abbrev pub status : List ℕ → Field
status this = word this (codes "status")

abbrev pub total : List ℕ → Form
total what = line (codes "total") ∷ word what (codes "total") ∷ amount (codes "tokens") ∷ []

abbrev pub receipt : List ℕ → Form
receipt what = line what ∷ hash (codes "receipt_id") ∷ []

abbrev pub gas_and_burnt : Form
gas_and_burnt = number (codes "gas") ∷ amount (codes "burnt") ∷ []

abbrev pub run : List ℕ → Form → Form
run how fields = line (codes "run") ∷ hash (codes "receipt_id") ∷ status how ∷ fields

-- what a proof states of an item of this kind
abbrev pub proof : List ℕ → Form
proof kind =
    line (codes "proof") ∷ word kind (codes "kind") ∷ number (codes "height") ∷ number (codes "shard")
    ∷ number (codes "place") ∷ number (codes "count") ∷ []

-- how many entries a part or a whole state has
abbrev pub holds_entries : Form
holds_entries = word (codes "entries") (codes "holds") ∷ number (codes "entries") ∷ []

-- a step that was not made, with its reason's number
abbrev pub refused_step : List ℕ → Field → Field → Form
refused_step why first second = line (codes "no") ∷ figure why (codes "number") ∷ first ∷ second ∷ []

abbrev pub first : Field
first = number (codes "first")

abbrev pub second : Field
second = number (codes "second")

abbrev pub zero_first : Field
zero_first = figure (codes "0") (codes "first")

abbrev pub zero_second : Field
zero_second = figure (codes "0") (codes "second")

unfoldable pub lines : List Form
lines =
    (line (codes "chunk") ∷ number (codes "height") ∷ number (codes "shard") ∷ hash (codes "state_root")
    ∷ gas_and_burnt)
    ∷ (line (codes "tx") ∷ hash (codes "transaction_hash") ∷ status (codes "ok") ∷ hash (codes "receipt_id") ∷ [])
    ∷ (line (codes "tx") ∷ hash (codes "transaction_hash") ∷ status (codes "refused") ∷ number (codes "number")
    ∷ amount (codes "first") ∷ amount (codes "second") ∷ [])
    ∷ run (codes "value") (bytes (codes "value") ∷ gas_and_burnt)
    ∷ run (codes "promise") (hash (codes "promised_receipt_id") ∷ gas_and_burnt)
    ∷ run (codes "failure") (number (codes "action_index") ∷ number (codes "kind") ∷ number (codes "part")
    ∷ gas_and_burnt)
    ∷ run (codes "clash") (figure (codes "0") (codes "gas") ∷ amount (codes "burnt") ∷ [])
    ∷ (line (codes "log") ∷ bytes (codes "bytes") ∷ [])
    ∷ receipt (codes "post")
    ∷ receipt (codes "data")
    ∷ receipt (codes "lost")
    ∷ receipt (codes "late")
    ∷ (line (codes "out") ∷ number (codes "shard") ∷ hash (codes "receipt_id") ∷ hash (codes "receipt_hash") ∷ [])
    ∷ total (codes "supply")
    ∷ total (codes "accounts")
    ∷ total (codes "receipts")
    ∷ total (codes "burnt")
    ∷ (line (codes "total") ∷ word (codes "places") (codes "total") ∷ number (codes "routed")
    ∷ number (codes "executed") ∷ number (codes "postponed") ∷ number (codes "delayed")
    ∷ number (codes "in_flight") ∷ [])
    ∷ (line (codes "gen") ∷ number (codes "number") ∷ number (codes "shards") ∷ number (codes "blocks") ∷ [])
    ∷ (line (codes "chunks") ∷ number (codes "count") ∷ [])
    ∷ (line (codes "digest") ∷ hash (codes "report_hash") ∷ [])
    ∷ (line (codes "ok") ∷ [])
    ∷ refused_step (codes "1") first zero_second
    ∷ refused_step (codes "2") first second
    ∷ refused_step (codes "3") first zero_second
    ∷ refused_step (codes "4") first zero_second
    ∷ refused_step (codes "5") first second
    ∷ refused_step (codes "6") zero_first zero_second
    ∷ refused_step (codes "7") first zero_second
    ∷ (line (codes "roots") ∷ number (codes "height") ∷ number (codes "shard") ∷ hash (codes "outcome_root")
    ∷ hash (codes "receipt_root") ∷ [])
    ∷ proof (codes "outcome")
    ∷ proof (codes "receipt")
    ∷ (line (codes "item") ∷ bytes (codes "bytes") ∷ [])
    ∷ (line (codes "path") ∷ hash (codes "hash") ∷ [])
    ∷ (line (codes "valid") ∷ [])
    ∷ (line (codes "invalid") ∷ [])
    ∷ (line (codes "part") ∷ number (codes "number") ∷ number (codes "count") ∷ holds_entries)
    ∷ (line (codes "root") ∷ hash (codes "root") ∷ holds_entries)
    ∷ []

-- ---- objects
abbrev pub quoted : List ℕ → List ℕ
quoted text = 34 ∷ text ++ 34 ∷ []

-- a number of 64 bits is one, all else is a text; no bytes are an empty one
abbrev pub value : Kind → List ℕ → List ℕ
value (Word this) w = quoted w
value (Figure this) w = w
value Number w = w
value Amount w = quoted w
value Hash w = quoted w
value Bytes w = quoted (cond (is_dash w) [] w)
value Entry w = w
value Name w = quoted w

-- behind bytes comes the text that they are, where they are one
abbrev pub beside : Kind → List ℕ → List ℕ
beside (Word this) w = []
beside (Figure this) w = []
beside Number w = []
beside Amount w = []
beside Hash w = []
beside Bytes w = beside_bytes w
beside Entry w = []
beside Name w = []

abbrev pub member : Field → List ℕ → List ℕ
member f w = quoted f.text ++ 58 ∷ (value f.kind w ++ beside f.kind w)

-- a member for each word, with a comma between each two
abbrev pub members : Form → List (List ℕ) → List ℕ
members [] ws = []
members (f ∷ fs) [] = []
members (f ∷ fs) (w ∷ []) = member f w
members (f ∷ fs) (w ∷ v ∷ ws) = member f w ++ 44 ∷ members fs (v ∷ ws)

abbrev pub object : Form → List (List ℕ) → List ℕ
object form words = 123 ∷ members form words ++ 125 ∷ 10 ∷ []

abbrev pub object_by : Option Form → List (List ℕ) → Option (List ℕ)
object_by None words = None
object_by (Some form) words = Some (object form words)

-- the object of a line, with a line feed, where the line has one of the forms
abbrev pub object_of : List ℕ → Option (List ℕ)
object_of bytes = object_by (form_of lines (pieces 32 bytes)) (pieces 32 bytes)

-- what a line adds to a text, and whether it adds anything
abbrev pub AddsWhere : Bool → Option (List ℕ) → List ℕ → List ℕ → Type 0
AddsWhere true (Some object) old new = new ≡ old ++ object
AddsWhere true None old new = ⊥
AddsWhere false (Some object) old new = ⊥
AddsWhere false None old new = new ≡ old
