-- Texts by their SHA-256, and the nodes among them. This project's own.
use Rattle.std.specs.Prelude.{ℕ, cond, fold, List, Option, Some, None, is_some, Result, Ok, Err}
use Rattle.std.specs.FinMap.{empty, get, insert}
use Rattle.nr_triedef.specs.Node.{digest}
use Rattle.nr_ids.specs.declared.key.Hash32.{Hash32}
use Rattle.nr_triedef.specs.Root.{Contents}
use Rattle.nr_triedef.specs.Reading.{node_at}
use Rattle.nr_triedef.specs.declared.node.Node.{Node}
use Rattle.nr_triedef.specs.declared.fault.NodeFault.{NodeFault}
use Rattle.nr_walk.specs.declared.fault.WalkFault.{WalkFault}
use Rattle.nr_walk.specs.declared.fault.WalkFault.TheVariants.{Missing, BadText, Memory}

abbrev pub memory_fault : WalkFault
memory_fault = Memory

-- with the text under its hash, unless one is held there
abbrev pub with_text : Contents → List ℕ → Contents
with_text m text = cond (is_some (get m (digest text).0)) m (insert m (digest text).0 text)

-- each text under its hash; of two with one hash the first is held
unfoldable pub texts_of : List (List ℕ) → Contents
texts_of texts = fold with_text empty texts

-- the text of a hash, or the fault that it is missing
abbrev pub text_or_missing : Hash32 → Option (List ℕ) → Result (List ℕ) WalkFault
text_or_missing hash None = Err (Missing hash)
text_or_missing hash (Some text) = Ok text

unfoldable pub text_at : Contents → Hash32 → Result (List ℕ) WalkFault
text_at texts hash = text_or_missing hash (get texts hash.0)

-- what is read as a node, or the fault of the text with this hash
abbrev pub node_or_bad : Hash32 → Result Node NodeFault → Result Node WalkFault
node_or_bad hash (Ok node) = Ok node
node_or_bad hash (Err fault) = Err (BadText hash)

-- a node that is held and can be read
abbrev pub readable : Result Node NodeFault → Option Node
readable (Ok node) = Some node
readable (Err fault) = None

abbrev pub read_held : Option (List ℕ) → Option Node
read_held None = None
read_held (Some text) = readable (node_at text)

unfoldable pub known : Contents → Hash32 → Option Node
known texts hash = read_held (get texts hash.0)
