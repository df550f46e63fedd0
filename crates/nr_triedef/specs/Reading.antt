-- The reading of a node's text, field by field: a text that is no node's is refused at the first field that can't be
-- read. The texts are this project's own.
use Rattle.std.specs.Prelude.{◌≡◌, ℕ, zero, suc, ◌/◌, ◌%◌, ◌<◌, ◌^◌, ◌==◌, Bool, true, false, cond, ◌&&◌, nat_lt}
use Rattle.std.specs.Prelude.{nat_le, ⊤, List, [], ◌∷◌, length, Option, Some, None, is_some, Result, Ok, Err}
use Rattle.std.specs.Prelude.{count_ones}
use Rattle.std.specs.List.{AllByRecursion}
use Rattle.nr_bytes.specs.declared.fault.BytesFault.{BytesFault}
use Rattle.nr_bytes.specs.declared.fault.BytesFault.TheVariants as bytes_faults
use Rattle.nr_bytes.specs.Reading.{Input, ◌>>=◌, end_at}
use Rattle.nr_bytes.specs.Fields.{Read, lifted, nat_at, raw_at, blob_at, mapped, tested, pair}
use Rattle.nr_ids.specs.declared.key.Hash32.{Hash32}
use Rattle.nr_ids.specs.Keys.{hash_of_bytes, IsHash}
use Rattle.nr_triedef.specs.declared.fault.NodeFault.{NodeFault}
use Rattle.nr_triedef.specs.declared.fault.NodeFault.TheVariants.{BadNode, Memory}
use Rattle.nr_triedef.specs.declared.node.Node.{Node}
use Rattle.nr_triedef.specs.declared.node.Node.TheVariants.{Leaf, Extension, Branch}
use Rattle.nr_triedef.specs.Node.{is_part, nibble_count}

-- a field that a reader refuses, as a node's
abbrev pub node_fault : BytesFault → NodeFault
node_fault (bytes_faults.Short at) = BadNode at
node_fault (bytes_faults.BadByte at byte) = BadNode at
node_fault (bytes_faults.BadUtf8 at) = BadNode at
node_fault bytes_faults.Memory = Memory

abbrev pub hash_at : Input → Read NodeFault Hash32
hash_at = mapped hash_of_bytes (raw_at node_fault 32)

-- a part: a count, and that many bytes, which have the form
abbrev pub part_at : (List ℕ → Bool) → Input → Read NodeFault (List ℕ)
part_at form = tested form BadNode (blob_at node_fault)

-- the form of an extension's part, which has at least one nibble
abbrev pub is_front : List ℕ → Bool
is_front part = is_part false part && nat_lt 0 (nibble_count part)

-- a value's length and hash
abbrev pub value_at : Input → Read NodeFault (ℕ × Hash32)
value_at = pair (nat_at node_fault 4) hash_at

abbrev pub leaf_at : Input → Read NodeFault Node
leaf_at s = do
  part ← part_at (is_part true) s
  value ← value_at part.1
  usage ← nat_at node_fault 8 value.1
  Ok (Leaf part.0 value.0.0 value.0.1 usage.0, usage.1)

abbrev pub extension_at : Input → Read NodeFault Node
extension_at s = do
  part ← part_at is_front s
  child ← hash_at part.1
  usage ← nat_at node_fault 8 child.1
  Ok (Extension part.0 child.0 usage.0, usage.1)

-- a child that is there, or not
abbrev pub child_at : Bool → Input → Read NodeFault (Option Hash32)
child_at false s = Ok (None, s)
child_at true s = do
  hash ← hash_at s
  Ok (Some hash.0, hash.1)

-- those of n children whose bits are set, the lowest bit first
unfoldable pub each_at : ℕ → ℕ → Input → Read NodeFault (List (Option Hash32))
each_at zero bits s = Ok ([], s)
each_at (suc n) bits s = do
  child ← child_at (bits % 2 == 1) s
  children ← each_at n (bits / 2) child.1
  Ok (child.0 ∷ children.0, children.1)

-- at least two children, or one beside a value
abbrev pub is_enough : Bool → ℕ → Bool
is_enough valued bits = nat_le (cond valued 1 2) (count_ones bits)

-- a bitmap of enough children, and the hashes of these
abbrev pub children_at : Bool → Input → Read NodeFault (List (Option Hash32))
children_at valued s = do
  bits ← tested (is_enough valued) BadNode (nat_at node_fault 2) s
  each_at 16 bits.0 bits.1

abbrev pub branch_at : Option (ℕ × Hash32) → Input → Read NodeFault Node
branch_at value s = do
  children ← children_at (is_some value) s
  usage ← nat_at node_fault 8 children.1
  Ok (Branch value children.0 usage.0, usage.1)

abbrev pub valued_at : Input → Read NodeFault Node
valued_at s = do
  value ← value_at s
  branch_at (Some value.0) value.1

-- what stands behind the kind, which is below 4; at is where the kind stands
abbrev pub kind_at : ℕ → ℕ → Input → Read NodeFault Node
kind_at at zero s = leaf_at s
kind_at at (suc zero) s = extension_at s
kind_at at (suc (suc zero)) s = branch_at None s
kind_at at (suc (suc (suc zero))) s = valued_at s
kind_at at (suc (suc (suc (suc n)))) s = Err (BadNode at)

-- a kind, what stands behind it, and the end
abbrev pub whole_at : Input → Result Node NodeFault
whole_at s = do
  kind ← nat_at node_fault 1 s
  node ← kind_at s.at kind.0 kind.1
  end ← lifted node_fault (end_at node.1)
  Ok node.0

-- the node whose text this is, or the fault at the first field that can't be read
unfoldable pub node_at : List ℕ → Result Node NodeFault
node_at text = whole_at (record { left = text; at = 0 })

abbrev pub IsChild : Option Hash32 → Type 0
IsChild None = ⊤
IsChild (Some hash) = IsHash hash

abbrev pub IsValue : Option (ℕ × Hash32) → Type 0
IsValue None = ⊤
IsValue (Some value) = (value.0 < 2 ^ 32) × IsHash value.1

-- what the types say of a node, and that its part can be counted: lengths and counts below 2^32, usages below 2^64,
-- hashes of 32 bytes, 16 children
abbrev pub Fits : Node → Type 0
Fits (Leaf part size hash usage) = (length part < 2 ^ 32) × (size < 2 ^ 32) × IsHash hash × (usage < 2 ^ 64)
Fits (Extension part child usage) = (length part < 2 ^ 32) × IsHash child × (usage < 2 ^ 64)
Fits (Branch value children usage) =
    IsValue value × (length children ≡ 16) × AllByRecursion IsChild children × (usage < 2 ^ 64)
