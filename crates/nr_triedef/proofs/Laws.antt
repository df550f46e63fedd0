-- A node's text: what is read from it is a node with this text, and each node is read from its text.
use Rattle.std.proofs.Common.{◌≡◌, ℕ, zero, suc, ◌+◌, ◌*◌, ◌/◌, ◌%◌, ◌^◌, ◌<◌, ◌≤◌, Bool, true, false, cond, ltb, eqb, List, [], ◌∷◌, ◌++◌, map, length, Option, Some, None, Result, Ok, Err, refl, sym, ap, subst, ◌∙◌, append_assoc, arith}
use Rattle.std.specs.Prelude.{is_some, count_by, count_ones, IfOk}
use Rattle.std.specs.List.{AllByRecursion, flat_map}
use Rattle.std.specs.Simd.Lanes.{mask_l}
use Rattle.std.proofs.lemmas.Bool.{ltb-true, leb-true, le-leb, lt-ltb, eqb-true, and_parts}
use Rattle.std.proofs.lemmas.Simd.{ones-mask_l}
use Rattle.std.proofs.lemmas.List.{append-nil, nil_from_length}
use Rattle.std.proofs.Math.Nat.{pow-suc}
use Rattle.nr_bytes.specs.Numbers.{little, IsBytes}
use Rattle.nr_bytes.specs.Writing.{counted_bytes}
use Rattle.nr_bytes.specs.Reading.{Input, end_at}
use Rattle.nr_ids.specs.declared.key.Hash32.{Hash32}
use Rattle.nr_triedef.specs.declared.fault.NodeFault.{NodeFault}
use Rattle.nr_triedef.specs.declared.node.Node.{Node}
use Rattle.nr_triedef.specs.declared.node.Node.TheVariants.{Leaf, Extension, Branch}
use Rattle.nr_triedef.specs.Node.{is_part, nibble_count, links, IsNode, bitmap, child_bytes, children_bytes, node_text}
use Rattle.nr_triedef.specs.Reading.{node_fault, hash_at, part_at, is_enough, is_front, value_at, leaf_at, extension_at, child_at, each_at, children_at, branch_at, valued_at, kind_at, whole_at, node_at, IsChild, IsValue, Fits}
use Rattle.nr_triedef.proofs.Parts.{bitmap_bound}
use Rattle.nr_bytes.specs.Answers.{Gives}
use Rattle.nr_bytes.specs.Fields.{Read, lifted, nat_at, raw_at, blob_at, tested}
use Rattle.nr_bytes.specs.Spelling.{Takes, IsRead, before, behind, HasLength, Below, IsCounted, Passes, in_turn, Both}
use Rattle.nr_bytes.proofs.Steps.{Takes-then, bind_ok, ok_is}
use Rattle.nr_bytes.proofs.Fields.{raw_law, nat_law, blob_law}
use Rattle.nr_bytes.proofs.Values.{mapped_law, tested_law, pair_law}
use Rattle.nr_ids.specs.Keys.{hash_of_bytes, IsHash}
use Rattle.nr_triedef.specs.declared.fault.NodeFault.TheVariants.{BadNode, Memory}

-- ---- fields
abbrev value_bytes : ℕ × Hash32 → List ℕ
value_bytes = in_turn (little 4) (λ (hash : Hash32). hash.0)

hash_law : IsRead hash_at (λ (hash : Hash32). hash.0) IsHash
hash_law = mapped_law hash_of_bytes (λ (hash : Hash32). hash.0) (λ hash. refl) (λ bytes. refl) (raw_at node_fault 32) (λ bytes. bytes) (HasLength 32) (raw_law node_fault 32)

part_law : (form : List ℕ → Bool) → IsRead (part_at form) counted_bytes (Passes IsCounted form)
part_law form = tested_law form BadNode (blob_at node_fault) counted_bytes IsCounted (blob_law node_fault)

value_law : IsRead value_at value_bytes (Both (Below (256 ^ 4)) IsHash)
value_law = pair_law (nat_at node_fault 4) (little 4) (Below (256 ^ 4)) hash_at (λ (hash : Hash32). hash.0) IsHash (nat_law node_fault 4) hash_law

bits_law : (valued : Bool) → IsRead (tested (is_enough valued) BadNode (nat_at node_fault 2)) (little 2) (Passes (Below (256 ^ 2)) (is_enough valued))
bits_law valued = tested_law (is_enough valued) BadNode (nat_at node_fault 2) (little 2) (Below (256 ^ 2)) (nat_law node_fault 2)

-- what is left, at some offset
abbrev Leaves : {X : Type 0} → Read NodeFault X → X → List ℕ → Type 0
Leaves read x rest = (at : ℕ) × (read ≡ Ok (x, record { left = rest; at = at }))

value_again : (value : ℕ × Hash32) (at : ℕ) (rest : List ℕ) → value.0 < 2 ^ 32 → IsHash value.1 → Leaves (value_at (record { left = little 4 value.0 ++ (value.1.0 ++ rest); at = at })) value rest
value_again value at rest few is =
    (at + length (little 4 value.0) + length value.1.0, rw ((nat_law node_fault 4).again value.0 at (value.1.0 ++ rest) few, hash_law.again value.1 (at + length (little 4 value.0)) rest is) refl)

-- ---- children

child_taken : (there : Bool) (s : Input) (p : Option Hash32 × Input) → IsBytes s.left → child_at there s ≡ Ok p → (is_some p.0 ≡ there) × IsChild p.0 × Takes s (child_bytes p.0) p.1
child_taken false s p fits e =
    subst (λ (p : Option Hash32 × Input). (is_some p.0 ≡ false) × IsChild p.0 × Takes s (child_bytes p.0) p.1) (ok_is (None, s) p e)
    (refl, tt, record { left = refl; at = omega arith; bytes = fits })
child_taken true s p fits e =
    let x = bind_ok _ _ p e in
    let one = hash_law.taken s x.0 fits x.1 in
    subst (λ (p : Option Hash32 × Input). (is_some p.0 ≡ true) × IsChild p.0 × Takes s (child_bytes p.0) p.1) (ok_is (Some x.0.0, x.0.1) p x.2) (refl, one.0, one.1)

bitmap-cons : (child : Option Hash32) (children : List (Option Hash32)) → bitmap (child ∷ children) ≡ cond (is_some child) 1 0 + 2 * bitmap children
bitmap-cons None children = omega arith
bitmap-cons (Some hash) children = omega arith

lowest : (n : ℕ) → cond (eqb (n % 2) 1) 1 0 ≡ n % 2
lowest n = digit (n % 2) (omega arith)
  where
    digit : (d : ℕ) → d < 2 → cond (eqb d 1) 1 0 ≡ d
    digit zero lt = refl
    digit (suc zero) lt = refl
    digit (suc (suc d)) lt = absurd (omega arith)

record AreTaken (n bits : ℕ) (s : Input) (p : List (Option Hash32) × Input) : Type 0 where
  pub full : length p.0 ≡ n
  pub bitmap_is : bitmap p.0 ≡ bits
  pub hashes : AllByRecursion IsChild p.0
  pub takes : Takes s (flat_map child_bytes p.0) p.1

each_taken : (n bits : ℕ) (s : Input) (p : List (Option Hash32) × Input) → IsBytes s.left → bits < 2 ^ n → each_at n bits s ≡ Ok p → AreTaken n bits s p
unfolding each_at
each_taken zero bits s p fits low e =
    subst (AreTaken 0 bits s) (ok_is ([], s) p e) (record { full = refl; bitmap_is = omega arith; hashes = tt; takes = record { left = refl; at = omega arith; bytes = fits } })
each_taken (suc n) bits s p fits low e =
    let x = bind_ok _ _ p e in
    let y = bind_ok _ _ p x.2 in
    let one = child_taken (eqb (bits % 2) 1) s x.0 fits x.1 in
    let half : bits / 2 < 2 ^ n = omega (arith, pow-suc 2 n) in
    let others = each_taken n (bits / 2) x.0.1 y.0 one.2.bytes half y.1 in
    let first : cond (is_some x.0.0) 1 0 ≡ bits % 2 = ap (λ b. cond b 1 0) one.0 ∙ lowest bits in
    subst (AreTaken (suc n) bits s) (ok_is (x.0.0 ∷ y.0.0, y.0.1) p y.2)
    (record {
      full = ap suc others.full;
      bitmap_is = omega (arith, bitmap-cons x.0.0 y.0.0, first, others.bitmap_is);
      hashes = (one.1, others.hashes);
      takes = Takes-then s x.0.1 y.0.1 (child_bytes x.0.0) (flat_map child_bytes y.0.0) one.2 others.takes;
    })

each_again : (children : List (Option Hash32)) (at : ℕ) (rest : List ℕ) → AllByRecursion IsChild children → Leaves (each_at (length children) (bitmap children) (record { left = flat_map child_bytes children ++ rest; at = at })) children rest
unfolding each_at
each_again [] at rest all = (at, refl)
each_again (None ∷ children) at rest all =
    let low : 2 * bitmap children % 2 ≡ 0 = omega arith in
    let half : 2 * bitmap children / 2 ≡ bitmap children = omega arith in
    let others = each_again children at rest all.1 in
    (others.0, rw (low, half, others.1) refl)
each_again (Some hash ∷ children) at rest all =
    let low : (1 + 2 * bitmap children) % 2 ≡ 1 = omega arith in
    let half : (1 + 2 * bitmap children) / 2 ≡ bitmap children = omega arith in
    let others = each_again children (at + length hash.0) rest all.1 in
    (others.0, rw (low, half, append_assoc hash.0 (flat_map child_bytes children) rest, hash_law.again hash at (flat_map child_bytes children ++ rest) all.0, others.1) refl)

bitmap-mask : (children : List (Option Hash32)) → bitmap children ≡ mask_l (map is_some children)
bitmap-mask [] = refl
bitmap-mask (None ∷ children) = omega (arith, bitmap-mask children)
bitmap-mask (Some hash ∷ children) = ap (λ n. 1 + 2 * n) (bitmap-mask children)

ones : (children : List (Option Hash32)) → count_ones (bitmap children) ≡ count_by is_some children
ones children = ap count_ones (bitmap-mask children) ∙ ones-mask_l is_some children

two_links : (valued : Bool) (n : ℕ) → cond valued 1 2 ≤ n → 2 ≤ cond valued 1 0 + n
two_links true n le = omega arith
two_links false n le = omega arith

enough_links : (valued : Bool) (n : ℕ) → 2 ≤ cond valued 1 0 + n → cond valued 1 2 ≤ n
enough_links true n le = omega arith
enough_links false n le = omega arith

children_taken : (value : Option (ℕ × Hash32)) (s : Input) (p : List (Option Hash32) × Input) → IsBytes s.left → children_at (is_some value) s ≡ Ok p → (2 ≤ links value p.0) × (length p.0 ≡ 16) × AllByRecursion IsChild p.0 × Takes s (children_bytes p.0) p.1
children_taken value s p fits e =
    let x = bind_ok _ _ p e in
    let one = (bits_law (is_some value)).taken s x.0 fits x.1 in
    let all = each_taken 16 x.0.0 x.0.1 p one.1.bytes one.0.0 x.2 in
    let count : count_ones x.0.0 ≡ count_by is_some p.0 = ap count_ones (sym all.bitmap_is) ∙ ones p.0 in
    let some : cond (is_some value) 1 2 ≤ count_by is_some p.0 = subst (λ n. cond (is_some value) 1 2 ≤ n) count (leb-true _ _ one.0.1) in
    (two_links (is_some value) (count_by is_some p.0) some, all.full, all.hashes, subst (λ n. Takes s (little 2 n ++ flat_map child_bytes p.0) p.1) (sym all.bitmap_is) (Takes-then s x.0.1 p.1 (little 2 x.0.0) (flat_map child_bytes p.0) one.1 all.takes))

-- ---- nodes

-- the text of the node is the kind and what was taken behind it
abbrev IsKind : ℕ → Input → Node × Input → Type 0
IsKind kind s p = IsNode p.0 × Fits p.0 × (kind ∷ s.left ≡ node_text p.0 ++ p.1.left) × IsBytes p.1.left

leaf_text : (part : List ℕ) (value : ℕ × Hash32) (usage : ℕ) → node_text (Leaf part value.0 value.1 usage) ≡ 0 ∷ (counted_bytes part ++ (little 4 value.0 ++ (value.1.0 ++ little 8 usage)))
unfolding node_text
leaf_text part value usage = simp append_assoc

extension_text : (part : List ℕ) (child : Hash32) (usage : ℕ) → node_text (Extension part child usage) ≡ 1 ∷ (counted_bytes part ++ (child.0 ++ little 8 usage))
unfolding node_text
extension_text part child usage = simp append_assoc

plain_text : (children : List (Option Hash32)) (usage : ℕ) → node_text (Branch None children usage) ≡ 2 ∷ (children_bytes children ++ little 8 usage)
unfolding node_text
plain_text children usage = refl

valued_text : (value : ℕ × Hash32) (children : List (Option Hash32)) (usage : ℕ) → node_text (Branch (Some value) children usage) ≡ 3 ∷ (little 4 value.0 ++ (value.1.0 ++ (children_bytes children ++ little 8 usage)))
unfolding node_text
valued_text value children usage = simp append_assoc

-- what was taken, in another grouping of the node's text
as_text : (kind : ℕ) (s r : Input) (node : Node) (body : List ℕ) → node_text node ≡ kind ∷ body → s.left ≡ body ++ r.left → kind ∷ s.left ≡ node_text node ++ r.left
as_text kind s r node body text left = ap (λ (t : List ℕ). kind ∷ t) left ∙ sym (ap (λ (t : List ℕ). t ++ r.left) text)

leaf_is : (s m t r : Input) (part : List ℕ) (value : ℕ × Hash32) (usage : ℕ) → is_part true part ≡ true → Fits (Leaf part value.0 value.1 usage) → Takes s (counted_bytes part) m → Takes m (value_bytes value) t → Takes t (little 8 usage) r → IsKind 0 s (Leaf part value.0 value.1 usage, r)
leaf_is s m t r part value usage form fits one two three =
    let text = Takes-then s m r (counted_bytes part) (value_bytes value ++ little 8 usage) one (Takes-then m t r (value_bytes value) (little 8 usage) two three) in
    let grouped : counted_bytes part ++ (value_bytes value ++ little 8 usage) ≡ counted_bytes part ++ (little 4 value.0 ++ (value.1.0 ++ little 8 usage)) = ap (λ (t : List ℕ). counted_bytes part ++ t) (append_assoc (little 4 value.0) value.1.0 (little 8 usage)) in
    (form, fits, as_text 0 s r (Leaf part value.0 value.1 usage) _ (leaf_text part value usage) (text.left ∙ ap (λ (t : List ℕ). t ++ r.left) grouped), text.bytes)

leaf_taken : (s : Input) (p : Node × Input) → IsBytes s.left → leaf_at s ≡ Ok p → IsKind 0 s p
leaf_taken s p fits e =
    let a = bind_ok _ _ p e in
    let b = bind_ok _ _ p a.2 in
    let u = bind_ok _ _ p b.2 in
    let one = (part_law (is_part true)).taken s a.0 fits a.1 in
    let two = value_law.taken a.0.1 b.0 one.1.bytes b.1 in
    let three = (nat_law node_fault 8).taken b.0.1 u.0 two.1.bytes u.1 in
    subst (IsKind 0 s) (ok_is (Leaf a.0.0 b.0.0.0 b.0.0.1 u.0.0, u.0.1) p u.2)
    (leaf_is s a.0.1 b.0.1 u.0.1 a.0.0 b.0.0 u.0.0 one.0.1 (one.0.0, two.0.0, two.0.1, three.0) one.1 two.1 three.1)

extension_is : (s m t r : Input) (part : List ℕ) (child : Hash32) (usage : ℕ) → is_front part ≡ true → Fits (Extension part child usage) → Takes s (counted_bytes part) m → Takes m child.0 t → Takes t (little 8 usage) r → IsKind 1 s (Extension part child usage, r)
extension_is s m t r part child usage form fits one two three =
    let text = Takes-then s m r (counted_bytes part) (child.0 ++ little 8 usage) one (Takes-then m t r child.0 (little 8 usage) two three) in
    let both = and_parts (is_part false part) (ltb 0 (nibble_count part)) form in
    ((both.0, ltb-true _ _ both.1), fits, as_text 1 s r (Extension part child usage) _ (extension_text part child usage) text.left, text.bytes)

extension_taken : (s : Input) (p : Node × Input) → IsBytes s.left → extension_at s ≡ Ok p → IsKind 1 s p
extension_taken s p fits e =
    let a = bind_ok _ _ p e in
    let b = bind_ok _ _ p a.2 in
    let u = bind_ok _ _ p b.2 in
    let one = (part_law is_front).taken s a.0 fits a.1 in
    let two = hash_law.taken a.0.1 b.0 one.1.bytes b.1 in
    let three = (nat_law node_fault 8).taken b.0.1 u.0 two.1.bytes u.1 in
    subst (IsKind 1 s) (ok_is (Extension a.0.0 b.0.0 u.0.0, u.0.1) p u.2)
    (extension_is s a.0.1 b.0.1 u.0.1 a.0.0 b.0.0 u.0.0 one.0.1 (one.0.0, two.0, three.0) one.1 two.1 three.1)

record IsBranch (value : Option (ℕ × Hash32)) (s : Input) (p : Node × Input) : Type 0 where
  pub children : List (Option Hash32)
  pub usage : ℕ
  pub is : Branch value children usage ≡ p.0
  pub linked : 2 ≤ links value children
  pub fits : Fits (Branch value children usage)
  pub takes : Takes s (children_bytes children ++ little 8 usage) p.1

branch_taken : (value : Option (ℕ × Hash32)) (s : Input) (p : Node × Input) → IsValue value → IsBytes s.left → branch_at value s ≡ Ok p → IsBranch value s p
branch_taken value s p right fits e =
    let a = bind_ok _ _ p e in
    let u = bind_ok _ _ p a.2 in
    let one = children_taken value s a.0 fits a.1 in
    let two = (nat_law node_fault 8).taken a.0.1 u.0 one.3.bytes u.1 in
    subst (IsBranch value s) (ok_is (Branch value a.0.0 u.0.0, u.0.1) p u.2)
    (record { children = a.0.0; usage = u.0.0; is = refl; linked = one.0; fits = (right, one.1, one.2, two.0); takes = Takes-then s a.0.1 u.0.1 (children_bytes a.0.0) (little 8 u.0.0) one.3 two.1 })

plain_is : (s r : Input) (children : List (Option Hash32)) (usage : ℕ) → 2 ≤ links None children → Fits (Branch None children usage) → Takes s (children_bytes children ++ little 8 usage) r → IsKind 2 s (Branch None children usage, r)
plain_is s r children usage linked fits takes = (linked, fits, as_text 2 s r (Branch None children usage) _ (plain_text children usage) takes.left, takes.bytes)

plain_taken : (s : Input) (p : Node × Input) → IsBytes s.left → branch_at None s ≡ Ok p → IsKind 2 s p
plain_taken s p fits e =
    let b = branch_taken None s p tt fits e in
    subst (λ (node : Node). IsKind 2 s (node, p.1)) b.is (plain_is s p.1 b.children b.usage b.linked b.fits b.takes)

valued_is : (s m r : Input) (value : ℕ × Hash32) (children : List (Option Hash32)) (usage : ℕ) → 2 ≤ links (Some value) children → Fits (Branch (Some value) children usage) → Takes s (value_bytes value) m → Takes m (children_bytes children ++ little 8 usage) r → IsKind 3 s (Branch (Some value) children usage, r)
valued_is s m r value children usage linked fits one two =
    let text = Takes-then s m r (value_bytes value) (children_bytes children ++ little 8 usage) one two in
    let grouped : value_bytes value ++ (children_bytes children ++ little 8 usage) ≡ little 4 value.0 ++ (value.1.0 ++ (children_bytes children ++ little 8 usage)) = append_assoc (little 4 value.0) value.1.0 (children_bytes children ++ little 8 usage) in
    (linked, fits, as_text 3 s r (Branch (Some value) children usage) _ (valued_text value children usage) (text.left ∙ ap (λ (t : List ℕ). t ++ r.left) grouped), text.bytes)

valued_taken : (s : Input) (p : Node × Input) → IsBytes s.left → valued_at s ≡ Ok p → IsKind 3 s p
valued_taken s p fits e =
    let a = bind_ok _ _ p e in
    let one = value_law.taken s a.0 fits a.1 in
    let b = branch_taken (Some a.0.0) a.0.1 p (one.0.0, one.0.1) one.1.bytes a.2 in
    subst (λ (node : Node). IsKind 3 s (node, p.1)) b.is (valued_is s a.0.1 p.1 a.0.0 b.children b.usage b.linked b.fits one.1 b.takes)

kind_taken : (at kind : ℕ) (s : Input) (p : Node × Input) → IsBytes s.left → kind_at at kind s ≡ Ok p → IsKind kind s p
kind_taken at zero s p fits e = leaf_taken s p fits e
kind_taken at (suc zero) s p fits e = extension_taken s p fits e
kind_taken at (suc (suc zero)) s p fits e = plain_taken s p fits e
kind_taken at (suc (suc (suc zero))) s p fits e = valued_taken s p fits e
kind_taken at (suc (suc (suc (suc n)))) s p fits e = absurd cc

ended : (s : Input) (u : Unit {0}) → lifted node_fault (end_at s) ≡ Ok u → s.left ≡ []
ended s u e = nil_from_length s.left (eqb-true _ _ (is_end (eqb (length s.left) 0) _ u e))
  where
    is_end : (b : Bool) (f : _) (u : Unit {0}) → lifted node_fault (cond b (Ok tt) (Err f)) ≡ Ok u → b ≡ true
    is_end true f u e = refl
    is_end false f u e = absurd cc

little_one : (n : ℕ) → n < 256 → little 1 n ≡ n ∷ []
unfolding little
little_one n lt = let e : n % 256 ≡ n = omega arith in rw e refl

abbrev read_as : Node → Result Node NodeFault
read_as node = Ok node

read_is : (m n : Node) → read_as m ≡ read_as n → m ≡ n
read_is m n e = cc

-- what is read from a text is a node with this text
pub node_taken : (text : List ℕ) (node : Node) → IsBytes text → node_at text ≡ Ok node → IsNode node × Fits node × (text ≡ node_text node)
unfolding node_at
node_taken text node fits e =
    let s : Input = record { left = text; at = 0 } in
    let a = bind_ok _ _ node e in
    let b = bind_ok _ _ node a.2 in
    let c = bind_ok _ _ node b.2 in
    let one = (nat_law node_fault 1).taken s a.0 fits a.1 in
    let two = kind_taken 0 a.0.0 a.0.1 b.0 one.1.bytes b.1 in
    let first : text ≡ a.0.0 ∷ a.0.1.left = one.1.left ∙ ap (λ (t : List ℕ). t ++ a.0.1.left) (little_one a.0.0 one.0) in
    let nothing = ended b.0.1 c.0 c.1 in
    let whole : text ≡ node_text b.0.0 = first ∙ two.2 ∙ ap (λ (t : List ℕ). node_text b.0.0 ++ t) nothing ∙ append-nil (node_text b.0.0) in
    subst (λ (node : Node). IsNode node × Fits node × (text ≡ node_text node)) (read_is b.0.0 node c.2) (two.0, two.1, whole)

pub is_found : (text : List ℕ) (read : Result Node NodeFault) → IsBytes text → Gives Memory read (node_at text) → IfOk read (λ node. IsNode node × Fits node × (text ≡ node_text node))
is_found text (Ok node) fits given = node_taken text node fits given
is_found text (Err e) fits given = tt

-- ---- and back

usage_again : (usage at : ℕ) → usage < 2 ^ 64 → Leaves (nat_at node_fault 8 (record { left = little 8 usage; at = at })) usage []
usage_again usage at few =
    (at + length (little 8 usage), subst (λ (t : List ℕ). nat_at node_fault 8 (record { left = t; at = at }) ≡ Ok (usage, behind (little 8 usage) at [])) (append-nil (little 8 usage)) ((nat_law node_fault 8).again usage at [] few))

leaf_again : (part : List ℕ) (value : ℕ × Hash32) (usage at : ℕ) → is_part true part ≡ true → Fits (Leaf part value.0 value.1 usage)
    → Leaves (leaf_at (record { left = counted_bytes part ++ (little 4 value.0 ++ (value.1.0 ++ little 8 usage)); at = at })) (Leaf part value.0 value.1 usage) []
leaf_again part value usage at form fits =
    let one = (part_law (is_part true)).again part at (little 4 value.0 ++ (value.1.0 ++ little 8 usage)) (fits.0, form) in
    let two = value_again value (at + length (counted_bytes part)) (little 8 usage) fits.1 fits.2 in
    let three = usage_again usage two.0 fits.3 in
    (three.0, rw (one, two.1, three.1) refl)

extension_again : (part : List ℕ) (child : Hash32) (usage at : ℕ) → is_front part ≡ true → Fits (Extension part child usage)
    → Leaves (extension_at (record { left = counted_bytes part ++ (child.0 ++ little 8 usage); at = at })) (Extension part child usage) []
extension_again part child usage at form fits =
    let one = (part_law is_front).again part at (child.0 ++ little 8 usage) (fits.0, form) in
    let two = hash_law.again child (at + length (counted_bytes part)) (little 8 usage) fits.1 in
    let three = usage_again usage (at + length (counted_bytes part) + length child.0) fits.2 in
    (three.0, rw (one, two, three.1) refl)

children_again : (value : Option (ℕ × Hash32)) (children : List (Option Hash32)) (at : ℕ) (rest : List ℕ) → 2 ≤ links value children → length children ≡ 16 → AllByRecursion IsChild children
    → Leaves (children_at (is_some value) (record { left = little 2 (bitmap children) ++ (flat_map child_bytes children ++ rest); at = at })) children rest
children_again value children at rest linked full all =
    let low : bitmap children < 256 ^ 2 = subst (λ n. bitmap children < 2 ^ n) full (bitmap_bound children) in
    let some : cond (is_some value) 1 2 ≤ count_ones (bitmap children) = subst (λ n. cond (is_some value) 1 2 ≤ n) (sym (ones children)) (enough_links (is_some value) (count_by is_some children) linked) in
    let one = (bits_law (is_some value)).again (bitmap children) at (flat_map child_bytes children ++ rest) (low, le-leb _ _ some) in
    let each = each_again children (at + length (little 2 (bitmap children))) rest all in
    let each16 = subst (λ n. each_at n (bitmap children) (record { left = flat_map child_bytes children ++ rest; at = at + length (little 2 (bitmap children)) }) ≡ Ok (children, record { left = rest; at = each.0 })) full each.1 in
    (each.0, rw (one, each16) refl)

branch_again : (value : Option (ℕ × Hash32)) (children : List (Option Hash32)) (usage at : ℕ) → 2 ≤ links value children → Fits (Branch value children usage)
    → Leaves (branch_at value (record { left = children_bytes children ++ little 8 usage; at = at })) (Branch value children usage) []
branch_again value children usage at linked fits =
    let one = children_again value children at (little 8 usage) linked fits.1 fits.2 in
    let two = usage_again usage one.0 fits.3 in
    let grouped : children_bytes children ++ little 8 usage ≡ little 2 (bitmap children) ++ (flat_map child_bytes children ++ little 8 usage) = append_assoc (little 2 (bitmap children)) (flat_map child_bytes children) (little 8 usage) in
    (two.0, rw (grouped, one.1, two.1) refl)

valued_again : (value : ℕ × Hash32) (children : List (Option Hash32)) (usage at : ℕ) → 2 ≤ links (Some value) children → Fits (Branch (Some value) children usage)
    → Leaves (valued_at (record { left = little 4 value.0 ++ (value.1.0 ++ (children_bytes children ++ little 8 usage)); at = at })) (Branch (Some value) children usage) []
valued_again value children usage at linked fits =
    let one = value_again value at (children_bytes children ++ little 8 usage) fits.0.0 fits.0.1 in
    let two = branch_again (Some value) children usage one.0 linked fits in
    (two.0, rw (one.1, two.1) refl)

whole_again : (kind : ℕ) (body : List ℕ) (node : Node) → kind < 256 → ((at : ℕ) → Leaves (kind_at 0 kind (record { left = body; at = at })) node []) → whole_at (record { left = kind ∷ body; at = 0 }) ≡ Ok node
whole_again kind body node low reads =
    let one : nat_at node_fault 1 (record { left = kind ∷ body; at = 0 }) ≡ Ok (kind, behind (kind ∷ []) 0 body) = subst (λ (t : List ℕ). nat_at node_fault 1 (before t 0 body) ≡ Ok (kind, behind t 0 body)) (little_one kind low) ((nat_law node_fault 1).again kind 0 body low) in
    let two = reads (behind (kind ∷ []) 0 body).at in
    rw (one, two.1) refl

front_is : (part : List ℕ) → is_part false part ≡ true → 0 < nibble_count part → is_front part ≡ true
front_is part form some = rw (form, lt-ltb 0 (nibble_count part) some) refl

-- each node is read from its text
pub node_again : (node : Node) → IsNode node → Fits node → node_at (node_text node) ≡ Ok node
unfolding node_at
node_again (Leaf part size hash usage) is fits = ap node_at (leaf_text part (size, hash) usage) ∙ whole_again 0 _ _ (omega arith) (λ at. leaf_again part (size, hash) usage at is fits)
node_again (Extension part child usage) is fits = ap node_at (extension_text part child usage) ∙ whole_again 1 _ _ (omega arith) (λ at. extension_again part child usage at (front_is part is.0 is.1) fits)
node_again (Branch None children usage) is fits = ap node_at (plain_text children usage) ∙ whole_again 2 _ _ (omega arith) (λ at. branch_again None children usage at is fits)
node_again (Branch (Some value) children usage) is fits = ap node_at (valued_text value children usage) ∙ whole_again 3 _ _ (omega arith) (λ at. valued_again value children usage at is fits)
