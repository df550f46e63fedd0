-- How a plain store keeps its contents: slots with or without a value, and a log of what each change found. This
-- project's own.
use Rattle.std.specs.Prelude.{ℕ, zero, suc, ◌≡◌, ◌≤◌, List, [], ◌∷◌, Option, Some, None, drop, Vec, IsSome, IsNone}
use Rattle.std.specs.Prelude.{slice_index, unwrap_or}
use Rattle.std.specs.Option.{option_map}
use Rattle.std.specs.List.{AllByRecursion}
use Rattle.std.specs.FinMap.{empty, insert, remove}
use Rattle.std.specs.Ordering.{nat_cmp}
use Rattle.std.specs.Cmp.Lexicographic.{slice_cmp}
use Rattle.std.specs.Map.{lookup}
use Rattle.std.specs.BTreeMap.{is_at}
use Rattle.std.specs.declared.alloc.Global.{Global}
use Rattle.nr_triedef.specs.Root.{Contents}
use Rattle.nr_store.specs.declared.slots.Undo.{Undo}

abbrev pub Text : Type 0
Text = Vec ℕ Global

abbrev pub text_of : Option Text → Option (List ℕ)
text_of o = option_map (λ v. v.items) o

-- the slots, by the bytes of their keys
abbrev pub keyed : List (Text × Option Text) → List (List ℕ × Option (List ℕ))
keyed [] = []
keyed (e ∷ es) = (e.0.items, text_of e.1) ∷ keyed es

-- with this value at the key, or with none
abbrev pub put_back : Contents → List ℕ → Option (List ℕ) → Contents
put_back m k None = remove m k
put_back m k (Some v) = insert m k v

-- what the slots hold
abbrev pub held : List (List ℕ × Option (List ℕ)) → Contents
held [] = empty
held (e ∷ es) = put_back (held es) e.0 e.1

abbrev pub held_in : List (Text × Option Text) → Contents
held_in es = held (keyed es)

-- the entries of the slots that have a value
abbrev pub filled : List (List ℕ × Option (List ℕ)) → List (List ℕ × List ℕ)
filled [] = []
filled ((k, None) ∷ es) = filled es
filled ((k, Some v) ∷ es) = (k, v) ∷ filled es

-- what a key's slot holds, where it has one
abbrev pub slot_at : List (Text × Option Text) → List ℕ → Option (Option (List ℕ))
slot_at es q = lookup (is_at (slice_cmp nat_cmp q)) (keyed es)

abbrev pub HasSlot : List (Text × Option Text) → List ℕ → Type 0
HasSlot es q = IsSome (slot_at es q)

-- the value that a change found
abbrev pub value_before : Undo → Option (List ℕ)
value_before u = text_of (unwrap_or u.before None)

-- the contents before the changes of the log, whose last is the newest
abbrev pub rewound : Contents → List Undo → Contents
rewound m [] = m
rewound m (u ∷ us) = put_back (rewound m us) u.key.items (value_before u)

-- a change that found a slot has one still
abbrev pub NeedsSlot : List (Text × Option Text) → Undo → Type 0
NeedsSlot es u = IsSome u.before → HasSlot es u.key.items

abbrev pub HaveSlots : List (Text × Option Text) → List Undo → Type 0
HaveSlots es us = AllByRecursion (NeedsSlot es) us

-- where the later change u found no slot, the earlier one v had none at that key
abbrev pub IsApart : Undo → Undo → Type 0
IsApart u v = IsNone u.before → IsSome v.before → v.key.items ≡ u.key.items → ⊥

-- each change is apart from the later ones
abbrev pub AreApart : List Undo → Type 0
AreApart [] = Unit {0}
AreApart (v ∷ us) = AllByRecursion (λ u. IsApart u v) us × AreApart us

-- what the first n checkpoints saw, the newest first
abbrev pub seen : Contents → List Undo → List ℕ → ℕ → List Contents
seen m log starts zero = []
seen m log starts (suc n) = rewound m (drop (slice_index starts n) log) ∷ seen m log starts n

-- the first n checkpoints begin in order, none after the end
abbrev pub InOrder : List ℕ → ℕ → ℕ → Type 0
InOrder starts zero end = Unit {0}
InOrder starts (suc n) end = (slice_index starts n ≤ end) × InOrder starts n (slice_index starts n)
