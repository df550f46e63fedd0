-- What the tokens of a JSON text (RFC 8259) are read as, from their front. This project's own.
use Rattle.std.specs.Prelude.{◌≡◌, ◌≢◌, ℕ, List, length, map, Some, option_map, Ok, codes}
use Rattle.json.specs.Json as json
use Rattle.json.specs.Json.{items, value}
use Rattle.json.specs.Token.{Token}
use Rattle.serde_json.specs.Data.{Data, Members}
use Rattle.serde_json.specs.Find.{get_member}
use Rattle.serde_json.specs.Read.{of_items, of_json}
use Rattle.serde_json.specs.View.{items_of}
use Rattle.nr_json.specs.Faults.{Read}
use Rattle.nr_json.specs.Genesis.{entry_of}
use Rattle.nr_json.specs.Keys.{id_of}
use Rattle.nr_json.specs.Lists.{list_of}
use Rattle.nr_jsonstream.specs.declared.genesis.Found.{Found}
use Rattle.nr_jsonstream.specs.declared.genesis.Member.{Member}
use Rattle.nr_jsonstream.specs.declared.genesis.Member.TheVariants.{Boundaries, Entries, Other}

-- the first value, with what is left behind it, stands for x
abbrev pub IsRead : {X : Type 0} → (Data → Read X) → ℕ → List Token → List Token → X → Type 0
IsRead reading depth old left x =
    (j : json.Json) × (d : Data) × (value depth old ≡ Some (j, left)) × (of_json j ≡ Some d) × (reading d ≡ Ok x)

-- the values up to the end of the list stand for xs
abbrev pub AreRead : {X : Type 0} → (Data → Read X) → ℕ → List Token → List Token → List X → Type 0
AreRead reading depth old left xs =
    (js : json.Items) × (ds : List Data) × (items (value depth) (length old) old ≡ Some (js, left))
    × (of_items js ≡ Some (items_of ds)) × (map reading ds ≡ map Ok xs)

-- what a member of this name is for
abbrev pub IsNamed : Member → List ℕ → Type 0
IsNamed Boundaries name = name ≡ codes "boundaries"
IsNamed Entries name = name ≡ codes "entries"
IsNamed Other name = (name ≢ codes "boundaries") × (name ≢ codes "entries")

-- of the members of a genesis these have what was found, and no others
abbrev pub Holds : Found → Members → Type 0
Holds found ms =
    (option_map (list_of id_of) (get_member (codes "boundaries") ms) ≡ option_map Ok found.boundaries)
    × (option_map (list_of entry_of) (get_member (codes "entries") ms) ≡ option_map Ok found.entries)
