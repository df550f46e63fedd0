-- Entries that stand behind their accounts, each account's in their order: that their trie keys are apart is seen without a
-- set of keys.
use Rattle.std.proofs.Common.{◌≡◌, ℕ, ◌+◌, Bool, true, false, List, [], ◌∷◌, ◌++◌, length, map, take, Some, None, Ordering, Result, Ok, Err, refl, sym, ap, ◌∙◌, append_assoc}
use Rattle.std.specs.Prelude.{◌&&◌, ◌||◌, ◌==◌, not, if◌then◌else◌}
use Rattle.std.specs.List.{list_any, AllByRecursion}
use Rattle.std.specs.Str.{bytes_eq}
use Rattle.std.specs.Ordering.{is_lt}
use Rattle.std.specs.declared.cmp.Ordering.TheVariants.{Less, Equal, Greater}
use Rattle.std.specs.Cmp.{tied_itself}
use Rattle.std.specs.Cmp.Lexicographic.{nat_list_cmp_total}
use Rattle.std.proofs.Math.Seq.{take-append_seam}
use Rattle.std.proofs.lemmas.Bool.{and_parts, eq-eqb, or_parts}
use Rattle.std.proofs.lemmas.List.{length-append, map-append}
use Rattle.std.proofs.lemmas.List.Folds.{list_any-append}
use Rattle.std.proofs.lemmas.Option.{some_pair_parts}
use Rattle.nr_bytes.specs.Reading.{◌>>=◌}
use Rattle.nr_ids.specs.Grammar.{id_fault}
use Rattle.nr_ids.specs.Keys.{key_bytes}
use Rattle.nr_columns.specs.View.{at_first}
use Rattle.nr_columns.proofs.ReadBack.{id_there, comma_there}
use Rattle.nr_state.specs.Repeats.{has_repeat}
use Rattle.nr_state.specs.World.{bytes_cmp}
use Rattle.nr_state.proofs.ValidOwned.{itself, same_id, turned}
use Rattle.nr_blocks.proofs.Entries.{account_more}
use Rattle.nr_blocks.specs.Apart.{AreValid, all_go_on, are_new, goes_on, in_turn, is_behind, is_new_to, opens}
use Rattle.nr_blocks.specs.Genesis.{is_account, owner, trie_key}
use Rattle.nr_blocks.specs.Judging.{each, each_from, is_first}
use Rattle.nr_blocks.specs.Parts.{is_account_of}
use Rattle.nr_blocks.specs.declared.fault.GenesisFault.{GenesisFault}
use Rattle.nr_blocks.specs.declared.fault.GenesisFault.TheVariants.{Duplicate}
use Rattle.nr_blocks.specs.declared.genesis_entry.GenesisEntry.{GenesisEntry}
use Rattle.nr_blocks.specs.declared.genesis_entry.GenesisEntry.TheVariants as kind

-- ---- tests
pub both : (a b : Bool) → a ≡ true → b ≡ true → (a && b) ≡ true
both a b p q = λ i. p i && q i

not_so : (b : Bool) → not b ≡ true → b ≡ false
not_so true h = absurd (let no : false ≡ true = h in cc)
not_so false h = refl

less : (r : Ordering) → is_lt r ≡ true → r ≡ Less
less Less e = refl
less Equal e = absurd (let no : false ≡ true = e in cc)
less Greater e = absurd (let no : false ≡ true = e in cc)

not_same : (x y : List ℕ) → x ≡ y → bytes_eq x y ≡ false → ⊥
not_same x y e unlike = let t : true ≡ false = sym (itself y) ∙ ap (λ (z : List ℕ). bytes_eq z y) (sym e) ∙ unlike in cc

not_less : (x y : List ℕ) → x ≡ y → bytes_cmp x y ≡ Less → ⊥
not_less x y e h =
    let t : ◌≡◌ {A = Ordering} Equal Less = sym (tied_itself nat_list_cmp_total x) ∙ ap (bytes_cmp x) e ∙ h in
    cc

-- ---- what stands in an entry's trie key beside its owner
abbrev rank : GenesisEntry → List ℕ
rank (kind.Account id account) = []
rank (kind.Code id code) = 1 ∷ []
rank (kind.Key id key access) = 2 ∷ key_bytes key
rank (kind.Datum id key value) = 9 ∷ key

ranked : (b e : GenesisEntry) → is_behind b e ≡ true → bytes_cmp (rank b) (rank e) ≡ Less
ranked b (kind.Account id account) h = absurd (let no : false ≡ true = h in cc)
ranked (kind.Account i account) (kind.Code id code) h = refl
ranked (kind.Code i old) (kind.Code id code) h = absurd (let no : false ≡ true = h in cc)
ranked (kind.Key i old access) (kind.Code id code) h = absurd (let no : false ≡ true = h in cc)
ranked (kind.Datum i old value) (kind.Code id code) h = absurd (let no : false ≡ true = h in cc)
ranked (kind.Account i account) (kind.Key id key access) h = refl
ranked (kind.Code i code) (kind.Key id key access) h = refl
ranked (kind.Key i old other) (kind.Key id key access) h = less (bytes_cmp (key_bytes old) (key_bytes key)) h
ranked (kind.Datum i old value) (kind.Key id key access) h = absurd (let no : false ≡ true = h in cc)
ranked (kind.Account i account) (kind.Datum id key value) h = refl
ranked (kind.Code i code) (kind.Datum id key value) h = refl
ranked (kind.Key i old access) (kind.Datum id key value) h = refl
ranked (kind.Datum i old other) (kind.Datum id key value) h = less (bytes_cmp old key) h

-- ---- entries with one trie key have one owner, and are alike beside it
head_is : (a b : ℕ) (xs ys : List ℕ) → a ∷ xs ≡ b ∷ ys → a ≡ b
head_is a b xs ys e = cc

tail_is : (a b : ℕ) (xs ys : List ℕ) → a ∷ xs ≡ b ∷ ys → xs ≡ ys
tail_is a b xs ys e = cc

other_column : (a b : ℕ) (xs ys : List ℕ) → (a == b) ≡ false → a ∷ xs ≡ b ∷ ys → ⊥
other_column a b xs ys unlike e = let t : true ≡ false = sym (eq-eqb a b (head_is a b xs ys e)) ∙ unlike in cc

abbrev AreAlike : GenesisEntry → GenesisEntry → Type 0
AreAlike b e = (owner b ≡ owner e) × (rank b ≡ rank e)

parted : (mark : ℕ) (i j k l : List ℕ) → at_first mark (i ++ mark ∷ k) ≡ Some (i, k) → at_first mark (j ++ mark ∷ l) ≡ Some (j, l)
    → i ++ mark ∷ k ≡ j ++ mark ∷ l → (i ≡ j) × (k ≡ l)
parted mark i j k l one two e = some_pair_parts i j k l (sym one ∙ ap (at_first mark) e ∙ two)

alike : (b e : GenesisEntry) → id_fault (owner b) ≡ None → id_fault (owner e) ≡ None → trie_key b ≡ trie_key e → AreAlike b e
alike (kind.Account i x) (kind.Account j y) v w h = (tail_is 0 0 i j h, refl)
alike (kind.Account i x) (kind.Code j y) v w h = absurd (other_column 0 1 _ _ refl h)
alike (kind.Account i x) (kind.Key j l y) v w h = absurd (other_column 0 2 _ _ refl h)
alike (kind.Account i x) (kind.Datum j l y) v w h = absurd (other_column 0 9 _ _ refl h)
alike (kind.Code i x) (kind.Account j y) v w h = absurd (other_column 1 0 _ _ refl h)
alike (kind.Code i x) (kind.Code j y) v w h = (tail_is 1 1 i j h, refl)
alike (kind.Code i x) (kind.Key j l y) v w h = absurd (other_column 1 2 _ _ refl h)
alike (kind.Code i x) (kind.Datum j l y) v w h = absurd (other_column 1 9 _ _ refl h)
alike (kind.Key i k x) (kind.Account j y) v w h = absurd (other_column 2 0 _ _ refl h)
alike (kind.Key i k x) (kind.Code j y) v w h = absurd (other_column 2 1 _ _ refl h)
alike (kind.Key i k x) (kind.Key j l y) v w h =
    let two = parted 2 i j (key_bytes k) (key_bytes l) (id_there 2 i (key_bytes k) refl v) (id_there 2 j (key_bytes l) refl w)
    (tail_is 2 2 (i ++ 2 ∷ key_bytes k) (j ++ 2 ∷ key_bytes l) h) in
    (two.0, ap (λ (bytes : List ℕ). 2 ∷ bytes) two.1)
alike (kind.Key i k x) (kind.Datum j l y) v w h = absurd (other_column 2 9 _ _ refl h)
alike (kind.Datum i k x) (kind.Account j y) v w h = absurd (other_column 9 0 _ _ refl h)
alike (kind.Datum i k x) (kind.Code j y) v w h = absurd (other_column 9 1 _ _ refl h)
alike (kind.Datum i k x) (kind.Key j l y) v w h = absurd (other_column 9 2 _ _ refl h)
alike (kind.Datum i k x) (kind.Datum j l y) v w h =
    let two = parted 44 i j k l (comma_there i k v) (comma_there j l w) (tail_is 9 9 (i ++ 44 ∷ k) (j ++ 44 ∷ l) h) in
    (two.0, ap (λ (bytes : List ℕ). 9 ∷ bytes) two.1)

-- ---- an owner that is none of the accounts behind an entry, and not its own, owns nothing there
owner_on : (b e : GenesisEntry) (q : List ℕ) → goes_on b e ≡ true → bytes_eq (owner b) q ≡ false → is_account_of q e ≡ false
    → bytes_eq (owner e) q ≡ false
owner_on b (kind.Account id account) q g unlike gone = gone
owner_on b (kind.Code id code) q g unlike gone =
    let two = and_parts (bytes_eq (owner b) id) (is_behind b (kind.Code id code)) g in
    ap (λ (o : List ℕ). bytes_eq o q) (sym (same_id (owner b) id two.0)) ∙ unlike
owner_on b (kind.Key id key access) q g unlike gone =
    let two = and_parts (bytes_eq (owner b) id) (is_behind b (kind.Key id key access)) g in
    ap (λ (o : List ℕ). bytes_eq o q) (sym (same_id (owner b) id two.0)) ∙ unlike
owner_on b (kind.Datum id key value) q g unlike gone =
    let two = and_parts (bytes_eq (owner b) id) (is_behind b (kind.Datum id key value)) g in
    ap (λ (o : List ℕ). bytes_eq o q) (sym (same_id (owner b) id two.0)) ∙ unlike

others : (b : GenesisEntry) (es : List GenesisEntry) (q : List ℕ) → all_go_on (b ∷ es) ≡ true → bytes_eq (owner b) q ≡ false → is_account es q ≡ false
    → AllByRecursion (λ e. bytes_eq (owner e) q ≡ false) es
others b [] q go unlike gone = tt
others b (e ∷ es) q go unlike gone =
    let two = and_parts (goes_on b e) (all_go_on (e ∷ es)) go in
    let parts = or_parts (is_account_of q e) (is_account es q) (account_more e es q ∙ gone) in
    let here : bytes_eq (owner e) q ≡ false = owner_on b e q two.0 unlike parts.0 in
    (here, others e es q two.1 here parts.1)

-- ---- what an entry's owner has behind it stands above it
abbrev IsAbove : GenesisEntry → GenesisEntry → Type 0
IsAbove b e = owner e ≡ owner b → bytes_cmp (rank b) (rank e) ≡ Less

not_its : (b : GenesisEntry) (es : List GenesisEntry) → AllByRecursion (λ e. bytes_eq (owner e) (owner b) ≡ false) es → AllByRecursion (IsAbove b) es
not_its b [] all = tt
not_its b (e ∷ es) all = (λ same. absurd (not_same (owner e) (owner b) same all.0), not_its b es all.1)

farther : (b n : GenesisEntry) (es : List GenesisEntry) → owner b ≡ owner n → bytes_cmp (rank b) (rank n) ≡ Less → AllByRecursion (IsAbove n) es
    → AllByRecursion (IsAbove b) es
farther b n [] own h all = tt
farther b n (e ∷ es) own h all =
    (λ same. nat_list_cmp_total.trans (rank b) (rank n) (rank e) h (all.0 (same ∙ own)), farther b n es own h all.1)

one_more : (b n : GenesisEntry) (es : List GenesisEntry) → owner b ≡ owner n → is_behind b n ≡ true → AllByRecursion (IsAbove n) es
    → AllByRecursion (IsAbove b) (n ∷ es)
one_more b n es own h all = (λ same. ranked b n h, farther b n es own (ranked b n h) all)

above : (b : GenesisEntry) (es : List GenesisEntry) → all_go_on (b ∷ es) ≡ true → is_account es (owner b) ≡ false → AllByRecursion (IsAbove b) es
above b [] go gone = tt
above b (kind.Account id account ∷ es) go gone =
    let n : GenesisEntry = kind.Account id account in
    let two = and_parts (goes_on b n) (all_go_on (n ∷ es)) go in
    let parts = or_parts (bytes_eq id (owner b)) (is_account es (owner b)) gone in
    (λ same. absurd (not_same id (owner b) same parts.0), not_its b es (others n es (owner b) two.1 parts.0 parts.1))
above b (kind.Code id code ∷ es) go gone =
    let n : GenesisEntry = kind.Code id code in
    let two = and_parts (goes_on b n) (all_go_on (n ∷ es)) go in
    let on = and_parts (bytes_eq (owner b) id) (is_behind b n) two.0 in
    let own : owner b ≡ id = same_id (owner b) id on.0 in
    one_more b n es own on.1 (above n es two.1 (ap (is_account es) (sym own) ∙ gone))
above b (kind.Key id key access ∷ es) go gone =
    let n : GenesisEntry = kind.Key id key access in
    let two = and_parts (goes_on b n) (all_go_on (n ∷ es)) go in
    let on = and_parts (bytes_eq (owner b) id) (is_behind b n) two.0 in
    let own : owner b ≡ id = same_id (owner b) id on.0 in
    one_more b n es own on.1 (above n es two.1 (ap (is_account es) (sym own) ∙ gone))
above b (kind.Datum id key value ∷ es) go gone =
    let n : GenesisEntry = kind.Datum id key value in
    let two = and_parts (goes_on b n) (all_go_on (n ∷ es)) go in
    let on = and_parts (bytes_eq (owner b) id) (is_behind b n) two.0 in
    let own : owner b ≡ id = same_id (owner b) id on.0 in
    one_more b n es own on.1 (above n es two.1 (ap (is_account es) (sym own) ∙ gone))

-- ---- no trie key stands twice
other_key : (b e : GenesisEntry) → id_fault (owner b) ≡ None → id_fault (owner e) ≡ None → IsAbove b e → bytes_eq (trie_key b) (trie_key e) ≡ false
other_key b e v w over = by (bytes_eq (trie_key b) (trie_key e)) refl
  where
    by : (t : Bool) → bytes_eq (trie_key b) (trie_key e) ≡ t → t ≡ false
    by true h =
        let same = alike b e v w (same_id (trie_key b) (trie_key e) h) in
        absurd (not_less (rank b) (rank e) same.1 (over (sym same.0)))
    by false h = refl

none_alike : (b : GenesisEntry) (es : List GenesisEntry) → id_fault (owner b) ≡ None → AreValid es → AllByRecursion (IsAbove b) es
    → list_any (bytes_eq (trie_key b)) (map trie_key es) ≡ false
none_alike b [] v valid over = refl
none_alike b (e ∷ es) v valid over =
    let here = other_key b e v valid.0 over.0 in
    let later = none_alike b es v valid.1 over.1 in
    λ i. here i || later i

gone_on : (b n : GenesisEntry) (es : List GenesisEntry) → goes_on b n ≡ true → is_new_to (is_account es) n ≡ true → is_account (n ∷ es) (owner b) ≡ false
    → is_account es (owner n) ≡ false
gone_on b (kind.Account id account) es g new gone = not_so (is_account es id) new
gone_on b (kind.Code id code) es g new gone =
    let on = and_parts (bytes_eq (owner b) id) (is_behind b (kind.Code id code)) g in
    ap (is_account es) (sym (same_id (owner b) id on.0)) ∙ gone
gone_on b (kind.Key id key access) es g new gone =
    let on = and_parts (bytes_eq (owner b) id) (is_behind b (kind.Key id key access)) g in
    ap (is_account es) (sym (same_id (owner b) id on.0)) ∙ gone
gone_on b (kind.Datum id key value) es g new gone =
    let on = and_parts (bytes_eq (owner b) id) (is_behind b (kind.Datum id key value)) g in
    ap (is_account es) (sym (same_id (owner b) id on.0)) ∙ gone

none_twice : (b : GenesisEntry) (es : List GenesisEntry) → AreValid (b ∷ es) → all_go_on (b ∷ es) ≡ true → are_new es ≡ true → is_account es (owner b) ≡ false
    → has_repeat (map trie_key (b ∷ es)) ≡ false
none_twice b [] valid go new gone = refl
none_twice b (n ∷ es) valid go new gone =
    let two = and_parts (goes_on b n) (all_go_on (n ∷ es)) go in
    let news = and_parts (is_new_to (is_account es) n) (are_new es) new in
    let here : list_any (bytes_eq (trie_key b)) (map trie_key (n ∷ es)) ≡ false =
    none_alike b (n ∷ es) valid.0 valid.1 (above b (n ∷ es) go gone) in
    let later : has_repeat (map trie_key (n ∷ es)) ≡ false =
    none_twice n es valid.1 two.1 news.1 (gone_on b n es two.0 news.0 gone) in
    λ i. here i || later i

gone_first : (e : GenesisEntry) (es : List GenesisEntry) → opens e ≡ true → is_new_to (is_account es) e ≡ true → is_account es (owner e) ≡ false
gone_first (kind.Account id account) es o new = not_so (is_account es id) new
gone_first (kind.Code id code) es o new = absurd (let no : false ≡ true = o in cc)
gone_first (kind.Key id key access) es o new = absurd (let no : false ≡ true = o in cc)
gone_first (kind.Datum id key value) es o new = absurd (let no : false ≡ true = o in cc)

no_repeat : (es : List GenesisEntry) → in_turn es ≡ true → AreValid es → are_new es ≡ true → has_repeat (map trie_key es) ≡ false
no_repeat [] turn valid new = refl
no_repeat (e ∷ es) turn valid new =
    let two = and_parts (opens e) (all_go_on (e ∷ es)) turn in
    let news = and_parts (is_new_to (is_account es) e) (are_new es) new in
    none_twice e es valid two.1 news.1 (gone_first e es two.0 news.0)

-- ---- then each entry is the first with its trie key
abbrev IsNew : List GenesisEntry → GenesisEntry → Type 0
IsNew before e = list_any (bytes_eq (trie_key e)) (map trie_key before) ≡ false

new_behind : (before : List GenesisEntry) (x e : GenesisEntry) → IsNew before e → bytes_eq (trie_key x) (trie_key e) ≡ false → IsNew (before ++ x ∷ []) e
new_behind before x e new unlike =
    let other : bytes_eq (trie_key e) (trie_key x) ≡ false = turned (trie_key e) (trie_key x) ∙ unlike in
    ap (list_any (bytes_eq (trie_key e))) (map-append trie_key before (x ∷ []))
    ∙ list_any-append (bytes_eq (trie_key e)) (map trie_key before) (trie_key x ∷ [])
    ∙ (λ i. new i || (other i || false))

all_new : (before : List GenesisEntry) (x : GenesisEntry) (es : List GenesisEntry) → AllByRecursion (IsNew before) es
    → list_any (bytes_eq (trie_key x)) (map trie_key es) ≡ false → AllByRecursion (IsNew (before ++ x ∷ [])) es
all_new before x [] new none = tt
all_new before x (e ∷ es) new none =
    let two = or_parts (bytes_eq (trie_key x) (trie_key e)) (list_any (bytes_eq (trie_key x)) (map trie_key es)) none in
    (new_behind before x e new.0 two.0, all_new before x es new.1 two.1)

none_before : (es : List GenesisEntry) → AllByRecursion (IsNew []) es
none_before [] = tt
none_before (e ∷ es) = (refl, none_before es)

abbrev answer : ℕ → Bool → Result (Unit {0}) GenesisFault
answer n has = if has then Err (Duplicate n) else Ok tt

pass_from : (all before es : List GenesisEntry) → all ≡ before ++ es → AllByRecursion (IsNew before) es → has_repeat (map trie_key es) ≡ false
    → each_from (is_first all) (length before) es ≡ Ok tt
unfolding each_from
pass_from all before [] whole new apart = refl
pass_from all before (x ∷ es) whole new apart =
    let n : ℕ = length before in
    let front : take n all ≡ before = ap (take n) whole ∙ take-append_seam before (x ∷ es) in
    let fresh : list_any (bytes_eq (trie_key x)) (map trie_key (take n all)) ≡ false =
    ap (λ (l : List GenesisEntry). list_any (bytes_eq (trie_key x)) (map trie_key l)) front ∙ new.0 in
    let two = or_parts (list_any (bytes_eq (trie_key x)) (map trie_key es)) (has_repeat (map trie_key es)) apart in
    let later = pass_from all (before ++ x ∷ []) es (whole ∙ sym (append_assoc before (x ∷ []) es)) (all_new before x es new.1 two.0) two.1 in
    ap (λ (t : Bool). answer n t >>= λ (u : Unit {0}). each_from (is_first all) (n + 1) es) fresh
    ∙ ap (λ (m : ℕ). each_from (is_first all) m es) (sym (length-append before (x ∷ [])))
    ∙ later

pub firsts_pass : (es : List GenesisEntry) → in_turn es ≡ true → (AreValid es × (are_new es ≡ true)) → each (is_first es) es ≡ Ok tt
firsts_pass es turn told = pass_from es [] es refl (none_before es) (no_repeat es turn told.0 told.1)

-- ---- an account's id among those of others
pub new_alike : (f g : List ℕ → Bool) (e : GenesisEntry) → ((q : List ℕ) → f q ≡ g q) → is_new_to f e ≡ is_new_to g e
new_alike f g (kind.Account id account) h = ap not (h id)
new_alike f g (kind.Code id code) h = refl
new_alike f g (kind.Key id key access) h = refl
new_alike f g (kind.Datum id key value) h = refl
