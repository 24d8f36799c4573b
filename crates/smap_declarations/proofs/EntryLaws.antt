-- Names in a buffer that grows.
use Rattle.std.proofs.Common.{◌≡◌, ◌+◌, ◌≤◌, ℕ, List, [], ◌∷◌, ◌++◌, length, take, drop, refl, sym, subst, ap, ap₂, ◌∙◌, arith, length-append, length-drop}
use Rattle.std.proofs.lemmas.List.{drop-append-le, map_push, take-append-le}
use Rattle.std.specs.List.{All}
use Rattle.std.proofs.lemmas.List.Elements.{All-cons, All-head, All-push, All-tail}
use Rattle.smap_declarations.specs.Declarations.{Named}
use Rattle.smap_declarations.specs.Private.Entries.{AreEntries, AreWithin, Grows, HasKey, IsWithin, StandsAt, entries_named, entry_named, name_at}
use Rattle.smap_declarations.specs.Private.Keys.{IsKey}
use Rattle.smap_declarations.specs.declared.given.Given.{Given}
use Rattle.smap_declarations.specs.declared.name_list.Entry.{Entry}
use Rattle.smap_declarations.specs.declared.walk.DeclarationPlace.{DeclarationPlace}

name_kept : (old more : List ℕ) (start count : ℕ) → start + count ≤ length old → name_at (old ++ more) start count ≡ name_at old start count
name_kept old more start count within =
    let enough : count ≤ length (drop start old) = omega (arith, length-drop start old) in
    ap (take count) (drop-append-le start old more (omega arith)) ∙ take-append-le count (drop start old) more enough

entry_kept : (old more : List ℕ) (entry : Entry) → IsWithin old entry → entry_named (old ++ more) entry ≡ entry_named old entry
entry_kept old more entry within =
    ap (λ (n : List ℕ). let seen : Named = record { name = n; place = entry.place; until = entry.until; given = entry.given } in seen) (name_kept old more entry.start entry.length within)

entries_kept : (old more : List ℕ) (entries : List Entry) → AreWithin old entries → entries_named (old ++ more) entries ≡ entries_named old entries
entries_kept old more [] within = refl
entries_kept old more (entry ∷ entries) within =
    ap₂ (λ e es. e ∷ es) (entry_kept old more entry (All-head (IsWithin old) entry entries within))
    (entries_kept old more entries (All-tail (IsWithin old) entry entries within))

key_kept : (old more : List ℕ) (entry : Entry) → IsWithin old entry → HasKey old entry → HasKey (old ++ more) entry
key_kept old more entry within has = subst (λ (name : List ℕ). IsKey name entry.key) (sym (name_kept old more entry.start entry.length within)) has

keys_kept : (old more : List ℕ) (entries : List Entry) → AreEntries old entries → All (HasKey (old ++ more)) entries
keys_kept old more [] are = λ i d within. absurd (omega (arith, within))
keys_kept old more (entry ∷ entries) are =
    All-cons (HasKey (old ++ more)) entry entries
    (key_kept old more entry (All-head (IsWithin old) entry entries are.0) (All-head (HasKey old) entry entries are.1))
    (keys_kept old more entries (All-tail (IsWithin old) entry entries are.0, All-tail (HasKey old) entry entries are.1))

-- entries stay those of a buffer that grows
pub entries_stay : (old new : List ℕ) (entries : List Entry) → Grows old new → AreEntries old entries → AreEntries new entries
entries_stay old new entries grown are = (
  λ i d within. omega (arith, are.0 i d within, ap length grown.1, length-append old grown.0),
  subst (λ (names : List ℕ). All (HasKey names) entries) (sym grown.1) (keys_kept old grown.0 entries are),
)

-- one more, of a name that stands in it
pub entries_grow : (old new : List ℕ) (entries more : List Entry) (entry : Entry) (name : List ℕ) → Grows old new → AreEntries old entries
    → IsKey name entry.key → StandsAt new name (entry.start, entry.length) → more ≡ entries ++ entry ∷ [] → AreEntries new more
entries_grow old new entries more entry name grown are key stands is =
    let stay = entries_stay old new entries grown are in
    let own : HasKey new entry = subst (λ (n : List ℕ). IsKey n entry.key) (sym stands.1) key in
    subst (AreEntries new) (sym is) (All-push (IsWithin new) entries entry stay.0 stands.0, All-push (HasKey new) entries entry stay.1 own)

-- one more entry, of a name that stands in the buffer
pub one_more : (old new : List ℕ) (entries more : List Entry) (key start count : ℕ) (name : List ℕ) (place until : DeclarationPlace) (given : Given) → Grows old new → AreEntries old entries
    → name_at new start count ≡ name
    → more ≡ entries ++ (record { key = key; start = start; length = count; place = place; until = until; given = given }) ∷ []
    → entries_named new more ≡ entries_named old entries ++ (record { name = name; place = place; until = until; given = given }) ∷ []
one_more old new entries more key start count name place until given grown are stands is =
    let entry : Entry = record { key = key; start = start; length = count; place = place; until = until; given = given } in
    let as_named : List ℕ → Named = λ n. record { name = n; place = place; until = until; given = given } in
    ap (entries_named new) is
    ∙ map_push (entry_named new) entries entry
    ∙ ap₂ (λ es n. es ++ as_named n ∷ []) (ap (λ bytes. entries_named bytes entries) grown.1 ∙ entries_kept old grown.0 entries are.0) stands
