-- A section's sources, one after another.
use Rattle.std.proofs.Common.{◌≡◌, ℕ, suc, zero, ◌+◌, Bool, option_map, string_bytes, String, Global, List, [], ◌∷◌, ◌++◌, length, drop, map, Option}
use Rattle.std.proofs.Common.{refl, sym, ap, ◌∙◌, arith}
use Rattle.std.specs.List.{enumerate_from, sum_by}
use Rattle.std.specs.Prelude.{false, flat_map, slice_get, unwrap_or}
use Rattle.std.proofs.lemmas.List.Sums.{sum_by-cons}
use Rattle.std.proofs.lemmas.List.{map-append, length-append, length-map}
use Rattle.std.specs.Option.{option_flatten}
use Rattle.std.proofs.lemmas.List.FromFn.{length-enumerate_from}
use Rattle.std.proofs.lemmas.Option.{slice_get-map}
use Rattle.url.specs.Parts.{Parts}
use Rattle.smap_resolve.specs.SourceName.{Name, source_name}
use Rattle.smap_record.specs.Sources.{StatedSource, StatedSources, source_at, source_of, sources_with, sources_stated, with_name, with_name_at}
use Rattle.smap_record.specs.declared.entry.SourceEntry.{SourceEntry}
use Rattle.smap_resolve.specs.SourceName.{name_of}
use Rattle.smap_resolve.specs.declared.source_name.SourceName.{SourceName}
use Rattle.std.proofs.Common.{Some, ◌≤◌, slice_set, get_or}
use Rattle.smap_record.specs.Private.Seen.{texts_seen, sources_seen}
use Rattle.smap_record.specs.declared.section.SectionSources.{SectionSources}

pub enumerate_push : {A : Type 0} (n : ℕ) (xs : List A) (x : A) → enumerate_from n (xs ++ x ∷ []) ≡ enumerate_from n xs ++ (length xs + n, x) ∷ []
enumerate_push n [] x = ap (λ i. (i, x) ∷ []) (omega arith)
enumerate_push n (y ∷ xs) x = ap (λ rest. (n, y) ∷ rest) (enumerate_push (n + 1) xs x ∙ ap (λ i. enumerate_from (n + 1) xs ++ (i, x) ∷ []) (omega arith))

-- one source more
pub sources_push : (base : Option Parts) (stated : StatedSources) (texts : List (Option (List ℕ))) (text : Option (List ℕ))
    → sources_with base stated (texts ++ text ∷ []) ≡ sources_with base stated texts ++ source_at base stated (length texts) text ∷ []
sources_push base stated texts text =
    ap (map (λ at. source_at base stated at.0 at.1)) (enumerate_push 0 texts text)
    ∙ map-append (λ at. source_at base stated at.0 at.1) (enumerate_from 0 texts) ((length texts + 0, text) ∷ [])
    ∙ ap (λ i. sources_with base stated texts ++ source_at base stated i text ∷ []) (omega arith)

-- the first of those from i on is element i
pub first_from : {A : Type 0} (xs : List A) (i : ℕ) → slice_get (drop i xs) 0 ≡ slice_get xs i
first_from [] zero = refl
first_from [] (suc i) = refl
first_from (x ∷ xs) zero = refl
first_from (x ∷ xs) (suc i) = first_from xs i

-- the next content is the one at this place
pub content_at : (rest contents : List (Option (String Global))) (i : ℕ) → rest ≡ drop i contents
    → option_flatten (slice_get (texts_seen rest) 0) ≡ option_flatten (slice_get (texts_seen contents) i)
content_at rest contents i is =
    ap option_flatten (slice_get-map (option_map string_bytes) rest 0 ∙ ap (λ texts. option_map (option_map string_bytes) (slice_get texts 0)) is
    ∙ ap (option_map (option_map string_bytes)) (first_from contents i) ∙ sym (slice_get-map (option_map string_bytes) contents i))

-- the next flag is the one at this place
pub flag_at : (rest flags : List Bool) (i : ℕ) → rest ≡ drop i flags → unwrap_or (slice_get rest 0) false ≡ unwrap_or (slice_get flags i) false
flag_at rest flags i is = ap (λ found. unwrap_or (slice_get found 0) false) is ∙ ap (λ found. unwrap_or found false) (first_from flags i)

same_source : {name name' : Option Name} {content content' : Option (List ℕ)} {ignored ignored' : Bool} → name ≡ name' → content ≡ content' → ignored ≡ ignored'
    → ◌≡◌ {A = StatedSource} (record { name = name; content = content; ignored = ignored }) (record { name = name'; content = content'; ignored = ignored' })
same_source name_is content_is ignored_is = rw (name_is, content_is, ignored_is) refl

-- a source from its parts
pub at_place : (base : Option Parts) (stated : StatedSources) (i : ℕ) (text content : Option (List ℕ)) (name : Option Name) (flag : Bool)
    → name ≡ option_map (λ t. source_name stated.root t base) text → content ≡ option_flatten (slice_get stated.contents i)
    → flag ≡ unwrap_or (slice_get stated.ignored i) false
    → record { name = name; content = content; ignored = flag } ≡ source_at base stated i text
at_place base stated i text content name flag name_is content_is flag_is = same_source name_is content_is flag_is

-- ---- the sources of all sections

-- a source for each text
length-sources_stated : (base : Option Parts) (sources : SectionSources) → length (sources_stated base (sources_seen sources)) ≡ length sources.texts.items
length-sources_stated base sources =
    length-map (enumerate_from 0 (texts_seen sources.texts.items)) (λ at. source_at base (sources_seen sources) at.0 at.1)
    ∙ length-enumerate_from 0 (texts_seen sources.texts.items) ∙ length-map sources.texts.items (option_map string_bytes)

pub length-all_sources : (base : Option Parts) (all : List SectionSources)
    → length (flat_map (sources_stated base) (map sources_seen all)) ≡ sum_by (λ (s : SectionSources). length s.texts.items) all
length-all_sources base [] = refl
length-all_sources base (sources ∷ all) =
    length-append (sources_stated base (sources_seen sources)) (flat_map (sources_stated base) (map sources_seen all))
    ∙ ap (λ n. n + length (flat_map (sources_stated base) (map sources_seen all))) (length-sources_stated base sources)
    ∙ ap (λ n. length sources.texts.items + n) (length-all_sources base all)
    ∙ sym (sum_by-cons (λ (s : SectionSources). length s.texts.items) sources all)

-- an entry that has another name stands for the source with that name
pub one_named : (l : List SourceEntry) (i : ℕ) (e : SourceEntry) (n : SourceName) → e ≡ get_or l i e
    → map source_of (slice_set l i (record { name = Some n; content = e.content; ignored = e.ignored })) ≡ with_name_at (map source_of l) i (name_of n)
unfolding with_name_at
one_named [] zero e n is = refl
one_named [] (suc i) e n is = refl
one_named (x ∷ l) zero e n is = ap (λ y. with_name (name_of n) (source_of y) ∷ map source_of l) is
one_named (x ∷ l) (suc i) e n is = ap (λ rest. source_of x ∷ rest) (one_named l i e n is)

-- past the end no source is named
pub none_named : (l : List StatedSource) (i : ℕ) (n : Name) → length l ≤ i → with_name_at l i n ≡ l
unfolding with_name_at
none_named [] i n past = refl
none_named (x ∷ l) zero n past = absurd (omega (arith, past))
none_named (x ∷ l) (suc i) n past = ap (λ rest. x ∷ rest) (none_named l i n (omega (arith, past)))
