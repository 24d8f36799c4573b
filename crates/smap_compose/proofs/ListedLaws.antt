-- The sources and names of several maps, one map after another.
use Rattle.std.proofs.Common.{◌≡◌, ℕ, suc, ◌+◌, ◌≤◌, ◌<◌, List, [], ◌∷◌, ◌++◌, drop, get_or, length, map, flat_map, Option, Some, None, refl, sym, ap, ◌∙◌, arith}
use Rattle.std.specs.Borrow.{Bor}
use Rattle.std.specs.Prelude.{option_map, slice_get}
use Rattle.std.specs.List.{sum_by}
use Rattle.std.proofs.lemmas.List.{length-append, length-map}
use Rattle.std.proofs.lemmas.List.Sums.{sum_by-cons}
use Rattle.std.proofs.Math.Seq.{drop-cons}
use Rattle.smap_mappings.specs.Laws.Lists.{drop_next}
use Rattle.smap_resolve.specs.SourceName.{Name}
use Rattle.smap_resolve.specs.SourceName.Name.{resolved, kept}
use Rattle.smap_record.specs.MapFile.{Map}
use Rattle.smap_record.specs.Record.{MapRecord}
use Rattle.smap_record.specs.Sources.{StatedSource}
use Rattle.smap_compose.specs.Composition.{inner_lists, mappings_of_map, names_within, source_from, sources_below, sources_within}
use Rattle.smap_compose.specs.FollowAll.{inner_names, inner_sources}
use Rattle.smap_resolve.specs.InnerNames.{name_from_outer}
use Rattle.smap_compose.specs.Inners.{stated_inners}

-- ---- names that stay

name_stays : (name : Option Name) → option_map (name_from_outer None) name ≡ name
name_stays None = refl
name_stays (Some (resolved url)) = refl
name_stays (Some (kept text)) = refl

-- where there is no outer source, sources are called as they are
pub called_alike : (sources : List StatedSource) → map (source_from None) sources ≡ sources
called_alike [] = refl
called_alike (source ∷ sources) =
    ap (λ name. record source { name = name } ∷ map (source_from None) sources) (name_stays source.name)
    ∙ ap (λ l. source ∷ l) (called_alike sources)

-- ---- counted

pub none_within : (sources : List StatedSource) → sources_within sources [] ≡ []
none_within [] = refl
none_within (source ∷ sources) = refl

one_counted : (source : StatedSource) (inner : Option MapRecord) (inners : List (Option MapRecord)) (rest : List StatedSource)
    → length rest ≡ sum_by inner_sources (inner_lists inners)
    → length (sources_below source inner ++ rest) ≡ sum_by inner_sources (inner_lists (inner ∷ inners))
one_counted source None inners rest many =
    let more = sum_by-cons inner_sources None (inner_lists inners) in omega (arith, many, more)
one_counted source (Some inner) inners rest many =
    let all = sum_by-cons inner_sources (Some (mappings_of_map inner)) (inner_lists inners) in
    length-append (map (source_from source.name) inner.sources) rest
    ∙ ap (λ n. n + length rest) (length-map inner.sources (source_from source.name))
    ∙ ap (λ n. length inner.sources + n) many ∙ sym all

pub sources_counted : (sources : List StatedSource) (inners : List (Option MapRecord)) → length inners ≤ length sources
    → length (sources_within sources inners) ≡ sum_by inner_sources (inner_lists inners)
sources_counted [] [] few = refl
sources_counted [] (inner ∷ inners) few = absurd (omega arith)
sources_counted (source ∷ sources) [] few = refl
sources_counted (source ∷ sources) (inner ∷ inners) few =
    one_counted source inner inners (sources_within sources inners) (sources_counted sources inners (omega arith))

pub names_counted : (inners : List (Option MapRecord)) → length (flat_map names_within inners) ≡ sum_by inner_names (inner_lists inners)
names_counted [] = refl
names_counted (None ∷ inners) =
    let more = sum_by-cons inner_names None (inner_lists inners) in omega (arith, names_counted inners, more)
names_counted (Some inner ∷ inners) =
    let all = sum_by-cons inner_names (Some (mappings_of_map inner)) (inner_lists inners) in
    length-append inner.names (flat_map names_within inners) ∙ ap (λ n. length inner.names + n) (names_counted inners) ∙ sym all

-- as many entries as these
pub entries_counted : {A B : Type 0} (f : A → B) (items : List A) (first second : List B) → map f items ≡ first ++ second
    → length items ≡ length first + length second
entries_counted f items first second are = sym (length-map items f) ∙ ap length are ∙ length-append first second

-- ---- one map further

pub one_within : (sources : List StatedSource) (inners : List (Option (Bor Map))) (i : ℕ) (source : StatedSource) (inner : Option (Bor Map))
    → i < length inners → slice_get sources i ≡ Some source → inner ≡ get_or inners i inner
    → sources_within (drop i sources) (stated_inners (drop i inners))
    ≡ sources_below source (option_map (λ inner. inner.now.stated) inner)
    ++ sources_within (drop (i + 1) sources) (stated_inners (drop (i + 1) inners))
one_within sources inners i source inner inside there is =
    let next : suc i ≡ i + 1 = omega arith in
    ap (λ l. sources_within l (stated_inners (drop i inners))) (drop_next sources i source there)
    ∙ ap (λ l. sources_within (source ∷ drop (i + 1) sources) (stated_inners l))
    (drop-cons inners i inner inside ∙ ap (λ x. x ∷ drop (suc i) inners) (sym is) ∙ ap (λ n. inner ∷ drop n inners) next)
