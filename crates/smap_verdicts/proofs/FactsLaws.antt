-- No number of a refusal and of what is known of it is a float.
use Rattle.std.proofs.Common.{◌≡◌, ℕ, ℤ, pos, negsuc, false, List, [], ◌∷◌, Option, None, Some, Ordering, Less, Equal, Greater, nat_cmp, refl, map, codes, string_bytes}
use Rattle.std.specs.Option.{option_map}
use Rattle.std.specs.Ordering.{match_ordering}
use Rattle.std.specs.Cmp.Lexicographic.{slice_cmp}
use Rattle.std.proofs.lemmas.Bool.{or_parts}
use Rattle.serde_json.specs.Data.{Data, Members, member, no_members, put, string}
use Rattle.serde_json.specs.View.{items_of}
use Rattle.serde_json.specs.Written.{has_float, items_have_float, members_have_float}
use Rattle.smap_index.specs.declared.refusal.BuildRefusal.TheVariants as builds
use Rattle.smap_record.specs.declared.refusal.MapRefusal.{MapRefusal}
use Rattle.smap_record.specs.declared.refusal.MapRefusal.TheVariants as maps
use Rattle.smap_explain.specs.declared.explanation.BuildFacts.{BuildFacts}
use Rattle.smap_explain.specs.declared.explanation.Explanation.{Explanation}
use Rattle.smap_explain.specs.declared.explanation.Explanation.TheVariants as explained
use Rattle.smap_explain.specs.declared.explanation.KeyFacts.{KeyFacts}
use Rattle.smap_explain.specs.declared.explanation.Measure.{Measure}
use Rattle.smap_explain.specs.declared.explanation.NotJsonFacts.{NotJsonFacts}
use Rattle.smap_explain.specs.declared.explanation.SegmentFacts.{SegmentFacts}
use Rattle.smap_explain.specs.declared.explanation.FoundValue.{FoundValue}
use Rattle.smap_verdicts.specs.Explanation.{found_text}
use Rattle.smap_verdicts.specs.Facts.{beginning_name, integer, numbers_value, place_value, printed_value, put_where, stop_byte, with_build, with_explanation, with_found, with_key, with_measure, with_measure_where, with_not_json, with_segment}
use Rattle.smap_verdicts.specs.Keys.{key_name}
use Rattle.smap_verdicts.specs.Segment.{printed, quantity_name}
use Rattle.smap_verdicts.specs.Refusal.{refusal_members, refusal_value}
use Rattle.smap_verdicts.specs.Texts.{count}

abbrev HasNone : Members → Type 0
HasNone ms = members_have_float ms ≡ false

-- what is put in
put_plain : (k : List ℕ) (d : Data) (ms : Members) → has_float d ≡ false → HasNone ms → HasNone (put k d ms)
put_plain k d no_members plain others = rw plain refl
put_plain k d (member l e ms) plain others =
    go (slice_cmp nat_cmp k l) (put_plain k d ms plain (or_parts (has_float e) (members_have_float ms) others).1)
  where
    parts : (has_float e ≡ false) × (members_have_float ms ≡ false)
    parts = or_parts (has_float e) (members_have_float ms) others

    go : (o : Ordering) → HasNone (put k d ms)
        → HasNone (match_ordering o (member k d (member l e ms)) (member l d ms) (member l e (put k d ms)))
    go Less rest = rw (plain, parts.0, parts.1) refl
    go Equal rest = rw (plain, parts.1) refl
    go Greater rest = rw (parts.0, rest) refl

where_plain : {A : Type 0} (k : List ℕ) (f : A → Data) (o : Option A) (ms : Members) → ((x : A) → has_float (f x) ≡ false) → HasNone ms
    → HasNone (put_where k (option_map f o) ms)
where_plain k f None ms plain others = others
where_plain k f (Some x) ms plain others = put_plain k (f x) ms (plain x) others

-- the values
integer_plain : (n : ℤ) → has_float (integer n) ≡ false
integer_plain (pos n) = refl
integer_plain (negsuc n) = refl

items_plain : (ns : List ℤ) → items_have_float (items_of (map integer ns)) ≡ false
items_plain [] = refl
items_plain (n ∷ ns) = rw (integer_plain n, items_plain ns) refl

-- what is known
not_json_plain : (facts : NotJsonFacts) (ms : Members) → HasNone ms → HasNone (with_not_json facts ms)
not_json_plain facts ms none = where_plain _ stop_byte facts.stop _ (λ stop. refl)
    (put_plain (codes "beginsAs") (string (beginning_name facts.begins_as)) ms refl none)

found_plain : (found : FoundValue) (ms : Members) → HasNone ms → HasNone (with_found found ms)
found_plain found ms none = put_plain (codes "found") (string (found_text found)) ms refl none

key_plain : (facts : KeyFacts) (ms : Members) → HasNone ms → HasNone (with_key facts ms)
key_plain facts ms none =
    where_plain _ count facts.most _ (λ n. refl)
    (where_plain _ count facts.index _ (λ n. refl)
    (where_plain _ count facts.section _ (λ n. refl)
    (found_plain facts.found (put (codes "key") (string (key_name facts.key)) ms) (put_plain (codes "key") (string (key_name facts.key)) ms refl none))))

measure_plain : (measure : Measure) (ms : Members) → HasNone ms → HasNone (with_measure measure ms)
measure_plain measure ms none =
    where_plain _ (printed_value measure.quantity) measure.most _ (λ n. integer_plain (printed measure.quantity n))
    (where_plain _ (printed_value measure.quantity) measure.least _ (λ n. integer_plain (printed measure.quantity n))
    (put_plain (codes "quantity") (string (quantity_name measure.quantity)) (put (codes "value") (printed_value measure.quantity measure.value) ms) refl
    (put_plain (codes "value") (printed_value measure.quantity measure.value) ms (integer_plain (printed measure.quantity measure.value)) none)))

measure_where_plain : (measure : Option Measure) (ms : Members) → HasNone ms → HasNone (with_measure_where measure ms)
measure_where_plain None ms none = none
measure_where_plain (Some measure) ms none = measure_plain measure ms none

segment_plain : (facts : SegmentFacts) (ms : Members) → HasNone ms → HasNone (with_segment facts ms)
segment_plain facts ms none =
    measure_where_plain facts.measure _
    (where_plain _ numbers_value (option_map (λ numbers. numbers.items) facts.numbers) _ items_plain
    (where_plain _ count facts.column _ (λ n. refl) (put_plain (codes "segment") (string (string_bytes facts.text)) ms refl none)))

build_plain : (facts : BuildFacts) (ms : Members) → HasNone ms → HasNone (with_build facts ms)
build_plain facts ms none =
    where_plain _ place_value facts.mapping _ (λ place. refl)
    (where_plain _ place_value facts.offset_before _ (λ place. refl)
    (put_plain (codes "offset") (place_value facts.offset) ms refl none))

explanation_plain : (explanation : Explanation) (ms : Members) → HasNone ms → HasNone (with_explanation explanation ms)
unfolding with_explanation
explanation_plain explained.Nothing ms none = none
explanation_plain explained.TooLarge ms none = put_plain (codes "most") (count 67108864) ms refl none
explanation_plain (explained.NotJson facts) ms none = not_json_plain facts ms none
explanation_plain (explained.NotObject found) ms none = found_plain found ms none
explanation_plain (explained.Key facts) ms none = key_plain facts ms none
explanation_plain (explained.Segment facts) ms none = segment_plain facts ms none
explanation_plain (explained.Build facts) ms none = build_plain facts ms none

-- the refusal
refusal_plain : (path : List ℕ) (refusal : MapRefusal) → HasNone (refusal_members path refusal)
refusal_plain path maps.TooLarge = refl
refusal_plain path maps.NotJson = refl
refusal_plain path maps.NotObject = refl
refusal_plain path maps.Version = refl
refusal_plain path maps.Sections = refl
refusal_plain path (maps.SectionOffset section) = refl
refusal_plain path (maps.Nested section) = refl
refusal_plain path maps.Sources = refl
refusal_plain path maps.Names = refl
refusal_plain path maps.SourcesContent = refl
refusal_plain path maps.IgnoreList = refl
refusal_plain path maps.FileOrRoot = refl
refusal_plain path maps.Mappings = refl
refusal_plain path (maps.Text section fault) = refl
refusal_plain path (maps.Build builds.Interval) = refl
refusal_plain path (maps.Build (builds.SectionOrder section)) = refl
refusal_plain path (maps.Build (builds.SectionOverlap section)) = refl
refusal_plain path (maps.Build (builds.PositionRange section)) = refl
refusal_plain path (maps.Build builds.Memory) = refl
refusal_plain path maps.Url = refl
refusal_plain path maps.Memory = refl
refusal_plain path maps.LongNames = refl

-- nor of both
pub no_float : (path : List ℕ) (refusal : MapRefusal) (explanation : Explanation) → has_float (refusal_value path refusal explanation) ≡ false
no_float path refusal explanation = explanation_plain explanation (refusal_members path refusal) (refusal_plain path refusal)
