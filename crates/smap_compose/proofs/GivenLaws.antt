-- What a call gives of a map that may be too long to write, and of what is left of it.
use Rattle.std.proofs.Common.{◌≡◌, ℕ, Bool, true, false, cond, List, length, map, Some, None, Result, Ok, Err, IfOk, ◌&&◌, not, refl, sym, ap, subst, ◌∙◌, ⊎_elim}
use Rattle.std.specs.Prelude.{Option, is_some}
use Rattle.std.specs.List.{All}
use Rattle.std.proofs.lemmas.Bool.{cases_Bool}
use Rattle.std.proofs.lemmas.List.{length-map, map-id}
use Rattle.smap_mappings.specs.Encode.{is_text_too_long}
use Rattle.smap_mappings.specs.Exact.{GivesOr}
use Rattle.smap_mappings.specs.Within.{IsWithin}
use Rattle.smap_mappings.specs.declared.mapping.Mapping.{Mapping}
use Rattle.smap_index.specs.Answer.{answer_at_or_before}
use Rattle.smap_record.specs.Refusals.{unless}
use Rattle.smap_record.specs.Sources.{StatedSource}
use Rattle.smap_compose.specs.Composition.{Composition, unless_too_long}
use Rattle.smap_compose.specs.LeftOut.{content_where, contents_where, left_of, pruned_where}
use Rattle.smap_compose.specs.Pruned.{AnswersAlike, named_answer, pruned}
use Rattle.smap_compose.specs.Private.Listing.{lent_source, lent_text}
use Rattle.smap_compose.specs.Private.Parts.{AreFit, parts_seen}
use Rattle.smap_compose.specs.declared.left_out.LeftOut.{LeftOut}
use Rattle.smap_compose.specs.declared.parts.Parts.{Parts}
use Rattle.smap_compose.specs.declared.refusal.ComposeRefusal.{ComposeRefusal}
use Rattle.smap_compose.specs.declared.refusal.ComposeRefusal.TheVariants.{Memory, TooLarge}

-- where a map is given, it is that one
pub given_is_whole : (whole : Composition) (result : Result Composition ComposeRefusal)
    → GivesOr Memory (λ composed. composed) result (unless_too_long whole) → IfOk result (λ composed. whole ≡ composed)
given_is_whole whole (Err refusal) gives = tt
given_is_whole whole (Ok composed) gives = by (is_text_too_long whole.mappings) gives
  where
    by : (long : Bool) → unless (cond long (Some TooLarge) None) whole ≡ Ok composed → whole ≡ composed
    by true gives = absurd (cc)
    by false gives = cc

pub same_compositions : {mappings mappings' : List Mapping} {sources sources' : List StatedSource} {names names' : List (List ℕ)} {file file' : Option (List ℕ)}
    → mappings ≡ mappings' → sources ≡ sources' → names ≡ names' → file ≡ file'
    → ◌≡◌ {A = Composition} (record { mappings = mappings; sources = sources; names = names; file = file })
    (record { mappings = mappings'; sources = sources'; names = names'; file = file' })
same_compositions mappings_are sources_are names_are file_is = rw (mappings_are, sources_are, names_are, file_is) refl

-- ---- a map whose text is too long or not

no_such : false ≡ true → ⊥
no_such same = cc

not_both : (a b : Bool) → (a && b) ≡ false → b ≡ true → a ≡ false
not_both true b neither is = absurd (no_such (sym neither ∙ is))
not_both false b neither is = refl

pub too_long : (whole : Composition) → is_text_too_long whole.mappings ≡ true → unless_too_long whole ≡ Err TooLarge
too_long whole long = ap (λ long. unless (cond long (Some TooLarge) None) whole) long

pub short_enough : (whole : Composition) → is_text_too_long whole.mappings ≡ false → unless_too_long whole ≡ Ok whole
short_enough whole short = ap (λ long. unless (cond long (Some TooLarge) None) whole) short

-- ---- what is left

pub contents_are : (left_out : Bool) (whole : Composition)
    → contents_where left_out whole ≡ record whole { sources = map (content_where left_out) whole.sources }
contents_are true whole = refl
contents_are false whole = ap (λ (sources : List StatedSource). record whole { sources = sources }) (sym (map-id whole.sources))

pub same_mappings : (left_out : Bool) (whole : Composition) → (contents_where left_out whole).mappings ≡ whole.mappings
same_mappings left_out whole = ap (λ (w : Composition). w.mappings) (contents_are left_out whole)

pub made_where : (left_out : Bool) (whole : Composition) (sources : List StatedSource) (names : List (List ℕ)) (file : Option (List ℕ))
    → is_text_too_long whole.mappings ≡ false → sources ≡ map (content_where left_out) whole.sources → names ≡ whole.names → file ≡ whole.file
    → unless_too_long (contents_where left_out whole)
    ≡ Ok (record { mappings = whole.mappings; sources = sources; names = names; file = file })
made_where left_out whole sources names file short sources_are names_are file_is =
    ap unless_too_long (contents_are left_out whole)
    ∙ short_enough (record whole { sources = map (content_where left_out) whole.sources }) short
    ∙ ap Ok (same_compositions refl (sym sources_are) (sym names_are) (sym file_is))

short_where : (left_out : LeftOut) (whole left : Composition) → is_text_too_long whole.mappings ≡ false
    → left ≡ pruned_where left_out.unused whole
    → unless_too_long (contents_where left_out.contents left) ≡ left_of left_out (unless_too_long whole)
short_where left_out whole left short is =
    ap (λ (w : Composition). unless_too_long (contents_where left_out.contents w)) is ∙ sym (ap (left_of left_out) (short_enough whole short))

long_where : (left_out : LeftOut) (whole left : Composition) → is_text_too_long whole.mappings ≡ true → left ≡ whole
    → unless_too_long (contents_where left_out.contents left) ≡ left_of left_out (unless_too_long whole)
long_where left_out whole left long is =
    too_long (contents_where left_out.contents left)
    (ap is_text_too_long (same_mappings left_out.contents left ∙ ap (λ (w : Composition). w.mappings) is) ∙ long)
    ∙ sym (ap (left_of left_out) (too_long whole long))

-- where all is left, that its text is too long may be asked of what is left
pub given_where : (left_out : LeftOut) (whole left : Composition) → (left_out.unused && is_text_too_long whole.mappings) ≡ false
    → left ≡ pruned_where left_out.unused whole
    → unless_too_long (contents_where left_out.contents left) ≡ left_of left_out (unless_too_long whole)
given_where left_out whole left not_refused is =
    ⊎_elim
    (λ long. long_where left_out whole left long (is ∙ ap (λ unused. pruned_where unused whole)
    (not_both left_out.unused (is_text_too_long whole.mappings) not_refused long)))
    (λ short. short_where left_out whole left short is)
    (cases_Bool (is_text_too_long whole.mappings))

-- ---- a length that is given

pub none_where : (long : Bool) (bytes : ℕ) (given : Option ℕ) (none : Bool) → given ≡ cond long None (Some bytes) → is_some given ≡ not none → none ≡ long
none_where true bytes given true is some = refl
none_where true bytes given false is some = absurd (no_such (ap is_some (sym is) ∙ some))
none_where false bytes given true is some = absurd (no_such (sym (ap is_some (sym is) ∙ some)))
none_where false bytes given false is some = refl

-- ---- what is left answers alike

pub left_alike : (left_out : Bool) (whole left : Composition) → left ≡ pruned_where left_out whole → AnswersAlike whole (pruned whole)
    → AnswersAlike whole left
left_alike true whole left is alike line column =
    ap (λ (w : Composition). named_answer w (answer_at_or_before w.mappings line column)) is ∙ alike line column
left_alike false whole left is alike line column = ap (λ (w : Composition). named_answer w (answer_at_or_before w.mappings line column)) is

pub parts_within : (parts : Parts) → AreFit parts
    → All (IsWithin (length (parts_seen parts).sources) (length (parts_seen parts).names)) (parts_seen parts).mappings
parts_within parts fit =
    let P : ℕ → Type 0 = λ many. All (IsWithin many (length parts.listing.names.items)) parts.mappings.items in
    let Q : ℕ → Type 0 = λ many. All (IsWithin (length (map lent_source parts.listing.sources.items)) many) parts.mappings.items in
    subst Q (sym (length-map parts.listing.names.items lent_text)) (subst P (sym (length-map parts.listing.sources.items lent_source)) fit.within)
