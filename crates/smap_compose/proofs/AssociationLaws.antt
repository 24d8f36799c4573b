-- Composition associates, mapping by mapping: by the cases of the answer that the first mapping's origin gets.
use Rattle.std.proofs.Common.{◌≡◌, ℕ, ◌+◌, ◌<◌, List, [], ◌∷◌, map, Option, Some, None, refl, sym, ap, ◌∙◌, arith, add_assoc, ⊎_elim, if◌then◌else◌, eqb}
use Rattle.std.specs.Prelude.{option_map, option_and_then, IfSome}
use Rattle.std.specs.List.{All}
use Rattle.std.specs.Option.{option_or}
use Rattle.std.proofs.lemmas.Bool.{cond-true, cond-false, cases_Bool, eqb-true, eqb-false, eq-eqb, ne_eqb}
use Rattle.std.proofs.lemmas.List.Elements.{All-head, All-tail}
use Rattle.smap_mappings.specs.Within.{IsWithin, IsOriginWithin}
use Rattle.smap_mappings.specs.declared.mapping.Mapping.{Mapping}
use Rattle.smap_mappings.specs.declared.mapping.Origin.{Origin}
use Rattle.smap_index.specs.Answer.{answer_with, answer_at_or_before}
use Rattle.smap_index.specs.declared.answer.Answer.{Answer}
use Rattle.smap_index.specs.declared.answer.Answer.TheVariants.{Nothing, Unmapped, Found}
use Rattle.smap_compose.specs.Follow.{CountedMappings, moved_origin, origin_of_answer, followed_origin, follow, followed, followed_answer}
use Rattle.smap_compose.proofs.FollowLaws.{answer_alike, same_lists}

-- two moves are one by the sum
two_moves : (a b : ℕ) (inner outer : Option ℕ) (further : Option ℕ)
    → option_or (option_map (λ n. (a + b) + n) further) (option_or (option_map (λ n. a + n) inner) outer)
    ≡ option_or (option_map (λ n. a + n) (option_or (option_map (λ n. b + n) further) inner)) outer
two_moves a b inner outer None = refl
two_moves a b inner outer (Some n) = ap Some (add_assoc a b n)

module _ (first : CountedMappings) (s : ℕ) (second : CountedMappings) (t : ℕ) (third : CountedMappings) where
  -- what the third list makes of an origin of the second that was moved after the first's
  moved_further : (name : Option ℕ) (origin : Origin) (answer : Answer)
      → origin_of_answer (first.sources + second.sources) (first.names + second.names) (moved_origin first.sources first.names name origin).name answer
      ≡ option_map (moved_origin first.sources first.names name) (origin_of_answer second.sources second.names origin.name answer)
  moved_further name origin Nothing = refl
  moved_further name origin (Unmapped column) = refl
  moved_further name origin (Found column further) =
      ap Some
      (rw (add_assoc first.sources second.sources further.source, two_moves first.names second.names origin.name name further.name) refl)

  -- an answer that has an origin or none gives that origin moved
  moved_answer : (name : Option ℕ) (column : ℕ) (origin : Option Origin)
      → origin_of_answer first.sources first.names name (answer_with column origin) ≡ option_map (moved_origin first.sources first.names name) origin
  moved_answer name column None = refl
  moved_answer name column (Some origin) = refl

  same_source : (source : ℕ) → eqb (first.sources + source) (first.sources + t) ≡ eqb source t
  same_source source =
      ⊎_elim
      (λ same. eq-eqb _ _ (ap (λ n. first.sources + n) (eqb-true _ _ same)) ∙ sym same)
      (λ other. ne_eqb _ _ (λ (sums : first.sources + source ≡ first.sources + t). eqb-false _ _ other (omega (arith, sums))) ∙ sym other)
      (cases_Bool (eqb source t))

  -- an origin of the second list, moved after the first's and then followed, is the one that was followed and then moved
  moved_then_followed : (name : Option ℕ) (origin : Origin)
      → followed_origin (followed first s second) (first.sources + t) third (moved_origin first.sources first.names name origin)
      ≡ option_map (moved_origin first.sources first.names name) (followed_origin second t third origin)
  moved_then_followed name origin =
      ap (λ is. if is then origin_of_answer (first.sources + second.sources) (first.names + second.names) (moved_origin first.sources first.names name origin).name found
      else Some (moved_origin first.sources first.names name origin)) (same_source origin.source)
      ∙ ⊎_elim
      (λ same. cond-true _ _ _ same ∙ moved_further name origin found ∙ ap (option_map (moved_origin first.sources first.names name)) (sym (cond-true _ _ _ same)))
      (λ other. cond-false _ _ _ other ∙ ap (option_map (moved_origin first.sources first.names name)) (sym (cond-false _ _ _ other)))
      (cases_Bool (eqb origin.source t))
    where
      found : Answer
      found = answer_at_or_before third.mappings origin.line origin.column

  -- what the second list answers, followed in either way
  either_way : (name : Option ℕ) (answer : Answer)
      → option_and_then (followed_origin (followed first s second) (first.sources + t) third) (origin_of_answer first.sources first.names name answer)
      ≡ origin_of_answer first.sources first.names name (followed_answer second t third answer)
  either_way name Nothing = refl
  either_way name (Unmapped column) = refl
  either_way name (Found column origin) = moved_then_followed name origin ∙ sym (moved_answer name column (followed_origin second t third origin))

  of_origin : (origin : Origin) → origin.source < first.sources
      → option_and_then (followed_origin (followed first s second) (first.sources + t) third) (followed_origin first s second origin)
      ≡ followed_origin first s (followed second t third) origin
  of_origin origin named =
      ⊎_elim
      (λ same.
      ap (option_and_then (followed_origin (followed first s second) (first.sources + t) third)) (cond-true _ _ _ same)
      ∙ either_way origin.name (answer_at_or_before second.mappings origin.line origin.column)
      ∙ ap (origin_of_answer first.sources first.names origin.name) (sym (answer_alike (followed_origin second t third) origin.line origin.column second.mappings))
      ∙ sym (cond-true _ _ _ same))
      (λ other.
      ap (option_and_then (followed_origin (followed first s second) (first.sources + t) third)) (cond-false _ _ _ other)
      ∙ cond-false _ _ _ (ne_eqb origin.source (first.sources + t) (λ is. absurd (omega (arith, is, named))))
      ∙ sym (cond-false _ _ _ other))
      (cases_Bool (eqb origin.source s))

  of_maybe : (origin : Option Origin) → IfSome origin (IsOriginWithin first.sources first.names)
      → option_and_then (followed_origin (followed first s second) (first.sources + t) third)
      (option_and_then (followed_origin first s second) origin) ≡ option_and_then (followed_origin first s (followed second t third)) origin
  of_maybe None within = refl
  of_maybe (Some origin) within = of_origin origin within.source.named

  of_list : (list : List Mapping) → All (IsWithin first.sources first.names) list
      → map (follow (followed first s second) (first.sources + t) third) (map (follow first s second) list)
      ≡ map (follow first s (followed second t third)) list
  of_list [] within = refl
  of_list (mapping ∷ list) within =
      let named : IsWithin first.sources first.names mapping = All-head (IsWithin first.sources first.names) mapping list within in
      let here = of_maybe mapping.origin named.origin in
      let others = of_list list (All-tail (IsWithin first.sources first.names) mapping list within) in
      ap (λ origin. record mapping { origin = origin }
      ∷ map (follow (followed first s second) (first.sources + t) third) (map (follow first s second) list)) here
      ∙ ap (λ rest. follow first s (followed second t third) mapping ∷ rest) others

  pub associates : All (IsWithin first.sources first.names) first.mappings
      → followed (followed first s second) (first.sources + t) third ≡ followed first s (followed second t third)
  associates within = same_lists (of_list first.mappings within) (add_assoc first.sources second.sources third.sources)
      (add_assoc first.names second.names third.names)
