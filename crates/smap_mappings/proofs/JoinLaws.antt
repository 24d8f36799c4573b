-- The fields of a segment are the numbers of which its bytes are spellings, joined in order.
use Rattle.std.proofs.Common.{◌≡◌, ℕ, List, [], ◌∷◌, Some, refl, sym, ap, subst, ◌∙◌, ⊎_elim}
use Rattle.std.specs.Prelude.{ℤ}
use Rattle.std.specs.List.{onto_first, concat}
use Rattle.std.proofs.lemmas.Bool.{cond-true, cond-false, cases_Bool}
use Rattle.smap_mappings.specs.Vlq.{is_ending, number_of}
use Rattle.smap_mappings.specs.Segment.{cuts_of, list_with_front, numbers_of, fields_of, AreSpellingsOf, IsJoinOfSpellings}
use Rattle.smap_mappings.proofs.FieldLaws.{with_front_parts, fields-spelled, no_bytes_no_fields}

concat-onto_first : (byte : ℕ) (cuts : List (List ℕ)) → concat (onto_first byte cuts) ≡ byte ∷ concat cuts
concat-onto_first byte [] = refl
concat-onto_first byte (cut ∷ cuts) = refl

-- the cuts, joined, are the bytes
concat-cuts_of : (bytes : List ℕ) → concat (cuts_of bytes) ≡ bytes
concat-cuts_of [] = refl
concat-cuts_of (byte ∷ bytes) =
    ⊎_elim
    (λ yes. ap concat (cond-true _ _ _ yes) ∙ ap (λ more. byte ∷ more) (concat-cuts_of bytes))
    (λ no. ap concat (cond-false _ _ _ no) ∙ concat-onto_first byte (cuts_of bytes) ∙ ap (λ more. byte ∷ more) (concat-cuts_of bytes))
    (cases_Bool (is_ending byte))

spellings_from : (cuts : List (List ℕ)) (numbers : List ℤ) → numbers_of cuts ≡ Some numbers → AreSpellingsOf cuts numbers
spellings_from [] [] is = tt
spellings_from [] (n ∷ numbers) is = absurd (cc)
spellings_from (cut ∷ cuts) numbers is =
    let front = with_front_parts (number_of cut) (numbers_of cuts) numbers is in
    subst (AreSpellingsOf (cut ∷ cuts)) (sym front.4) (front.2, spellings_from cuts front.1 front.3)

-- a spelling never begins another, so joined ones are cut apart again
fields_of_joined : (spellings : List (List ℕ)) (numbers : List ℤ) → AreSpellingsOf spellings numbers → fields_of (concat spellings) ≡ Some numbers
fields_of_joined [] [] spell = no_bytes_no_fields
fields_of_joined [] (n ∷ numbers) spell = absurd spell
fields_of_joined (bytes ∷ spellings) [] spell = absurd spell
fields_of_joined (bytes ∷ spellings) (n ∷ numbers) spell =
    fields-spelled bytes (concat spellings) n spell.0 ∙ ap (list_with_front (Some n)) (fields_of_joined spellings numbers spell.1)

pub join_of_fields : (bytes : List ℕ) (fields : List ℤ) → fields_of bytes ≡ Some fields → IsJoinOfSpellings bytes fields
unfolding fields_of
join_of_fields bytes fields is = (cuts_of bytes, spellings_from (cuts_of bytes) fields is, concat-cuts_of bytes)

pub fields_of_join : (bytes : List ℕ) (fields : List ℤ) → IsJoinOfSpellings bytes fields → fields_of bytes ≡ Some fields
fields_of_join bytes fields join = ap fields_of (sym join.2) ∙ fields_of_joined join.0 fields join.1
