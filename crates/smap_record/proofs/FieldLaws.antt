-- What a map's object has once an entry was removed.
use Rattle.std.proofs.Common.{◌≡◌, ℕ, List, [], ◌∷◌, Bool, true, false, String, Global, bytes_eq, nat_cmp, string_bytes, refl, sym, ap, ◌∙◌, true≢false, ⊎_elim}
use Rattle.std.proofs.lemmas.Bool.{cond-true, cond-false, cases_Bool}
use Rattle.std.proofs.lemmas.Map.Text.{is_eq-slice_cmp}
use Rattle.std.proofs.lemmas.Slice.Eq.{bytes_eq-Decides}
use Rattle.std.specs.Cmp.Lexicographic.{slice_cmp}
use Rattle.std.specs.BTreeMap.{is_at}
use Rattle.std.specs.Map.{remove_entry}
use Rattle.std.specs.Ordering.{match_ordering}
use Rattle.std.specs.Prelude.{Some}
use Rattle.serde_json.specs.Find.{get_member}
use Rattle.serde_json.specs.View.{view, members_view}
use Rattle.serde_json.proofs.Views.{Entry, member_later}

module _ (other key : List ℕ) (apart : bytes_eq other key ≡ false) where
  -- whether a key is the one that was removed
  abbrev is_key : String Global → Bool
  is_key = is_at (λ k. slice_cmp nat_cmp key (string_bytes k))

  -- the entry that was removed was not the other one
  not_there : (e : Entry) → is_key e.0 ≡ true → other ≡ string_bytes e.0 → ⊥
  not_there e is same =
      let keys : key ≡ string_bytes e.0 = (bytes_eq-Decides key (string_bytes e.0)).0 (sym (is_eq-slice_cmp key (string_bytes e.0)) ∙ is) in
      true≢false (sym ((bytes_eq-Decides other key).1 (same ∙ sym keys)) ∙ apart)

  -- the other keys keep theirs
  pub kept : (es : List Entry) → get_member other (members_view (remove_entry is_key es)) ≡ get_member other (members_view es)
  kept [] = refl
  kept (e ∷ es) =
      ⊎_elim
      (λ is. ap (λ rest. get_member other (members_view rest)) (cond-true (is_key e.0) es (e ∷ remove_entry is_key es) is)
      ∙ sym (member_later other e es (not_there e is)))
      (λ no. ap (λ rest. get_member other (members_view rest)) (cond-false (is_key e.0) es (e ∷ remove_entry is_key es) no)
      ∙ ap (λ found. match_ordering (slice_cmp nat_cmp other (string_bytes e.0)) found (Some (view e.1)) found) (kept es))
      (cases_Bool (is_key e.0))
