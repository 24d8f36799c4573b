-- What a map states does not stand at the keys of its debug id, and how that is written.
use Rattle.std.proofs.Common.{◌≡◌, ℕ, ◌<◌, ◌≤◌, ◌-◌, List, [], ◌∷◌, ◌++◌, false, suc, length, take, drop, slice_set, bytes_eq, codes, refl, ap, arith, ◌∙◌}
use Rattle.std.proofs.lemmas.List.{append_assoc, drop_all, set-append_left, set_split}
use Rattle.serde_json.specs.Data.{Members, object}
use Rattle.serde_json.specs.Find.{get_member}
use Rattle.serde_json.specs.Written.{compact_text}
use Rattle.smap_record.specs.DebugId.{id_member, with_debug_id}
use Rattle.smap_record.specs.Fields.{section_fields_of}
use Rattle.smap_record.specs.Outer.{outer_in}
use Rattle.smap_record.specs.Private.SameRecord.{IsSameRecord}
use Rattle.smap_record.specs.Record.{record_within}

module _ (first second : Members)
    (same : (other : List ℕ) → bytes_eq other (codes "debugId") ≡ false → bytes_eq other (codes "debug_id") ≡ false
    → get_member other second ≡ get_member other first) where
  fields_same : section_fields_of (object second) ≡ section_fields_of (object first)
  fields_same = rw (
    same (codes "sources") refl refl,
    same (codes "names") refl refl,
    same (codes "sourcesContent") refl refl,
    same (codes "ignoreList") refl refl,
    same (codes "x_google_ignoreList") refl refl,
    same (codes "sourceRoot") refl refl,
    same (codes "mappings") refl refl,
  ) refl

  outer_same : outer_in (object second) ≡ outer_in (object first)
  unfolding outer_in
  outer_same = rw (same (codes "version") refl refl, same (codes "sections") refl refl, same (codes "file") refl refl, fields_same) refl

  pub record_same : IsSameRecord first second
  unfolding record_within
  record_same most base k = rw outer_same refl

-- the last of some in place of which something stands, before others
last_set : (xs ys : List ℕ) (y : ℕ) → 0 < length xs → slice_set (xs ++ ys) (length xs - 1) y ≡ take (length xs - 1) xs ++ y ∷ ys
last_set xs ys y some =
    set-append_left xs ys (length xs - 1) y (omega (arith, some))
    ∙ ap (λ front. front ++ ys) (set_split xs (length xs - 1) y (omega (arith, some)))
    ∙ ap (λ behind. (take (length xs - 1) xs ++ y ∷ behind) ++ ys) (drop_all (suc (length xs - 1)) xs (omega (arith, some)))
    ∙ append_assoc (take (length xs - 1) xs) (y ∷ []) ys

pub put_last : (id text whole written : List ℕ) (end : ℕ) → whole ≡ compact_text (object (id_member id)) → written ≡ text ++ drop 1 whole
    → 0 < length text → end ≡ length text - 1 → slice_set written end 44 ≡ with_debug_id id text
put_last id text whole written end is joined some last =
    rw (joined, is, last) (last_set text (drop 1 (compact_text (object (id_member id)))) 44 some)
