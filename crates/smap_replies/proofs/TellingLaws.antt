-- The first of several files that is told of.
use Rattle.std.proofs.Common.{◌≡◌, ◌≤◌, ◌<◌, ℕ, ◌+◌, List, Option, Some, None, drop, get_or, inl, inr, length, map, refl, subst, sym}
use Rattle.std.proofs.lemmas.List.{drop_all}
use Rattle.smap_replies.specs.Telling.{IsFirstTold, FileSeen}
use Rattle.smap_replies.proofs.NextLaws.{next_of}

module _ {W : Type 0} (of : W → FileSeen) (Passes : FileSeen → Type 0) (Told : FileSeen → List ℕ → Type 0) (files : List W) where
  -- what is told of those from a place on is told of all
  abbrev pub IsToldFrom : (place : ℕ) → Type 0
  IsToldFrom place = (told : Option (List ℕ)) → IsFirstTold Passes Told (map of (drop place files)) told → IsFirstTold Passes Told (map of files) told

  module _ (place : ℕ) (file : W) (less : place < length files) (is : file ≡ get_or files place file) (from : IsToldFrom place) where
    pub passed_over : Passes (of file) → IsToldFrom (place + 1)
    passed_over passes told first =
        from told (subst (λ l. IsFirstTold Passes Told l told) (sym (next_of of files place file less is)) (inl (passes, first)))

    pub told_here : (text : List ℕ) → Told (of file) text → IsFirstTold Passes Told (map of files) (Some text)
    told_here text tells =
        from (Some text) (subst (λ l. IsFirstTold Passes Told l (Some text)) (sym (next_of of files place file less is)) (inr tells))

  pub none_told : (place : ℕ) → length files ≤ place → IsToldFrom place → IsFirstTold Passes Told (map of files) None
  none_told place past from = from None (subst (λ l. IsFirstTold Passes Told (map of l) None) (sym (drop_all place files past)) refl)
