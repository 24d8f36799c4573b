-- What is left of sources and of names, by what is left of their keys.
use Rattle.std.specs.Borrow.{Bor}
use Rattle.std.proofs.Common.{◌≡◌, ℕ, Bool, List, map, refl, subst}
use Rattle.std.specs.Prelude.{bytes_eq}
use Rattle.std.specs.Ordering.{eq_by_cmp}
use Rattle.smap_record.specs.Sources.{StatedSource}
use Rattle.smap_compose.specs.Pruned.{NamedSource, is_same_named, is_same_source, named_source}
use Rattle.smap_compose.specs.Private.Keys.{key_seen}
use Rattle.smap_compose.specs.Private.Left.{AreLeft}
use Rattle.smap_compose.proofs.SameLaws.{SourceKey, key_order, keys_alike, text_order, texts_alike}
use Rattle.smap_compose.proofs.SeenLaws.{left_from_seen, seen_from_left}

module _ (is_used : ℕ → Bool) (places : List ℕ) (marks : List Bool) where
  pub sources_by_keys : (keys : List SourceKey) (sources : List StatedSource) → map key_seen keys ≡ map named_source sources
      → AreLeft (eq_by_cmp key_order) is_used keys places marks → AreLeft is_same_source is_used sources places marks
  sources_by_keys keys sources keys_are left =
      left_from_seen named_source is_same_source is_same_named (λ a b. refl) is_used sources places marks
      (subst (λ (seen : List NamedSource). AreLeft is_same_named is_used seen places marks) keys_are
      (seen_from_left key_seen (eq_by_cmp key_order) is_same_named keys_alike is_used keys places marks left))

  pub names_by_keys : (keys : List (Bor (List ℕ))) (names : List (List ℕ)) → map (λ (key : Bor (List ℕ)). key.now) keys ≡ names
      → AreLeft (eq_by_cmp text_order) is_used keys places marks → AreLeft bytes_eq is_used names places marks
  names_by_keys keys names keys_are left =
      subst (λ (seen : List (List ℕ)). AreLeft bytes_eq is_used seen places marks) keys_are
      (seen_from_left (λ (key : Bor (List ℕ)). key.now) (eq_by_cmp text_order) bytes_eq texts_alike is_used keys places marks left)
