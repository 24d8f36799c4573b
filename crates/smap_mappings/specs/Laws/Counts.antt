-- There are as many mappings as segments.
use Rattle.std.proofs.Common.{◌≡◌, ℕ, ◌++◌, List, [], ◌∷◌, length, suc, refl, ap, ◌∙◌}
use Rattle.std.proofs.lemmas.List.{length-map}
use Rattle.smap_mappings.specs.Counts.{segment_count}
use Rattle.smap_mappings.specs.Mappings.{Delta, delta_of, deltas_of, mappings_after, mappings_of}
use Rattle.smap_mappings.specs.Segments.{segments_of}

length-mappings_after : (before deltas : List Delta) → length (mappings_after before deltas) ≡ length deltas
length-mappings_after before [] = refl
length-mappings_after before (delta ∷ deltas) = ap suc (length-mappings_after (before ++ delta ∷ []) deltas)

pub length-mappings_of : (text : List ℕ) → length (mappings_of text) ≡ segment_count text
unfolding mappings_of deltas_of
length-mappings_of text = length-mappings_after [] (deltas_of text) ∙ length-map (segments_of text) delta_of
