-- A table has a checkpoint for each mark.
use Rattle.std.proofs.Common.{◌≡◌, ℕ, ◌+◌, ◌*◌, ◌≤◌, List, [], ◌∷◌, ◌++◌, length, false, refl, ap, sym, subst, ◌∙◌}
use Rattle.std.specs.List.{AllZip, list_any}
use Rattle.smap_mappings.specs.Order.{IsInOrder}
use Rattle.smap_index.specs.Parts.{joined, bytes_in}
use Rattle.smap_mappings.specs.Range.{is_mapping_past_limit}
use Rattle.smap_index.specs.Marks.{AreCheckpointsOf, used_lines_in}
use Rattle.smap_index.specs.Index.{IsIndexOf}
use Rattle.smap_index.specs.declared.part.Part.{Part}
use Rattle.smap_index.specs.declared.checkpoint.Checkpoint.{Checkpoint}

-- ---- pairs of lists

pub AllZip-append : {A B : Type 0} (R : A → B → Type 0) (xs xs' : List A) (ys ys' : List B) → AllZip R xs ys → AllZip R xs' ys'
    → AllZip R (xs ++ xs') (ys ++ ys')
AllZip-append R [] xs' [] ys' front rest = rest
AllZip-append R [] xs' (y ∷ ys) ys' front rest = absurd front
AllZip-append R (x ∷ xs) xs' [] ys' front rest = absurd front
AllZip-append R (x ∷ xs) xs' (y ∷ ys) ys' front rest = (front.0, AllZip-append R xs xs' ys ys' front.1 rest)

-- ---- an index that is built

pub index_made : (counted walked parts : List Part) (interval : ℕ) (start checkpoints : List Checkpoint) (segments used_lines : ℕ)
    → counted ≡ parts → walked ≡ parts → start ≡ []
    → (added : List Checkpoint) × (checkpoints ≡ start ++ added) × AreCheckpointsOf walked interval added → segments ≡ length (joined counted)
    → used_lines ≡ used_lines_in counted → 2 * segments ≤ bytes_in counted + length counted → IsInOrder (joined parts)
    → list_any is_mapping_past_limit (joined parts) ≡ false
    → IsIndexOf (record { parts = parts; k = interval; checkpoints = checkpoints; segments = segments; used_lines = used_lines }) parts interval
index_made counted walked parts interval start checkpoints segments used_lines same_counted same_walked none (added, all, marked) number lines few order
    in_range =
    let whole : checkpoints ≡ added = all ∙ ap (λ front. front ++ added) none in
    record {
      parts_are = refl;
      k_is = refl;
      marked = subst (λ checkpoints. AreCheckpointsOf parts interval checkpoints) (sym whole)
          (subst (λ parts. AreCheckpointsOf parts interval added) same_walked marked);
      segments_are = number ∙ ap (λ parts. length (joined parts)) same_counted;
      used_lines_are = lines ∙ ap used_lines_in same_counted;
      few = subst (λ n. 2 * n ≤ bytes_in parts + length parts) (number ∙ ap (λ parts. length (joined parts)) same_counted)
          (subst (λ parts. 2 * segments ≤ bytes_in parts + length parts) same_counted few);
      ordered = order;
      in_range = in_range;
    }
