-- What was refused in the middle of a reading is what the whole of it refuses.
use Rattle.std.proofs.Common.{◌≡◌, Result, Err, ◌⊎◌, ⊎_elim, inl, inr, ap, ◌∙◌}
use Rattle.smap_record.specs.Refusals.{◌>>=◌}
use Rattle.smap_record.specs.declared.refusal.MapRefusal.{MapRefusal}
use Rattle.smap_record.specs.declared.refusal.MapRefusal.TheVariants.{Memory}

pub handed_on : {A B : Type 0} (given : MapRefusal) (read : Result A MapRefusal) (next : A → Result B MapRefusal) (whole : Result B MapRefusal)
    → whole ≡ (read >>= next) → (given ≡ Memory) ⊎ (read ≡ Err given) → (given ≡ Memory) ⊎ (whole ≡ Err given)
handed_on given read next whole is why = ⊎_elim (λ memory. inl memory) (λ some. inr (is ∙ ap (λ r. r >>= next) some)) why
