-- What is read of a map, by where it stands.
use Rattle.std.proofs.Common.{◌≡◌, ◌≢◌, ◌∙◌, ℕ, List, ap, inl, inr, refl, subst, sym}
use Rattle.std.specs.Prelude.{None, Result, Ok, Err}
use Rattle.std.specs.Result.{result_map_both}
use Rattle.smap_record.specs.NamedSources.{map_by_path, named_by_path}
use Rattle.smap_record.specs.MapFile.{IsMapOf, IsRefusalOf, Map}
use Rattle.smap_record.specs.Record.{MapRecord, record_of}
use Rattle.smap_record.specs.declared.refusal.MapRefusal.{MapRefusal}
use Rattle.smap_record.specs.declared.refusal.MapRefusal.TheVariants.{Memory}
use Rattle.smap_replies.specs.Map.{Never, ReportsFound, refusal_result}
use Rattle.smap_replies.specs.Outcome.{OrMemory, Report}
use Rattle.smap_replies.specs.Standing.{IsRefusedFor, MayRefuse, record_standing}
use Rattle.smap_replies.specs.Standing.StandingSeen.{by_path}

-- ---- why it is refused

-- what reading refuses
pub may_refuse : (found : Result MapRecord MapRefusal) (refusal : MapRefusal) → IsRefusalOf found refusal → MayRefuse found refusal
may_refuse found refusal (inl memory) = inl memory
may_refuse (Ok stated) refusal (inr (inl (url, named))) = inr url
may_refuse (Err given) refusal (inr (inl (url, named))) = absurd named
may_refuse found refusal (inr (inr is)) = subst (λ f. MayRefuse f refusal) (sym is) (inr refl)

-- what is reported of it
pub reports_refused : (path : List ℕ) (found : Result MapRecord MapRefusal) (refusal : MapRefusal) (report : Report) → IsRefusedFor found refusal
    → report ≡ refusal_result path refusal → ReportsFound (refusal_result path) found Never report
reports_refused path (Ok stated) refusal report refused is = inl (is ∙ ap (refusal_result path) refused)
reports_refused path (Err given) refusal report refused is = is ∙ ap (refusal_result path) refused

pub reports_so : (path : List ℕ) (found : Result MapRecord MapRefusal) (refusal : MapRefusal) (report : Report) → MayRefuse found refusal → refusal ≢ Memory
    → report ≡ refusal_result path refusal → OrMemory (ReportsFound (refusal_result path) found Never) report
reports_so path found refusal report (inl memory) no_memory is = absurd (no_memory memory)
reports_so path found refusal report (inr refused) no_memory is = inr (reports_refused path found refusal report refused is)

-- ---- whose sources are named by a path

module _ (k : ℕ) (url bytes : List ℕ) where
  pub read_so : (read named : Map) → IsMapOf (record_of bytes None k) k read → named ≡ map_by_path url read → IsMapOf (record_standing (by_path url) k bytes) k named
  read_so read named is made = (
    ap (result_map_both (named_by_path url) (λ refused. refused)) is.0 ∙ ap (λ (m : Map). Ok m.stated) (sym made),
    ap (λ (m : Map). m.k) made ∙ is.1,
  )

  found_so : (found : Result MapRecord MapRefusal) (refusal : MapRefusal) → MayRefuse found refusal
      → MayRefuse (result_map_both (named_by_path url) (λ refused. refused) found) refusal
  found_so (Err given) refusal may = may
  found_so (Ok stated) refusal may = may

  pub refused_so : (refusal : MapRefusal) → MayRefuse (record_of bytes None k) refusal → MayRefuse (record_standing (by_path url) k bytes) refusal
  refused_so refusal may = found_so (record_of bytes None k) refusal may
