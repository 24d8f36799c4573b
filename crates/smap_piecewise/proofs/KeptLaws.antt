-- Asking changes nothing of what is kept but the order of use and the counts.
use Rattle.std.proofs.Common.{◌≡◌, ◌∙◌, ℕ, List, refl, ap, option_map}
use Rattle.smap_kept.specs.Kept.{KeptSeen, answer_of, asked_for, own_answer, used_by, why_none}
use Rattle.smap_kept.specs.Laws.Under.{same_used}
use Rattle.smap_kept.specs.OwnUrls.{key_of}
use Rattle.smap_kept.specs.declared.answer.KeptAnswer.{KeptAnswer}
use Rattle.smap_kept.specs.declared.answer.KeptAnswer.TheVariants.{Known, NoneKnown, Wanted}
use Rattle.smap_piecewise.specs.KeptMaps.{Holding, declared_by, declared_in, holding_of, known_in, stated_by}
use Rattle.smap_piecewise.specs.declared.kept_maps.KeptMap.{KeptMap}

module _ {T : Type 0} (url : List ℕ) (kept : KeptSeen T) where
  pub use_holds : (found : KeptAnswer T) → holding_of (used_by found url kept) ≡ holding_of kept
  use_holds (Known value) = λ i. record {
    values = λ other. same_used other url kept.values i;
    nones = (holding_of kept).nones;
    others = (holding_of kept).others;
  }
  use_holds (NoneKnown why) = λ i. record {
    values = (holding_of kept).values;
    nones = λ other. same_used other url kept.nones i;
    others = (holding_of kept).others;
  }
  use_holds Wanted = refl

-- ---- a look-up

-- the answer, by what is kept
abbrev answer_by : {T : Type 0} → (now : ℕ) → Holding T → (url : List ℕ) → KeptAnswer T
answer_by now held url =
    let key = key_of held.others.own url in
    answer_of (option_map (λ one. one.value) (held.values key)) (why_none now (option_map (λ one. one.value) (held.nones key)))

module _ (now : ℕ) (url : List ℕ) where
  pub asked_holds : {T : Type 0} (kept : KeptSeen T) → holding_of (asked_for now kept url) ≡ holding_of kept
  asked_holds kept = let key = key_of kept.own url in use_holds key kept (own_answer now kept key)

  pub known_stays : (kept : KeptSeen KeptMap) → known_in now (asked_for now kept url) ≡ known_in now kept
  known_stays kept = λ i other. stated_by (answer_by now (asked_holds kept i) other)

  pub declared_stays : (kept : KeptSeen KeptMap) → declared_in now (asked_for now kept url) ≡ declared_in now kept
  declared_stays kept = λ i other. declared_by (answer_by now (asked_holds kept i) other)

  -- so after a look-up
  module _ (old new : KeptSeen KeptMap) (asked : new ≡ asked_for now old url) where
    pub known_after : known_in now new ≡ known_in now old
    known_after = ap (known_in now) asked ∙ known_stays old

    pub declared_after : declared_in now new ≡ declared_in now old
    declared_after = ap (declared_in now) asked ∙ declared_stays old

    pub still_after : ◌≡◌ {A = Holding KeptMap × ℕ} (holding_of new, now) (holding_of old, now)
    still_after = ap (λ held. (held, now)) (ap holding_of asked ∙ asked_holds old)
