-- What the parts of the call that gathers the sources of maps give.
use Rattle.std.specs.Prelude.{◌≡◌, List, ℕ, MatchOption}
use Rattle.smap_locations.specs.Locations.{LocationsSeen}
use Rattle.smap_store.specs.MapList.{rule_fault}
use Rattle.smap_replies.specs.Outcome.{Report}
use Rattle.smap_text_answers.specs.Sources.{rule_refusal}

-- a rule is refused so
abbrev pub IsRuleRefusal : LocationsSeen → (url path : List ℕ) → Report → Type 0
IsRuleRefusal locations url path report =
    MatchOption (rule_fault locations url path) ⊥ (λ fault. report ≡ rule_refusal fault url path)
