-- What is reported of several things, one after another.
use Rattle.std.specs.Prelude.{◌≡◌, ℕ, ◌⊎◌, true, false, List, [], ◌∷◌, max, suc}
use Rattle.smap_replies.specs.Outcome.{OrMemory, Report}
use Rattle.smap_replies.specs.Streams.{Ends, Sinks}

-- after one whose report ended with a status: nothing more where standard output failed; else the others, and the status is
-- the greater of this one and theirs
abbrev pub ReportsOn : (first : ℕ) → (between : Sinks) → (rest : ℕ → Sinks → Type 0) → (status : ℕ) → (after : Sinks) → Type 0
ReportsOn first between rest status after =
    ((between.output.failed ≡ true) × (status ≡ first) × (after ≡ between))
    ⊎ ((between.output.failed ≡ false) × ((others : ℕ) × rest others after × (status ≡ max first others)))

-- each of them is reported so, the first having this number
abbrev pub ReportsEach : {A : Type 0} → (Reports : (number : ℕ) → A → Report → Type 0) → (number : ℕ) → List A → (status : ℕ)
    → (before after : Sinks) → Type 0
ReportsEach Reports number [] status before after = (status ≡ 0) × (after ≡ before)
ReportsEach Reports number (one ∷ rest) status before after =
    (report : Report) × (first : ℕ) × (between : Sinks) × OrMemory (Reports number one) report × Ends report first before between
    × ReportsOn first between (λ others after. ReportsEach Reports (suc number) rest others between after) status after
