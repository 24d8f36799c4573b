-- What reporting several things comes to, one by one.
use Rattle.std.proofs.Common.{◌≡◌, ℕ, ◌+◌, true, false, List, [], ◌∷◌, max, add-one, refl, sym}
use Rattle.std.proofs.Common.{subst, inl, inr, arith}
use Rattle.smap_replies.specs.InTurn.{ReportsEach}
use Rattle.smap_replies.specs.Outcome.{OrMemory, Report}
use Rattle.smap_replies.specs.Streams.{Ends, Sinks}

max_assoc : (a b c : ℕ) → max a (max b c) ≡ max (max a b) c
max_assoc a b c = omega arith

module _ {A : Type 0} (Reports : (number : ℕ) → A → Report → Type 0) where
  -- what those that are left come to makes what all come to, of which the first has this number
  abbrev pub Makes : (start : ℕ) (all left : List A) (number status : ℕ) (before now : Sinks) → Type 0
  Makes start all left number status before now =
      (others : ℕ) (after : Sinks) → ReportsEach Reports number left others now after
      → ReportsEach Reports start all (max status others) before after

  module _ (start : ℕ) (all left rest : List A) (one : A) (number status first : ℕ) (before now between : Sinks) (report : Report)
      (is : left ≡ one ∷ rest) (makes : Makes start all left number status before now)
      (reports : OrMemory (Reports number one) report) (ends : Ends report first now between) where
    -- one was reported, and standard output works
    pub goes_on : between.output.failed ≡ false → Makes start all rest (number + 1) (max status first) before between
    goes_on works others after more =
        subst (λ s. ReportsEach Reports start all s before after) (max_assoc status first others)
        (makes (max first others) after (subst (λ left. ReportsEach Reports number left (max first others) now after) (sym is)
        (report, first, between, reports, ends, inr (works, (others, (rw (add-one) at more), refl)))))

    -- or it has failed
    pub stops : between.output.failed ≡ true → ReportsEach Reports start all (max status first) before between
    stops failed = makes first between (subst (λ left. ReportsEach Reports number left first now between) (sym is)
        (report, first, between, reports, ends, inl (failed, refl, refl)))

  -- none is left
  pub all_reported : (start : ℕ) (all left : List A) (number status : ℕ) (before now : Sinks) → left ≡ []
      → Makes start all left number status before now → ReportsEach Reports start all status before now
  all_reported start all left number status before now none makes =
      subst (λ s. ReportsEach Reports start all s before now) (omega arith)
      (makes 0 now (subst (λ left. ReportsEach Reports number left 0 now now) (sym none) (refl, refl)))
