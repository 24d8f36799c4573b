-- What comparing the maps of words comes to, argument by argument.
use Rattle.std.proofs.Common.{◌≡◌, ℕ, ◌⊎◌, List, ◌∷◌, refl, sym, subst, inl, inr}
use Rattle.std.specs.Prelude.{Bool, true, false, MatchBool, Result, Err}
use Rattle.smap_locations.specs.ByText.{value_under}
use Rattle.smap_locations.specs.ListLine.{is_rule}
use Rattle.smap_replies.specs.Files.{MayRead}
use Rattle.smap_replies.specs.Outcome.{OrMemory, Report}
use Rattle.smap_text_answers.specs.Fitting.{ComparesWords, FitsWord, IsMisfitWord}
use Rattle.smap_text_answers.specs.Told.{ToldSeen}
use Rattle.smap_text_answers.specs.Trace.{Maps}

module _ (Reads : MayRead) (number : ℕ) (exact : Maps) (arguments rest : List (List ℕ × List ℕ)) (url path : List ℕ) (old : ToldSeen)
    (is : arguments ≡ (url, path) ∷ rest) where
  abbrev Compares : List (List ℕ × List ℕ) → (old : ToldSeen) → Result ToldSeen Report → Type 0
  Compares = ComparesWords Reads number exact

  -- what the map of the first argument, and those behind it, come to
  abbrev Word : Result ToldSeen Report → Type 0
  Word result =
      ((report : Report) × OrMemory (IsMisfitWord Reads number path (value_under url exact)) report × (result ≡ Err report))
      ⊎ ((next : ToldSeen) × FitsWord Reads number path (value_under url exact) old next × Compares rest next result)

  of_first : (b : Bool) → is_rule url path ≡ b → (result : Result ToldSeen Report) → MatchBool b (Compares rest old result) (Word result)
      → Compares arguments old result
  of_first b rule result so =
      subst (λ left. Compares left old result) (sym is)
      (subst (λ b. MatchBool b (Compares rest old result) (Word result)) (sym rule) so)

  -- it is a rule, which is passed over
  pub words_passed : is_rule url path ≡ true → (result : Result ToldSeen Report) → Compares rest old result → Compares arguments old result
  words_passed rule result compares = of_first true rule result compares

  -- its map may be used
  pub words_next : is_rule url path ≡ false → (next : ToldSeen) → FitsWord Reads number path (value_under url exact) old next
      → (result : Result ToldSeen Report) → Compares rest next result → Compares arguments old result
  words_next file next fits result compares = of_first false file result (inr (next, fits, compares))

  -- or is refused
  pub words_refused : is_rule url path ≡ false → (report : Report) → OrMemory (IsMisfitWord Reads number path (value_under url exact)) report
      → Compares arguments old (Err report)
  words_refused file report refused = of_first false file (Err report) (inl (report, refused, refl))
