-- Lines of a list that are taken, one more each time.
use Rattle.std.proofs.Common.{◌≡◌, ◌<◌, ◌≤◌, ◌+◌, ℕ, Bool, true, false, List, [], ◌∷◌, ◌++◌, Option, Some, None, length, get_or, take, drop, refl, sym, ap, subst, suc}
use Rattle.std.proofs.Common.{inl, inr, arith, add-one, ◌∙◌}
use Rattle.std.specs.Prelude.{Result, Ok, Err, IfErr, IsErrAnd, MatchOption, if◌then◌else◌}
use Rattle.std.proofs.Math.Seq.{drop-cons, take-length, take-suc}
use Rattle.std.proofs.lemmas.List.{length-take-le, take-append-drop}
use Rattle.smap_locations.specs.Locations.{LocationsSeen}
use Rattle.smap_record.specs.Record.{MapRecord}
use Rattle.smap_locations.specs.ListLine.{entry_of, entry_or_fault, is_passed_over, is_rule, line_entry}
use Rattle.smap_store.specs.MapList.{AreTaken, IsRefused, IsRefusedAt, IsTaken, entry_fault, file_fault, line_fault, rule_fault}
use Rattle.smap_locations.specs.declared.refusal.ListFault.{ListFault}
use Rattle.smap_locations.specs.declared.refusal.ListFault.TheVariants.{Memory}

one_taken : (exact : List (List ℕ × MapRecord)) (lines : List (List ℕ)) (line : List ℕ) (old now new : LocationsSeen) → AreTaken exact lines old now
    → IsTaken exact now line new → AreTaken exact (lines ++ line ∷ []) old new
one_taken exact [] line old now new taken is =
    let P : LocationsSeen → Type 0 = λ old. IsTaken exact old line new in
    (new, subst P taken is, refl)
one_taken exact (first ∷ lines) line old now new taken is = (taken.0, taken.1, one_taken exact lines line taken.0 now new taken.2 is)

module _ (exact : List (List ℕ × MapRecord)) (lines : List (List ℕ)) (number : ℕ) (line : List ℕ) (old now new : LocationsSeen)
    (is : (number < length lines) × (line ≡ get_or lines number line)) (taken : AreTaken exact (take number lines) old now) where
  pub more_taken : IsTaken exact now line new → AreTaken exact (take (number + 1) lines) old new
  more_taken one =
      let all : take (number + 1) lines ≡ take number lines ++ line ∷ [] =
      ap (λ n. take n lines) (add-one number) ∙ take-suc lines number line is.0 ∙ ap (λ l. take number lines ++ l ∷ []) (sym is.1) in
      let P : List (List ℕ) → Type 0 = λ lines. AreTaken exact lines old new in
      subst P (sym all) (one_taken exact (take number lines) line old now new taken one)

  pub refused_here : (fault : ListFault) (count : ℕ) → count ≡ number → new ≡ now → IsRefused exact now line fault
      → IsRefusedAt exact lines old new (record { line = count + 1; fault = fault })
  refused_here fault count counted kept refused =
      let P : LocationsSeen → Type 0 = λ l. AreTaken exact (take number lines) old l in
      let Q : LocationsSeen → Type 0 = λ l. IsRefused exact l line fault in
      let within : number ≤ length lines = omega (arith, is.0) in
      record {
        before = take number lines;
        line = line;
        after = drop (suc number) lines;
        lines_are =
            sym (take-append-drop number lines) ∙ ap (λ l. take number lines ++ l) (drop-cons lines number line is.0)
            ∙ ap (λ l. take number lines ++ l ∷ drop (suc number) lines) (sym is.1);
        number = ap (λ n. n + 1) (counted ∙ sym (length-take-le number lines within));
        taken = subst P (sym kept) taken;
        refused = subst Q (sym kept) refused;
      }

pub all_taken : (exact : List (List ℕ × MapRecord)) (lines : List (List ℕ)) (number : ℕ) (old now : LocationsSeen) → number ≡ length lines
    → AreTaken exact (take number lines) old now → AreTaken exact lines old now
all_taken exact lines number old now is taken =
    let P : List (List ℕ) → Type 0 = λ lines. AreTaken exact lines old now in
    subst P (ap (λ n. take n lines) is ∙ take-length lines) taken

-- ---- a rule

module _ (exact : List (List ℕ × MapRecord)) (locations : LocationsSeen) (line url path : List ℕ) where
  -- why it is refused is why its line is
  refused_by : (result : Result (Unit {0}) ListFault) (fault : Option ListFault) → is_passed_over line ≡ false → line_fault exact locations line ≡ fault
      → MatchOption fault (IfErr result (λ refusal. refusal ≡ Memory)) (λ fault. IsErrAnd result (λ e. e ≡ fault))
      → IfErr result (IsRefused exact locations line)
  refused_by (Ok done) fault says is refused = tt
  refused_by (Err refusal) None says is refused = inr (says, is, refused)
  refused_by (Err refusal) (Some fault) says is refused = inl (is ∙ ap Some (sym refused))

  fault_of_line : (passed : Bool) (entry : Option (List ℕ × List ℕ)) → is_passed_over line ≡ passed → entry_of line ≡ entry
      → (if passed then Ok None else entry_or_fault entry) ≡ Ok (Some (url, path)) → is_rule url path ≡ true
      → (passed ≡ false) × (line_fault exact locations line ≡ rule_fault locations url path)
  fault_of_line true entry says has is rule = cc
  fault_of_line false None says has is rule = cc
  fault_of_line false (Some entry) says has is rule =
      let same : entry ≡ (url, path) = cc in (
        refl,
        ap (λ b. if b then None else entry_fault exact locations (entry_of line)) says ∙ ap (entry_fault exact locations) (has ∙ ap Some same)
            ∙ ap (λ b. if b then rule_fault locations url path else file_fault exact locations url) rule,
      )

  pub rule_refused : (result : Result (Unit {0}) ListFault) → line_entry line ≡ Ok (Some (url, path)) → is_rule url path ≡ true
      → MatchOption (rule_fault locations url path) (IfErr result (λ refusal. refusal ≡ Memory)) (λ fault. IsErrAnd result (λ e. e ≡ fault))
      → IfErr result (IsRefused exact locations line)
  rule_refused result is rule refused =
      let found = fault_of_line (is_passed_over line) (entry_of line) refl refl is rule in
      refused_by result (rule_fault locations url path) found.0 found.1 refused
