-- What the rules and the list come to over which a text is rewritten.
use Rattle.std.proofs.Common.{◌≡◌, ℕ, Bool, ◌⊎◌, List, ◌∷◌, refl, sym, ap, subst, ◌∙◌, inl, inr}
use Rattle.std.specs.Prelude.{true, false, Option, Some, None, Result, Ok, Err, MatchBool, MatchOption}
use Rattle.std.specs.Option.{IsSomeAnd}
use Rattle.std.specs.Str.Lines.{lines}
use Rattle.smap_codes.specs.declared.code.Code.{Code}
use Rattle.smap_locations.specs.Locations.{LocationsSeen}
use Rattle.smap_store.specs.MapList.{AreTaken, IsRefusedAt, PutsRule, rule_fault}
use Rattle.smap_locations.specs.ListLine.{is_rule}
use Rattle.smap_locations.specs.declared.refusal.ListFault.{ListFault}
use Rattle.smap_locations.specs.declared.refusal.ListRefusal.{ListRefusal}
use Rattle.smap_record.specs.FileText.{without_mark}
use Rattle.smap_replies.specs.Lines.{list_refused_line}
use Rattle.smap_replies.specs.Map.{refused_file}
use Rattle.smap_replies.specs.Outcome.{OrMemory, Report, misuse, out_of_memory}
use Rattle.smap_text_answers.specs.Private.Sources.{IsRuleRefusal}
use Rattle.smap_text_answers.specs.Sources.{AddsAllowed, AddsLines, AddsList, NamesRules, excluded_line, excluded_reason, rule_refusal}
use Rattle.smap_replies.specs.Lists.{list_bytes_refusal, list_refusal}
use Rattle.smap_text_answers.specs.Trace.{Maps}
use Rattle.smap_text_answers.specs.declared.sources.MapSources.{MapSources}

-- ---- rules

module _ (arguments rest : List (List ℕ × List ℕ)) (url path : List ℕ) (old : LocationsSeen) (is : arguments ≡ (url, path) ∷ rest) where
  -- an argument names a file for one URL
  pub names_none : is_rule url path ≡ false → (result : Result LocationsSeen Report) → NamesRules rest old result → NamesRules arguments old result
  names_none file result names =
      subst (λ left. NamesRules left old result) (sym is)
      (subst (λ b. MatchBool b ((result ≡ Err out_of_memory) ⊎ MatchOption (rule_fault old url path)
      ((next : LocationsSeen) × PutsRule old url path next × NamesRules rest next result)
      (λ fault. result ≡ Err (rule_refusal fault url path))) (NamesRules rest old result)) (sym file) names)

  -- or is a rule
  named : is_rule url path ≡ true → (result : Result LocationsSeen Report) → (result ≡ Err out_of_memory) ⊎ MatchOption (rule_fault old url path)
      ((next : LocationsSeen) × PutsRule old url path next × NamesRules rest next result)
      (λ fault. result ≡ Err (rule_refusal fault url path)) → NamesRules arguments old result
  named rule result names =
      subst (λ left. NamesRules left old result) (sym is)
      (subst (λ b. MatchBool b ((result ≡ Err out_of_memory) ⊎ MatchOption (rule_fault old url path)
      ((next : LocationsSeen) × PutsRule old url path next × NamesRules rest next result)
      (λ fault. result ≡ Err (rule_refusal fault url path))) (NamesRules rest old result)) (sym rule) names)

  -- which is named
  pub names_next : is_rule url path ≡ true → rule_fault old url path ≡ None → (next : LocationsSeen) → PutsRule old url path next
      → (result : Result LocationsSeen Report) → NamesRules rest next result → NamesRules arguments old result
  names_next rule faultless next puts result names =
      named rule result (inr (subst (λ fault. MatchOption fault
      ((next : LocationsSeen) × PutsRule old url path next × NamesRules rest next result)
      (λ fault. result ≡ Err (rule_refusal fault url path))) (sym faultless) (next, puts, names)))

  -- or refused
  refused_so : (fault : Option ListFault) (report : Report) (result : Result LocationsSeen Report) → result ≡ Err report
      → (report ≡ out_of_memory) ⊎ MatchOption fault ⊥ (λ fault. report ≡ rule_refusal fault url path)
      → (result ≡ Err out_of_memory) ⊎ MatchOption fault ((next : LocationsSeen) × PutsRule old url path next × NamesRules rest next result)
      (λ fault. result ≡ Err (rule_refusal fault url path))
  refused_so fault report result given (inl no_memory) = inl (given ∙ ap Err no_memory)
  refused_so None report result given (inr never) = absurd never
  refused_so (Some fault) report result given (inr reported) = inr (given ∙ ap Err reported)

  pub names_refused : is_rule url path ≡ true → (report : Report) → OrMemory (IsRuleRefusal old url path) report → NamesRules arguments old (Err report)
  names_refused rule report refused = named rule (Err report) (refused_so (rule_fault old url path) report (Err report) refl refused)

-- ---- a list

module _ (anywhere : Bool) (list bytes : List ℕ) (exact : Maps) (old : LocationsSeen) where
  abbrev Adds : Result MapSources Report → Type 0
  Adds = AddsList anywhere list bytes exact old

  -- its bytes are refused
  refused_for : (why : Option Code) (report : Report) → IsSomeAnd why (λ code. report ≡ refused_file list code)
      → MatchOption why (AddsAllowed anywhere list (without_mark bytes) exact old (Err report))
      (λ code. ◌≡◌ {A = Result MapSources Report} (Err report) (Err (refused_file list code)))
  refused_for None report reported = absurd reported
  refused_for (Some code) report reported = ap Err reported

  pub adds_no_text : (report : Report) → OrMemory (λ t. IsSomeAnd (list_bytes_refusal bytes) (λ code. t ≡ refused_file list code)) report
      → Adds (Err report)
  adds_no_text report (inl no_memory) = inl (ap Err no_memory)
  adds_no_text report (inr reported) = inr (refused_for (list_bytes_refusal bytes) report reported)

  of_text : list_bytes_refusal bytes ≡ None → (result : Result MapSources Report) → AddsAllowed anywhere list (without_mark bytes) exact old result
      → Adds result
  of_text is_text result adds =
      inr (subst (λ r. MatchOption r (AddsAllowed anywhere list (without_mark bytes) exact old result) (λ code. result ≡ Err (refused_file list code)))
      (sym is_text) adds)

  -- a line is excluded
  pub adds_excluded : list_bytes_refusal bytes ≡ None → (number : ℕ) → excluded_line anywhere (without_mark bytes) ≡ Some number
      → (report : Report) → report ≡ misuse (list_refused_line list number excluded_reason) → Adds (Err report)
  adds_excluded is_text number excluded report reported =
      of_text is_text (Err report) (subst (λ r. MatchOption r (AddsLines list (without_mark bytes) exact old (Err report))
      (λ number. ◌≡◌ {A = Result MapSources Report} (Err report) (Err (misuse (list_refused_line list number excluded_reason)))))
      (sym excluded) (ap Err reported))

  of_lines : list_bytes_refusal bytes ≡ None → excluded_line anywhere (without_mark bytes) ≡ None → (result : Result MapSources Report)
      → AddsLines list (without_mark bytes) exact old result → Adds result
  of_lines is_text allowed result adds =
      of_text is_text result (subst (λ r. MatchOption r (AddsLines list (without_mark bytes) exact old result)
      (λ number. result ≡ Err (misuse (list_refused_line list number excluded_reason)))) (sym allowed) adds)

  -- its lines are taken
  pub adds_taken : list_bytes_refusal bytes ≡ None → excluded_line anywhere (without_mark bytes) ≡ None → (new : LocationsSeen) → AreTaken exact (lines (without_mark bytes)) old new
      → Adds (Ok (record { exact = exact; locations = new }))
  adds_taken is_text allowed new taken = of_lines is_text allowed _ (Ok tt, (new, taken, refl))

  -- up to one that is refused
  pub adds_refused : list_bytes_refusal bytes ≡ None → excluded_line anywhere (without_mark bytes) ≡ None → (new : LocationsSeen) (refused : ListRefusal)
      → IsRefusedAt exact (lines (without_mark bytes)) old new refused → (report : Report) → report ≡ list_refusal list refused → Adds (Err report)
  adds_refused is_text allowed new refused at report reported = of_lines is_text allowed _ (Err refused, (new, at, ap Err reported))
