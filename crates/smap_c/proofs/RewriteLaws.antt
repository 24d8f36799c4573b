-- Why a rewriting is refused, from what was written.
use Rattle.std.proofs.Common.{◌≡◌, ◌⊎◌, ◌∙◌, ◌<◌, ℕ, List, [], Ok, Err, Result, Option, Some, inl, inr, ap, append-nil, arith, length, length-append, subst, sym, take}
use Rattle.std.specs.Option.{IfSome}
use Rattle.std.specs.Result.{IfErr, IfOk}
use Rattle.std.proofs.lemmas.List.{take-append-le}
use Rattle.smap_codes.specs.declared.code.Code.TheVariants.{X3, X5}
use Rattle.smap_lines.specs.Limits.{most_text_bytes}
use Rattle.smap_lines.specs.declared.fault.LineFault.{LineFault}
use Rattle.smap_lines.specs.declared.fault.LineFault.TheVariants.{TooMuch}
use Rattle.smap_store.specs.UrlTable.{UrlTableSeen}
use Rattle.smap_trace.specs.declared.outcome.Summary.{Summary}
use Rattle.smap_c.specs.Private.Rewriting.{EndsRewriting, HasFront, IsRewritten, IsTooMuch}
use Rattle.smap_c.specs.Trace.{IsLong, line_ends, rewrite_refused}
use Rattle.smap_c.specs.declared.trace.RewriteOptions.{RewriteOptions}
use Rattle.smap_c.specs.declared.trace.RewriteRefusal.{RewriteRefusal}

module _ (options : RewriteOptions) (table : UrlTableSeen) (read written : List ℕ) where
  -- what was rewritten to its end is a front of itself
  all_front : (summary : Summary) → IsRewritten options table read written summary → HasFront options table read written
  all_front summary is = record {
    front = read;
    rest = [];
    later = [];
    is_front = sym (append-nil read);
    made = sym is.text_is ∙ sym (append-nil written);
  }

  pub front_of : (result : Result Summary LineFault) → EndsRewriting options table read written result → HasFront options table read written
  front_of (Ok summary) ends = all_front summary ends
  front_of (Err fault) ends = ends.1

  -- where more was written than the bound, a front of what is read comes to more
  pub is_long : HasFront options table read written → (most : ℕ) (refusal : RewriteRefusal) → most < length written
      → refusal ≡ rewrite_refused X5 (line_ends (take most written)) → IsLong options table read most refusal
  is_long is most refusal over refused = record {
    front = is.front;
    rest = is.rest;
    is_front = is.is_front;
    long = omega (arith, ap length is.made, length-append written is.later, over);
    refused = refused ∙ ap (λ l. rewrite_refused X5 (line_ends l))
        (sym (take-append-le most written is.later (omega (arith, over))) ∙ ap (take most) (sym is.made));
  }

-- what holds of what a handle holds
pub if_held : (held : Option UrlTableSeen) (table : UrlTableSeen) → Some table ≡ held → (P : UrlTableSeen → Type 0) → P table → IfSome held P
if_held held table is P holds = subst (λ h. IfSome h P) is holds

-- where nothing else is too much, what is read is
module _ (options : RewriteOptions) (table : UrlTableSeen) (read written : List ℕ) (status : ℕ) (refusal : RewriteRefusal) (is : status ≡ 1) where
  abbrev TooMuchRead : Type 0
  TooMuchRead = (most_text_bytes < length read) × (refusal ≡ rewrite_refused X3 0)

  not_done : (status ≡ 0) ⊎ (status ≡ 3) → TooMuchRead
  not_done (inl zero) = absurd (omega (arith, zero, is))
  not_done (inr three) = absurd (omega (arith, three, is))

  for_fault : (fault : LineFault) → IsTooMuch read fault
      → ((status ≡ 1) × (fault ≡ TooMuch) × (refusal ≡ rewrite_refused X3 0)) ⊎ (status ≡ 3) → TooMuchRead
  for_fault fault many (inl some) = (many some.1, some.2)
  for_fault fault many (inr three) = absurd (omega (arith, three, is))

  pub too_much_read : (outcome : Result Summary LineFault) → IfOk outcome (λ summary. (status ≡ 0) ⊎ (status ≡ 3))
      → IfErr outcome (λ fault. ((status ≡ 1) × (fault ≡ TooMuch) × (refusal ≡ rewrite_refused X3 0)) ⊎ (status ≡ 3))
      → EndsRewriting options table read written outcome → TooMuchRead
  too_much_read (Ok summary) done failed ends = not_done done
  too_much_read (Err fault) done failed ends = for_fault fault ends.0 failed
