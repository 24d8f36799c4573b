-- What the arguments of `rewrite` come to, argument by argument.
use Rattle.std.proofs.Common.{◌≡◌, ℕ, ◌+◌, ◌⊎◌, List, ◌∷◌, refl, sym, ap, subst, ◌∙◌, inl, inr, add-one}
use Rattle.std.specs.Prelude.{Bool, true, false, ◌&&◌, MatchBool, Option, Some, None, Result, Ok, Err, MatchOption}
use Rattle.smap_locations.specs.ListLine.{is_rule}
use Rattle.smap_record.specs.Record.{MapRecord}
use Rattle.smap_record.specs.declared.refusal.MapRefusal.{MapRefusal}
use Rattle.smap_trace.specs.Table.{url_refusal}
use Rattle.smap_trace.specs.declared.refusal.TableRefusal.{TableRefusal}
use Rattle.smap_trace.specs.declared.refusal.TableRefusal.TheVariants.{Memory}
use Rattle.smap_replies.specs.Files.{IsUnread, MayRead}
use Rattle.smap_replies.specs.Map.{Never, ReportsFound, refusal_result}
use Rattle.smap_replies.specs.Outcome.{OrMemory, Report, out_of_memory}
use Rattle.smap_text_answers.specs.Private.Gathering.{gathered}
use Rattle.smap_text_answers.specs.Standing.{record_named}
use Rattle.smap_text_answers.specs.Trace.{Gathers, Maps, Puts, PutsFound, PutsMap, PutsNext, url_refusal_result}
use Rattle.smap_replies.specs.declared.outcome.Failure.{Failure}
use Rattle.url.specs.Parts.{Parts}

-- ---- a map and the table

-- a map that the table did not take
pub puts_refused : (maps : Maps) (url path : List ℕ) (stated : MapRecord) (refusal : Option TableRefusal) (refused : TableRefusal)
    (report : Report) (result : Result Maps Report)
    → result ≡ Err report → MatchOption refusal (refused ≡ Memory) (λ first. refused ≡ first) → report ≡ url_refusal_result refused url path
    → (result ≡ Err out_of_memory) ⊎ Puts maps url path stated refusal result
puts_refused maps url path stated None refused report result given is reported = inl (given ∙ ap Err (reported ∙ ap (λ r. url_refusal_result r url path) is))
puts_refused maps url path stated (Some first) refused report result given is reported =
    inr (given ∙ ap Err (reported ∙ ap (λ r. url_refusal_result r url path) is))

-- ---- a file

-- it gives a map, which the table takes or refuses
pub puts_read : (paths : Bool) (base : Option Parts) (k : ℕ) (maps : Maps) (url path bytes : List ℕ) (stated : MapRecord) (result : Result Maps Report)
    → record_named paths base k url bytes ≡ Ok stated
    → (result ≡ Err out_of_memory) ⊎ Puts maps url path stated (url_refusal maps url) result → PutsMap paths base k maps url path bytes result
puts_read paths base k maps url path bytes stated result read (inl no_memory) = inl no_memory
puts_read paths base k maps url path bytes stated result read (inr puts) =
    inr (subst (λ found. PutsFound maps url path found result) (sym read) (inr puts))

found_refused : (maps : Maps) (url path : List ℕ) (found : Result MapRecord MapRefusal) (report : Report) (result : Result Maps Report)
    → result ≡ Err report → ReportsFound (refusal_result path) found Never report → PutsFound maps url path found result
found_refused maps url path (Err refused) report result given is = given ∙ ap Err is
found_refused maps url path (Ok stated) report result given (inl is) = inl (given ∙ ap Err is)
found_refused maps url path (Ok stated) report result given (inr never) = absurd never

-- or none
pub puts_unread : (paths : Bool) (base : Option Parts) (k : ℕ) (maps : Maps) (url path bytes : List ℕ) (report : Report) (result : Result Maps Report)
    → result ≡ Err report → OrMemory (ReportsFound (refusal_result path) (record_named paths base k url bytes) Never) report
    → PutsMap paths base k maps url path bytes result
puts_unread paths base k maps url path bytes report result given (inl no_memory) = inl (given ∙ ap Err no_memory)
puts_unread paths base k maps url path bytes report result given (inr is) =
    inr (found_refused maps url path (record_named paths base k url bytes) report result given is)

-- after the arguments before, none of which was refused
pub puts_after : (paths : Bool) (base : Option Parts) (k : ℕ) (before : Result Maps Failure) (maps : Maps) (url path bytes : List ℕ)
    (result : Result Maps Report) → before ≡ Ok maps
    → PutsMap paths base k maps url path bytes result → PutsNext paths base k (gathered before) url path bytes result
puts_after paths base k before maps url path bytes result is puts = subst (λ b. PutsNext paths base k (gathered b) url path bytes result) (sym is) puts

-- ---- all files

if_true : (A B : Type 0) (is : Bool) → is ≡ true → A → MatchBool is A B
if_true A B is holds one = subst (λ b. MatchBool b A B) (sym holds) one

if_false : (A B : Type 0) (is : Bool) → is ≡ false → B → MatchBool is A B
if_false A B is fails one = subst (λ b. MatchBool b A B) (sym fails) one

module _ (passes : Bool) (Reads : MayRead) (paths : Bool) (base : Option Parts) (k number : ℕ) (before : Result Maps Report) (arguments rest : List (List ℕ × List ℕ))
    (url path : List ℕ) (is : arguments ≡ (url, path) ∷ rest) where
  -- what the first argument and those behind it come to is what all do
  of_first : (result : Result Maps Report) → Gathers passes Reads paths base k number before ((url, path) ∷ rest) result
      → Gathers passes Reads paths base k number before arguments result
  of_first result gathers = subst (λ left. Gathers passes Reads paths base k number before left result) (sym is) gathers

  -- a rule was passed over
  pub gathers_passed : (passed : Bool) → passed ≡ (passes && is_rule url path) → passed ≡ true → (result : Result Maps Report)
      → Gathers passes Reads paths base k (number + 1) before rest result → Gathers passes Reads paths base k number before arguments result
  gathers_passed passed so holds result gathers = of_first result (if_true _ _ _ (sym so ∙ holds) (rw (add-one) at gathers))

  -- the file of an argument was read
  pub gathers_next : (passed : Bool) → passed ≡ (passes && is_rule url path) → passed ≡ false → (bytes : List ℕ) (next result : Result Maps Report)
      → Reads number path (Ok bytes) → PutsNext paths base k before url path bytes next → Gathers passes Reads paths base k (number + 1) next rest result
      → Gathers passes Reads paths base k number before arguments result
  gathers_next passed so fails bytes next result reads puts gathers =
      of_first result (if_false _ _ _ (sym so ∙ fails) (inr (bytes, reads, (next, puts, (rw (add-one) at gathers)))))

  -- or was not
  pub gathers_unread : (passed : Bool) → passed ≡ (passes && is_rule url path) → passed ≡ false → (report : Report)
      → OrMemory (IsUnread Reads number path) report → Gathers passes Reads paths base k number before arguments (Err report)
  gathers_unread passed so fails report unread = of_first (Err report) (if_false _ _ _ (sym so ∙ fails) (inl (report, unread, refl)))
