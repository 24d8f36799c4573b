-- What `explain` prints of a code.
use Rattle.std.specs.Prelude.{◌≡◌, ◌++◌, ◌∷◌, ℕ, codes, flat_map, List, None, Option, Some}
use Rattle.smap_codes.specs.Texts.{TellsOf, title_line}
use Rattle.smap_codes.specs.Words.{codes_called}
use Rattle.smap_codes.specs.Codes.{all_codes}
use Rattle.smap_codes.specs.declared.code.Code.{Code}
use Rattle.smap_text.specs.Shown.{shown}
use Rattle.smap_replies.specs.Outcome.{Report, answer, refusal}

-- how all codes are called, one a line
abbrev pub all_titles : List ℕ
all_titles = flat_map title_line all_codes

-- that no code is called so, and how all are called
abbrev pub no_code_text : (word : List ℕ) → List ℕ
no_code_text word = codes "refused: no code " ++ (shown word ++ (10 ∷ all_titles))

-- what is told of the codes that are called so, or that there is none, and which there are
abbrev pub report_told : (word : List ℕ) → (told : Option (List ℕ)) → Report
report_told word None = refusal None (no_code_text word)
report_told word (Some text) = answer text

-- these codes are reported
abbrev pub ReportsCalled : (word : List ℕ) → List Code → Report → Type 0
ReportsCalled word codes report = (told : Option (List ℕ)) × TellsOf codes told × (report ≡ report_told word told)

-- a word is looked for; without one all codes are reported
abbrev pub ReportsCode : Option (List ℕ) → Report → Type 0
ReportsCode None report = report ≡ answer all_titles
ReportsCode (Some word) report = ReportsCalled word (codes_called word) report
