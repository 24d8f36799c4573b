-- Why a list of files is refused.
use Rattle.std.specs.Prelude.{ℕ, List, Option, Some, None, codes}
use Rattle.smap_codes.specs.Codes.{text_of}
use Rattle.smap_codes.specs.declared.code.Code.{Code}
use Rattle.smap_codes.specs.declared.code.Code.TheVariants as called
use Rattle.smap_locations.specs.declared.refusal.ListFault.{ListFault}
use Rattle.smap_locations.specs.declared.refusal.ListFault.TheVariants.{NoTab, NoFolder, BadUrl, Twice, Memory}
use Rattle.smap_locations.specs.declared.refusal.ListRefusal.{ListRefusal}
use Rattle.smap_replies.specs.Lines.{list_refused_line}
use Rattle.smap_replies.specs.Map.{text_refusal}
use Rattle.smap_replies.specs.Outcome.{Report, misuse, out_of_memory}

-- ---- why a folder or a line is refused

-- in words, memory aside
abbrev pub reason_of : ListFault → Option (List ℕ)
reason_of NoTab = Some (codes "no TAB")
reason_of NoFolder = Some (codes "a folder needs PREFIX/, *MIDDLE/ or *MIDDLE\\")
reason_of BadUrl = Some (text_of called.A1)
reason_of Twice = Some (text_of called.A2)
reason_of Memory = None

-- what is reported where there is such a reason, and else that memory ran out
abbrev pub misuse_for : (line_of : List ℕ → List ℕ) → (reason : Option (List ℕ)) → Report
misuse_for line_of (Some reason) = misuse (line_of reason)
misuse_for line_of None = out_of_memory

-- a line of the list at this path is refused
abbrev pub list_refusal : (list : List ℕ) → ListRefusal → Report
list_refusal list refused = misuse_for (list_refused_line list refused.line) (reason_of refused.fault)

-- why its bytes are refused, where they are: as those of any text
abbrev pub list_bytes_refusal : (bytes : List ℕ) → Option Code
list_bytes_refusal = text_refusal
