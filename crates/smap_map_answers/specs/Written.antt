-- A composed map that is written, without what is left out of it.
use Rattle.std.specs.Prelude.{List, ℕ, [], ◌∷◌, Option, Result, Ok, Err}
use Rattle.smap_command.specs.declared.options.WriteOptions.{WriteOptions}
use Rattle.smap_compose.specs.Composition.{Composition}
use Rattle.smap_compose.specs.LeftOut.{left_of}
use Rattle.smap_compose.specs.declared.left_out.LeftOut.{LeftOut}
use Rattle.smap_compose.specs.declared.refusal.ComposeRefusal.{ComposeRefusal}
use Rattle.smap_mappings.specs.Canonical.{canonical_text}
use Rattle.smap_record.specs.DebugId.{with_debug_id_of}
use Rattle.smap_record.specs.Written.{written}
use Rattle.smap_command.specs.Lines.{line_from}
use Rattle.smap_replies.specs.Outcome.{Report, answer}

-- what these options leave out
abbrev pub left_out_of : WriteOptions → LeftOut
left_out_of options = record { unused = options.prune; contents = options.no_content }

-- a map as a line, with a debug id, where one is given
abbrev pub composed_line : (id : Option (List ℕ)) → Composition → List ℕ
composed_line id composed = line_from (
    with_debug_id_of id (written composed.sources composed.names composed.file (canonical_text composed.mappings)) ∷ [])

abbrev pub line_reported : (id : Option (List ℕ)) → Result Composition ComposeRefusal → Result Report ComposeRefusal
line_reported id (Err refused) = Err refused
line_reported id (Ok whole) = Ok (answer (composed_line id whole))

-- what is said of what is left of a map that maps come to, or why it is refused
abbrev pub written_of : WriteOptions → (id : Option (List ℕ)) → Result Composition ComposeRefusal → Result Report ComposeRefusal
written_of options id made = line_reported id (left_of (left_out_of options) made)

-- the same, with what is said of a refusal
abbrev pub report_or : (refusal_of : ComposeRefusal → Report) → Result Report ComposeRefusal → Report
report_or refusal_of (Err refused) = refusal_of refused
report_or refusal_of (Ok report) = report

abbrev pub written_result : (refusal_of : ComposeRefusal → Report) → WriteOptions → (id : Option (List ℕ)) → Result Composition ComposeRefusal → Report
written_result refusal_of options id made = report_or refusal_of (written_of options id made)
