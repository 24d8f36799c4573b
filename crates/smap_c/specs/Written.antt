-- The texts of written maps, and the numbers of refusals.
use Rattle.std.specs.Prelude.{ℕ, List}
use Rattle.smap_mappings.specs.Canonical.{canonical_text}
use Rattle.smap_index.specs.Parts.{joined}
use Rattle.smap_record.specs.Record.{MapRecord}
use Rattle.smap_record.specs.Written.{written}
use Rattle.smap_compose.specs.Codes.{compose_code}
use Rattle.smap_compose.specs.Composition.{Composition, composition}
use Rattle.smap_compose.specs.declared.refusal.ComposeRefusal.{ComposeRefusal}
use Rattle.smap_c.specs.Codes.{code_number}

-- the text of one regular map that states the same
abbrev pub map_text : MapRecord → List ℕ
map_text stated = written stated.sources stated.names stated.file (canonical_text (joined stated.parts))

abbrev pub text_of_composition : Composition → List ℕ
text_of_composition composed = written composed.sources composed.names composed.file (canonical_text composed.mappings)

-- the text of the map that two maps compose to, the inner one being of this source of the outer one
abbrev pub composed_text : MapRecord → (source : ℕ) → MapRecord → List ℕ
composed_text outer source inner = text_of_composition (composition outer source inner)

-- the number of the code of a refusal of two maps
abbrev pub compose_number : ComposeRefusal → ℕ
compose_number refusal = code_number (compose_code refusal)
