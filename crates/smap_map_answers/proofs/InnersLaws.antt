-- What the words, the list and the sources of inner maps come to, one after another.
use Rattle.std.proofs.Common.{◌≡◌, ℕ, ◌+◌, ◌⊎◌, List, [], ◌∷◌, ◌++◌, refl, sym, subst, inl, inr}
use Rattle.std.specs.Prelude.{Option, Result, Ok, Err, option_map}
use Rattle.std.proofs.lemmas.List.{map-append}
use Rattle.smap_locations.specs.Named.{Named}
use Rattle.smap_record.specs.MapFile.{Map}
use Rattle.smap_record.specs.Record.{MapRecord}
use Rattle.smap_record.specs.Sources.{StatedSource}
use Rattle.smap_locations.specs.ListLine.{line_entry}
use Rattle.smap_map_answers.specs.ComposeAll.{NamesEntry, NamesInners, NamesLines, NamesPair, NamesWords, ReadsInners, ReadsSource}
use Rattle.smap_map_answers.specs.ComposeAll.{GathersInners, ReportsInners, pair_of}
use Rattle.smap_map_answers.specs.Compose.{compose_refusal_result}
use Rattle.smap_map_answers.specs.Warning.{IsWarned, warnings}
use Rattle.smap_map_answers.specs.Written.{report_or, written_of}
use Rattle.smap_io.specs.Device.{SinkSeen}
use Rattle.smap_command.specs.declared.options.WriteOptions.{WriteOptions}
use Rattle.smap_compose.specs.Composition.{all_composed}
use Rattle.smap_replies.specs.Files.{MayRead}
use Rattle.smap_codes.specs.Codes.{text_of}
use Rattle.smap_codes.specs.declared.code.Code.TheVariants.{A2}
use Rattle.smap_replies.specs.Lines.{argument_refused_line}
use Rattle.smap_replies.specs.Outcome.{OrMemory, Report, misuse, out_of_memory}
use Rattle.smap_map_answers.specs.Private.Inners.{inners_stated}
use Rattle.smap_replies.specs.Arguments.{argument_text}

-- ---- words

module _ (sources : List StatedSource) (words rest : List (List ℕ × List ℕ)) (name path : List ℕ) (old : Named) (is : words ≡ (name, path) ∷ rest) where
  pub words_next : (new : Named) → NamesPair sources (misuse (argument_refused_line (argument_text name path) (text_of A2))) old name path (Ok new)
      → (result : Result Named Report) → NamesWords sources rest new result → NamesWords sources words old result
  words_next new pair result names = subst (λ left. NamesWords sources left old result) (sym is) (Ok new, pair, names)

  pub words_refused : (report : Report) → NamesPair sources (misuse (argument_refused_line (argument_text name path) (text_of A2))) old name path (Err report)
      → NamesWords sources words old (Err report)
  words_refused report pair = subst (λ left. NamesWords sources left old (Err report)) (sym is) (Err report, pair, refl)

-- ---- lines

module _ (sources : List StatedSource) (list : List ℕ) (number : ℕ) (all rest : List (List ℕ)) (line : List ℕ) (old : Named) (is : all ≡ line ∷ rest) where
  pub lines_next : (new : Named) → NamesEntry sources list number (line_entry line) old (Ok new)
      → (result : Result Named Report) → NamesLines sources list (number + 1) rest new result → NamesLines sources list number all old result
  lines_next new entry result names = subst (λ left. NamesLines sources list number left old result) (sym is) (Ok new, entry, names)

  pub lines_refused : (report : Report) → NamesEntry sources list number (line_entry line) old (Err report)
      → NamesLines sources list number all old (Err report)
  lines_refused report entry = subst (λ left. NamesLines sources list number left old (Err report)) (sym is) (Err report, entry, refl)

pub lines_end : (sources : List StatedSource) (list : List ℕ) (number : ℕ) (all : List (List ℕ)) (old : Named) → all ≡ []
    → NamesLines sources list number all old (Ok old)
lines_end sources list number all old is = subst (λ left. NamesLines sources list number left old (Ok old)) (sym is) refl

-- ---- sources

module _ (Reads : MayRead) (named : Named) (sources rest : List StatedSource) (source : StatedSource) (so_far : List (Option MapRecord))
    (is : sources ≡ source ∷ rest) where
  pub inners_next : (inner : Option MapRecord) → ReadsSource Reads (pair_of named source) (Ok inner)
      → (result : Result (List (Option MapRecord)) Report) → ReadsInners Reads named rest (so_far ++ inner ∷ []) result
      → ReadsInners Reads named sources so_far result
  inners_next inner reads result others = subst (λ left. ReadsInners Reads named left so_far result) (sym is) (Ok inner, reads, others)

  pub inners_refused : (report : Report) → ReadsSource Reads (pair_of named source) (Err report) → ReadsInners Reads named sources so_far (Err report)
  inners_refused report reads = subst (λ left. ReadsInners Reads named left so_far (Err report)) (sym is) (Err report, reads, refl)

-- one more map behind the others
pub one_stated : (inners : List (Option Map)) (inner : Option Map)
    → inners_stated (inners ++ inner ∷ []) ≡ inners_stated inners ++ option_map (λ (read : Map). read.stated) inner ∷ []
one_stated inners inner = map-append (option_map (λ (read : Map). read.stated)) inners (inner ∷ [])

-- ---- all of it

module _ (Reads : MayRead) (options : WriteOptions) (words : List (List ℕ × List ℕ)) (list : Option (List ℕ)) (id : Option (List ℕ))
    (outer : MapRecord) (before after : SinkSeen) (report : Report) where
  -- an inner map is refused
  pub inners_failed : after ≡ before → (◌≡◌ {A = Result (List (Option MapRecord)) Report} (Err report) (Err out_of_memory))
      ⊎ GathersInners Reads outer.sources words list (Err report) → ReportsInners Reads options words list id outer before after report
  inners_failed same (inl no_memory) = inl (same, inl (same_reported no_memory))
    where
      same_reported : ◌≡◌ {A = Result (List (Option MapRecord)) Report} (Err report) (Err out_of_memory) → report ≡ out_of_memory
      same_reported is = cc
  inners_failed same (inr gathers) = inl (same, inr gathers)

  -- or all are composed
  pub inners_composed : (inners : List (Option MapRecord))
      → (◌≡◌ {A = Result (List (Option MapRecord)) Report} (Ok inners) (Err out_of_memory)) ⊎ GathersInners Reads outer.sources words list (Ok inners)
      → IsWarned (warnings outer.sources inners) before after
      → OrMemory (λ reported. reported ≡ report_or compose_refusal_result (written_of options id (all_composed outer inners))) report
      → ReportsInners Reads options words list id outer before after report
  inners_composed inners (inl no_memory) warned reported = cc
  inners_composed inners (inr gathers) warned reported = inr (inners, gathers, warned, reported)

-- what is read of the sources is gathered, where their names are known
pub inners_gathered : (Reads : MayRead) (sources : List StatedSource) (words : List (List ℕ × List ℕ)) (list : Option (List ℕ)) (named : Named)
    (result : Result (List (Option MapRecord)) Report) → NamesInners Reads sources words list (Ok named)
    → (result ≡ Err out_of_memory) ⊎ ReadsInners Reads named sources [] result
    → (result ≡ Err out_of_memory) ⊎ GathersInners Reads sources words list result
inners_gathered Reads sources words list named result names (inl no_memory) = inl no_memory
inners_gathered Reads sources words list named result names (inr reads) = inr (Ok named, names, reads)
