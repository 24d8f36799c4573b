-- What answering lines over maps with names comes to, where declarations are listed from files.
use Rattle.std.specs.Prelude.{◌≡◌, ℕ, List, Option, Some, None, ⊤, refl}
use Rattle.std.proofs.Common.{ap, subst, sym, ◌∙◌}
use Rattle.smap_command.specs.declared.options.AnswerOptions.{AnswerOptions}
use Rattle.smap_declarations.specs.Declarations.{Named}
use Rattle.smap_lines.specs.Editing.{DevicesSeen, EditsFrontInto, EditsInto}
use Rattle.smap_lines.specs.Laws.Step.{edits_front_wider, edits_seen}
use Rattle.smap_lines.specs.Limits.{most_text_bytes}
use Rattle.smap_lines.specs.Lines.{Line}
use Rattle.smap_lines.specs.declared.counts.LineCounts.{LineCounts}
use Rattle.smap_lines.specs.declared.fault.LineFault.{LineFault}
use Rattle.smap_record.specs.Record.{MapRecord}
use Rattle.smap_replies.specs.Files.{MayRead}
use Rattle.smap_store.specs.Named.{FindsNamed, GivesNamed, IsSameNamed, NamedSeen, NamesMay, NamesStep, holds_map, named_seen, names_in}
use Rattle.smap_store.specs.Names.{NamesCame, kept_names, names_at_first}
use Rattle.smap_store.specs.Loaded.{Outcome}
use Rattle.smap_store.specs.Program.{ProgramSeen, program_in}
use Rattle.smap_store.specs.Stored.{FindsIn, GivesIn, LoadsMay, LoadsStep, StoredSeen, found_in, outcome_at}
use Rattle.smap_store.specs.declared.names_cache.NamesCache.{NamesCache}
use Rattle.smap_text_answers.specs.NamedLocating.{AnswersNames, AnswersNamesFront, BecomesNamedAnswer, LocatesNamed, MayLocateNamed, NamedLocateStep, named_line}
use Rattle.smap_text_answers.specs.NamedPlace.{NamedPlace, named_place_of}
use Rattle.smap_text_answers.specs.Names.{IsSameNamer, MayNameBy, NamesBy, Programs, programs_seen, told_at_end}
use Rattle.smap_text_answers.specs.Private.NamedLocator.{NamedSteps}
use Rattle.smap_text_answers.specs.Told.{ToldSeen, nothing_told, told_seen}
use Rattle.smap_text_answers.specs.declared.named_locator.NamedLocator.{NamedLocator}
use Rattle.smap_text_answers.specs.declared.namer.FileNamer.{FileNamer}
use Rattle.smap_text_answers.proofs.NamedLaws.{gives_so, named_finds}
use Rattle.smap_text_answers.specs.Laws.NamedLocator.{same_named_on, same_named_self}
use Rattle.smap_text_answers.proofs.NamingLaws.{NamerMay, NamerNames, lists_so, may_so}
use Rattle.smap_trace.specs.FunctionNames.{FunctionNames, names_beside}

-- ---- the editor

-- a step of the editor is one over its maps
module _ {L N : Type 0} (Loads : LoadsStep L) (Names : NamesStep N) (first : NamedLocator L N) where
  abbrev IsLike : NamedLocator L N → Type 0
  IsLike locator = (locator.options ≡ first.options) × IsSameNamed first.maps locator.maps

  step_seen : (old : NamedLocator L N) (line : Line) (text : List ℕ) (new : NamedLocator L N) → IsLike old → NamedSteps Loads Names old line text new
      → NamedLocateStep (FindsNamed (FindsIn Loads) Names) first.options (named_seen old.maps) line text (named_seen new.maps) × IsLike new
  step_seen old line text new is steps = (
    subst (λ o. NamedLocateStep (FindsNamed (FindsIn Loads) Names) o (named_seen old.maps) line text (named_seen new.maps)) is.0 steps.step,
    (steps.options ∙ is.0, same_named_on first.maps old.maps new.maps is.1 steps.same),
  )

  pub named_locates_seen : (before after : DevicesSeen) (new : NamedLocator L N) (counts : LineCounts)
      → EditsInto (NamedSteps Loads Names) most_text_bytes before after first new counts
      → EditsInto (NamedLocateStep (FindsNamed (FindsIn Loads) Names) first.options) most_text_bytes before after (named_seen first.maps) (named_seen new.maps) counts
  named_locates_seen before after new counts edits =
      (edits_seen (NamedSteps Loads Names) (NamedLocateStep (FindsNamed (FindsIn Loads) Names) first.options) (λ locator. named_seen locator.maps) IsLike step_seen
      most_text_bytes before after first new counts (refl, same_named_self first.maps) edits).0

-- ---- where only some is seen of what loads maps and lists declarations, what is seen goes the same way

module _ {L N M P : Type 0} (see : StoredSeen L → StoredSeen M) (watch : N → P)
    (same_found : (stored : StoredSeen L) (url : List ℕ) → found_in stored url ≡ found_in (see stored) url)
    (same_held : (stored : StoredSeen L) (url : List ℕ) → holds_map stored url ≡ holds_map (see stored) url)
    (same_program : (stored : StoredSeen L) (url : List ℕ) → program_in stored url ≡ program_in (see stored) url)
    (same_outcome : (stored : StoredSeen L) (url : List ℕ) → outcome_at stored url ≡ outcome_at (see stored) url)
    (Finds : StoredSeen L → (url : List ℕ) → StoredSeen L → Type 0) (Seen : StoredSeen M → (url : List ℕ) → StoredSeen M → Type 0)
    (Is : StoredSeen L → Type 0)
    (finds : (old new : StoredSeen L) (url : List ℕ) → Is old → Finds old url new → Seen (see old) url (see new) × Is new)
    (Names : NamesStep N) (Watched : NamesStep P) (IsNamer : N → Type 0)
    (lists : (old new : N) (program : ProgramSeen) (stated : MapRecord) (came : NamesCame) → IsNamer old → Names old program stated came new
    → Watched (watch old) program stated came (watch new) × IsNamer new) (options : AnswerOptions) where
  abbrev watched : NamedSeen L N → NamedSeen M P
  watched maps = record { stored = see maps.stored; names = maps.names; namer = watch maps.namer }

  abbrev AreSo : NamedSeen L N → Type 0
  AreSo maps = Is maps.stored × IsNamer maps.namer

  locates_so : (old new : NamedSeen L N) (named : Option NamedPlace) (text : List ℕ) → AreSo old → LocatesNamed (FindsNamed Finds Names) options old named text new
      → LocatesNamed (FindsNamed Seen Watched) options (watched old) named text (watched new) × AreSo new
  locates_so old new None text are step = ((step.0, ap watched step.1), subst AreSo (sym step.1) are)
  locates_so old new (Some named) text are step =
      let url = named.place.url in
      let one = named_finds see watch same_found same_held same_program Finds Seen Is finds Names Watched IsNamer lists old new url are step.0 in (
        (
          one.0,
          step.1 ∙ (λ i. named_line options named (names_beside (same_found new.stored url i) (kept_names (same_program new.stored url i) new.names)) (same_outcome new.stored url i)),
        ),
        one.1,
      )

  pub lines_so : (before after : DevicesSeen) (old new : NamedSeen L N) (counts : LineCounts) → AreSo old
      → EditsInto (NamedLocateStep (FindsNamed Finds Names) options) most_text_bytes before after old new counts
      → EditsInto (NamedLocateStep (FindsNamed Seen Watched) options) most_text_bytes before after (watched old) (watched new) counts
  lines_so before after old new counts are edits =
      (edits_seen (NamedLocateStep (FindsNamed Finds Names) options) (NamedLocateStep (FindsNamed Seen Watched) options) watched AreSo
      (λ old line text new are step. locates_so old new (named_place_of line.bytes) text are step) most_text_bytes before after old new counts are edits).0

-- ---- up to a fault

module _ (May More : (url : List ℕ) → Option MapRecord → Option FunctionNames → Type 0)
    (more : (url : List ℕ) (found : Option MapRecord) (names : Option FunctionNames) → May url found names → More url found names) (options : AnswerOptions) where
  may_more : (named : Option NamedPlace) (text : List ℕ) → MayLocateNamed May options named text → MayLocateNamed More options named text
  may_more None text may = may
  may_more (Some named) text (outcome, names, may, is) = (outcome, names, more named.place.url _ names may, is)

  pub front_more : (before after : DevicesSeen) (fault : LineFault) → EditsFrontInto (BecomesNamedAnswer May options) most_text_bytes before after fault
      → EditsFrontInto (BecomesNamedAnswer More options) most_text_bytes before after fault
  front_more before after fault is =
      edits_front_wider (BecomesNamedAnswer May options) (BecomesNamedAnswer More options) (λ line text may. may_more (named_place_of line.bytes) text may)
      most_text_bytes before after fault is

-- ---- where declarations are listed from files

module _ {F : Type 0} (gives : F → MayRead) (first : FileNamer F) (reader : F) (programs : Programs) (reader_is : first.files.now ≡ reader)
    (programs_are : programs_seen first ≡ programs) (told_is : told_seen first.told ≡ nothing_told) {L : Type 0} (Loads : LoadsStep L) (names_bytes : ℕ)
    (old : StoredSeen L) (names : NamesCache) (names_are : names ≡ names_at_first names_bytes) (options : AnswerOptions) (before after : DevicesSeen) where
  pub lines_named : (new : NamedSeen L (FileNamer F)) (counts : LineCounts)
      → EditsInto (NamedLocateStep (FindsNamed (FindsIn Loads) (NamerNames gives)) options) most_text_bytes before after
      (record { stored = old; names = names; namer = first }) new counts
      → AnswersNames (gives reader) programs names_bytes options (FindsIn Loads) before after old new.stored counts (told_at_end new.names (told_seen new.namer.told))
  lines_named new counts edits = record {
    last = record { stored = new.stored; names = new.names; namer = told_seen new.namer.told };
    answered = subst (λ (s : NamedSeen L ToldSeen). EditsInto (NamedLocateStep (FindsNamed (FindsIn Loads) (NamesBy (gives reader) programs)) options) most_text_bytes
        before after s (record { stored = new.stored; names = new.names; namer = told_seen new.namer.told }) counts)
        (λ i. record { stored = old; names = names_are i; namer = told_is i })
        (lines_so (λ stored. stored) (λ namer. told_seen namer.told) (λ stored url. refl) (λ stored url. refl) (λ stored url. refl) (λ stored url. refl)
        (FindsIn Loads) (FindsIn Loads) (λ stored. ⊤) (λ old new url is finds. (finds, tt)) (NamerNames gives) (NamesBy (gives reader) programs) (IsSameNamer first)
        (lists_so gives first reader programs reader_is programs_are told_is) options before after (record { stored = old; names = names; namer = first }) new counts
        (tt, record { files = refl; number = refl; arguments = refl; locations = refl }) edits);
    stored = refl;
    told_is = refl;
  }

  pub lines_front : (May : LoadsMay L) (fault : LineFault)
      → EditsFrontInto (BecomesNamedAnswer (GivesNamed (GivesIn May old) (program_in old) (NamerMay gives) names first) options) most_text_bytes before after fault
      → AnswersNamesFront (gives reader) programs names_bytes options (GivesIn May old) (program_in old) before after fault
  lines_front May fault is =
      front_more (GivesNamed (GivesIn May old) (program_in old) (NamerMay gives) names first)
      (GivesNamed (GivesIn May old) (program_in old) (MayNameBy (gives reader) programs) (names_at_first names_bytes) nothing_told)
      (λ url stated written gives_it. subst (λ n. GivesNamed (GivesIn May old) (program_in old) (MayNameBy (gives reader) programs) n nothing_told url stated written)
      names_are
      (gives_so (GivesIn May old) (GivesIn May old) (λ url found is. is) (program_in old) (NamerMay gives) (MayNameBy (gives reader) programs) names first nothing_told
      (may_so gives first reader programs reader_is programs_are told_is) url stated written gives_it))
      options before after fault is
