-- Laws of the editor that answers places with functions, which its trait asks for: a line becomes what it may; and what another may
-- become after it, it may become before.
use Rattle.std.specs.Prelude.{◌≡◌, ◌≤◌, ◌+◌, ℕ, List, Option, Some, None, Ok, Err, refl}
use Rattle.std.specs.Result.{result_ok}
use Rattle.std.proofs.Common.{arith, subst, sym, ◌∙◌}
use Rattle.smap_command.specs.declared.options.AnswerOptions.{AnswerOptions}
use Rattle.smap_declarations.specs.Declarations.{Named}
use Rattle.smap_lines.specs.Lines.{Line}
use Rattle.smap_printing.specs.Places.{bad_place_line}
use Rattle.smap_record.specs.Record.{MapRecord}
use Rattle.smap_store.specs.Laws.Named.{given_named, same_named, some_named}
use Rattle.smap_store.specs.Loaded.{Came, Outcome, record_in}
use Rattle.smap_store.specs.Named.{FindsNamed, GivesNamed, IsSameNamed, NamedSeen, NamesMay, NamesStep, named_seen, names_in}
use Rattle.smap_store.specs.Names.{NamesCame, declared_in}
use Rattle.smap_store.specs.Program.{ProgramSeen, program_in}
use Rattle.smap_store.specs.Stored.{FindsIn, GivesIn, LoadsMay, LoadsStep, outcome_at}
use Rattle.smap_store.specs.StoredMaps.{same_store_on, same_store_self}
use Rattle.smap_trace.specs.declared.maps.NoMap.TheVariants.{Unnamed}
use Rattle.smap_store.specs.declared.named_maps.NamedMaps.{NamedMaps}
use Rattle.smap_text_answers.specs.Laws.Locator.{outcome_found}
use Rattle.smap_text_answers.specs.NamedLocating.{LocatesNamed, MayLocateNamed, named_line}
use Rattle.smap_text_answers.specs.NamedPlace.{NamedPlace, named_place_of}
use Rattle.smap_text_answers.specs.Private.NamedLocator.{NamedBecomes, NamedReaches, NamedSteps, no_bound}
use Rattle.smap_text_answers.specs.declared.named_locator.NamedLocator.{NamedLocator}
use Rattle.smap_trace.specs.FunctionNames.{FunctionNames}
use Rattle.smap_trace.specs.Laws.Looked.{looked_both, looked_none}

-- maps with names stay over the same
module _ {L N : Type 0} where
  pub same_named_self : (maps : NamedMaps L N) → IsSameNamed maps maps
  same_named_self maps = record { maps = same_store_self maps.maps; names = refl; namer = refl }

  pub same_named_on : (first old new : NamedMaps L N) → IsSameNamed first old → IsSameNamed old new → IsSameNamed first new
  same_named_on first old new one two = record {
    maps = same_store_on first.maps old.maps new.maps one.maps two.maps;
    names = two.names ∙ one.names;
    namer = two.namer ∙ one.namer;
  }

module _ {L N : Type 0} (MayLoad : LoadsMay L) (MayName : NamesMay N) where
  -- which maps and names a URL may have
  abbrev MayHave : NamedSeen L N → (url : List ℕ) → Option MapRecord → Option FunctionNames → Type 0
  MayHave maps = GivesNamed (GivesIn MayLoad maps.stored) (program_in maps.stored) MayName maps.names maps.namer

  some_with : (options : AnswerOptions) (maps : NamedSeen L N) (named : NamedPlace) (found : Option MapRecord) (names : Option FunctionNames)
      → MayHave maps named.place.url found names → (text : List ℕ) × MayLocateNamed (MayHave maps) options (Some named) text
  some_with options maps named None names has = (named_line options named names (Err Unnamed), (Err Unnamed, names, has, refl))
  some_with options maps named (Some stated) names has = (named_line options named names (Ok stated), (Ok stated, names, has, refl))

  some_for : (options : AnswerOptions) (maps : NamedSeen L N) (named : Option NamedPlace) → (text : List ℕ) × MayLocateNamed (MayHave maps) options named text
  some_for options maps None = (bad_place_line options.form, refl)
  some_for options maps (Some named) =
      let one = some_named MayLoad MayName maps named.place.url in
      some_with options maps named one.0 one.1 one.2

  pub some_answered : (locator : NamedLocator L N) (line : Line) → (text : List ℕ) × NamedBecomes MayLoad MayName locator line text
  some_answered locator line = some_for locator.options (named_seen locator.maps) (named_place_of line.bytes)

  module _ (Loads : LoadsStep L)
      (given : (loader after : L) (url path : List ℕ) (came : Came) → Loads loader url path came after
      → MayLoad loader url path (record_in came)) (Names : NamesStep N)
      (names_given : (namer after : N) (program : ProgramSeen) (stated : MapRecord) (came : NamesCame) → Names namer program stated came after
      → MayName namer program stated (declared_in came)) where
    abbrev Finds : NamedSeen L N → (url : List ℕ) → NamedSeen L N → Type 0
    Finds = FindsNamed (FindsIn Loads) Names

    pub became_with : (options : AnswerOptions) (old new : NamedSeen L N) (named : Option NamedPlace) (text : List ℕ) → LocatesNamed Finds options old named text new
        → MayLocateNamed (MayHave old) options named text
    became_with options old new None text is = is.0
    became_with options old new (Some named) text is = (
      outcome_at new.stored named.place.url,
      names_in new named.place.url,
      subst (λ (f : Option MapRecord). MayHave old named.place.url f (names_in new named.place.url)) (sym (outcome_found new.stored named.place.url))
          (given_named MayLoad Loads given MayName Names names_given old new named.place.url is.0),
      is.1,
    )

    pub became_answered : (locator after : NamedLocator L N) (line : Line) (text : List ℕ) → NamedSteps Loads Names locator line text after
        → NamedBecomes MayLoad MayName locator line text
    became_answered locator after line text is =
        became_with locator.options (named_seen locator.maps) (named_seen after.maps) (named_place_of line.bytes) text is.step

    module _ (same : (loader after : L) (url path other other_path : List ℕ) (came : Came) (more : Option MapRecord)
        → Loads loader url path came after → MayLoad after other other_path more → MayLoad loader other other_path more)
        (names_same : (namer after : N) (program other : ProgramSeen) (stated other_stated : MapRecord) (came : NamesCame) (more : Option (List Named))
        → Names namer program stated came after → MayName after other other_stated more → MayName namer other other_stated more) where
      has_before : (options : AnswerOptions) (old new : NamedSeen L N) (named : Option NamedPlace) (text : List ℕ) → LocatesNamed Finds options old named text new
          → (other : List ℕ) (found : Option MapRecord) (names : Option FunctionNames) → MayHave new other found names → MayHave old other found names
      has_before options old new None text is other found names has = subst (λ m. MayHave m other found names) is.1 has
      has_before options old new (Some named) text is other found names has =
          same_named MayLoad Loads given MayName Names names_given same names_same old new named.place.url other found names is.0 has

      before_with : (options : AnswerOptions) (old new : NamedSeen L N)
          → ((other : List ℕ) (found : Option MapRecord) (names : Option FunctionNames) → MayHave new other found names → MayHave old other found names)
          → (named : Option NamedPlace) (text : List ℕ) → MayLocateNamed (MayHave new) options named text → MayLocateNamed (MayHave old) options named text
      before_with options old new before None text may = may
      before_with options old new before (Some named) text (outcome, names, has, is) =
          (outcome, names, before named.place.url (result_ok outcome) names has, is)

      pub same_answered : (locator after : NamedLocator L N) (line other : Line) (text later : List ℕ) → NamedSteps Loads Names locator line text after
          → NamedBecomes MayLoad MayName after other later → NamedBecomes MayLoad MayName locator other later
      same_answered locator after line other text later is may =
          before_with locator.options (named_seen locator.maps) (named_seen after.maps)
          (has_before locator.options (named_seen locator.maps) (named_seen after.maps) (named_place_of line.bytes) text is.step)
          (named_place_of other.bytes) later
          (subst (λ o. MayLocateNamed (MayHave (named_seen after.maps)) o (named_place_of other.bytes) later) is.options may)

module _ {L N : Type 0} (Loads : LoadsStep L) (Names : NamesStep N) where
  pub room_then : (locator after : NamedLocator L N) (line : Line) (text : List ℕ) → NamedSteps Loads Names locator line text after
      → no_bound locator ≤ no_bound after + 1
  room_then locator after line text is = omega arith

  pub named_stays : (locator : NamedLocator L N) → NamedReaches Loads Names locator locator
  named_stays locator = (looked_none (FindsNamed (FindsIn Loads) Names) (named_seen locator.maps), same_named_self locator.maps)

  pub named_goes_on : (locator mid later : NamedLocator L N) → NamedReaches Loads Names locator mid → NamedReaches Loads Names mid later
      → NamedReaches Loads Names locator later
  named_goes_on locator mid later one two = (
    looked_both (FindsNamed (FindsIn Loads) Names) (named_seen locator.maps) (named_seen mid.maps) (named_seen later.maps) one.0 two.0,
    same_named_on locator.maps mid.maps later.maps one.1 two.1,
  )
