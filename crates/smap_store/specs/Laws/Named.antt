-- Laws of maps with names, which their trait asks for: what is found is what may be, and what may be after a URL was looked for may
-- be before.
use Rattle.std.specs.Prelude.{◌≡◌, ◌⊎◌, ◌&&◌, ℕ, Bool, true, false, List, Option, Some, None, option_map}
use Rattle.std.proofs.Common.{ap, inl, inr, refl, subst, sym, ◌∙◌}
use Rattle.smap_declarations.specs.Declarations.{Named}
use Rattle.smap_kept.specs.Laws.Under.{known_put, known_without, same_used}
use Rattle.smap_record.specs.Record.{MapRecord}
use Rattle.smap_store.specs.Cache.{one_more}
use Rattle.smap_store.specs.Laws.Stored.{given_in, same_in, some_in}
use Rattle.smap_store.specs.Loaded.{Came, record_in}
use Rattle.smap_store.specs.Named.{FindsNamed, GivesNamed, MayKeep, NamedSeen, NamesMay, NamesOf, NamesStep, UsesNames, holds_map, names_in}
use Rattle.smap_store.specs.Names.{NamesCame, RemembersNames, bytes_in, declared_in, has_names, kept_names, kept_of, known_names, names_used, part_of, part_used, part_with, part_without, with_part}
use Rattle.smap_store.specs.Program.{ProgramSeen, program_in, program_of}
use Rattle.smap_store.specs.Stored.{FindsIn, GivesIn, LoadsMay, LoadsStep, found_in}
use Rattle.smap_store.specs.declared.names_cache.NamesCache.{NamesCache}
use Rattle.smap_store.specs.declared.program.MapKind.{MapKind}
use Rattle.smap_store.specs.declared.program.MapKind.TheVariants.{Table, File}
use Rattle.smap_trace.specs.FunctionNames.{FunctionNames, names_beside}

-- ---- what is remembered of a program, where another is used, put or forgotten

abbrev known_at : MapKind → (key : List ℕ) → NamesCache → Option (Option (List Named))
known_at kind key names = known_names (record { kind = kind; key = key }) names

used_at : (kind other_kind : MapKind) (key other : List ℕ) (names : NamesCache)
    → known_at other_kind other (with_part kind (part_used key (part_of kind names)) names) ≡ known_at other_kind other names
used_at Table Table key other names = ap (option_map (λ it. it.value)) (same_used other key names.of_table.entries)
used_at Table File key other names = refl
used_at File Table key other names = refl
used_at File File key other names = ap (option_map (λ it. it.value)) (same_used other key names.of_files.entries)

forgotten_at : (kind other_kind : MapKind) (key other : List ℕ) (names : NamesCache) (shortages : ℕ) (kept : Option (List Named))
    → known_at kind key (record (with_part kind (part_without key (part_of kind names)) names) { shortages = shortages }) ≡ None
    → known_at other_kind other (record (with_part kind (part_without key (part_of kind names)) names) { shortages = shortages }) ≡ Some kept
    → known_at other_kind other names ≡ Some kept
forgotten_at Table Table key other names shortages kept gone has = known_without key names.of_table.entries other kept gone has
forgotten_at Table File key other names shortages kept gone has = has
forgotten_at File Table key other names shortages kept gone has = has
forgotten_at File File key other names shortages kept gone has = known_without key names.of_files.entries other kept gone has

of_kind : {P Q R : Type 0} (kind : MapKind) → (P × Q) ⊎ R → ((kind ≡ kind) × P × Q) ⊎ R
of_kind kind (inl now) = inl (refl, now.0, now.1)
of_kind kind (inr was) = inr was

put_at : (kind other_kind : MapKind) (key other : List ℕ) (came : NamesCame) (names : NamesCache) (kept : Option (List Named))
    → known_at other_kind other (with_part kind (part_with key came (part_of kind names)) names) ≡ Some kept
    → ((other_kind ≡ kind) × (other ≡ key) × (kept ≡ declared_in came)) ⊎ (known_at other_kind other names ≡ Some kept)
put_at Table Table key other came names kept has =
    of_kind Table (known_put names.of_table.most key (record { value = declared_in came; bytes = bytes_in came }) names.of_table.entries other kept has)
put_at Table File key other came names kept has = inr has
put_at File Table key other came names kept has = inr has
put_at File File key other came names kept has =
    of_kind File (known_put names.of_files.most key (record { value = declared_in came; bytes = bytes_in came }) names.of_files.entries other kept has)

-- ---- what is remembered was before, or came

module _ {N : Type 0} (MayName : NamesMay N) (Names : NamesStep N)
    (given : (namer after : N) (program : ProgramSeen) (stated : MapRecord) (came : NamesCame) → Names namer program stated came after
    → MayName namer program stated (declared_in came)) where
  used_before : (names : NamesCache) (program other : ProgramSeen) (kept : Option (List Named))
      → known_names other (names_used program names) ≡ Some kept → known_names other names ≡ Some kept
  used_before names program other kept has = sym (used_at program.kind other.kind program.key other.key names) ∙ has

  remembered_before : (names : NamesCache) (namer namer_after : N) (program other : ProgramSeen) (stated : MapRecord) (came : NamesCame) (after : NamesCache)
      (kept : Option (List Named)) → Names namer program stated came namer_after → RemembersNames (names_used program names) program came after
      → known_names other after ≡ Some kept → MayKeep MayName names namer other kept
  remembered_before names namer namer_after program other stated came after kept gave (inr forgets) has =
      let used = names_used program names in
      let was : known_names other used ≡ Some kept =
      forgotten_at program.kind other.kind program.key other.key used (one_more used.shortages) kept
      (sym (ap (λ n. known_names program n) forgets.rest) ∙ forgets.gone) (sym (ap (λ n. known_names other n) forgets.rest) ∙ has) in
      inr (inl (used_before names program other kept was))
  remembered_before names namer namer_after program other stated came after kept gave (inl is) has =
      go (put_at program.kind other.kind program.key other.key came (names_used program names) kept (sym (ap (λ n. known_names other n) is) ∙ has))
    where
      go : ((other.kind ≡ program.kind) × (other.key ≡ program.key) × (kept ≡ declared_in came)) ⊎ (known_names other (names_used program names) ≡ Some kept)
          → MayKeep MayName names namer other kept
      go (inr was) = inr (inl (used_before names program other kept was))
      go (inl now) =
          let same : other ≡ program = λ i. record { kind = now.0 i; key = now.1 i } in
          inr (inr (
            stated,
            subst (λ p. MayName namer p stated kept) (sym same)
                (subst (λ k. MayName namer program stated k) (sym now.2) (given namer namer_after program stated came gave)),
          ))

  asked_before : (found : Option MapRecord) (names : NamesCache) (namer namer_after : N) (program other : ProgramSeen) (after : NamesCache)
      (kept : Option (List Named)) → NamesOf Names found (names_used program names) namer program after namer_after
      → known_names other after ≡ Some kept → MayKeep MayName names namer other kept
  asked_before None names namer namer_after program other after kept got has =
      inr (inl (used_before names program other kept (sym (ap (λ n. known_names other n) got.0) ∙ has)))
  asked_before (Some stated) names namer namer_after program other after kept (came, gave, remembers) has =
      remembered_before names namer namer_after program other stated came after kept gave remembers has

  kept_before : (held : Bool) (found : Option MapRecord) (names : NamesCache) (namer namer_after : N) (program other : ProgramSeen) (after : NamesCache)
      (kept : Option (List Named)) → UsesNames Names held found names namer program after namer_after
      → known_names other after ≡ Some kept → MayKeep MayName names namer other kept
  kept_before true found names namer namer_after program other after kept same has =
      inr (inl (used_before names program other kept (sym (ap (λ n. known_names other n) same.0) ∙ has)))
  kept_before false found names namer namer_after program other after kept got has =
      asked_before found names namer namer_after program other after kept got has

  module _ (same : (namer after : N) (program other : ProgramSeen) (stated other_stated : MapRecord) (came : NamesCame) (more : Option (List Named))
      → Names namer program stated came after → MayName after other other_stated more → MayName namer other other_stated more) where
    asked_may : (found : Option MapRecord) (names : NamesCache) (namer namer_after : N) (program other : ProgramSeen) (after : NamesCache) (stated : MapRecord)
        (kept : Option (List Named)) → NamesOf Names found names namer program after namer_after → MayName namer_after other stated kept
        → MayName namer other stated kept
    asked_may None names namer namer_after program other after stated kept got may = subst (λ n. MayName n other stated kept) got.1 may
    asked_may (Some found) names namer namer_after program other after stated kept (came, gave, remembers) may =
        same namer namer_after program other found stated came kept gave may

    may_before : (held : Bool) (found : Option MapRecord) (names : NamesCache) (namer namer_after : N) (program other : ProgramSeen) (after : NamesCache)
        (stated : MapRecord) (kept : Option (List Named)) → UsesNames Names held found names namer program after namer_after
        → MayName namer_after other stated kept → MayName namer other stated kept
    may_before true found names namer namer_after program other after stated kept is may = subst (λ n. MayName n other stated kept) is.1 may
    may_before false found names namer namer_after program other after stated kept got may =
        asked_may found (names_used program names) namer namer_after program other after stated kept got may

    keep_before : (held : Bool) (found : Option MapRecord) (names : NamesCache) (namer namer_after : N) (program other : ProgramSeen) (after : NamesCache)
        (kept : Option (List Named)) → UsesNames Names held found names namer program after namer_after
        → MayKeep MayName after namer_after other kept → MayKeep MayName names namer other kept
    keep_before held found names namer namer_after program other after kept got (inl none) = inl none
    keep_before held found names namer namer_after program other after kept got (inr (inl has)) =
        kept_before held found names namer namer_after program other after kept got has
    keep_before held found names namer namer_after program other after kept got (inr (inr (stated, may))) =
        inr (inr (stated, may_before held found names namer namer_after program other after stated kept got may))

  -- what is remembered of a program after it was asked for
  found_before : (held : Bool) (found : Option MapRecord) (names : NamesCache) (namer namer_after : N) (program : ProgramSeen) (after : NamesCache)
      (known : Option (Option (List Named))) → UsesNames Names held found names namer program after namer_after
      → known_names program after ≡ known → MayKeep MayName names namer program (kept_of known)
  found_before held found names namer namer_after program after None got is = inl refl
  found_before held found names namer namer_after program after (Some kept) got is =
      kept_before held found names namer namer_after program program after kept got is

-- ---- with the maps

module _ {L N : Type 0} (MayLoad : LoadsMay L) where
  pub some_named : (MayName : NamesMay N) (maps : NamedSeen L N) (url : List ℕ) → (stated : Option MapRecord) × (written : Option FunctionNames)
      × GivesNamed (GivesIn MayLoad maps.stored) (program_in maps.stored) MayName maps.names maps.namer url stated written
  some_named MayName maps url =
      let one = some_in MayLoad maps.stored url in
      (one.0, names_beside one.0 None, (one.1, (None, inl refl, refl)))

  module _ (Loads : LoadsStep L)
      (given : (loader after : L) (url path : List ℕ) (came : Came) → Loads loader url path came after
      → MayLoad loader url path (record_in came)) (MayName : NamesMay N) (Names : NamesStep N)
      (names_given : (namer after : N) (program : ProgramSeen) (stated : MapRecord) (came : NamesCame) → Names namer program stated came after
      → MayName namer program stated (declared_in came)) where
    -- a URL has one program
    program_stays : (old new : NamedSeen L N) (url other : List ℕ) → FindsNamed (FindsIn Loads) Names old url new
        → program_in new.stored other ≡ program_in old.stored other
    program_stays old new url other finds = λ i. program_of (finds.stored.exact i) (finds.stored.locations i) other

    pub given_named : (old new : NamedSeen L N) (url : List ℕ) → FindsNamed (FindsIn Loads) Names old url new
        → GivesNamed (GivesIn MayLoad old.stored) (program_in old.stored) MayName old.names old.namer url (found_in new.stored url) (names_in new url)
    given_named old new url finds =
        let program = program_in old.stored url in (
          given_in MayLoad Loads given old.stored new.stored url finds.stored,
          (
            kept_names (program_in new.stored url) new.names,
            subst (λ p. MayKeep MayName old.names old.namer program (kept_names p new.names)) (sym (program_stays old new url url finds))
                (found_before MayName Names names_given (holds_map old.stored url && has_names program old.names) (found_in new.stored url) old.names
                old.namer new.namer program new.names (known_names program new.names) finds.names refl),
            refl,
          ),
        )

    pub same_named : (same : (loader after : L) (url path other other_path : List ℕ) (came : Came) (more : Option MapRecord)
        → Loads loader url path came after → MayLoad after other other_path more → MayLoad loader other other_path more)
        (names_same : (namer after : N) (program other : ProgramSeen) (stated other_stated : MapRecord) (came : NamesCame) (more : Option (List Named))
        → Names namer program stated came after → MayName after other other_stated more → MayName namer other other_stated more)
        (old new : NamedSeen L N) (url other : List ℕ) (stated : Option MapRecord) (written : Option FunctionNames)
        → FindsNamed (FindsIn Loads) Names old url new
        → GivesNamed (GivesIn MayLoad new.stored) (program_in new.stored) MayName new.names new.namer other stated written
        → GivesNamed (GivesIn MayLoad old.stored) (program_in old.stored) MayName old.names old.namer other stated written
    same_named same names_same old new url other stated written finds (gives, (kept, keeps, is)) =
        let program = program_in old.stored url in (
          same_in MayLoad Loads given same old.stored new.stored url other stated finds.stored gives,
          (
            kept,
            keep_before MayName Names names_given names_same (holds_map old.stored url && has_names program old.names) (found_in new.stored url) old.names
                old.namer new.namer program (program_in old.stored other) new.names kept finds.names
                (subst (λ p. MayKeep MayName new.names new.namer p kept) (program_stays old new url other finds) keeps),
            is,
          ),
        )
