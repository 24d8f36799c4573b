-- What rewriting over maps with names comes to, where declarations are listed from files.
use Rattle.std.specs.Prelude.{◌≡◌, ℕ, Bool, true, List, Option, ⊤, refl}
use Rattle.std.proofs.Common.{ap, subst, sym, ◌∙◌}
use Rattle.smap_anywhere.specs.Anywhere.{PlacesAsked}
use Rattle.smap_anywhere.specs.NamedParts.{by_names, found_by}
use Rattle.smap_declarations.specs.Declarations.{Named}
use Rattle.smap_lines.specs.Editing.{DevicesSeen}
use Rattle.smap_lines.specs.declared.fault.LineFault.{LineFault}
use Rattle.smap_record.specs.Record.{MapRecord}
use Rattle.smap_replies.specs.Files.{MayRead}
use Rattle.smap_store.specs.Cache.{CacheSeen}
use Rattle.smap_store.specs.Named.{FindsNamed, GivesNamed, IsSameNamed, NamedSeen, NamesMay, NamesStep, named_seen, names_in}
use Rattle.smap_store.specs.Names.{NamesCame, names_at_first}
use Rattle.smap_store.specs.Program.{ProgramSeen, program_in}
use Rattle.smap_store.specs.Stored.{FindsIn, GivesIn, LoadsMay, LoadsStep, StoredSeen, found_in}
use Rattle.smap_store.specs.declared.named_maps.NamedMaps.{NamedMaps}
use Rattle.smap_store.specs.declared.names_cache.NamesCache.{NamesCache}
use Rattle.smap_text_answers.specs.Laws.Namer.{programs_stay}
use Rattle.smap_text_answers.specs.Names.{IsSameNamer, MayNameBy, NamesBy, Programs, programs_seen, told_at_end}
use Rattle.smap_text_answers.specs.Told.{ToldSeen, nothing_told, told_seen}
use Rattle.smap_text_answers.specs.Naming.{RewritesNamedText, RewritesNamedTextFront, RewritesNames, RewritesNamesFront, found_beside}
use Rattle.smap_text_answers.specs.Places.{RewritesPlacesOver}
use Rattle.smap_text_answers.specs.declared.namer.FileNamer.{FileNamer}
use Rattle.smap_text_answers.proofs.NamedLaws.{gives_so, named_finds, names_seen_so}
use Rattle.smap_text_answers.proofs.NamedTextLaws.{named_front_so, named_text_so, places_seen_so}
use Rattle.smap_text_answers.specs.Laws.NamedLocator.{same_named_on, same_named_self}
use Rattle.smap_text_answers.proofs.LentStoreLaws.{store_after}
use Rattle.smap_trace.specs.Laws.Seen.{looked_seen}
use Rattle.smap_trace.specs.Rewriting.{Looked, RewriteAsked, RewritesNamed}
use Rattle.smap_trace.specs.UrlNotes.{NotesSeen}
use Rattle.smap_trace.specs.declared.outcome.RewriteCounts.{RewriteCounts}

-- ---- maps with names that are lent

-- how they stand then
pub named_after : {L N : Type 0} (Steps : LoadsStep L) (first new : NamedMaps L N) (cache : CacheSeen) (loader : L) (names : NamesCache) (namer : N)
    → cache ≡ new.maps.cache.now → loader ≡ new.maps.loader.now → names ≡ new.names.now → namer ≡ new.namer.now → IsSameNamed first new
    → named_seen new
    ≡ record {
      stored = record { exact = first.maps.exact.now; locations = first.maps.locations.now; cache = cache; loader = loader };
      names = names;
      namer = namer;
    }
named_after Steps first new cache loader names namer cache_is loader_is names_is namer_is same = λ i. record {
  stored = store_after Steps first.maps new.maps cache loader cache_is loader_is same.maps i;
  names = sym names_is i;
  namer = sym namer_is i;
}

-- what is found in them is seen
module _ {L N : Type 0} (Finds : StoredSeen L → (url : List ℕ) → StoredSeen L → Type 0) (Names : NamesStep N) (first new : NamedMaps L N) where
  abbrev pub FindsMaps : NamedMaps L N → (url : List ℕ) → NamedMaps L N → Type 0
  FindsMaps maps url after = FindsNamed Finds Names (named_seen maps) url (named_seen after) × IsSameNamed maps after

  pub maps_looked : Looked FindsMaps first new → Looked (FindsNamed Finds Names) (named_seen first) (named_seen new) × IsSameNamed first new
  maps_looked looked =
      looked_seen FindsMaps (λ maps. found_beside (named_seen maps)) (FindsNamed Finds Names) found_beside named_seen (IsSameNamed first)
      (λ old new url is finds. (finds.0, same_named_on first old new is finds.1)) (λ maps url. refl) first new (same_named_self first) looked

  pub maps_placed : (asked : PlacesAsked) (before after : DevicesSeen) (counts : RewriteCounts) (notes others : NotesSeen)
      → RewritesPlacesOver by_names FindsMaps (found_by true (λ maps. found_beside (named_seen maps)) (λ maps. names_in (named_seen maps))) asked before after
      first new counts notes others
      → RewritesPlacesOver by_names (FindsNamed Finds Names) (found_by true found_beside names_in) asked before after (named_seen first) (named_seen new) counts notes
      others
  maps_placed asked before after counts notes others is =
      places_seen_so by_names FindsMaps (found_by true (λ maps. found_beside (named_seen maps)) (λ maps. names_in (named_seen maps))) (FindsNamed Finds Names)
      (found_by true found_beside names_in) named_seen (IsSameNamed first) (λ old new url is finds. (finds.0, same_named_on first old new is finds.1))
      (λ maps url same. refl) asked before after first new counts notes others (same_named_self first) is

  pub maps_rewritten : (asked : RewriteAsked) (before after : DevicesSeen) (counts : RewriteCounts) (notes : NotesSeen)
      → RewritesNamed FindsMaps (λ maps. found_beside (named_seen maps)) (λ maps. names_in (named_seen maps)) asked before after first new counts notes
      → RewritesNamed (FindsNamed Finds Names) found_beside names_in asked before after (named_seen first) (named_seen new) counts notes
  maps_rewritten asked before after counts notes is =
      names_seen_so FindsMaps (λ maps. found_beside (named_seen maps)) (λ maps. names_in (named_seen maps)) (FindsNamed Finds Names) found_beside names_in named_seen
      (IsSameNamed first) (λ old new url is finds. (finds.0, same_named_on first old new is finds.1)) (λ maps url. refl) (λ maps url. refl) asked before after
      first new counts notes (same_named_self first) is

-- the maps alone were looked for
pub stored_looked : {L N : Type 0} (Loads : LoadsStep L) (Names : NamesStep N) (old new : NamedSeen L N) → Looked (FindsNamed (FindsIn Loads) Names) old new
    → Looked (FindsIn Loads) old.stored new.stored
stored_looked Loads Names old new looked =
    (looked_seen (FindsNamed (FindsIn Loads) Names) found_beside (FindsIn Loads) found_in (λ maps. maps.stored) (λ maps. ⊤) (λ old new url is finds. (finds.stored, tt))
    (λ maps url. refl) old new tt looked).0

-- ---- where declarations are listed from files

module _ {F : Type 0} (gives : F → MayRead) where
  -- what a namer lists, and may
  abbrev pub NamerNames : NamesStep (FileNamer F)
  NamerNames namer program stated came after =
      NamesBy (gives namer.files.now) (programs_seen namer) (told_seen namer.told) program stated came (told_seen after.told) × IsSameNamer namer after

  abbrev pub NamerMay : NamesMay (FileNamer F)
  NamerMay namer = MayNameBy (gives namer.files.now) (programs_seen namer) (told_seen namer.told)

  same_namer_on : (first old new : FileNamer F) → IsSameNamer first old → IsSameNamer old new → IsSameNamer first new
  same_namer_on first old new one two = record {
    files = two.files ∙ one.files;
    number = two.number ∙ one.number;
    arguments = two.arguments ∙ one.arguments;
    locations = two.locations ∙ one.locations;
  }

  module _ (first : FileNamer F) (reader : F) (programs : Programs) (reader_is : first.files.now ≡ reader) (programs_are : programs_seen first ≡ programs)
      (told_is : told_seen first.told ≡ nothing_told) where
    pub lists_so : (old new : FileNamer F) (program : ProgramSeen) (stated : MapRecord) (came : NamesCame) → IsSameNamer first old
        → NamerNames old program stated came new
        → NamesBy (gives reader) programs (told_seen old.told) program stated came (told_seen new.told) × IsSameNamer first new
    lists_so old new program stated came is names = (
      subst (λ f. NamesBy (gives f) programs (told_seen old.told) program stated came (told_seen new.told)) (ap (λ f. f.now) is.files ∙ reader_is)
          (subst (λ p. NamesBy (gives old.files.now) p (told_seen old.told) program stated came (told_seen new.told)) (programs_stay first old is ∙ programs_are) names.0),
      same_namer_on first old new is names.1,
    )

    pub may_so : (program : ProgramSeen) (stated : MapRecord) (kept : Option (List Named)) → NamerMay first program stated kept
        → MayNameBy (gives reader) programs nothing_told program stated kept
    may_so program stated kept may =
        subst (λ f. MayNameBy (gives f) programs nothing_told program stated kept) reader_is
        (subst (λ p. MayNameBy (gives first.files.now) p nothing_told program stated kept) programs_are may)

    module _ {L : Type 0} (Loads : LoadsStep L) (names_bytes : ℕ) (old : StoredSeen L) (names : NamesCache) (names_are : names ≡ names_at_first names_bytes)
        (anywhere : Bool) (places : PlacesAsked) (frames : RewriteAsked) (before after : DevicesSeen) where
      -- a text
      pub text_named : (new : NamedSeen L (FileNamer F)) (counts : RewriteCounts) (notes others : NotesSeen)
          → RewritesNamedText anywhere places frames (FindsNamed (FindsIn Loads) NamerNames) before after
          (record { stored = old; names = names; namer = first }) new counts notes others
          → RewritesNames (gives reader) programs names_bytes anywhere places frames (FindsIn Loads) before after old new.stored counts notes others
          (told_at_end new.names (told_seen new.namer.told))
      text_named new counts notes others is = record {
        last = record { stored = new.stored; names = new.names; namer = told_seen new.namer.told };
        named = subst (λ (s : NamedSeen L ToldSeen). RewritesNamedText anywhere places frames (FindsNamed (FindsIn Loads) (NamesBy (gives reader) programs)) before after
            s (record { stored = new.stored; names = new.names; namer = told_seen new.namer.told }) counts notes others)
            (λ i. record { stored = old; names = names_are i; namer = told_is i })
            (named_text_so (FindsNamed (FindsIn Loads) NamerNames) (FindsNamed (FindsIn Loads) (NamesBy (gives reader) programs))
            (λ maps. record { stored = maps.stored; names = maps.names; namer = told_seen maps.namer.told })
            (λ maps. ⊤ × IsSameNamer first maps.namer)
            (named_finds (λ stored. stored) (λ namer. told_seen namer.told) (λ stored url. refl) (λ stored url. refl) (λ stored url. refl) (FindsIn Loads)
            (FindsIn Loads) (λ stored. ⊤) (λ old new url is finds. (finds, tt)) NamerNames (NamesBy (gives reader) programs) (IsSameNamer first) lists_so)
            (λ maps url. refl) (λ maps url. refl) anywhere places frames before after (record { stored = old; names = names; namer = first }) new counts notes
            others (tt, record { files = refl; number = refl; arguments = refl; locations = refl }) is);
        stored = refl;
        told_is = refl;
      }

      -- or up to a fault
      pub front_named : (May : LoadsMay L) (fault : LineFault)
          → RewritesNamedTextFront anywhere places frames (GivesIn May old) (GivesNamed (GivesIn May old) (program_in old) NamerMay names first) before after fault
          → RewritesNamesFront (gives reader) programs names_bytes anywhere places frames (GivesIn May old) (program_in old) before after fault
      front_named May fault is =
          named_front_so (GivesIn May old) (GivesIn May old) _ _
          (λ url stated written gives_it. subst (λ n. GivesNamed (GivesIn May old) (program_in old) (MayNameBy (gives reader) programs) n nothing_told url stated
          written) names_are
          (gives_so (GivesIn May old) (GivesIn May old) (λ url found is. is) (program_in old) NamerMay (MayNameBy (gives reader) programs) names first nothing_told
          may_so url stated written gives_it))
          anywhere places frames before after fault is
