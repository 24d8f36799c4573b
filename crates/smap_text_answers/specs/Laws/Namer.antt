-- Laws of what lists declarations, which its trait asks for.
use Rattle.std.specs.Prelude.{◌≡◌, List, Option, map, refl}
use Rattle.std.proofs.Common.{subst}
use Rattle.smap_declarations.specs.Declarations.{Named}
use Rattle.smap_record.specs.Record.{MapRecord}
use Rattle.smap_replies.specs.Arguments.{argument_of}
use Rattle.smap_replies.specs.Files.{MayRead}
use Rattle.smap_store.specs.Names.{NamesCame, declared_in}
use Rattle.smap_store.specs.Program.{ProgramSeen}
use Rattle.smap_text_answers.specs.Names.{IsSameNamer, MayNameBy, NamesBy, Programs, programs_seen}
use Rattle.smap_text_answers.specs.Told.{ToldSeen, told_seen}
use Rattle.smap_text_answers.specs.declared.namer.FileNamer.{FileNamer}

module _ (Reads : MayRead) (programs : Programs) where
  pub given_name : (told after : ToldSeen) (program : ProgramSeen) (stated : MapRecord) (came : NamesCame) → NamesBy Reads programs told program stated came after
      → MayNameBy Reads programs told program stated (declared_in came)
  given_name told after program stated came names = (came, names.0, names.1, refl)

-- what reads the same files lists the same programs
pub programs_stay : {F : Type 0} (old new : FileNamer F) → IsSameNamer old new → programs_seen new ≡ programs_seen old
programs_stay old new same = λ i. record {
  number = same.number i;
  arguments = map argument_of (same.arguments i).now;
  locations = (same.locations i).now;
}

pub same_name : {F : Type 0} (gives : F → MayRead) (old new : FileNamer F) → IsSameNamer old new → (program : ProgramSeen) (stated : MapRecord) (kept : Option (List Named))
    → MayNameBy (gives new.files.now) (programs_seen new) (told_seen new.told) program stated kept
    → MayNameBy (gives old.files.now) (programs_seen old) (told_seen old.told) program stated kept
same_name gives old new same program stated kept may =
    subst (λ f. MayNameBy (gives f.now) (programs_seen old) (told_seen old.told) program stated kept) same.files
    (subst (λ p. MayNameBy (gives new.files.now) p (told_seen new.told) program stated kept) (programs_stay old new same) may)
