-- Numbers and refusals, back and forth.
use Rattle.std.proofs.Common.{◌≡◌, ap, refl}
use Rattle.std.specs.Prelude.{◌≢◌, Some, option_map}
use Rattle.smap_codes.specs.Codes.{all_codes, called}
use Rattle.smap_mappings.specs.Codes.{kind_code}
use Rattle.smap_mappings.specs.declared.fault.FaultKind.{FaultKind}
use Rattle.smap_mappings.specs.declared.fault.FaultKind.TheVariants as faults
use Rattle.smap_index.specs.declared.refusal.BuildRefusal.TheVariants as builds
use Rattle.smap_record.specs.declared.refusal.MapRefusal.{MapRefusal}
use Rattle.smap_record.specs.declared.refusal.MapRefusal.TheVariants.{TooLarge, NotJson, NotObject, Version, Sections, SectionOffset, Nested, Sources}
use Rattle.smap_record.specs.declared.refusal.MapRefusal.TheVariants.{Names, SourcesContent, IgnoreList, FileOrRoot, Mappings, Text, Build, Url, LongNames}
use Rattle.smap_record.specs.declared.refusal.MapRefusal.TheVariants.{Memory}
use Rattle.smap_c.specs.Codes.{code_number}
use Rattle.smap_c.specs.Refusal.{kind_in, numbers_of, refusal_in}

-- a kind has its number
kinds_read_back : (kind : FaultKind) → kind_in (code_number (kind_code kind)) ≡ Some kind
unfolding code_number all_codes called
kinds_read_back faults.BadDigit = refl
kinds_read_back faults.Unended = refl
kinds_read_back faults.TooLong = refl
kinds_read_back faults.TooLarge = refl
kinds_read_back faults.NegativeZero = refl
kinds_read_back faults.FieldCount = refl
kinds_read_back faults.Negative = refl
kinds_read_back faults.PastLimit = refl
kinds_read_back faults.ColumnFalls = refl
kinds_read_back faults.SourceIndex = refl
kinds_read_back faults.NameIndex = refl

-- and so has each refusal but that of memory
pub reads_back : (refusal : MapRefusal) → refusal ≢ Memory → refusal ≢ Build builds.Memory → refusal_in (numbers_of refusal) ≡ Some refusal
unfolding refusal_in code_number all_codes called
reads_back TooLarge map build = refl
reads_back NotJson map build = refl
reads_back NotObject map build = refl
reads_back Version map build = refl
reads_back Sections map build = refl
reads_back (SectionOffset section) map build = refl
reads_back (Nested section) map build = refl
reads_back Sources map build = refl
reads_back Names map build = refl
reads_back SourcesContent map build = refl
reads_back IgnoreList map build = refl
reads_back FileOrRoot map build = refl
reads_back Mappings map build = refl
reads_back (Text section fault) map build =
    ap (option_map (λ kind. Text section (record { byte = fault.byte; line = fault.line; kind = kind }))) (kinds_read_back fault.kind)
reads_back (Build builds.Interval) map build = refl
reads_back (Build (builds.SectionOrder section)) map build = refl
reads_back (Build (builds.SectionOverlap section)) map build = refl
reads_back (Build (builds.PositionRange section)) map build = refl
reads_back (Build builds.Memory) map build = absurd (build refl)
reads_back Url map build = refl
reads_back LongNames map build = refl
reads_back Memory map build = absurd (map refl)
