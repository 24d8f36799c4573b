use Rattle.std.proofs.Common.{◌≡◌, ap, arith, inr, length, refl, sym, ◌∙◌}
use Rattle.std.specs.List.{sum_by}
use Rattle.smap_resolve.specs.Beside.{name_at_path, name_beside}
use Rattle.smap_record.specs.NamedSources.{bytes_beside, source_bytes}
use Rattle.smap_record.specs.Sources.{source_of}
use Rattle.smap_record.proofs.NameLaws.{sum_seen}
use Rattle.smap_record.proofs.RenamedLaws.{map_named}
use Rattle.smap_record.proofs.beside.name_sources_beside.Goals as goal

pub returns-clause-named : goal.returns-clause-named
returns-clause-named c =
    map_named (name_beside c.args.path.now) (name_at_path c.args.path.now) (λ url. refl) (λ text. refl) c.args.map_file.now c.rename.new.map_file _
    c.in_ok-names.ensures.names c.rename.ensures.named c.rename.ensures.parts c.rename.ensures.names c.rename.ensures.file c.rename.ensures.interval

pub returns-clause-enough : goal.returns-clause-enough
returns-clause-enough c =
    let before = length c.args.path.now in
    let total : bytes_beside c.args.path.now c.args.map_file.now.stated ≡ sum_by (λ entry. source_bytes before (source_of entry)) c.entries.result.now
    = sym (ap (sum_by (source_bytes before)) c.entries.ensures) ∙ sum_seen source_of (source_bytes before) c.entries.result.now in
    omega (arith, total, c.in-Some.ensures.enough)

pub returns-in_default-clause-refused : goal.returns-in_default-clause-refused
returns-in_default-clause-refused c =
    let before = length c.args.path.now in
    let total : bytes_beside c.args.path.now c.args.map_file.now.stated ≡ sum_by (λ entry. source_bytes before (source_of entry)) c.entries.result.now
    = sym (ap (sum_by (source_bytes before)) c.entries.ensures) ∙ sum_seen source_of (source_bytes before) c.entries.result.now in
    inr (refl, omega (arith, total, c.left_behind.ensures.few c.in_default.is))
