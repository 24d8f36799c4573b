use Rattle.std.proofs.Common.{◌≡◌, [], drop, ap, arith, sym, ◌∙◌}
use Rattle.std.proofs.lemmas.List.{drop_all}
use Rattle.smap_pairs.specs.Path.{is_strange}
use Rattle.smap_pairs.specs.Private.PathReading.{is_path_read, path_read}
use Rattle.smap_pairs.specs.Signs.{signs}
use Rattle.smap_pairs.proofs.PathLaws.{path_reads}
use Rattle.smap_pairs.proofs.path.is_path.Goals as goal

pub returns : goal.returns
returns c =
    let url = c.args.url.now in
    let all : drop c.loop-seen.seen-index url ≡ [] = drop_all c.loop-seen.seen-index url (omega arith) in
    c.is_path.ensures
    ∙ sym (ap is_path_read (c.loop-seen.invariant ∙ ap (λ l. path_read is_strange c.loop-seen.reader (signs l)) all))
    ∙ path_reads is_strange (signs url)
