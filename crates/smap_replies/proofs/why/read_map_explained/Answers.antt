use Rattle.std.proofs.Common.{option_copied}
use Rattle.std.proofs.lemmas.Result.{IfErr-weaker}
use Rattle.smap_replies.specs.Outcome.{failure_report}
use Rattle.smap_replies.proofs.WhyLaws.{read_why}
use Rattle.smap_replies.proofs.why.read_map_explained.Goals as goal

pub returns-clause-refused : goal.returns-clause-refused
returns-clause-refused g c =
    let maps = c.args.maps.now in
    rw c.if-not-explain.false (IfErr-weaker c.explained_map.result _ _
    (λ failure refused. read_why (g.F.FileReader.gives maps.files.now) c.args.number c.args.path.now c.in_ok-bytes.bytes.items (option_copied maps.base)
    maps.interval c.in_ok-bytes.ensures.read (failure_report failure) refused)
    (rw c.deref.ensures.value at c.explained_map.ensures.refused))
