use Rattle.std.proofs.Common.{[], map, drop}
use Rattle.std.specs.Prelude.{Result}
use Rattle.smap_locations.specs.Named.{Named}
use Rattle.smap_map_answers.specs.ComposeAll.{NamesWords}
use Rattle.smap_replies.specs.Outcome.{Report}
use Rattle.smap_replies.specs.Arguments.{argument_of}
use Rattle.smap_map_answers.proofs.inners.named_words.Given as goal

-- what the words that are left come to after those so far, all of them come to
abbrev pub invariant-loop-name : goal.invariant-loop-name
invariant-loop-name l =
    let sources = l.fn.outer.map.now.stated.sources in
    (result : Result Named Report) → NamesWords sources (map argument_of (drop l.name-index l.words)) l.named result
    → NamesWords sources (map argument_of l.words) [] result
