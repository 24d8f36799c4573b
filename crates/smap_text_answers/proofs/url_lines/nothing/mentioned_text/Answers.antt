use Rattle.std.proofs.Common.{rules, length, ◌<◌, ◌≤◌}
use Rattle.smap_replies.specs.Arguments.{argument_of}
use Rattle.smap_text_answers.proofs.NothingLaws.{of_none, of_several}
use Rattle.smap_text_answers.proofs.url_lines.nothing.mentioned_text.Goals as goal
use Rattle.smap_text_answers.proofs.url_lines.nothing.mentioned_text.Goals.{in_default-via-then-arguments-lt1, in_default-via-else-arguments-lt1+else-arguments-lt2}

pub returns-in_default : goal.returns-in_default
returns-in_default c = elim c.in_default.branch [
  | in_default-via-then-arguments-lt1 w ↦
      let few : length c.args.arguments.now < 1 = search rules in
      rw (of_none argument_of c.args.arguments.now few)
      (rw c.as_bytes-in_default.ensures.value at c.from_slice.ensures.items)
  | in_default-via-else-arguments-lt1+else-arguments-lt2 w ↦
      let many : 2 ≤ length c.args.arguments.now = search rules in
      rw (of_several argument_of c.args.arguments.now many)
      (rw c.as_bytes-in_default.ensures.value at c.from_slice.ensures.items)
]
