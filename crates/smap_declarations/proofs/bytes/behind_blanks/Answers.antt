use Rattle.std.proofs.Common.{arith, ap, drop, ◌∙◌}
use Rattle.std.proofs.lemmas.List.Sums.{prefix_len-le-length}
use Rattle.smap_declarations.specs.Bytes.{behind_blanks, is_blank}
use Rattle.smap_declarations.proofs.bytes.behind_blanks.Goals as goal

pub split_at-requires : goal.split_at-requires
split_at-requires c = omega (arith, prefix_len-le-length is_blank c.args.text.now)

pub returns : goal.returns
unfolding behind_blanks
returns c = c.split_at.ensures.back ∙ ap (λ n. drop n c.args.text.now) c.blanks_length.ensures
