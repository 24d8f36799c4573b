use Rattle.smap_text_answers.proofs.BytesLaws.{within_limit}
use Rattle.smap_text_answers.proofs.answering.answer_rewrite.Goals as goal

pub rewrite_from-requires-clause-limit : goal.rewrite_from-requires-clause-limit
rewrite_from-requires-clause-limit g c = within_limit c.args.request.now.options.now.limit_bytes c.requires.bytes.1
