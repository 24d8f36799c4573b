use Rattle.std.proofs.Common.{◌≡◌, drop, map}
use Rattle.smap_replies.specs.Arguments.{argument_of}
use Rattle.smap_text_answers.specs.UrlLines.{word_file}
use Rattle.smap_text_answers.proofs.url_lines.ends.word_file.Given as goal

abbrev pub invariant-loop-word : goal.invariant-loop-word
invariant-loop-word l =
    word_file l.url (map argument_of (drop l.word-index l.arguments)) ≡ word_file l.url (map argument_of l.arguments)
