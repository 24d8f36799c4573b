use Rattle.std.proofs.Common.{◌≡◌, ◌++◌, ◌∷◌, [], ℕ, List, Option, Some, None, refl, subst}
use Rattle.std.specs.Prelude.{option_map}
use Rattle.smap_codes.specs.declared.code.Code.{Code}
use Rattle.smap_command.specs.Lines.{line_from}
use Rattle.smap_printing.specs.Functions.{pieces_text}
use Rattle.smap_printing.specs.Lines.{function_suffix}
use Rattle.smap_printing.specs.Places.{code_of, unanswered_word, words_of}
use Rattle.smap_printing.specs.Private.Members.{code_word}
use Rattle.smap_printing.proofs.places.put_unanswered_line.Goals as goal

-- a word, a code behind it, where there is one, and the rest of the line
words_said : (word : List ℕ) (code : Option Code) (more : List (List ℕ)) → word ++ (code_word code ++ line_from more) ≡ line_from (words_of word code more)
words_said word None more = refl
words_said word (Some code) more = refl

pub returns : goal.returns
returns g c =
    let both = g.met.O.Output.puts_both in
    let word = rw (c.as_bytes.ensures.value, c.word_of.ensures) at c.put.ensures in
    let code = rw c.code_of.ensures at c.put_code_word.ensures in
    subst (g.O.Output.Puts c.args.output.now c.put_function_end.new.output)
    (words_said (unanswered_word c.args.why) (code_of c.args.why) (function_suffix (option_map pieces_text c.args.function) ∷ []))
    (both _ _ _ _ _ word (both _ _ _ _ _ code c.put_function_end.ensures))
