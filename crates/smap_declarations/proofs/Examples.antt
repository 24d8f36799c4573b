-- Worked examples of the definitions: each holds by computing both sides.
use Rattle.std.proofs.Common.{◌≡◌, ℕ, List, [], ◌∷◌, ◌++◌, Some, None, true, false, refl, codes, map}
use Rattle.smap_record.specs.Record.{MapRecord}
use Rattle.smap_declarations.specs.Bodies.{body_end, end_from}
use Rattle.smap_declarations.specs.Brackets.{behind_bracket, behind_end}
use Rattle.smap_declarations.specs.Bytes.{behind_blanks, behind_word, word_in}
use Rattle.smap_declarations.specs.Declarations.{Named, given_to, kind_of, name_in, named_from}
use Rattle.smap_declarations.specs.Frames.{function_name}
use Rattle.smap_declarations.specs.Functions.{begins_function, begins_plainly, is_assigned, is_key, is_method}
use Rattle.smap_declarations.specs.Walk.{before_after, origin, place_after, start}
use Rattle.smap_declarations.specs.declared.brackets.Behind.TheVariants.{Arrow, Body, Other}
use Rattle.smap_declarations.specs.declared.walk.DeclarationPlace.{DeclarationPlace}

-- ---- brackets

brackets_within_are_passed : behind_bracket 0 (codes "b,(c)) =>1") ≡ Arrow
unfolding behind_bracket behind_end behind_blanks
brackets_within_are_passed = refl

a_method_has_a_body : behind_bracket 0 (codes "){") ≡ Body
unfolding behind_bracket behind_end behind_blanks
a_method_has_a_body = refl

an_open_bracket_has_no_end : behind_bracket 0 (codes "a(b)=>c") ≡ Other
unfolding behind_bracket behind_end behind_blanks
an_open_bracket_has_no_end = refl

-- ---- functions

an_arrow_function_is_given : is_assigned (codes " = async (b) => 1") ≡ true
unfolding is_assigned begins_function begins_plainly behind_blanks behind_word word_in behind_bracket behind_end
an_arrow_function_is_given = refl

a_name_and_an_arrow_are_a_function : is_assigned (codes "=b=>1") ≡ true
unfolding is_assigned begins_function begins_plainly behind_blanks behind_word word_in behind_bracket behind_end
a_name_and_an_arrow_are_a_function = refl

equality_gives_nothing : is_assigned (codes "==function(){}") ≡ false
unfolding is_assigned begins_function begins_plainly behind_blanks behind_word word_in behind_bracket behind_end
equality_gives_nothing = refl

a_longer_word_is_no_function : is_assigned (codes "=functional") ≡ false
unfolding is_assigned begins_function begins_plainly behind_blanks behind_word word_in behind_bracket behind_end
a_longer_word_is_no_function = refl

a_call_of_async_is_no_function : is_assigned (codes "=async(b)") ≡ false
unfolding is_assigned begins_function begins_plainly behind_blanks behind_word word_in behind_bracket behind_end
a_call_of_async_is_no_function = refl

a_text_may_end_in_the_middle : is_assigned (codes "=(") ≡ false
unfolding is_assigned begins_function begins_plainly behind_blanks behind_word word_in behind_bracket behind_end
a_text_may_end_in_the_middle = refl

a_key_is_in_quotation_marks : is_key 0x22 (0x22 ∷ codes " : class{}") ≡ true
unfolding is_key begins_function begins_plainly behind_blanks behind_word word_in behind_bracket behind_end
a_key_is_in_quotation_marks = refl

a_call_is_no_method : is_method (codes "(b);") ≡ false
unfolding is_method behind_blanks behind_bracket behind_end
a_call_is_no_method = refl

-- ---- a text

no_map : MapRecord
no_map = record { parts = []; sources = []; names = []; file = None }

-- the names of a text, each with its place
abbrev told : List ℕ → List (List ℕ × DeclarationPlace)
told text = map (λ (n : Named). (n.name, n.place)) (named_from no_map start origin text)

a_text_declares : told (codes "function a(){}" ++ 0x0D ∷ 0x0A ∷ codes "b=()=>1")
    ≡ (codes "a", record { line = 0; column = 9 }) ∷ (codes "b", record { line = 1; column = 0 }) ∷ []
unfolding named_from name_in kind_of before_after place_after given_to is_assigned is_key is_method begins_function begins_plainly behind_blanks behind_word word_in behind_bracket behind_end
a_text_declares = refl

-- ---- bodies

a_body_ends_at_its_brace : body_end origin (codes "a(){b({})}c") ≡ record { line = 0; column = 9 }
unfolding end_from place_after
a_body_ends_at_its_brace = refl

a_body_without_braces_ends_with_the_block_around_it : body_end origin (codes "a=()=>1}{") ≡ record { line = 0; column = 7 }
unfolding end_from place_after
a_body_without_braces_ends_with_the_block_around_it = refl

an_open_body_ends_with_the_text : body_end origin (codes "a(){{}") ≡ record { line = 0; column = 6 }
unfolding end_from place_after
an_open_body_ends_with_the_text = refl

-- ---- frames

a_function_is_one_name : function_name (codes "async fe") ≡ Some (codes "fe")
unfolding function_name
a_function_is_one_name = refl

a_method_of_a_type_is_none : function_name (codes "A.b") ≡ None
unfolding function_name
a_method_of_a_type_is_none = refl
