-- Worked examples of the definitions: each holds by computing both sides.
use Rattle.std.proofs.Common.{◌≡◌, ℕ, List, [], ◌∷◌, refl, inl, inr, codes}
use Rattle.std.specs.Prelude.{true, false, Some, None, Ok, Err}
use Rattle.std.specs.Fmt.{decimal}
use Rattle.std.specs.Str.{is_utf8, chars}
use lib.Utf8.{encode}
use Rattle.smap_codes.specs.Codes.{called}
use Rattle.smap_codes.specs.declared.code.Code.TheVariants.{NotUtf8}
use Rattle.smap_text.specs.Shown.{shown}
use Rattle.smap_locations.specs.Locations.{LocationsSeen}
use Rattle.smap_locations.specs.declared.refusal.ListFault.TheVariants.{NoTab, NoFolder, BadUrl, Twice, Memory}
use Rattle.smap_trace.specs.Table.{is_bad_url}
use Rattle.smap_replies.specs.Files.{MayRead}
use Rattle.smap_command.specs.Lines.{line_from}
use Rattle.smap_replies.specs.Outcome.{misuse, out_of_memory}
use Rattle.smap_text_answers.specs.Sources.{GathersSources, NamesRules, rule_refusal}
use Rattle.smap_replies.specs.Lists.{list_bytes_refusal, list_refusal}
use Rattle.smap_text_answers.specs.Trace.{Gathers}

-- ---- rules and lines that are refused

a_prefix_without_slash : rule_refusal NoFolder (codes "https://a.test/js") (codes "maps/") ≡ misuse (codes "usage: a folder needs PREFIX/, *MIDDLE/ or *MIDDLE\\: https://a.test/js=maps/\n")
unfolding shown
a_prefix_without_slash = refl

a_bad_prefix : rule_refusal BadUrl (codes "eval at /") (codes "maps/") ≡ misuse (codes "usage: A1 BadUrl: eval at /=maps/\n")
unfolding shown called
a_bad_prefix = refl

a_prefix_twice : rule_refusal Twice (codes "app:///") (codes "a\nb/") ≡ misuse (codes "usage: A2 Twice: app:///=a?b/\n")
unfolding shown called
a_prefix_twice = refl

a_line_without_tab : list_refusal (codes "all.txt") (record { line = 3; fault = NoTab })
    ≡ misuse (line_from (codes "usage: all.txt line " ∷ decimal 3 ∷ codes ": no TAB" ∷ []))
unfolding shown
a_line_without_tab = refl

a_line_without_memory : list_refusal (codes "all.txt") (record { line = 3; fault = Memory }) ≡ out_of_memory
a_line_without_memory = refl

bytes_of_no_text : list_bytes_refusal (255 ∷ []) ≡ Some NotUtf8
unfolding is_utf8 chars
bytes_of_no_text = refl

bytes_of_a_text : list_bytes_refusal (codes "u\tm.map\n") ≡ None
unfolding is_utf8 chars encode
bytes_of_a_text = refl

-- ---- rules among files

none : LocationsSeen
none = record { files = []; folders = []; patterns = [] }

one : LocationsSeen
one = record { files = []; folders = (codes "app:///", codes "maps/") ∷ []; patterns = [] }

arguments : List (List ℕ × List ℕ)
arguments = (codes "u", codes "m.map") ∷ (codes "app:///", codes "maps/") ∷ []

a_folder_is_named : NamesRules arguments none (Ok one)
unfolding arguments none one is_bad_url
a_folder_is_named = inr (one, record { folders = record { before = []; after = []; old_is = refl; new_is = refl }; files = refl; patterns = refl }, refl)

a_folder_is_named_twice : NamesRules ((codes "app:///", codes "other/") ∷ []) one (Err (misuse (codes "usage: A2 Twice: app:///=other/\n")))
unfolding one is_bad_url shown called
a_folder_is_named_twice = inr refl

a_pattern_is_named : NamesRules ((codes "*app.js", codes "app.map") ∷ []) one (Ok (record one { patterns = (codes "app.js", codes "app.map") ∷ [] }))
unfolding one
a_pattern_is_named = inr (record one { patterns = (codes "app.js", codes "app.map") ∷ [] }, record { patterns = refl; files = refl; folders = refl }, refl)

a_pattern_is_not_read : (Reads : MayRead) → Gathers true Reads false None 128 0 (Ok []) ((codes "*", codes "app.map") ∷ []) (Ok [])
a_pattern_is_not_read Reads = refl

a_folder_is_not_read : (Reads : MayRead) → Gathers true Reads false None 128 0 (Ok []) ((codes "app:///", codes "maps/") ∷ []) (Ok [])
a_folder_is_not_read Reads = refl

-- ---- a list, whose number is that behind the arguments

a_list_is_refused : (Reads : MayRead) → Reads 1 (codes "all.txt") (Ok (codes "#\nu m.map\n"))
    → GathersSources Reads false false None 128 ((codes "app:///", codes "maps/") ∷ []) (Some (codes "all.txt"))
    (Err (misuse (line_from (codes "usage: all.txt line " ∷ decimal 2 ∷ codes ": no TAB" ∷ []))))
unfolding is_bad_url shown is_utf8 chars encode
a_list_is_refused Reads reads = (
  Ok (record { files = []; folders = (codes "app:///", codes "maps/") ∷ []; patterns = [] }),
  inr (
    record { files = []; folders = (codes "app:///", codes "maps/") ∷ []; patterns = [] },
    record { folders = record { before = []; after = []; old_is = refl; new_is = refl }; files = refl; patterns = refl },
    refl,
  ),
  (
    Ok [],
    refl,
    inr (
      codes "#\nu m.map\n",
      reads,
      inr (
        Err (record { line = 2; fault = NoTab }),
        (
          record { files = []; folders = (codes "app:///", codes "maps/") ∷ []; patterns = [] },
          record {
            before = codes "#" ∷ [];
            line = codes "u m.map";
            after = [];
            lines_are = refl;
            number = refl;
            taken = (record { files = []; folders = (codes "app:///", codes "maps/") ∷ []; patterns = [] }, record { faultless = refl; puts = refl }, refl);
            refused = inl refl;
          },
          refl,
        ),
      ),
    ),
  ),
)
