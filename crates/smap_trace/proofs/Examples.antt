-- Worked examples of the definitions: each holds by computing both sides.
use Rattle.std.proofs.Common.{◌≡◌, ℕ, true, false, List, [], ◌∷◌, ◌++◌, Option, Some, None, refl, codes}
use Rattle.smap_trace.specs.Frame.{FrameParts}
use Rattle.smap_trace.specs.FrameOf.{frame_of}
use Rattle.smap_trace.specs.Hiding.{HidingSeen, only_ignored}
use Rattle.smap_trace.specs.Rewritten.{SourceLocation, fate_at, hidden, line_after, location_text, printable, replaced, stays}
use Rattle.smap_trace.specs.Table.{is_bad_url}

a_call : frame_of (codes "  at async f (a.js:1:6)")
    ≡ Some (record { head = codes "  at async f ("; url = codes "a.js"; line = 1; column = 6; tail = codes ")" })
unfolding frame_of
a_call = refl

a_module : frame_of (codes "at async a.js:10:6\r") ≡ Some (record { head = codes "at async "; url = codes "a.js"; line = 10; column = 6; tail = codes "\r" })
unfolding frame_of
a_module = refl

-- the first `@` ends the function, which may be missing
a_sign : frame_of (codes "a@b@u:1:6\r") ≡ Some (record { head = codes "a@"; url = codes "b@u"; line = 1; column = 6; tail = codes "\r" })
unfolding frame_of
a_sign = refl

a_bare_sign : frame_of (codes "@u:1:6") ≡ Some (record { head = codes "@"; url = codes "u"; line = 1; column = 6; tail = [] })
unfolding frame_of
a_bare_sign = refl

-- after `at `, an `@` belongs to the URL
an_at_before_a_sign : frame_of (codes " at f@u:1:1") ≡ Some (record { head = codes " at "; url = codes "f@u"; line = 1; column = 1; tail = [] })
unfolding frame_of
an_at_before_a_sign = refl

no_column : frame_of (codes "f@u:1") ≡ None
unfolding frame_of
no_column = refl

-- the function is missing
no_function : frame_of (codes "at  (u:1:1)") ≡ None
unfolding frame_of
no_function = refl

twice_async : frame_of (codes "at async async u:1:1") ≡ None
unfolding frame_of
twice_async = refl

urls : is_bad_url (codes "eval at u") ∷ is_bad_url (codes "") ∷ is_bad_url (codes "a\nb") ∷ is_bad_url (codes "u") ∷ [] ≡ true ∷ true ∷ true ∷ false ∷ []
unfolding is_bad_url
urls = refl

-- a frame of an ignored source is hidden where that is asked, also where the source has no name; else it stays there
abbrev of_ignored : Option (List ℕ) → SourceLocation
of_ignored name = record { name = printable name; ignored = true; line = 1; column = 2 }

abbrev a_parts : FrameParts
a_parts = record { head = codes "f@"; url = codes "u"; line = 1; column = 6; tail = [] }

hiding : fate_at (only_ignored true) a_parts (Some (of_ignored None)) ∷ fate_at (only_ignored true) a_parts (Some (of_ignored (Some (codes "a"))))
    ∷ fate_at (only_ignored true) a_parts None ∷ [] ≡ hidden ∷ hidden ∷ stays ∷ []
hiding = refl

not_hiding : fate_at (only_ignored false) a_parts (Some (of_ignored None)) ∷ fate_at (only_ignored false) a_parts (Some (of_ignored (Some (codes "a")))) ∷ []
    ≡ stays ∷ replaced (codes "f@" ++ location_text (codes "a") 1 2 ++ []) ∷ []
not_hiding = refl

-- so is one of a source whose name contains a text, wherever in it, and ignored or not
abbrev by_text : List ℕ → HidingSeen
by_text text = record { ignored = false; texts = text ∷ [] }

hiding_text : fate_at (by_text (codes "b/")) a_parts (Some (of_ignored (Some (codes "a/b/c")))) ∷ fate_at (by_text (codes "c")) a_parts (Some (of_ignored (Some (codes "a/b/c"))))
    ∷ fate_at (by_text (codes "b/a")) a_parts (Some (of_ignored (Some (codes "a/b/c")))) ∷ fate_at (by_text []) a_parts (Some (of_ignored None)) ∷ []
    ≡ hidden ∷ hidden ∷ replaced (codes "f@" ++ location_text (codes "a/b/c") 1 2 ++ []) ∷ stays ∷ []
hiding_text = refl

-- a hidden line goes with its LF
dropped : line_after (record { bytes = codes "f@u:1:6"; is_ended = true }) hidden ≡ []
dropped = refl
