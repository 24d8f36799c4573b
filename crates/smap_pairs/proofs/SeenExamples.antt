-- Worked examples of what the bytes of a line count as: each holds by computing both sides. A byte that counts as nothing is
-- shown as `_`, one that counts as a letter beyond ASCII as `A`, as one of a later script as `B`, as a sign as `S` and as ESC as `E`;
-- and below each stands `|` where a URL may begin behind it.
use Rattle.std.specs.Prelude.{◌≡◌, ◌==◌, ℕ, List, ◌∷◌, codes, if◌then◌else◌, map, refl}
use Rattle.smap_pairs.specs.Colours.{colour_behind, colour_from}
use Rattle.smap_pairs.specs.Escapes.{ending_of, escape_from, escape_of}
use Rattle.smap_pairs.specs.Seen.{counted_from, seen_of, settled, settled_from, token_of}
use Rattle.smap_pairs.specs.declared.seen.SeenByte.{SeenByte}

abbrev count_shown : SeenByte → ℕ
count_shown one =
    if one.counts == 255 then 95 else if one.counts == 195 then 65 else if one.counts == 225 then 66 else if one.counts == 226 then 83
    else if one.counts == 27 then 69 else one.counts

abbrev edge_shown : SeenByte → ℕ
edge_shown one = if one.is_edge then 124 else 46

abbrev IsSeen : (line counts edges : List ℕ) → Type 0
IsSeen line counts edges = (map count_shown (seen_of line) ≡ counts) × (map edge_shown (seen_of line) ≡ edges)

-- ---- escapes

-- a line's end in JSON, in JSON within JSON, as nginx writes it, that of JSON in nginx, and as syslog does
json : IsSeen (codes "f\\nh/a") (codes "f_\nh/a") (codes "..|...")
unfolding colour_behind colour_from counted_from ending_of escape_from escape_of seen_of settled settled_from token_of
json = (refl, refl)

json_in_json : IsSeen (codes "f\\\\nh/a") (codes "f__\nh/a") (codes "...|...")
unfolding colour_behind colour_from counted_from ending_of escape_from escape_of seen_of settled settled_from token_of
json_in_json = (refl, refl)

nginx : IsSeen (codes "f\\x0Ah/a") (codes "f___\nh/a") (codes "....|...")
unfolding colour_behind colour_from counted_from ending_of escape_from escape_of seen_of settled settled_from token_of
nginx = (refl, refl)

json_in_nginx : IsSeen (codes "f\\x5Cnh/a") (codes "f____\nh/a") (codes ".....|...")
unfolding colour_behind colour_from counted_from ending_of escape_from escape_of seen_of settled settled_from token_of
json_in_nginx = (refl, refl)

syslog : IsSeen (codes "f#012h/a") (codes "f___\nh/a") (codes "....|...")
unfolding colour_behind colour_from counted_from ending_of escape_from escape_of seen_of settled settled_from token_of
syslog = (refl, refl)

-- quotation marks, letters beyond ASCII and other signs
quoted : IsSeen (codes "\\\"h\\x22h") (codes "_\"h___\"h") (codes ".|....|.")
unfolding colour_behind colour_from counted_from ending_of escape_from escape_of seen_of settled settled_from token_of
quoted = (refl, refl)

letter : IsSeen (codes "r\\u00e9a") (codes "r_____Aa") (codes "........")
unfolding colour_behind colour_from counted_from ending_of escape_from escape_of seen_of settled settled_from token_of
letter = (refl, refl)

sign : IsSeen (codes "\\u201ch") (codes "_____Sh") (codes ".......")
unfolding colour_behind colour_from counted_from ending_of escape_from escape_of seen_of settled settled_from token_of
sign = (refl, refl)

-- backslashes before no ending, endings that break off, and what is no octal number of a control character
share : IsSeen (codes "\\\\srv\\c") (codes "\\\\srv\\c") (codes ".......")
unfolding colour_behind colour_from counted_from ending_of escape_from escape_of seen_of settled settled_from token_of
share = (refl, refl)

broken : IsSeen (codes "\\u00g\\x1") (codes "\\u00g\\x1") (codes "........")
unfolding colour_behind colour_from counted_from ending_of escape_from escape_of seen_of settled settled_from token_of
broken = (refl, refl)

octal : IsSeen (codes "#1 #048 #08") (codes "#1 #048 #08") (codes "|.||...||..")
unfolding colour_behind colour_from counted_from ending_of escape_from escape_of seen_of settled settled_from token_of
octal = (refl, refl)

-- a name in a path of Windows may look like an escape
windows : IsSeen (codes "C:\\new\\s.js") (codes "C:_\new\\s.js") (codes "...|.......")
unfolding colour_behind colour_from counted_from ending_of escape_from escape_of seen_of settled settled_from token_of
windows = (refl, refl)

-- ---- colours

-- in JSON, in syslog, and what is none
colour_in_json : IsSeen (codes "\\u001b[24m/a") (codes "__________/a") (codes ".........|..")
unfolding colour_behind colour_from counted_from ending_of escape_from escape_of seen_of settled settled_from token_of
colour_in_json = (refl, refl)

colour_in_syslog : IsSeen (codes "#033[m/a") (codes "______/a") (codes ".....|..")
unfolding colour_behind colour_from counted_from ending_of escape_from escape_of seen_of settled settled_from token_of
colour_in_syslog = (refl, refl)

no_colour : IsSeen (codes "\\u001b[24/a") (codes "_____E[24/a") (codes ".....||....")
unfolding colour_behind colour_from counted_from ending_of escape_from escape_of seen_of settled settled_from token_of
no_colour = (refl, refl)

-- ---- edges and apostrophes

-- a `:` before a path is an edge, but that of a drive, of `file:` and before two `/`
said : IsSeen (codes "ERR:/srv") (codes "ERR:/srv") (codes "...|....")
unfolding colour_behind colour_from counted_from ending_of escape_from escape_of seen_of settled settled_from token_of
said = (refl, refl)

drive : IsSeen (codes "C:/srv") (codes "C:/srv") (codes "......")
unfolding colour_behind colour_from counted_from ending_of escape_from escape_of seen_of settled settled_from token_of
drive = (refl, refl)

drive_behind_escape : IsSeen (codes "\\tC:/srv") (codes "_\tC:/srv") (codes ".|......")
unfolding colour_behind colour_from counted_from ending_of escape_from escape_of seen_of settled settled_from token_of
drive_behind_escape = (refl, refl)

file : IsSeen (codes "file:/srv") (codes "file:/srv") (codes ".........")
unfolding colour_behind colour_from counted_from ending_of escape_from escape_of seen_of settled settled_from token_of
file = (refl, refl)

profile : IsSeen (codes "profile:/srv") (codes "profile:/srv") (codes ".......|....")
unfolding colour_behind colour_from counted_from ending_of escape_from escape_of seen_of settled settled_from token_of
profile = (refl, refl)

scheme : IsSeen (codes "h://a") (codes "h://a") (codes ".....")
unfolding colour_behind colour_from counted_from ending_of escape_from escape_of seen_of settled settled_from token_of
scheme = (refl, refl)

-- before a drive or `file:` behind a quotation mark, as its bytes and as an escape
drive_behind_mark : IsSeen (226 ∷ 128 ∷ 156 ∷ codes "C:/srv") (83 ∷ 128 ∷ 156 ∷ codes "C:/srv") (codes "..|......")
unfolding colour_behind colour_from counted_from ending_of escape_from escape_of seen_of settled settled_from token_of
drive_behind_mark = (refl, refl)

drive_behind_escaped_mark : IsSeen (codes "\\u201cC:/srv") (codes "_____SC:/srv") (codes ".....|......")
unfolding colour_behind colour_from counted_from ending_of escape_from escape_of seen_of settled settled_from token_of
drive_behind_escaped_mark = (refl, refl)

file_behind_mark : IsSeen (194 ∷ 183 ∷ codes "file:/srv") (194 ∷ 183 ∷ codes "file:/srv") (codes ".|.........")
unfolding colour_behind colour_from counted_from ending_of escape_from escape_of seen_of settled settled_from token_of
file_behind_mark = (refl, refl)

-- but not within a word
word_behind_letter : IsSeen (195 ∷ 159 ∷ codes "e:/srv") (65 ∷ 159 ∷ codes "e:/srv") (codes "...|....")
unfolding colour_behind colour_from counted_from ending_of escape_from escape_of seen_of settled settled_from token_of
word_behind_letter = (refl, refl)

word_of_later_script : IsSeen (225 ∷ 187 ∷ 151 ∷ codes "i:/srv") (66 ∷ 187 ∷ 151 ∷ codes "i:/srv") (codes "....|....")
unfolding colour_behind colour_from counted_from ending_of escape_from escape_of seen_of settled settled_from token_of
word_of_later_script = (refl, refl)

word_behind_escape : IsSeen (codes "\\u1ed7i:/srv") (codes "_____Bi:/srv") (codes ".......|....")
unfolding colour_behind colour_from counted_from ending_of escape_from escape_of seen_of settled settled_from token_of
word_behind_escape = (refl, refl)

-- an apostrophe stands within a word, and a string of a program behind one letter at most
apostrophe : IsSeen (codes "/it's/it\\'s") (codes "/itSs/it_Ss") (codes "...........")
unfolding colour_behind colour_from counted_from ending_of escape_from escape_of seen_of settled settled_from token_of
apostrophe = (refl, refl)

string : IsSeen (codes "=b's'") (codes "=b's'") (codes "|.|.|")
unfolding colour_behind colour_from counted_from ending_of escape_from escape_of seen_of settled settled_from token_of
string = (refl, refl)
