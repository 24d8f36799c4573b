-- Brackets in pairs, which are counted by kind and not nested, as `([)]` has them.
use Rattle.std.specs.Prelude.{ℕ, ◌==◌, ◌&&◌, ◌+◌, ◌-◌, Bool, false, List, [], ◌∷◌, Option, Some, None, if◌then◌else◌}
use Rattle.smap_pairs.specs.declared.brackets.Closed.{Closed}

-- with one more of a kind
abbrev pub round_more : Closed → Option Closed
round_more closed = Some (record closed { round = closed.round + 1 })

abbrev pub square_more : Closed → Option Closed
square_more closed = Some (record closed { square = closed.square + 1 })

abbrev pub curly_more : Closed → Option Closed
curly_more closed = Some (record closed { curly = closed.curly + 1 })

-- with one less, where there is one
abbrev pub round_less : Closed → Option Closed
round_less closed = if closed.round == 0 then None else Some (record closed { round = closed.round - 1 })

abbrev pub square_less : Closed → Option Closed
square_less closed = if closed.square == 0 then None else Some (record closed { square = closed.square - 1 })

abbrev pub curly_less : Closed → Option Closed
curly_less closed = if closed.curly == 0 then None else Some (record closed { curly = closed.curly - 1 })

-- with a byte before them: a closing bracket is one more, and an opening one is closed by one of them
abbrev pub closed_with : (byte : ℕ) → Closed → Option Closed
closed_with byte closed =
    if byte == 40 then round_less closed
    else if byte == 41 then round_more closed
    else if byte == 91 then square_less closed
    else if byte == 93 then square_more closed
    else if byte == 123 then curly_less closed
    else if byte == 125 then curly_more closed
    else Some closed

abbrev pub closed_with_any : (byte : ℕ) → Option Closed → Option Closed
closed_with_any byte None = None
closed_with_any byte (Some closed) = closed_with byte closed

abbrev pub none_closed : Closed
none_closed = record { round = 0; square = 0; curly = 0 }

-- how many brackets of each kind a text closes that are opened before it; None where it leaves one open
abbrev pub closed_by : List ℕ → Option Closed
closed_by [] = Some none_closed
closed_by (byte ∷ text) = closed_with_any byte (closed_by text)

-- there is none
abbrev pub is_none_closed : Closed → Bool
is_none_closed closed = closed.round == 0 && closed.square == 0 && closed.curly == 0

abbrev pub is_some_none_closed : Option Closed → Bool
is_some_none_closed None = false
is_some_none_closed (Some closed) = is_none_closed closed

-- each bracket of a text is closed by one of its kind behind it, and each that closes one does so
abbrev pub has_paired_brackets : List ℕ → Bool
has_paired_brackets text = is_some_none_closed (closed_by text)
