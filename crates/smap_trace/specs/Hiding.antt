-- Of which sources frames are hidden (this project's own): of those that a map says to ignore, where that is asked, and of those
-- whose name, as it is printed, contains one of some texts.
use Rattle.std.specs.Prelude.{ℕ, ◌==◌, ◌&&◌, ◌||◌, Bool, false, List, [], ◌∷◌, Option, Some, None, length, map, string_bytes}
use Rattle.std.specs.Bool.{nat_eq}
use Rattle.std.specs.List.{list_any, starts_with}
use Rattle.smap_trace.specs.declared.hiding.Hiding.{Hiding}

pub record HidingSeen : Type 0 where
  pub ignored : Bool
  pub texts : List (List ℕ)

abbrev pub hiding_seen : Hiding → HidingSeen
hiding_seen hiding = record { ignored = hiding.ignored; texts = map string_bytes hiding.texts.now }

-- of those that a map says to ignore, or of none
abbrev pub only_ignored : Bool → HidingSeen
only_ignored ignored = record { ignored = ignored; texts = [] }

-- a name contains this text
abbrev pub contains : (name text : List ℕ) → Bool
contains [] text = length text == 0
contains (byte ∷ name) text = starts_with nat_eq (byte ∷ name) text || contains name text

-- so does that of a source, where it has one that prints
abbrev pub has_text : Option (List ℕ) → (text : List ℕ) → Bool
has_text None text = false
has_text (Some name) text = contains name text

-- frames of a source are hidden that its map says to ignore or not, and that has this name
abbrev pub hides : HidingSeen → (ignored : Bool) → (name : Option (List ℕ)) → Bool
hides hiding ignored name = list_any (has_text name) hiding.texts || hiding.ignored && ignored
