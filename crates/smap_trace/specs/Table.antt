-- The maps of a trace, each under the URL that its frames name.
use Rattle.std.specs.Prelude.{ℕ, ◌==◌, ◌||◌, Bool, List, Option, Some, None, is_some, codes, length, if◌then◌else◌}
use Rattle.std.specs.Bool.{nat_eq}
use Rattle.std.specs.List.{list_any, starts_with}
use Rattle.smap_locations.specs.ByText.{value_under}
use Rattle.smap_record.specs.Record.{MapRecord}
use Rattle.smap_trace.specs.declared.refusal.TableRefusal.{TableRefusal}
use Rattle.smap_trace.specs.declared.refusal.TableRefusal.TheVariants.{BadUrl, Twice}

-- no table takes such a URL: it is empty, holds LF or CR, or begins with `async ` or `eval at `
unfoldable pub is_bad_url : List ℕ → Bool
is_bad_url url =
    length url == 0 || list_any (λ byte. byte == 10) url || list_any (λ byte. byte == 13) url
    || starts_with nat_eq url (codes "async ") || starts_with nat_eq url (codes "eval at ")

-- why a URL is not added to a table, memory aside
abbrev pub url_refusal : List (List ℕ × MapRecord) → (url : List ℕ) → Option TableRefusal
url_refusal pairs url = if is_bad_url url then Some BadUrl else if is_some (value_under url pairs) then Some Twice else None
