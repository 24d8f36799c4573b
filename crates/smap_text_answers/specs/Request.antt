-- What is asked of `rewrite`, the base and the interval aside.
use Rattle.std.specs.Prelude.{◌+◌, ◌-◌, ◌/◌, ◌^◌, ◌||◌, ℕ, Bool, List, Option, Some, None, String, if◌then◌else◌, length, map, option_map, string_bytes, unwrap_or}
use Rattle.std.specs.List.{list_any}
use Rattle.smap_command.specs.Limits.{usual_cache_bytes, usual_limit_bytes}
use Rattle.smap_command.specs.Options.{are_further}
use Rattle.smap_command.specs.declared.options.FurtherOptions.{FurtherOptions}
use Rattle.smap_command.specs.declared.options.Required.{Required}
use Rattle.smap_locations.specs.ListLine.{is_rule}
use Rattle.smap_replies.specs.Arguments.{argument_of}
use Rattle.smap_trace.specs.Hiding.{HidingSeen}
use Rattle.smap_text_answers.specs.declared.request.TextRequest.{TextRequest}

pub record RequestSeen : Type 0 where
  pub arguments : List (List ℕ × List ℕ)
  pub list : Option (List ℕ)
  pub paths : Bool
  pub hide : HidingSeen
  pub anywhere : Bool
  pub names : Bool
  pub fit : Bool
  pub cache_bytes : ℕ
  pub names_bytes : ℕ
  pub limit_bytes : ℕ
  pub summary : Bool
  pub explain : Bool
  pub required : Option Required
  pub missing_ok : Bool
  pub hint : Bool

-- how many of these bytes are for declarations, where they are listed: a quarter
abbrev pub bytes_for_names : (names : Bool) → (bytes : ℕ) → ℕ
bytes_for_names names bytes = if names then bytes / 4 else 0

module _ {A : Type 0} (maps : List (String A × String A)) where
  -- one of the pairs is a rule: it has a folder or a pattern
  abbrev pub has_rule : Bool
  has_rule = list_any (λ pair. is_rule (string_bytes pair.0) (string_bytes pair.1)) maps

  -- a rule is given, or an option, or a terminal is to be told of what is passed over
  abbrev pub asks_for_more : FurtherOptions → (hint : Bool) → Bool
  asks_for_more options hint = are_further options || (hint || has_rule)

  -- what is asked then, with the usual numbers where none are given
  abbrev pub request_of : (hide : Bool) → FurtherOptions → (hint : Bool) → RequestSeen
  request_of hide options hint = record {
    arguments = map argument_of maps;
    list = option_map string_bytes options.list;
    paths = options.paths;
    hide = record { ignored = hide; texts = map string_bytes options.hide.items };
    anywhere = options.anywhere;
    names = options.names;
    fit = options.fit;
    cache_bytes = unwrap_or options.cache_bytes usual_cache_bytes - bytes_for_names options.names (unwrap_or options.cache_bytes usual_cache_bytes);
    names_bytes = bytes_for_names options.names (unwrap_or options.cache_bytes usual_cache_bytes);
    limit_bytes = unwrap_or options.limit_bytes usual_limit_bytes;
    summary = options.summary;
    explain = options.explain;
    required = options.required;
    missing_ok = options.missing_ok;
    hint = hint;
  }

abbrev pub request_seen : {F : Type 0} → TextRequest F → RequestSeen
request_seen request = request_of request.arguments.now request.hide_ignored request.options.now request.hint

-- where maps are compared with their generated files, the number under which these are read, which is that of other programs too
abbrev pub fit_number : RequestSeen → Option ℕ
fit_number request = if request.fit then Some (length request.arguments + 2) else None

-- how many of the places are counted, at most, that are passed: all for a summary, and else one where a terminal is told of them, or
-- it is said what became of the URLs
abbrev pub most_passed : RequestSeen → ℕ
most_passed request = if request.summary then 2 ^ 64 - 1 else if request.hint || request.explain then 1 else 0
