-- What the arguments ask for, where clap finds no fault in them.
use Rattle.std.proofs.Common.{◌≡◌, ◌∙◌, ◌||◌, ◌&&◌, ◌⊎◌, ⊎_elim, ℕ, Bool, true, false, refl, sym, subst, inl, inr, List, [], ◌∷◌, not, fold, find}
use Rattle.std.proofs.Common.{Option, Some, None, true≢false, codes, cond, is_some}
use Rattle.std.specs.Prelude.{⊤, Err, IfErr, IfOk, Ok, Result, option_map, string_bytes, unwrap_or}
use Rattle.std.specs.List.{list_any}
use Rattle.std.proofs.lemmas.Slice.Eq.{bytes_eq-Decides}
use Rattle.std.specs.Option.{option_map_or}
use Rattle.std.specs.Str.{bytes_eq}
use Rattle.std.proofs.lemmas.Bool.{or_parts}
use Rattle.clap.specs.Walk.{Row, Rule, Text, answers_to, finished, nothing_held, rows_after, settled, stop_after, walk, walk_from, with_default}
use Rattle.clap.specs.declared.parser.matches.ArgMatches.{ArgMatches}
use Rattle.clap.specs.Simple.{App, HasMatchesOf, subcommand_rows_of, Shape, argument_words, built, built_leaf, entered, filled, help_rule, is_simple}
use Rattle.clap.specs.Simple.{label_of, names_of, new_rule, rows_at, subcommand_of, with_index}
use Rattle.clap.specs.Kinds.{HasKind, IsAmong, check_kinds}
use Rattle.clap.specs.Faults.{check_fault, is_simple_and_free, entered_fault, fault_of, defaults_fault, level_fault, settle_fault, walk_fault}
use Rattle.clap.specs.Takes.{is_given}
use Rattle.clap.specs.ValueTests.{accepts}
use Rattle.clap.specs.Values.{kind_of}
use Rattle.clap.proofs.OnLiterals.{clap_on_literals}
use Rattle.clap.specs.declared.builder.action.ArgAction.TheVariants.{Append, SetTrue}
use Rattle.clap.specs.declared.builder.value_parser.ValueParser.{ValueParser}
use Rattle.clap.specs.declared.builder.value_parser.ValueParser.TheVariants as parser
use Rattle.clap.specs.declared.error.Error.{Error}
use Rattle.clap.specs.declared.error.kind.ErrorKind.{ErrorKind}
use Rattle.clap.specs.declared.error.kind.ErrorKind.TheVariants.{OutOfMemory}
use Rattle.smap_arguments.specs.CommandLine.{base_rule, bytes_number, bytes_rule, check, compose, content_rule, context_number, context_rule, flag_rule, interval_number, interval_rule}
use Rattle.smap_arguments.specs.CommandLine.{explain, fit, generated, list_rule, locate, lookup, mappings, missing_rule, named, number, order_rule, percent_number, positions, raw, repeated_rule, required_rule, rewrite, show, smap, smap_with, source_number, sources}
use Rattle.smap_arguments.specs.CommandLine.{whole_name}
use Rattle.smap_arguments.specs.Line.{asks_generated, is_lookup, line_for, line_of}
use Rattle.smap_arguments.specs.declared.usage.Usage.{Usage}
use Rattle.smap_arguments.specs.declared.usage.Usage.TheVariants.{Help, Words, Memory}
use Rattle.smap_arguments.specs.Arguments.{HasArguments, HasCommand, HasValue, HasValues, SubcommandAsksFor}
use Rattle.smap_arguments.specs.Refusals.{IsNamedRefusal, IsRead, IsUsageOf, IsRefusalOf, SubcommandReports}
use Rattle.smap_command.specs.declared.command.Command.{Command}
use Rattle.smap_arguments.proofs.Rows.{AreReadRows, Keeps, first_none, flag_at, flag_default_keeps, flag_keeps, given_value, help_keeps}
use Rattle.smap_arguments.proofs.Rows.{long_option_keeps, more_option_keeps, more_values_keeps, named_option_keeps, no_default_keeps, second_none}
use Rattle.smap_arguments.proofs.Rows.{settle_keeps, text_value, value_keeps, walk_keeps}
use Rattle.smap_arguments.proofs.Stops.{IsNoHelp, walk_names}

-- ---- the rules of a level

-- the fact holds of each
abbrev Each : {X : Type 0} → (X → Type 0) → List X → Type 0
Each P [] = ⊤
Each P (x ∷ xs) = P x × Each P xs

found_in : {X : Type 0} (P : X → Type 0) (p : X → Bool) (xs : List X) (a : X) → Each (λ x. p x ≡ true → P x) xs → find p xs ≡ Some a → P a
found_in P p [] a each is = cc
found_in P p (x ∷ xs) a each is = go (p x) refl is (found_in P p xs a each.1)
  where
    go : (b : Bool) → p x ≡ b → cond b (Some x) (find p xs) ≡ Some a → (find p xs ≡ Some a → P a) → P a
    go true passes is later = let same : x ≡ a = cc in subst P same (each.0 passes)
    go false passes is later = later is

given_if : (required given : Bool) → required ≡ true → (required && not given) ≡ false → given ≡ true
given_if true true = λ is no. refl
given_if true false = λ is no. cc
given_if false given = λ is no. cc

none_missing : (help command negates any : Bool) → check_kinds help command (not (negates && false) && any) ≡ [] → any ≡ false
none_missing help command negates false = λ none. refl
none_missing true command negates true = λ none. cc
none_missing false true negates true = λ none. cc
none_missing false false true true = λ none. cc
none_missing false false false true = λ none. cc

module _ (parser_at : Text → ValueParser) where
  -- the argument has no default, or it is read too, and its values are read by the parser
  abbrev IsPlain : Rule → Type 0
  IsPlain a = Keeps parser_at a
      × ((a.defaults ≡ []) ⊎ ((rows : List Row) → AreReadRows parser_at rows → AreReadRows parser_at (with_default rows a)))
      × (parser_at a.id ≡ unwrap_or a.parser parser.String)

  default_keeps : (rows : List Row) (a : Rule) → IsPlain a → AreReadRows parser_at rows → AreReadRows parser_at (with_default rows a)
  default_keeps rows a plain good = ⊎_elim (λ none. no_default_keeps parser_at rows a none good) (λ keeps. keeps rows good) plain.1

  finished_keeps : (rules : List Rule) (rows : List Row) → Each IsPlain rules → AreReadRows parser_at rows
      → AreReadRows parser_at (fold with_default rows rules)
  finished_keeps [] rows plain good = good
  finished_keeps (a ∷ rest) rows plain good = finished_keeps rest (with_default rows a) plain.1 (default_keeps rows a plain.0 good)

  each_keeps : (rules : List Rule) (p : Rule → Bool) → Each IsPlain rules → Each (λ a. p a ≡ true → Keeps parser_at a) rules
  each_keeps [] p plain = tt
  each_keeps (a ∷ rest) p plain = (λ passes. plain.0.0, each_keeps rest p plain.1)

  values_given : (rules : List Rule) (rows : List Row) → Each IsPlain rules → AreReadRows parser_at rows
      → list_any (λ a. a.required && not (is_given a.id rows)) rules ≡ false → HasValues rules rows
  values_given [] rows plain good none = tt
  values_given (a ∷ rest) rows plain good none =
      let no = or_parts (a.required && not (is_given a.id rows)) _ none in (
        λ required. subst (λ by. HasValue by rows a.id) plain.0.2
            (given_value parser_at a.id rows good (given_if a.required (is_given a.id rows) required no.0)),
        λ some. subst (λ by. HasValue by rows a.id) plain.0.2 (text_value parser_at a.id rows good some),
        values_given rest rows plain.1 good no.1,
      )

  -- a level in which clap finds no fault has all that it requires
  level_gives : (s : Shape) → Each IsPlain s.rules → (words : List Text) → level_fault s [] nothing_held words false [] ≡ []
      → HasValues s.rules (rows_after s.rules [] words)
  level_gives s plain words none =
      let keeps : (p : Rule → Bool) (a : Rule) → find p s.rules ≡ Some a
      → Keeps parser_at a = λ p a is. found_in (Keeps parser_at) p s.rules a (each_keeps s.rules p plain) is in
      let end = (walk s.rules [] nothing_held words).held in
      let walked_none = first_none (walk_fault s [] (walk_from nothing_held) words) _ none in
      let later = second_none (walk_fault s [] (walk_from nothing_held) words) _ none in
      let settled_none = first_none (settle_fault s.rules s.args_override_self end) _ later in
      let last = second_none (defaults_fault (settled s.rules end).rows s.rules) _ (second_none (settle_fault s.rules s.args_override_self end) _ later) in
      let walk_good = walk_keeps parser_at s [] keeps words (walk_from nothing_held) walked_none tt in
      let end_good = settle_keeps parser_at s.rules s.args_override_self keeps end settled_none walk_good in
      let rows = rows_after s.rules [] words in
      values_given s.rules rows plain (finished_keeps s.rules (settled s.rules end).rows plain end_good)
      (none_missing _ _ s.subcommand_negates_reqs (list_any (λ a. a.required && not (is_given a.id rows)) s.rules) last)

  value : (i : ℕ) (id : Text) (required : Bool)
      → IsPlain (with_index i (filled (record (new_rule id) { required = required; parser = Some (parser_at id) })))
  value i id required = (value_keeps parser_at i id required, inl refl, refl)

  more_values : (i : ℕ) (id : Text) (required : Bool) → IsPlain
      (with_index i (filled (record (new_rule id) { required = required; action = Some Append; parser = Some (parser_at id) })))
  more_values i id required = (more_values_keeps parser_at i id required, inl refl, refl)

  option : (i : ℕ) (id long : Text) → IsPlain (with_index i (filled (record (new_rule id) { long = Some long; parser = Some (parser_at id) })))
  option i id long = (long_option_keeps parser_at i id long, inl refl, refl)

  named_option : (i : ℕ) (id long : Text) → IsPlain
      (with_index i (filled (record (new_rule id) { long = Some long; value_names = 1; parser = Some (parser_at id) })))
  named_option i id long = (named_option_keeps parser_at i id long, inl refl, refl)

  more_option : (i : ℕ) (id long : Text) → IsPlain
      (with_index i (filled (record (new_rule id) { long = Some long; action = Some Append; parser = Some (parser_at id) })))
  more_option i id long = (more_option_keeps parser_at i id long, inl refl, refl)

  flag : (i : ℕ) (id long : Text) → accepts false (parser_at id) (codes "false") ≡ true → IsPlain (flag_at parser_at i id long)
  flag i id long accepted = (flag_keeps parser_at i id long, inr (flag_default_keeps parser_at i id long accepted), refl)

  -- the same, where its name stands for it
  named_flag : (i : ℕ) (name : Text) → parser.Bool ≡ parser_at name → IsPlain (with_index i (filled (flag_rule name)))
  named_flag i name is = subst
      (λ by. IsPlain (with_index i (filled (record (new_rule name) { long = Some name; action = Some SetTrue; parser = Some by }))))
      (sym is) (flag i name name (subst (λ by. accepts false by (codes "false") ≡ true) is refl))

  help : parser_at (codes "help") ≡ parser.String → IsPlain (filled help_rule)
  help any = (help_keeps parser_at, inl refl, any)

-- ---- the commands of `smap`

abbrev flags : List Text
flags = codes "after" ∷ codes "anywhere" ∷ codes "fit" ∷ codes "json" ∷ codes "explain" ∷ codes "summary" ∷ codes "strip-ansi" ∷ codes "hide-ignored"
    ∷ codes "prune" ∷ codes "no-content" ∷ codes "paths" ∷ codes "generated" ∷ codes "names" ∷ codes "keep-debug-id" ∷ []

-- lines, columns, sources, intervals, bytes and lines around one are numbers, flags are true or false, and the other arguments are any text
abbrev at_argument : Text → ValueParser
at_argument id = cond (list_any (bytes_eq id) flags) parser.Bool
    (cond (bytes_eq id (codes "SOURCE") || bytes_eq id (codes "INDEX")) source_number
    (cond (bytes_eq id (codes "LINE") || bytes_eq id (codes "COLUMN")) number
    (cond (bytes_eq id (codes "K")) interval_number
    (cond (bytes_eq id (codes "cache")) (bytes_number 0)
    (cond (bytes_eq id (codes "limit")) (bytes_number 1)
    (cond (bytes_eq id (codes "PERCENT")) percent_number
    (cond (bytes_eq id (codes "N")) context_number parser.String)))))))

base_plain : (i : ℕ) → IsPlain at_argument (with_index i (filled base_rule))
base_plain i = option at_argument i (codes "URL") (codes "base")

order_plain : (i : ℕ) → IsPlain at_argument (with_index i (filled order_rule))
order_plain i = option at_argument i (codes "BY") (codes "sort")

missing_plain : (i : ℕ) → IsPlain at_argument (with_index i (filled missing_rule))
missing_plain i = option at_argument i (codes "HOW") (codes "missing")

required_plain : (i : ℕ) → IsPlain at_argument (with_index i (filled required_rule))
required_plain i = option at_argument i (codes "PERCENT") (codes "require-mapped")

content_plain : (i : ℕ) → IsPlain at_argument (with_index i (filled content_rule))
content_plain i = option at_argument i (codes "INDEX") (codes "content")

interval_plain : (i : ℕ) → IsPlain at_argument (with_index i (filled interval_rule))
interval_plain i = option at_argument i (codes "K") (codes "interval")

flag_plain : (i : ℕ) (name : Text) → parser.Bool ≡ at_argument name → IsPlain at_argument (with_index i (filled (flag_rule name)))
flag_plain = named_flag at_argument

list_plain : (i : ℕ) (long : Text) → IsPlain at_argument (with_index i (filled (list_rule long)))
list_plain i long = option at_argument i (codes "LIST") long

pairs_plain : (i : ℕ) → IsPlain at_argument (with_index i (filled (repeated_rule (codes "NAME=FILE") (codes "inner"))))
pairs_plain i = more_option at_argument i (codes "NAME=FILE") (codes "inner")

hidden_plain : (i : ℕ) → IsPlain at_argument (with_index i (filled (repeated_rule (codes "TEXT") (codes "hide"))))
hidden_plain i = more_option at_argument i (codes "TEXT") (codes "hide")

context_plain : (i : ℕ) → IsPlain at_argument (with_index i (filled context_rule))
context_plain i = option at_argument i (codes "N") (codes "context")

cache_plain : (i : ℕ) → IsPlain at_argument (with_index i (filled (bytes_rule 0 (codes "cache"))))
cache_plain i = named_option at_argument i (codes "cache") (codes "cache")

limit_plain : (i : ℕ) → IsPlain at_argument (with_index i (filled (bytes_rule 1 (codes "limit"))))
limit_plain i = named_option at_argument i (codes "limit") (codes "limit")

help_plain : IsPlain at_argument (filled help_rule)
help_plain = help at_argument refl

lookup_plain : Each (IsPlain at_argument) (built_leaf lookup.top).rules
lookup_plain = (
  value at_argument 1 (codes "PATH") true,
  (
    value at_argument 2 (codes "LINE") true,
    (
      value at_argument 3 (codes "COLUMN") true,
      (
        base_plain 4,
        (
          interval_plain 4,
          (
            flag_plain 4 (codes "after") refl,
            (flag_plain 4 (codes "json") refl, (flag_plain 4 (codes "explain") refl, (flag_plain 4 (codes "generated") refl, (help_plain, tt)))),
          ),
        ),
      ),
    ),
  ),
)

positions_plain : Each (IsPlain at_argument) (built_leaf positions.top).rules
positions_plain = (
  value at_argument 1 (codes "MAP") true,
  (base_plain 2, (interval_plain 2, (flag_plain 2 (codes "after") refl, (flag_plain 2 (codes "json") refl, (help_plain, tt))))),
)

mappings_plain : Each (IsPlain at_argument) (built_leaf mappings.top).rules
mappings_plain = (
  value at_argument 1 (codes "MAP") true,
  (value at_argument 2 (codes "LINE") false, (base_plain 3, (flag_plain 3 (codes "json") refl, (help_plain, tt)))),
)

sources_plain : Each (IsPlain at_argument) (built_leaf sources.top).rules
sources_plain = (
  value at_argument 1 (codes "MAP") true,
  (
    value at_argument 2 (codes "GENERATED") false,
    (base_plain 3, (order_plain 3, (flag_plain 3 (codes "fit") refl, (flag_plain 3 (codes "json") refl, (content_plain 3, (help_plain, tt)))))),
  ),
)

rewrite_plain : Each (IsPlain at_argument) (built_leaf rewrite.top).rules
rewrite_plain = (
  more_values at_argument 1 (codes "URL=FILE") false,
  (
    list_plain 2 (codes "maps"),
    (
      base_plain 2,
      (
        interval_plain 2,
        (
          flag_plain 2 (codes "hide-ignored") refl,
          (
            hidden_plain 2,
            (
              flag_plain 2 (codes "anywhere") refl,
              (
                flag_plain 2 (codes "paths") refl,
                (
                  flag_plain 2 (codes "names") refl,
                  (
                    flag_plain 2 (codes "fit") refl,
                    (
                      required_plain 2,
                      (
                        missing_plain 2,
                        (
                          cache_plain 2,
                          (
                            limit_plain 2,
                            (
                              flag_plain 2 (codes "summary") refl,
                              (flag_plain 2 (codes "explain") refl, (flag_plain 2 (codes "strip-ansi") refl, (help_plain, tt))),
                            ),
                          ),
                        ),
                      ),
                    ),
                  ),
                ),
              ),
            ),
          ),
        ),
      ),
    ),
  ),
)

locate_plain : Each (IsPlain at_argument) (built_leaf locate.top).rules
locate_plain = (
  more_values at_argument 1 (codes "URL=FILE") false,
  (
    list_plain 2 (codes "maps"),
    (
      base_plain 2,
      (
        interval_plain 2,
        (
          flag_plain 2 (codes "paths") refl,
          (
            flag_plain 2 (codes "names") refl,
            (
              cache_plain 2,
              (
                flag_plain 2 (codes "after") refl,
                (flag_plain 2 (codes "json") refl, (context_plain 2, (help_plain, tt))),
              ),
            ),
          ),
        ),
      ),
    ),
  ),
)

check_plain : Each (IsPlain at_argument) (built_leaf check.top).rules
check_plain = (
  more_values at_argument 1 (codes "PATH") true,
  (base_plain 2, (interval_plain 2, (flag_plain 2 (codes "json") refl, (flag_plain 2 (codes "explain") refl, (help_plain, tt))))),
)

show_plain : Each (IsPlain at_argument) (built_leaf show.top).rules
show_plain = (
  value at_argument 1 (codes "PATH") true,
  (
    base_plain 2,
    (flag_plain 2 (codes "prune") refl, (flag_plain 2 (codes "no-content") refl, (flag_plain 2 (codes "keep-debug-id") refl, (help_plain, tt)))),
  ),
)

compose_plain : Each (IsPlain at_argument) (built_leaf compose.top).rules
compose_plain = (
  value at_argument 1 (codes "OUTER") true,
  (
    value at_argument 2 (codes "SOURCE") false,
    (
      value at_argument 3 (codes "INNER") false,
      (
        pairs_plain 4,
        (
          list_plain 4 (codes "inners"),
          (
            base_plain 4,
            (
              flag_plain 4 (codes "prune") refl,
              (flag_plain 4 (codes "no-content") refl, (flag_plain 4 (codes "keep-debug-id") refl, (help_plain, tt))),
            ),
          ),
        ),
      ),
    ),
  ),
)

fit_plain : Each (IsPlain at_argument) (built_leaf fit.top).rules
fit_plain = (
  more_values at_argument 1 (codes "MAP GENERATED") true,
  (flag_plain 2 (codes "json") refl, (flag_plain 2 (codes "explain") refl, (help_plain, tt))),
)

explain_plain : Each (IsPlain at_argument) (built_leaf explain.top).rules
explain_plain = (value at_argument 1 (codes "CODE") false, (help_plain, tt))

raw_plain : Each (IsPlain at_argument) (built_leaf raw.top).rules
raw_plain = (
  value at_argument 1 (codes "LINE") true,
  (value at_argument 2 (codes "COLUMN") true, (interval_plain 3, (help_plain, tt))),
)

-- ---- `lookup` with `--generated`

-- its SOURCE is any text
abbrev at_generated : Text → ValueParser
at_generated id = cond (list_any (bytes_eq id) flags) parser.Bool
    (cond (bytes_eq id (codes "LINE") || bytes_eq id (codes "COLUMN")) number parser.String)

generated_plain : Each (IsPlain at_generated) (built_leaf generated.top).rules
generated_plain = (
  value at_generated 1 (codes "PATH") true,
  (
    value at_generated 2 (codes "SOURCE") true,
    (
      value at_generated 3 (codes "LINE") true,
      (
        value at_generated 4 (codes "COLUMN") false,
        (
          option at_generated 5 (codes "URL") (codes "base"),
          (
            named_flag at_generated 5 (codes "after") refl,
            (
              named_flag at_generated 5 (codes "json") refl,
              (named_flag at_generated 5 (codes "explain") refl, (named_flag at_generated 5 (codes "generated") refl, (help at_generated refl, tt))),
            ),
          ),
        ),
      ),
    ),
  ),
)

-- ---- what the subcommands have

-- where clap finds no fault in the arguments of the subcommand, it has its arguments
abbrev Gives : (is_generated : Bool) → Shape → Type 0
Gives is_generated s = (words : List Text) → level_fault s [] nothing_held words false [] ≡ []
    → HasArguments (named (whole_name is_generated s.name)) (rows_after s.rules [] words)

-- so it is with each that this word may name
abbrev EachGives : (is_generated : Bool) → App → (word : Text) → Type 0
EachGives is_generated app word = Each (λ s. answers_to word (label_of s) ≡ true → Gives is_generated s) (built app).subs

-- the subcommand of the help is not named by another word
no_help_named : (word : Text) → bytes_eq word (codes "help") ≡ false → (b : Bool) → bytes_eq (codes "help") word ≡ b → (b || false) ≡ true → ⊥
no_help_named word no_help true is answers =
    let help : bytes_eq word (codes "help") ≡ true = (bytes_eq-Decides word (codes "help")).1 (sym ((bytes_eq-Decides (codes "help") word).0 is)) in
    true≢false (sym help ∙ no_help)
no_help_named word no_help false is answers = cc

each_gives : (word : Text) → bytes_eq word (codes "help") ≡ false → EachGives false smap word
each_gives word no_help = (
  λ answers. level_gives at_argument (built_leaf lookup.top) lookup_plain,
  (
    λ answers. level_gives at_argument (built_leaf positions.top) positions_plain,
    (
      λ answers. level_gives at_argument (built_leaf mappings.top) mappings_plain,
      (
        λ answers. level_gives at_argument (built_leaf sources.top) sources_plain,
        (
          λ answers. level_gives at_argument (built_leaf rewrite.top) rewrite_plain,
          (
            λ answers. level_gives at_argument (built_leaf locate.top) locate_plain,
            (
              λ answers. level_gives at_argument (built_leaf check.top) check_plain,
              (
                λ answers. level_gives at_argument (built_leaf show.top) show_plain,
                (
                  λ answers. level_gives at_argument (built_leaf compose.top) compose_plain,
                  (
                    λ answers. level_gives at_argument (built_leaf fit.top) fit_plain,
                    (
                      λ answers. level_gives at_argument (built_leaf explain.top) explain_plain,
                      (
                        λ answers. level_gives at_argument (built_leaf raw.top) raw_plain,
                        (λ answers. absurd (no_help_named word no_help (bytes_eq (codes "help") word) refl answers), tt),
                      ),
                    ),
                  ),
                ),
              ),
            ),
          ),
        ),
      ),
    ),
  ),
)

lookup_gives : (word : Text) → bytes_eq word (codes "help") ≡ false → EachGives false (smap_with lookup) word
lookup_gives word no_help = (
  λ answers. level_gives at_argument (built_leaf lookup.top) lookup_plain,
  (λ answers. absurd (no_help_named word no_help (bytes_eq (codes "help") word) refl answers), tt),
)

generated_gives : (word : Text) → bytes_eq word (codes "help") ≡ false → EachGives true (smap_with generated) word
generated_gives word no_help = (
  λ answers. level_gives at_generated (built_leaf generated.top) generated_plain,
  (λ answers. absurd (no_help_named word no_help (bytes_eq (codes "help") word) refl answers), tt),
)

module _ (is_generated : Bool) (app : App) (gives : (word : Text) → bytes_eq word (codes "help") ≡ false → EachGives is_generated app word) where
  stopped_command : (stop : Option (Text × List Text)) → IsNoHelp stop → is_some (entered (built app) stop) ≡ true
      → entered_fault (built app) stop ≡ [] → HasCommand is_generated (entered (built app) stop)
  stopped_command None no_help some none = cc
  stopped_command (Some p) no_help some none = go (find (λ s. answers_to p.0 (label_of s)) (built app).subs) refl some none
    where
      go : (o : Option Shape) → find (λ s. answers_to p.0 (label_of s)) (built app).subs ≡ o → is_some (option_map (λ s. rows_at s p.1) o) ≡ true
          → option_map_or (λ s. level_fault s [] nothing_held p.1 false []) o [] ≡ [] → HasCommand is_generated (option_map (λ s. rows_at s p.1) o)
      go None is some none = cc
      go (Some s) is some none = (
        s.name,
        rows_after s.rules [] p.1,
        refl,
        found_in (Gives is_generated) (λ s. answers_to p.0 (label_of s)) (built app).subs s (gives p.0 no_help) is p.1 none,
      )

  command_asked : (built app).top.disable_help_subcommand ≡ false
      → ((rows : List Row) (has : Bool) → check_fault (built app).top rows has ≡ [] → has ≡ true)
      → (arguments : List Text) → fault_of app arguments ≡ [] → HasCommand is_generated (subcommand_of app arguments)
  command_asked helps wants arguments none =
      let top = (built app).top in
      let names = names_of (built app) in
      let rest = argument_words app arguments in
      let stop = stop_after top.rules names rest in
      let walked_none = first_none (walk_fault top names (walk_from nothing_held) rest) _ none in
      let below = second_none (walk_fault top names (walk_from nothing_held) rest) _ none in
      let entered_none = first_none (entered_fault (built app) stop) _ below in
      let end = (walk top.rules names nothing_held rest).held in
      let later = second_none (settle_fault top.rules top.args_override_self end) _ (second_none (entered_fault (built app) stop) _ below) in
      let last = second_none (defaults_fault (settled top.rules end).rows top.rules) _ later in
      stopped_command stop (walk_names top names helps rest (walk_from nothing_held) walked_none tt)
      (wants (finished top.rules end) (is_some (entered (built app) stop)) last) entered_none

wants_subcommand : (is_generated is_lookup : Bool) (rows : List Row) (has : Bool) → check_fault (built (line_for is_generated is_lookup)).top rows has ≡ []
    → has ≡ true
wants_subcommand is_generated is_lookup rows true none = refl
wants_subcommand true is_lookup rows false none = cc
wants_subcommand false true rows false none = cc
wants_subcommand false false rows false none = cc

-- where clap finds no fault in the arguments, they name a subcommand and give it its arguments
line_asked : (is_generated is_lookup : Bool) (arguments : List Text) → fault_of (line_for is_generated is_lookup) arguments ≡ []
    → HasCommand is_generated (subcommand_of (line_for is_generated is_lookup) arguments)
line_asked true is_lookup = command_asked true (smap_with generated) generated_gives refl (wants_subcommand true is_lookup)
line_asked false true = command_asked false (smap_with lookup) lookup_gives refl (wants_subcommand false true)
line_asked false false = command_asked false smap each_gives refl (wants_subcommand false false)

-- ---- what `parse` cites

line_is_simple : (is_generated is_lookup : Bool) → (is_simple_and_free (line_for is_generated is_lookup) ≡ true)
    × (is_simple (line_for is_generated is_lookup) ≡ true)
unfolding clap_on_literals
line_is_simple true is_lookup = (refl, refl)
line_is_simple false true = (refl, refl)
line_is_simple false false = (refl, refl)

-- a parse by the command that reads these arguments
module _ (arguments : List Text) (a : App) (is : a ≡ line_of arguments) where
  simple : (is_simple_and_free a ≡ true) × (is_simple a ≡ true)
  simple = subst (λ b. (is_simple_and_free b ≡ true) × (is_simple b ≡ true)) (sym is) (line_is_simple (asks_generated arguments) (is_lookup arguments))

  -- what it gives
  pub parsed_line : (m : ArgMatches) → (is_simple_and_free a ≡ true → fault_of a arguments ≡ []) → HasMatchesOf a arguments m
      → (fault_of (line_of arguments) arguments ≡ []) × (subcommand_of (line_of arguments) arguments ≡ subcommand_rows_of m)
  parsed_line m none matches = subst (λ b. (fault_of b arguments ≡ []) × (subcommand_of b arguments ≡ subcommand_rows_of m)) is
      (none simple.0, sym (matches simple.1).1)

  pub line_command : (m : ArgMatches) → (is_simple_and_free a ≡ true → fault_of a arguments ≡ []) → HasMatchesOf a arguments m
      → HasCommand (asks_generated arguments) (subcommand_rows_of m)
  line_command m none matches =
      let parsed = parsed_line m none matches in
      subst (HasCommand (asks_generated arguments)) parsed.1 (line_asked (asks_generated arguments) (is_lookup arguments) arguments parsed.0)

  pub failed_line : (e : Error) → (is_simple_and_free a ≡ true → HasKind (fault_of a arguments) e) → (kind_of e ≡ OutOfMemory → ⊥)
      → IsAmong (kind_of e) (fault_of (line_of arguments) arguments)
  failed_line e fails other = elim (subst (λ b. HasKind (fault_of b arguments) e) is (fails simple.0)) [ inl memory ↦ absurd (other memory) | inr among ↦ among ]

-- what is told of a fault
pub failed_usage : (arguments : List Text) (kind : ErrorKind) (usage : Usage) → IsAmong kind (fault_of (line_of arguments) arguments) → IsUsageOf kind usage
    → IsRefusalOf arguments usage
failed_usage arguments kind (Help text) among is = (kind, among, is)
failed_usage arguments kind (Words text) among is = inl (kind, among, is)
failed_usage arguments kind Memory among is = tt

-- what is read where clap finds no fault in the arguments
pub read_line : (arguments : List Text) (subcommand : Option (Text × List Row)) → fault_of (line_of arguments) arguments ≡ []
    → subcommand_of (line_of arguments) arguments ≡ subcommand → (read : Result Command Usage)
    → IfOk read (SubcommandAsksFor (asks_generated arguments) subcommand)
    → IfErr read (IsNamedRefusal (SubcommandReports (asks_generated arguments) subcommand)) → IsRead arguments (Ok read)
read_line arguments subcommand none is (Ok command) asked refused =
    (none, subst (λ s. SubcommandAsksFor (asks_generated arguments) s command) (sym is) asked)
read_line arguments subcommand none is (Err (Help text)) asked refused = refused
read_line arguments subcommand none is (Err (Words text)) asked refused =
    (none, subst (λ s. SubcommandReports (asks_generated arguments) s (string_bytes text)) (sym is) refused)
read_line arguments subcommand none is (Err Memory) asked refused = tt
