-- The subcommand that clap's matches name.
use Rattle.std.proofs.Common.{◌≡◌, ◌∙◌, ◌++◌, Bool, true, false, List, [], ◌∷◌, Option, Some, None, ap, codes, cond, find, inl, refl, subst, sym}
use Rattle.std.specs.Borrow.{Bor}
use Rattle.std.specs.Box.{box_value}
use Rattle.std.specs.List.{AllByRecursion}
use Rattle.std.specs.Prelude.{Box, option_map}
use Rattle.std.specs.Str.{bytes_eq}
use Rattle.std.proofs.lemmas.Slice.Eq.{bytes_eq-Decides}
use Rattle.clap.specs.Matches.{subcommand_name_of}
use Rattle.clap.specs.Simple.{subcommand_rows, subcommand_rows_of}
use Rattle.clap.specs.Words.{Row, Shape, Text, found_of, rows_of}
use Rattle.clap.specs.declared.parser.matches.ArgMatches.{ArgMatches}
use Rattle.clap.specs.declared.parser.matches.ArgMatches.TheViews.{out-ArgMatches, out-SubCommand}
use Rattle.clap.specs.declared.parser.matches.SubCommand.{SubCommand}
use Rattle.smap_command.specs.declared.command.Command.{Command}
use Rattle.smap_arguments.specs.CommandLine.{check, compose, explain, fit, generated, locate, lookup, mappings, named, positions, raw, rewrite, show, smap, sources}
use Rattle.smap_arguments.specs.CommandLine.{whole_name}
use Rattle.smap_arguments.specs.Arguments.{HasArguments, HasCommand, NamedAsksFor, SubcommandAsksFor}
use Rattle.smap_arguments.specs.Refusals.{IsNamedRefusal}
use Rattle.smap_arguments.specs.Refusals.{SubcommandReports, ReportsOfBase, ReportsRefusal}
use Rattle.smap_arguments.specs.declared.usage.Usage.{Usage}
use Rattle.smap_arguments.specs.declared.usage.Usage.TheVariants.{Help, Words, Memory}

-- ---- its name and its rows

name_of_rows : (m : ArgMatches) → option_map (λ p. p.0) (subcommand_rows_of m) ≡ subcommand_name_of m
name_of_rows m = go (out-ArgMatches m).subcommand
  where
    go : {Z : Type 0} (o : Option (Box SubCommand Z))
        → option_map (λ p. p.0) (subcommand_rows o) ≡ option_map (λ b. (out-SubCommand (box_value b)).name.now) o
    go None = refl
    go (Some b) = refl

subcommand_is : (o : Option (Text × List Row)) (name : Text) (rows : List Row) → option_map (λ p. p.0) o ≡ Some name → option_map (λ p. p.1) o ≡ Some rows
    → o ≡ Some (name, rows)
subcommand_is None name rows is_name is_rows = cc
subcommand_is (Some p) name rows is_name is_rows =
    let name_is : p.0 ≡ name = cc in
    let rows_are : p.1 ≡ rows = cc in
    λ i. Some (name_is i, rows_are i)

pub found_subcommand : (m : ArgMatches) (met : Option (Bor Text × Bor ArgMatches)) (s : Bor Text × Bor ArgMatches) → met ≡ Some s
    → option_map (λ p. p.0.now) met ≡ subcommand_name_of m
    → option_map (λ p. rows_of (found_of p.1.now)) met ≡ option_map (λ p. p.1) (subcommand_rows_of m)
    → subcommand_rows_of m ≡ Some (s.0.now, rows_of (found_of s.1.now))
found_subcommand m met s is name rows = subcommand_is (subcommand_rows_of m) s.0.now (rows_of (found_of s.1.now))
    (name_of_rows m ∙ (sym name ∙ ap (option_map (λ (p : Bor Text × Bor ArgMatches). p.0.now)) is))
    (sym rows ∙ ap (option_map (λ (p : Bor Text × Bor ArgMatches). rows_of (found_of p.1.now))) is)

-- ---- what it has, asks for and is reported

abbrev pub HasArgumentsOf : (is_generated : Bool) → Option (Text × List Row) → Type 0
HasArgumentsOf is_generated None = ⊥
HasArgumentsOf is_generated (Some p) = HasArguments (named (whole_name is_generated p.0)) p.1

module _ (is_generated : Bool) (subcommand : Option (Text × List Row)) (word : Text) (rows : List Row) (is : subcommand ≡ Some (word, rows)) where
  pub has_arguments : HasCommand is_generated subcommand → HasArguments (named (whole_name is_generated word)) rows
  has_arguments has = subst (HasArgumentsOf is_generated) (sym has.2 ∙ is) has.3

  pub asks_for : (command : Command) → NamedAsksFor (whole_name is_generated word) rows command
      → SubcommandAsksFor is_generated subcommand command
  asks_for command asks = (word, rows, is, asks)

  pub reports : (usage : Usage) → IsNamedRefusal (ReportsRefusal (whole_name is_generated word) rows) usage
      → IsNamedRefusal (SubcommandReports is_generated subcommand) usage
  reports (Help text) reported = reported
  reports (Words text) reported = (word, rows, is, reported)
  reports Memory reported = tt

  pub reports_base : (usage : Usage) → IsNamedRefusal (ReportsOfBase rows) usage
      → IsNamedRefusal (SubcommandReports is_generated subcommand) usage
  reports_base (Help text) reported = reported
  reports_base (Words text) reported = (word, rows, is, inl reported)
  reports_base Memory reported = tt

-- ---- a name that is none of the others

passed : (name : Text) (s : Shape) (rest : List Shape) → (name ≡ s.name → ⊥)
    → find (λ c. bytes_eq c.name name) (s ∷ rest) ≡ find (λ c. bytes_eq c.name name) rest
passed name s rest other = go (bytes_eq s.name name) refl
  where
    go : (b : Bool) → bytes_eq s.name name ≡ b → cond b (Some s) (find (λ c. bytes_eq c.name name) rest) ≡ find (λ c. bytes_eq c.name name) rest
    go true is = absurd (other (sym ((bytes_eq-Decides s.name name).0 is)))
    go false is = refl

-- no shape of such a name is found among these
past : (name : Text) (others rest : List Shape) → AllByRecursion (λ s. name ≡ s.name → ⊥) others
    → find (λ c. bytes_eq c.name name) (others ++ rest) ≡ find (λ c. bytes_eq c.name name) rest
past name [] rest none = refl
past name (s ∷ others) rest none = passed name s (others ++ rest) none.0 ∙ past name others rest none.1

-- a name that is not the one with an option is among all
plainly_named : (name : Text) → (name ≡ codes "lookup --generated" → ⊥) → named name ≡ find (λ c. bytes_eq c.name name) smap.subs
plainly_named name other = go (bytes_eq name (codes "lookup --generated")) refl
  where
    go : (b : Bool) → bytes_eq name (codes "lookup --generated") ≡ b
        → cond b (Some generated.top) (find (λ c. bytes_eq c.name name) smap.subs) ≡ find (λ c. bytes_eq c.name name) smap.subs
    go true is = absurd (other ((bytes_eq-Decides name (codes "lookup --generated")).0 is))
    go false is = refl

-- the commands before `raw`
abbrev pub before_raw : List Shape
before_raw = lookup.top ∷ positions.top ∷ mappings.top ∷ sources.top ∷ rewrite.top ∷ locate.top ∷ check.top ∷ show.top ∷ compose.top
    ∷ fit.top ∷ explain.top ∷ []

-- a name that is none of theirs, nor the one with an option, is `raw`
pub only_raw : (name : Text) (rows : List Row) → (name ≡ codes "lookup --generated" → ⊥)
    → AllByRecursion (λ s. name ≡ s.name → ⊥) before_raw → HasArguments (named name) rows
    → name ≡ codes "raw"
only_raw name rows other none has = go (bytes_eq (codes "raw") name) refl
    (subst (λ o. HasArguments o rows) (plainly_named name other ∙ past name before_raw (raw.top ∷ []) none) has)
  where
    go : (b : Bool) → bytes_eq (codes "raw") name ≡ b → HasArguments (cond b (Some raw.top) None) rows → name ≡ codes "raw"
    go true is has = sym ((bytes_eq-Decides (codes "raw") name).0 is)
    go false is has = absurd has
