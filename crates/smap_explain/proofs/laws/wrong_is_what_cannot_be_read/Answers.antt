use Rattle.smap_explain.proofs.RuleLaws.{contents_rule, ignored_rule, mappings_rule, names_rule, root_rule, sources_rule}
use Rattle.smap_explain.proofs.laws.wrong_is_what_cannot_be_read.Goals as goal

pub returns : goal.returns
returns c = record {
  sources = sources_rule;
  names = names_rule;
  contents = contents_rule;
  ignored = ignored_rule;
  root = root_rule;
  mappings = mappings_rule;
}
