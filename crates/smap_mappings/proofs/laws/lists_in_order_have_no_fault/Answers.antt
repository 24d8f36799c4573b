use Rattle.smap_mappings.proofs.ListFaultLaws.{faultless_is_in_order, faultless_is_in_range, in_order_is_faultless, within_is_faultless}
use Rattle.smap_mappings.proofs.laws.lists_in_order_have_no_fault.Goals as goal

pub returns-clause-exact : goal.returns-clause-exact
returns-clause-exact c list = (λ none. (faultless_is_in_order list none, faultless_is_in_range list none), λ both. in_order_is_faultless list both.0 both.1)

pub returns-clause-within : goal.returns-clause-within
returns-clause-within c list sources names order within = within_is_faultless sources names list order within
