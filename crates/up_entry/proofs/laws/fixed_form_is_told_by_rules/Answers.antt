use Rattle.up_entry.proofs.FixedFormLemmas.{form_is_rules, form_spelled}
use Rattle.up_entry.proofs.laws.fixed_form_is_told_by_rules.Goals as goal

pub returns : goal.returns
returns c = record { rules = form_is_rules; spelled = form_spelled }
