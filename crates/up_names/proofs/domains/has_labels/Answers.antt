use Rattle.std.proofs.Common.{ℕ, List, rules}
use Rattle.std.proofs.lemmas.Iterator.Search.{all_from_yields_List}
use Rattle.std.proofs.lemmas.Iterator.Splits.{YieldsList-from_slice_split}
use Rattle.std.specs.Str.{str_to_ascii_lowercase}
use Rattle.up_names.specs.UserNames.{is_label, is_period}
use Rattle.up_names.proofs.domains.has_labels.Goals as goal

pub returns : goal.returns
returns c =
    all_from_yields_List (λ (label : List ℕ). is_label (str_to_ascii_lowercase label)) _ _ _ c.all.ensures.ran
    (YieldsList-from_slice_split _ is_period c.args.text.now c.split.ensures.rest c.split.ensures.done c.split.ensures.closure (λ x b q h. search rules))
    (λ x b q h. search rules)
