-- What the patterns of a storm are read as.
use Rattle.std.proofs.Common.{◌≡◌, ℕ, ◌<◌, Bool, true, false, not, ◌&&◌, refl, Result, Ok, Err, bytes_eq}
use Rattle.std.specs.Prelude.{decimal}
use Rattle.std.specs.Fmt.{digits}
use Rattle.std.specs.Str.{chars, is_utf8}
use lib.Utf8.{encode}
use Rattle.std.proofs.lemmas.Bool.{and_parts, false≢true}
use Rattle.std.proofs.lemmas.Slice.Eq.{bytes_eq-Decides}
use Rattle.up_list.specs.Globs.{is_whole, literal_path}
use Rattle.up_log_tree.proofs.Paths.{path_same}
use Rattle.up_names.specs.PathNames.{cleaned, is_element, pieces_of}
use Rattle.up_names.specs.PathOrder.{path_eq}
use Rattle.up_names.specs.UserNames.{is_domain, is_label, is_local_part, is_suffix, user_of, without_final_period}
use Rattle.up_pattern.specs.Elements.{class_of, literal_of, ranges_of, terms_behind, terms_of, tokens_behind}
use Rattle.up_pattern.specs.Patterns.{PatternName, element_of, elements_of, pattern_of}
use Rattle.up_pattern.specs.declared.fault.PatternFault.{PatternFault}
use Rattle.up_plots.specs.Plots.{plot_path}
use Rattle.up_storm.proofs.Readings.{all_below, below_holds, not_true}
use Rattle.up_storm.specs.Asked.{owner_text, pattern_text}

-- a pattern that lists the directory of session k
pub record Lists (k : ℕ) : Type 0 where
  pub pattern : PatternName
  pub reads : pattern_of (pattern_text k) ≡ Ok pattern
  pub owner : pattern.owner ≡ owner_text k
  pub literal : literal_path pattern ≡ plot_path (owner_text k) (decimal k)
  pub mixed : is_whole pattern ≡ false

abbrev lists : ℕ → PatternName → Bool
lists k pattern = bytes_eq pattern.owner (owner_text k) && (path_eq (literal_path pattern) (plot_path (owner_text k) (decimal k)) && not (is_whole pattern))

abbrev reads_pattern : ℕ → Bool
reads_pattern k = elim (pattern_of (pattern_text k)) [ Ok pattern ↦ lists k pattern | Err fault ↦ false ]

patterns_read : all_below reads_pattern 34 ≡ true
unfolding digits pattern_of elements_of element_of literal_path is_whole terms_of tokens_behind terms_behind class_of ranges_of literal_of pieces_of cleaned is_element is_utf8 chars encode user_of without_final_period is_local_part is_suffix is_domain is_label
patterns_read = refl

pub pattern_read : (k : ℕ) → k < 34 → Lists k
pattern_read k less = go (pattern_of (pattern_text k)) refl (below_holds reads_pattern 34 k patterns_read less)
  where
    go : (r : Result PatternName PatternFault) → pattern_of (pattern_text k) ≡ r → (elim r as (λ _. Bool) [ Ok pattern ↦ lists k pattern | Err fault ↦ false ]) ≡ true → Lists k
    go (Ok pattern) is h =
        let one = and_parts (bytes_eq pattern.owner (owner_text k)) (path_eq (literal_path pattern) (plot_path (owner_text k) (decimal k)) && not (is_whole pattern)) h in
        let two = and_parts (path_eq (literal_path pattern) (plot_path (owner_text k) (decimal k))) (not (is_whole pattern)) one.1 in
        record {
          pattern = pattern;
          reads = is;
          owner = (bytes_eq-Decides pattern.owner (owner_text k)).0 one.0;
          literal = path_same (literal_path pattern) (plot_path (owner_text k) (decimal k)) two.0;
          mixed = not_true (is_whole pattern) two.1;
        }
    go (Err fault) is h = absurd (false≢true h)
