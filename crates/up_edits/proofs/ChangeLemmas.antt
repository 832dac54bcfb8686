-- The record to which a Put or a Delete leads fits.
use Rattle.std.proofs.Common.{◌≡◌, ℕ, ◌+◌, List, length, refl, ap, sym, ◌∙◌, Some, Result, Ok, Err, IfOk}
use Rattle.std.specs.Prelude.{⊤}
use Rattle.up_entry.specs.FixedForm.{HasFixedForm}
use Rattle.up_entry.specs.declared.puts.Checked.{Checked}
use Rattle.up_entry.specs.declared.records.Rec.{Rec}
use Rattle.up_entry.specs.declared.records.Rec.TheVariants as rec
use Rattle.up_names.specs.PathNames.{PathName}
use Rattle.up_policy.specs.Loadings.{Loading}
use Rattle.up_log_tree.specs.Fits.{Fits}
use Rattle.up_log_tree.specs.Logs.{Log}
use Rattle.up_wire.specs.declared.replies.Reply.{Reply}
use Rattle.up_mem_tree.specs.MemTrees.{TreeLog}
use Rattle.up_answers.specs.Deletes.{delete_outcome}
use Rattle.up_log_tree.specs.Trees.{node_at}
use Rattle.up_list.specs.Looks.{Look}
use Rattle.up_list.specs.Checks.{check, ways}
use Rattle.up_list.specs.Changes.{◌>>=◌, unless, right_to_put}
use Rattle.up_answers.specs.Fetching.{Fetched, text_put}
use Rattle.up_answers.specs.Puts.{place_refusal, put_outcome}
use Rattle.up_answers.proofs.FitLemmas.{delete_fits, put_fits}
use Rattle.up_edits.specs.Puts.{may_put, recorded}
use Rattle.up_edits.specs.Trees.{look_in}

-- the log of a tree, whatever its limits
abbrev logged : TreeLog → Log
logged tree = record { owner = tree.owner; limits = record { records = 0; device = 0; largest = 0 }; records = tree.log }

pub put_fitting : (tree : TreeLog) (loaded : Loading) (user : List ℕ) (fetched : Fetched) (put : Checked) (led : Result Rec Reply) → HasFixedForm put.entry → put.entry.name.owner ≡ tree.owner →
    led ≡ put_outcome (look_in tree loaded user) (length tree.log) fetched put → IfOk led (Fits tree.owner tree.log)
put_fitting tree loaded user fetched put (Ok rec) form owned h = put_fits (logged tree) loaded user fetched put rec form owned (sym h)
put_fitting tree loaded user fetched put (Err refusal) form owned h = tt

pub delete_fitting : (tree : TreeLog) (loaded : Loading) (user : List ℕ) (path : PathName) (led : Result Rec Reply) →
    led ≡ delete_outcome (look_in tree loaded user) path → IfOk led (Fits tree.owner tree.log)
delete_fitting tree loaded user path (Ok rec) h = delete_fits (logged tree) loaded user path rec (sym h)
delete_fitting tree loaded user path (Err refusal) h = tt

-- ---- Put in two parts

bind_twice : (first : Result ⊤ Reply) (f : ⊤ → Result ⊤ Reply) (g : ⊤ → Result Rec Reply) → ((first >>= f) >>= g) ≡ (first >>= λ x. (f x >>= g))
bind_twice (Ok x) f g = refl
bind_twice (Err refusal) f g = refl

pub put_in_two : (look : Look) (n : ℕ) (fetched : Fetched) (put : Checked) → (may_put look put >>= λ passed. recorded look.owner n fetched put.entry) ≡ put_outcome look n fetched put
unfolding may_put recorded put_outcome
put_in_two look n fetched put = bind_twice
    (unless (check look (ways put.entry.name) put.entry.name (Some (right_to_put (node_at look.tree put.entry.name)))))
    (λ allowed. place_refusal (node_at look.tree put.entry.name) look.tree put)
    (λ passed. text_put look.owner fetched put.entry >>= λ text. Ok (rec.Put (record (put.entry) { sequence = n + 1 }) text))

pub put_refused : (look : Look) (n : ℕ) (fetched : Fetched) (put : Checked) (refusal : Reply) → Err refusal ≡ may_put look put → Err refusal ≡ put_outcome look n fetched put
put_refused look n fetched put refusal h = ap (λ r. r >>= λ passed. recorded look.owner n fetched put.entry) h ∙ put_in_two look n fetched put

pub put_passed : (look : Look) (n : ℕ) (fetched : Fetched) (put : Checked) (led : Result Rec Reply) → Ok tt ≡ may_put look put → led ≡ recorded look.owner n fetched put.entry → led ≡ put_outcome look n fetched put
put_passed look n fetched put led h is = is ∙ (ap (λ r. r >>= λ passed. recorded look.owner n fetched put.entry) h ∙ put_in_two look n fetched put)
