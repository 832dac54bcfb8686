-- What is malformed in a script of `upspin can` hangs on whose tree is named alone; and where its run ends.
use Rattle.std.proofs.Common.{◌≡◌, ℕ, ◌+◌, Bool, true, false, if◌then◌else◌, List, [], ◌∷◌, ◌++◌, Option, Some, None, option_map, option_and_then, is_some, IfSome, length, nat_lt, refl, subst, sym, ap, ◌∙◌, append_assoc}
use Rattle.std.specs.Result.{result_ok}
use Rattle.std.specs.Str.{bytes_eq}
use Rattle.up_access.specs.AccessTexts.{access_of}
use Rattle.up_can.specs.CanFiles.{bare_tree, with_text}
use Rattle.up_can.specs.CanLines.{Effect, Tree, access_dir, access_line, can_line, effect_of, files_effect, group_line, is_group, kind_of, path_named, words_effect}
use Rattle.up_can.specs.CanRuns.{Run, ends_badly, run_from, run_of, says}
use Rattle.up_can.specs.declared.can_files.CanFiles.{CanFiles}
use Rattle.up_can.specs.declared.can_lines.CanKind.{CanKind}
use Rattle.up_can.specs.declared.can_lines.CanKind.TheVariants as kinds
use Rattle.up_command.specs.Words.{user_named}
use Rattle.up_group.specs.GroupTexts.{group_of}
use Rattle.up_names.specs.PathNames.{PathName}
use Rattle.up_names.specs.Texts.{Text, UserName}
use Rattle.up_names.specs.declared.items.Item.{Item}
use Rattle.up_rights.specs.Words.{right_named}
use Rattle.up_text.specs.Lines.{is_silent, line_words, script_lines}
use Rattle.up_text.specs.Words.{decoded}
use Rattle.up_explain_can.specs.CanNumbers.{EndsAtFirst, bad_in_can, owner_behind, owner_in, tree_behind, tree_of}
use Rattle.up_command.specs.Statuses.{input_limit}
use Rattle.up_explain_can.specs.Explaining.{ExplainsInput, Explanation, InputMeans, bad_from, number_if, stands}

-- ---- what is alike seen so stays alike

bind_alike : {A B C D : Type 0} (f : B → D) (h : C → D) (x : Option A) (g : A → Option B) (k : A → Option C) → ((a : A) → option_map f (g a) ≡ option_map h (k a))
    → option_map f (option_and_then g x) ≡ option_map h (option_and_then k x)
bind_alike f h None g k alike = refl
bind_alike f h (Some a) g k alike = alike a

if_alike : {B C D : Type 0} (f : B → D) (h : C → D) (b : Bool) (x y : Option B) (u v : Option C) → option_map f x ≡ option_map h u → option_map f y ≡ option_map h v
    → option_map f (if b then x else y) ≡ option_map h (if b then u else v)
if_alike f h true x y u v one other = one
if_alike f h false x y u v one other = other

map_map : {A B C : Type 0} (f : B → C) (g : A → B) (x : Option A) → option_map f (option_map g x) ≡ option_map (λ a. f (g a)) x
map_map f g None = refl
map_map f g (Some a) = refl

-- ---- whose tree is named behind a line

abbrev owner_of : CanFiles → Option UserName
owner_of files = Some files.tree.owner

abbrev behind : Effect → Option UserName
behind e = owner_in e.tree

-- the same owner's, whatever it is given
abbrev kept : {X : Type 0} → CanFiles → X → Option UserName
kept files x = Some files.tree.owner

text_owner_by : (files : CanFiles) (path : PathName) (items : List Item) (b : Bool) → bytes_eq path.owner files.tree.owner ≡ b → (with_text files path items).tree.owner ≡ files.tree.owner
text_owner_by files path items true is = rw is refl
text_owner_by files path items false is = rw is refl

access_alike : (files : CanFiles) (words : List Text) → option_map owner_of (access_line files words) ≡ option_map (kept files) (access_line (bare_tree files.tree.owner) words)
unfolding access_line access_dir
access_alike files [] = refl
access_alike files (a ∷ []) = refl
access_alike files (a ∷ b ∷ []) =
    bind_alike owner_of (kept files) (path_named a) _ _ (λ path.
    bind_alike owner_of (kept files) (access_dir files.tree path) _ _ (λ dir.
    bind_alike owner_of (kept files) (decoded b) _ _ (λ text.
    bind_alike owner_of (kept files) (result_ok (access_of files.tree.owner text)) _ _ (λ rules. refl))))
access_alike files (a ∷ b ∷ c ∷ more) = refl

group_alike : (files : CanFiles) (words : List Text) → option_map owner_of (group_line files words) ≡ option_map (kept files) (group_line (bare_tree files.tree.owner) words)
unfolding group_line
group_alike files [] = refl
group_alike files (a ∷ []) = refl
group_alike files (a ∷ b ∷ []) =
    bind_alike owner_of (kept files) (path_named a) _ _ (λ path.
    bind_alike owner_of (kept files) (decoded b) _ _ (λ text.
    bind_alike owner_of (kept files) (result_ok (group_of path.owner text)) _ _ (λ items.
    if_alike owner_of (kept files) (is_group path) _ _ _ _ (ap (λ owner. Some (Some owner)) (text_owner_by files path items (bytes_eq path.owner files.tree.owner) refl)) refl)))
group_alike files (a ∷ b ∷ c ∷ more) = refl

can_alike : (files : CanFiles) (words : List Text) → option_map (kept files) (can_line files words) ≡ option_map (kept files) (can_line (bare_tree files.tree.owner) words)
unfolding can_line
can_alike files [] = refl
can_alike files (a ∷ []) = refl
can_alike files (a ∷ b ∷ []) = refl
can_alike files (a ∷ b ∷ c ∷ []) =
    bind_alike (kept files) (kept files) (user_named a) _ _ (λ user.
    bind_alike (kept files) (kept files) (right_named b) _ _ (λ right.
    bind_alike (kept files) (kept files) (path_named c) _ _ (λ path.
    if_alike (kept files) (kept files) (bytes_eq path.owner files.tree.owner) _ _ _ _ refl refl)))
can_alike files (a ∷ b ∷ c ∷ d ∷ more) = refl

kind_alike : (kind : CanKind) (files : CanFiles) (words : List Text) → option_map behind (files_effect kind files words) ≡ option_map (kept files) (files_effect kind (bare_tree files.tree.owner) words)
unfolding files_effect
kind_alike kinds.Tree files words = refl
kind_alike kinds.Access files words = map_map behind _ (access_line files words) ∙ (access_alike files words ∙ sym (map_map (kept files) _ (access_line (bare_tree files.tree.owner) words)))
kind_alike kinds.Group files words = map_map behind _ (group_line files words) ∙ (group_alike files words ∙ sym (map_map (kept files) _ (group_line (bare_tree files.tree.owner) words)))
kind_alike kinds.Can files words = map_map behind _ (can_line files words) ∙ (can_alike files words ∙ sym (map_map (kept files) _ (can_line (bare_tree files.tree.owner) words)))

words_alike : (files : CanFiles) (words : List Text) → option_map behind (words_effect (Some files) words) ≡ option_map (kept files) (words_effect (Some (bare_tree files.tree.owner)) words)
unfolding words_effect
words_alike files [] = refl
words_alike files (keyword ∷ words) = bind_alike behind (kept files) (kind_of keyword) _ _ (λ kind. kind_alike kind files words)

line_alike : (files : CanFiles) (line : Text) → option_map behind (effect_of (Some files) line) ≡ option_map (kept files) (effect_of (Some (bare_tree files.tree.owner)) line)
unfolding effect_of
line_alike files line = if_alike behind (kept files) (is_silent line) _ _ _ _ refl (words_alike files (line_words line))

-- a line has the same owner's tree named behind it, whatever files the tree has
pub owner_alike : (tree : Tree) (line : Text) → option_map owner_in (tree_behind tree line) ≡ owner_behind (owner_in tree) line
owner_alike None line = map_map owner_in (λ e. e.tree) (effect_of None line)
owner_alike (Some files) line = map_map owner_in (λ e. e.tree) (effect_of (Some files) line) ∙ (line_alike files line ∙ sym (line_alike (bare_tree files.tree.owner) line))

-- a tree that is named by its owner alone has that owner
pub owner_named : (owner : Option UserName) → owner_in (tree_of owner) ≡ owner
owner_named None = refl
owner_named (Some name) = refl

const_some : {X Y : Type 0} (y : Y) (x : Option X) → is_some x ≡ true → option_map (λ e. y) x ≡ Some y
const_some y None is = absurd (cc)
const_some y (Some x) is = refl

-- a line behind the one that names the tree leaves it named
pub owner_stays : (owner : UserName) (kind : CanKind) (words : List Text) → is_some (files_effect kind (bare_tree owner) words) ≡ true → option_map (λ e. owner_in e.tree) (files_effect kind (bare_tree owner) words) ≡ Some (Some owner)
owner_stays owner kind words is = kind_alike kind (bare_tree owner) words ∙ const_some (Some owner) (files_effect kind (bare_tree owner) words) is

-- ---- the numbers, by what is seen of what stands

seen_by : {S T : Type 0} (see : S → T) (one : S → Text → Option S) (other : T → Text → Option T) (number : ℕ) (s : S) (lines : List Text) (o : Option S)
    → ((t : S) → bad_from one (number + 1) t lines ≡ bad_from other (number + 1) (see t) lines)
    → number_if number o ++ bad_from one (number + 1) (stands s o) lines ≡ number_if number (option_map see o) ++ bad_from other (number + 1) (stands (see s) (option_map see o)) lines
seen_by see one other number s lines None later = ap (λ numbers. number ∷ numbers) (later s)
seen_by see one other number s lines (Some t) later = later t

pub bad_seen : {S T : Type 0} (see : S → T) (one : S → Text → Option S) (other : T → Text → Option T) → ((s : S) (line : Text) → option_map see (one s line) ≡ other (see s) line)
    → (number : ℕ) (s : S) (lines : List Text) → bad_from one number s lines ≡ bad_from other number (see s) lines
unfolding bad_from
bad_seen see one other alike number s [] = refl
bad_seen see one other alike number s (line ∷ lines) =
    seen_by see one other number s lines (one s line) (λ t. bad_seen see one other alike (number + 1) t lines)
    ∙ ap (λ o. number_if number o ++ bad_from other (number + 1) (stands (see s) o) lines) (alike s line)

-- those of a script of `upspin can`
pub can_seen : (input : Text) → bad_from owner_behind 1 None (script_lines input) ≡ bad_in_can input
can_seen input = sym (bad_seen owner_in tree_behind owner_behind owner_alike 1 None (script_lines input))

seen_meaning : (left old new : Option Text) (status : ℕ) → IfSome left (λ input. ExplainsInput owner_behind None input old new status) → IfSome left (λ input. ExplainsInput tree_behind None input old new status)
seen_meaning None old new status is = tt
seen_meaning (Some input) old new status is = by (nat_lt input_limit (length input)) is
  where
    by : (b : Bool) → InputMeans b owner_behind None input old new status → InputMeans b tree_behind None input old new status
    by true means = means
    by false means = subst (λ numbers. Explanation numbers old new status) (can_seen input) means

-- what explains the lines by the tree's owner, of whom none is named at first, explains them
pub can_meaning : (left old new : Option Text) (status : ℕ) (first : Option UserName) → first ≡ None → IfSome left (λ input. ExplainsInput owner_behind first input old new status)
    → IfSome left (λ input. ExplainsInput tree_behind None input old new status)
can_meaning left old new status first none means =
    seen_meaning left old new status (subst (λ owner. IfSome left (λ input. ExplainsInput owner_behind owner input old new status)) none means)

-- ---- where a run ends

says_first : (numbers : List ℕ) (reply : Text) (later : Run) → EndsAtFirst numbers later → EndsAtFirst numbers (says reply later)
says_first [] reply later ends = ends
says_first (number ∷ more) reply later ends = (ends.0, (reply ++ ends.1.0, append_assoc reply ends.1.0 _ ∙ ap (λ text. reply ++ text) ends.1.1))

first_by : (number : ℕ) (tree : Tree) (lines : List Text) (o : Option Effect) → ((t : Tree) → EndsAtFirst (bad_from tree_behind (number + 1) t lines) (run_from (number + 1) t lines))
    → EndsAtFirst (number_if number (option_map (λ e. e.tree) o) ++ bad_from tree_behind (number + 1) (stands tree (option_map (λ e. e.tree) o)) lines) (elim o [
      | None ↦ ends_badly number tree
      | Some effect ↦ says effect.reply (run_from (number + 1) effect.tree lines)
    ])
first_by number tree lines None later = (refl, ([], refl))
first_by number tree lines (Some effect) later = says_first (bad_from tree_behind (number + 1) effect.tree lines) effect.reply (run_from (number + 1) effect.tree lines) (later effect.tree)

first_from : (number : ℕ) (tree : Tree) (lines : List Text) → EndsAtFirst (bad_from tree_behind number tree lines) (run_from number tree lines)
unfolding bad_from
first_from number tree [] = refl
first_from number tree (line ∷ lines) = first_by number tree lines (effect_of tree line) (λ t. first_from (number + 1) t lines)

pub ends_at_first : (input : Text) → EndsAtFirst (bad_in_can input) (run_of input)
unfolding run_of
ends_at_first input = first_from 1 None (script_lines input)
